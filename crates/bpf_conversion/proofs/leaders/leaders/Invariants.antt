use Rattle.bpf_conversion.specs.Outline.{AreLed}
use Rattle.bpf_conversion.proofs.leaders.leaders.Given as goal

-- the leaders by the instructions so far
abbrev pub invariant-loop-slot : goal.invariant-loop-slot
invariant-loop-slot l = AreLed l.program.list l.slot l.wanted.items
