use Rattle.std.proofs.Common.{◌≡◌, drop}
use Rattle.std.specs.Prelude.{max}
use Rattle.bpf_classic.specs.Longest.{longest_turn}
use Rattle.bpf_conversion.proofs.ways.longest_turn.Given as goal

-- the longest turn so far, and those that are left, give the longest of all
abbrev pub invariant-loop-slot : goal.invariant-loop-slot
invariant-loop-slot l = max l.most (longest_turn l.ways l.slot (drop l.slot l.program.list)) ≡ longest_turn l.ways 0 l.program.list
