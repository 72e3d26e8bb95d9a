use Rattle.std.proofs.Common.{◌≡◌, ◌-◌}
use Rattle.bpf_insn.specs.Limits.{max_slots}
use Rattle.bpf_follows.specs.code.Reading.{lines_in, after_lines}
use Rattle.bpf_follows.proofs.reading.lines_in.Given as goal

abbrev pub invariant-loop-slot : goal.invariant-loop-slot
invariant-loop-slot l = after_lines l.notes.items (lines_in (max_slots - l.slot) l.slot l.rest) ≡ lines_in max_slots 0 l.text
