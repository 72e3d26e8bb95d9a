use Rattle.std.proofs.Common.{◌≡◌, drop}
use Rattle.bpf_text.specs.code.WordReading.{behind_marks}
use Rattle.bpf_text.proofs.token.behind_marks.Given as goal

abbrev pub invariant-loop-mark : goal.invariant-loop-mark
invariant-loop-mark l = behind_marks (drop l.mark-index l.marks) l.rest ≡ behind_marks l.marks l.text
