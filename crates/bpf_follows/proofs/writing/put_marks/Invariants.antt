use Rattle.std.proofs.Common.{◌≡◌, ◌++◌, drop}
use Rattle.bpf_follows.specs.NotesText.{listed, itself, mark_spelled, marks_text}
use Rattle.bpf_follows.proofs.writing.put_marks.Given as goal

abbrev pub invariant-loop-at : goal.invariant-loop-at
invariant-loop-at l = l.text.items ++ listed (mark_spelled l.word) itself l.marked l.at (drop l.at l.marks) ≡ l.fn.text.items ++ marks_text l.word l.marks
