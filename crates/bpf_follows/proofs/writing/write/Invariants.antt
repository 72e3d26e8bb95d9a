use Rattle.std.proofs.Common.{◌≡◌, ◌++◌, drop}
use Rattle.bpf_follows.specs.NotesText.{note_lines, notes_text}
use Rattle.bpf_follows.proofs.writing.write.Given as goal

abbrev pub invariant-loop-slot : goal.invariant-loop-slot
invariant-loop-slot l = l.text.items ++ note_lines l.slot (drop l.slot l.notes) ≡ notes_text l.fn.runs l.notes
