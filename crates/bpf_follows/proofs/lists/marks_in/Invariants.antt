use Rattle.std.proofs.Common.{◌≡◌, ◌-◌}
use Rattle.bpf_follows.specs.NotesText.{itself, slots_noted}
use Rattle.bpf_follows.specs.code.Reading.{listed_in, mark_at, marks_in}
use Rattle.bpf_follows.proofs.lists.marks_in.Given as goal

abbrev pub invariant-loop-at : goal.invariant-loop-at
invariant-loop-at l = listed_in (mark_at l.word) itself (slots_noted - l.at) l.marked l.at l.marks l.rest ≡ marks_in l.word l.text
