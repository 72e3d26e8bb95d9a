use Rattle.std.proofs.Common.{◌≡◌, ◌-◌}
use Rattle.bpf_follows.specs.NotesText.{always, counters_noted}
use Rattle.bpf_follows.specs.code.Reading.{listed_in, counter_at, counters_in}
use Rattle.bpf_follows.proofs.lists.counters_in.Given as goal

abbrev pub invariant-loop-at : goal.invariant-loop-at
invariant-loop-at l = listed_in counter_at always (counters_noted - l.at) tt l.at l.counters l.rest ≡ counters_in l.text
