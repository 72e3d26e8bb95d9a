use Rattle.std.proofs.Common.{◌≡◌, ◌++◌, drop}
use Rattle.bpf_follows.specs.NotesText.{listed, always, counter_spelled, counters_text}
use Rattle.bpf_follows.proofs.writing.put_counters.Given as goal

abbrev pub invariant-loop-at : goal.invariant-loop-at
invariant-loop-at l = l.text.items ++ listed counter_spelled always tt l.at (drop l.at l.counters) ≡ l.fn.text.items ++ counters_text l.counters
