use Rattle.std.proofs.Common.{◌≡◌, ◌++◌, drop}
use Rattle.bpf_follows.specs.NotesText.{listed, says_nothing, fact_spelled, facts_text}
use Rattle.bpf_follows.proofs.writing.put_facts.Given as goal

abbrev pub invariant-loop-at : goal.invariant-loop-at
invariant-loop-at l = l.text.items ++ listed fact_spelled says_nothing l.gap l.at (drop l.at l.facts) ≡ l.fn.text.items ++ facts_text l.facts
