use Rattle.std.proofs.Common.{◌≡◌, ◌-◌}
use Rattle.bpf_follows.specs.NotesText.{says_nothing}
use Rattle.bpf_follows.specs.code.Reading.{listed_in, fact_at, facts_in}
use Rattle.bpf_follows.proofs.lists.facts_in.Given as goal

abbrev pub invariant-loop-at : goal.invariant-loop-at
invariant-loop-at g l = listed_in fact_at says_nothing (g.row.N - l.at) l.gap l.at l.facts l.rest ≡ facts_in g.row.N l.text
