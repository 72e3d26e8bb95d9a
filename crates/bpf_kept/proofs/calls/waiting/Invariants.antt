use Rattle.std.proofs.Common.{◌≡◌, ◌≤◌, take}
use Rattle.std.specs.Prelude.{filter}
use Rattle.bpf_kept.specs.Calls.{fact_waits}
use Rattle.bpf_kept.specs.Knowns.{facts_in}
use Rattle.bpf_kept.proofs.calls.waiting.Given as goal

-- those of the facts so far
abbrev pub invariant-loop-fact : goal.invariant-loop-fact
invariant-loop-fact l = record {
  facts : facts_in l.all ≡ filter (fact_waits l.left) (take l.fact-index l.facts);
  count : l.all.count ≤ l.fact-index;
}
