use Rattle.std.proofs.Common.{◌≡◌, ◌+◌, ◌++◌, take}
use Rattle.bpf_kept.specs.Knowns.{facts_in}
use Rattle.bpf_kept.proofs.calls.add_all.Given as goal

-- the facts so far
abbrev pub invariant-loop-fact : goal.invariant-loop-fact
invariant-loop-fact l = record {
  facts : facts_in l.facts ≡ facts_in l.fn.facts ++ take l.fact-index l.more;
  count : l.facts.count ≡ l.fn.facts.count + l.fact-index;
}
