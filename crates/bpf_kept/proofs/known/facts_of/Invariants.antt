use Rattle.std.proofs.Common.{◌≡◌, take}
use Rattle.bpf_kept.specs.Knowns.{facts_in}
use Rattle.bpf_kept.proofs.known.facts_of.Given as goal

-- the facts so far
abbrev pub invariant-loop-fact : goal.invariant-loop-fact
invariant-loop-fact l = record {
  facts : facts_in l.all ≡ take l.fact-index l.facts;
  count : l.all.count ≡ l.fact-index;
}
