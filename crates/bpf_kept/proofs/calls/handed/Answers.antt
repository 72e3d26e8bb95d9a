use Rattle.std.proofs.Common.{arith, ap, ◌∙◌}
use Rattle.std.specs.Prelude.{filter}
use Rattle.std.proofs.lemmas.List.{take_all}
use Rattle.bpf_kept.specs.Calls.{is_handed}
use Rattle.bpf_kept.proofs.CallLemmas.{filter_step}
use Rattle.bpf_kept.proofs.calls.handed.Goals as goal

pub loop-fact-preserved : goal.loop-fact-preserved
loop-fact-preserved c = record {
  facts = c.add_handed.ensures.facts ∙ filter_step is_handed c.args.facts.now c.loop-fact.fact-index _ c.loop-fact-test.true c.loop-fact.invariant.facts;
  count = let few = c.add_handed.ensures.count in let all = c.loop-fact.invariant.count in omega arith;
}

pub returns-clause-facts : goal.returns-clause-facts
returns-clause-facts c = c.loop-fact.invariant.facts ∙ ap (filter is_handed) (take_all c.loop-fact.fact-index c.args.facts.now c.loop-fact-test.false)
