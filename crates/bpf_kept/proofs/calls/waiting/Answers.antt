use Rattle.std.proofs.Common.{arith, ap, ◌∙◌}
use Rattle.std.specs.Prelude.{filter}
use Rattle.std.proofs.lemmas.List.{take_all}
use Rattle.bpf_kept.specs.Calls.{fact_waits}
use Rattle.bpf_kept.proofs.CallLemmas.{filter_step}
use Rattle.bpf_kept.proofs.calls.waiting.Goals as goal

pub loop-fact-preserved : goal.loop-fact-preserved
loop-fact-preserved c = record {
  facts = c.add_waiting.ensures.facts ∙ filter_step (fact_waits c.args.left) c.args.facts.now c.loop-fact.fact-index _ c.loop-fact-test.true c.loop-fact.invariant.facts;
  count = let few = c.add_waiting.ensures.count in let all = c.loop-fact.invariant.count in omega arith;
}

pub returns-clause-facts : goal.returns-clause-facts
returns-clause-facts c = c.loop-fact.invariant.facts ∙ ap (filter (fact_waits c.args.left)) (take_all c.loop-fact.fact-index c.args.facts.now c.loop-fact-test.false)
