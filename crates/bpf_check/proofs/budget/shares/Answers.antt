use Rattle.std.proofs.Common.{pos}
use Rattle.std.specs.Int.{w128, cast_signed}
use Rattle.bpf_check.proofs.BudgetLemmas.{next_share}
use Rattle.bpf_check.proofs.budget.shares.Goals as goal

pub loop-term-preserved : goal.loop-term-preserved
loop-term-preserved c =
    let next = next_share c.args.j (pos c.args.x) c.args.edge.now c.args.terms.now c.loop-term.term-index _ (cast_signed w128 c.loop-term.sum-bits) c.share_of-sum.result _ _ c.requires.few c.loop-term-test.true c.loop-term.invariant.value c.loop-term.invariant.small c.place_of.ensures c.tag.ensures c.share_of-sum.ensures.value c.share_of-sum.ensures.small in
    record { value = next.value; small = next.small }
