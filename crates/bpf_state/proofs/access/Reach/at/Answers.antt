use Rattle.std.proofs.Common.{arith}
use Rattle.std.proofs.lemmas.Int.{ints}
use Rattle.bpf_state.proofs.AccessLemmas.{count_some, count_few, span_same}
use Rattle.bpf_state.proofs.access.Reach.at.Goals as goal

pub invariant_of-result : goal.invariant_of-result
invariant_of-result c =
    let some = count_some c.args.size in
    let few = count_few c.args.size in
    let n = c.bytes.ensures in
    record { above = omega (arith, ints); ordered = omega (arith, ints); below = omega (arith, ints); some = omega arith; few = omega arith }

pub returns : goal.returns
returns c = span_same _ _ _ _ _ _ _ (omega (arith, ints)) (omega (arith, ints)) c.bytes.ensures
