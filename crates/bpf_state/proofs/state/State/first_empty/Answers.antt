use Rattle.std.proofs.Common.{rules, arith, ◌≡◌, true}
use Rattle.bpf_state.specs.Places.{is_empty_at}
use Rattle.bpf_state.proofs.PlaceLemmas.{empty, none_empty}
use Rattle.bpf_state.proofs.state.State.first_empty.Goals as goal

pub returns-then-is_empty_at-clause-tight : goal.returns-then-is_empty_at-clause-tight
returns-then-is_empty_at-clause-tight c =
    let s = c.args.self.now in
    let holds : is_empty_at s c.numbered-place.result ≡ true = search rules in
    empty s c.numbered-place.result c.in_order.ensures c.numbered-place.ensures.placed holds

pub returns-clause-tight : goal.returns-clause-tight
returns-clause-tight c = none_empty c.args.self.now c.in_order.ensures (λ p is lt. c.places.invariant p is (omega (arith, lt, c.places-test.false)))
