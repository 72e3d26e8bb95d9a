use Rattle.std.proofs.Common.{rules, arith, ◌≡◌, false}
use Rattle.bpf_state.specs.Places.{entails_at}
use Rattle.bpf_state.proofs.PlaceLemmas.{lost, none_lost}
use Rattle.bpf_state.proofs.state.State.first_lost.Goals as goal

pub returns-then-not-entails_at-clause-entails : goal.returns-then-not-entails_at-clause-entails
returns-then-not-entails_at-clause-entails c =
    let s = c.args.self.now in
    let t = c.args.other.now in
    let not_kept : entails_at s t c.numbered-place.result ≡ false = search rules in
    lost s t c.numbered-place.result c.in_order.ensures c.in_order-2.ensures c.numbered-place.ensures.placed not_kept

pub returns-clause-entails : goal.returns-clause-entails
returns-clause-entails c = none_lost c.args.self.now c.args.other.now c.in_order.ensures (λ p is lt. c.places.invariant p is (omega (arith, lt, c.places-test.false)))
