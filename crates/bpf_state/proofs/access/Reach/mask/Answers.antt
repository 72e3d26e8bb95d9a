use Rattle.std.proofs.Common.{ap, ◌∙◌, arith, suc}
use Rattle.std.proofs.lemmas.Int.{ints}
use Rattle.bpf_state.specs.Access.{Span, offset_in_slot}
use Rattle.bpf_state.proofs.AccessLemmas.{mask_fits, mask_is, held_is}
use Rattle.bpf_state.proofs.access.Reach.mask.Goals as goal

pub overflow_sub-result : goal.overflow_sub-result
overflow_sub-result c =
    let ok = c.self.invariant in
    let low = ap (λ (p : Span). p.lowest) c.self.view_is in
    let high = ap (λ (p : Span). p.highest) c.self.view_is in
    let count = ap (λ (p : Span). p.count) c.self.view_is in
    let end = c.end.ensures in
    mask_fits (suc c.args.index) _ _ _ _ c.offset_in_slot-from.ensures c.offset_in_slot-to.ensures (omega (arith, ints))

pub returns : goal.returns
returns c =
    let ok = c.self.invariant in
    let place = offset_in_slot (suc c.args.index) in
    mask_is (suc c.args.index) _ _ _ _
    (c.offset_in_slot-from.ensures ∙ ap place (held_is _ (omega (arith, ints)) (omega (arith, ints)) ∙ ap (λ (p : Span). p.lowest) c.self.view_is))
    (c.offset_in_slot-to.ensures ∙ ap place (held_is _ (omega (arith, ints)) (omega (arith, ints)) ∙ c.end.ensures))
