use Rattle.std.proofs.Common.{sym, subst, [], ◌∷◌}
use Rattle.bpf_state.specs.declared.known.RegState.TheVariants.{Any, Ptr}
use Rattle.bpf_state.specs.State.{IsAbstractState, blank}
use Rattle.bpf_state.proofs.StateLemmas.{entered_is_state}
use Rattle.bpf_state.proofs.calls.enter.Goals as goal

pub invariant_of-state : goal.invariant_of-state
invariant_of-state c =
    let a = c.without_frame.result in
    let b = c.without_frame-2.result in
    let d = c.without_frame-3.result in
    let e = c.without_frame-4.result in
    let f = c.without_frame-5.result in
    subst (λ p. IsAbstractState (record blank { registers = Any ∷ a ∷ b ∷ d ∷ e ∷ f ∷ Any ∷ Any ∷ Any ∷ Any ∷ Ptr p ∷ []; slots = c.clear.new.self; slot_tags = c.clear-2.new.self })) (sym c.start_of.ensures)
    (entered_is_state _ _ _ _ _ _ _ c.without_frame.ensures.ordered c.without_frame-2.ensures.ordered c.without_frame-3.ensures.ordered c.without_frame-4.ensures.ordered c.without_frame-5.ensures.ordered c.clear.ensures c.clear-2.ensures)
