use Rattle.std.proofs.Common.{sym, subst, [], ◌∷◌, replicate}
use Rattle.std.specs.Prelude.{◌++◌}
use Rattle.bpf_state.specs.declared.known.RegState.TheVariants.{Any, Ptr}
use Rattle.bpf_state.specs.State.{IsAbstractState, blank}
use Rattle.bpf_state.proofs.StateLemmas.{unknown_is_state}
use Rattle.bpf_state.proofs.state.State.blank.Goals as goal

pub invariant_of-result : goal.invariant_of-result
invariant_of-result c =
    subst (λ p. IsAbstractState (record blank { registers = replicate 10 Any ++ Ptr p ∷ []; slots = c.blank.result; slot_tags = c.none.result })) (sym c.start_of.ensures)
    (unknown_is_state c.blank.result c.none.result c.blank.ensures c.none.ensures)
