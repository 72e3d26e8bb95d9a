use Rattle.std.proofs.Common.{sym, subst, [], ◌∷◌, replicate}
use Rattle.std.specs.Prelude.{◌++◌}
use Rattle.bpf_state.specs.declared.known.RegState.TheVariants.{Any, Ptr}
use Rattle.bpf_state.specs.State.{IsAbstractState, blank}
use Rattle.bpf_state.proofs.StateLemmas.{untouched_tags}
use Rattle.bpf_state.proofs.state.State.clear.Goals as goal

pub invariant_of-self : goal.invariant_of-self
invariant_of-self c =
    let s = c.self.inside in
    subst (λ p. IsAbstractState (record blank { registers = replicate 10 Any ++ Ptr p ∷ []; slots = c.clear.new.self; register_tags = s.register_tags; slot_tags = s.slot_tags })) (sym c.start_of.ensures)
    (untouched_tags c.clear.new.self _ _ c.clear.ensures c.self.invariant.register_tag_count c.self.invariant.slot_tag_count)
