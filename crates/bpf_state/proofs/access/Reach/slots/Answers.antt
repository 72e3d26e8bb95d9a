use Rattle.std.proofs.Common.{ap, sym, subst, ◌∙◌, ◌/◌, ◌+◌, arith}
use Rattle.std.proofs.lemmas.Bool.{not-false}
use Rattle.std.proofs.lemmas.Int.{ints}
use Rattle.bpf_state.specs.Access.{Span}
use Rattle.bpf_state.specs.code.Parts.{IsSpan, depth_of}
use Rattle.bpf_state.proofs.AccessLemmas.{touched_are, held_is}
use Rattle.bpf_state.proofs.access.Reach.slots.Goals as goal

pub returns : goal.returns
returns c =
    let ok = c.self.invariant in
    let ok' = c.self-2.invariant in
    touched_are c.args.self _ _ (subst (λ p. IsSpan p) c.self.view_is c.self.invariant) (sym (ap (λ (p : Span). p.in_frame) c.self.view_is) ∙ not-false _ c.if-not-self.false)
    (ap (λ d. d / 8) (c.depth_of.ensures ∙ ap depth_of (held_is _ (omega (arith, ints)) (omega (arith, ints)) ∙ c.end.ensures)))
    (ap (λ d. (d + 7) / 8) (c.depth_of-2.ensures ∙ ap depth_of (held_is _ (omega (arith, ints)) (omega (arith, ints)) ∙ ap (λ (p : Span). p.lowest) c.self-2.view_is)))
