use Rattle.std.proofs.Common.{arith, refl, sym, ◌∙◌}
use Rattle.std.proofs.lemmas.Bool.{false≢true}
use Rattle.bpf_kept.specs.Mismatches.{IsUnbegun}
use Rattle.bpf_kept.proofs.begin.begun.Goals as goal

pub returns-clause-exact : goal.returns-clause-exact
returns-clause-exact g c = (
  λ h. (sym c.order.ensures ∙ c.same_order.ensures.0 c.if-not-same_order.false ∙ c.order-2.ensures, omega arith, c.begins.ensures.0 c.if-not-begins.false),
  λ all. refl,
)

pub returns-then-not-begins-clause-err : goal.returns-then-not-begins-clause-err
unfolding IsUnbegun
returns-then-not-begins-clause-err g c = (
  sym c.order.ensures ∙ c.same_order.ensures.0 c.if-not-same_order.false ∙ c.order-2.ensures,
  omega arith,
  λ s. false≢true (sym c.if-not-begins.true ∙ c.begins.ensures.1 s),
)

pub returns-then-not-begins-clause-exact : goal.returns-then-not-begins-clause-exact
returns-then-not-begins-clause-exact g c = (λ h. absurd (false≢true h), λ all. absurd (false≢true (sym c.if-not-begins.true ∙ c.begins.ensures.1 all.2)))

pub returns-then-not-same_order-clause-err : goal.returns-then-not-same_order-clause-err
unfolding IsUnbegun
returns-then-not-same_order-clause-err g c = λ same. false≢true (sym c.if-not-same_order.true ∙ c.same_order.ensures.1 (c.order.ensures ∙ same ∙ sym c.order-2.ensures))

pub returns-then-notes-slots-clause-err : goal.returns-then-notes-slots-clause-err
unfolding IsUnbegun
returns-then-notes-slots-clause-err g c = (sym c.order.ensures ∙ c.same_order.ensures.0 c.if-not-same_order.false ∙ c.order-2.ensures, omega arith)
