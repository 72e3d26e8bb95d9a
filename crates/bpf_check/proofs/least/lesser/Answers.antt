use Rattle.std.proofs.Common.{ap, subst}
use mathlib.Core.Logic.{inl, inr, ⊎_elim}
use Rattle.bpf_check.specs.code.Least.{IsLeastRefusal}
use Rattle.bpf_check.specs.RefusalNumbers.{flaw_of}
use Rattle.bpf_check.proofs.LeastLemmas.{least_both, least_left, least_right}
use Rattle.bpf_check.proofs.least.lesser.Goals as goal

pub returns-in-Some-Some : goal.returns-in-Some-Some
returns-in-Some-Some c xs ys h k =
    least_both xs ys _ _ (flaw_of c.lower.result) (⊎_elim (λ e. inl (ap flaw_of e)) (λ e. inr (ap flaw_of e)) c.lower.ensures.one) c.lower.ensures.first c.lower.ensures.second
    (subst (IsLeastRefusal xs) c.in-Some-Some.is-0 h)
    (subst (IsLeastRefusal ys) c.in-Some-Some.is-1 k)

pub returns-in-Some-None : goal.returns-in-Some-None
returns-in-Some-None c xs ys h k =
    least_left xs ys _
    (subst (IsLeastRefusal xs) c.in-Some-None.is-0 h)
    (subst (IsLeastRefusal ys) c.in-Some-None.is-1 k)

pub returns-in-None-default : goal.returns-in-None-default
returns-in-None-default c xs ys h k = least_right xs ys _ (subst (IsLeastRefusal xs) c.in-None-default.is-0 h) k
