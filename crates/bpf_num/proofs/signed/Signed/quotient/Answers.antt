use Rattle.std.proofs.Common.{◌≡◌, pos, neg_ℤ, ◌-ℤ◌, max, sym, ◌∙◌, ap, ap₂, arith, true, false}
use Rattle.std.specs.Prelude.{int_le, int_lt, unsigned_abs}
use Rattle.std.proofs.lemmas.Bool.{cond-true, cond-false}
use Rattle.std.proofs.lemmas.Int.{ints, clamps}
use Rattle.bpf_num.specs.SignedInterval.{signed_interval, least}
use Rattle.bpf_num.proofs.Parts.{held, held_is, not_least}
use Rattle.bpf_num.proofs.signed.Signed.quotient.Goals as goal

pub returns-else-self : goal.returns-else-self
returns-else-self c =
    let a = c.self.inside in
    let far = max (unsigned_abs a.lo) (unsigned_abs a.hi) in
    let negative : int_le (pos 0) c.other.inside.lo ≡ false = (let t = c.if-other-ge0.false in grind (arith, ints)) in
    let above : int_lt least a.lo ≡ true = not_least a.lo c.self.invariant.above c.if-self.false in
    let low : pos (unsigned_abs (held a.lo)) ≡ pos (unsigned_abs a.lo) = ap (λ z. pos (unsigned_abs z)) (held_is a.lo (omega (arith, ints)) (omega (arith, ints))) in
    let high : pos (unsigned_abs (held a.hi)) ≡ pos (unsigned_abs a.hi) = ap (λ z. pos (unsigned_abs z)) (held_is a.hi (omega (arith, ints)) (omega (arith, ints))) in
    let p = c.abs.ensures.value in
    let q = c.abs-else-self.ensures.value in
    let m = c.max-hi.ensures.value in
    let lo : held (pos 0 -ℤ held c.max-hi.result) ≡ neg_ℤ (pos far) = omega (arith, ints, clamps) in
    let hi : held c.max-hi.result ≡ pos far = omega (arith, ints, clamps) in
    rw (← c.self.view_is, ← c.other.view_is)
    (ap₂ signed_interval lo hi ∙ sym (cond-false _ _ _ negative ∙ cond-true _ _ _ above))
