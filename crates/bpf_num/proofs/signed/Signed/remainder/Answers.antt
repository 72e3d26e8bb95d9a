use Rattle.std.proofs.Common.{◌≡◌, pos, ◌-ℤ◌, sym, ◌∙◌, ap, ap₂, arith, true}
use Rattle.std.proofs.Common.{rules}
use Rattle.std.specs.Prelude.{int_le}
use Rattle.std.specs.Int.{int_min, int_max}
use Rattle.std.proofs.lemmas.Bool.{cond-true}
use Rattle.std.proofs.lemmas.Int.{ints, clamps}
use Rattle.bpf_num.specs.SignedInterval.{signed_interval}
use Rattle.bpf_num.proofs.Parts.{held, held_is, held_choice, le_from_test}
use Rattle.bpf_num.proofs.signed.Signed.remainder.Goals as goal

-- the divisor is positive
positive : (c : goal.After-min) → int_le (pos 1) c.other.inside.lo ≡ true
positive c = ap (int_le (pos 1)) (sym (held_is c.other.inside.lo (omega (arith, ints)) (omega (arith, ints)))) ∙ c.if-other-ge1.true

pub invariant_of-t-6 : goal.invariant_of-t-6
invariant_of-t-6 c =
    let some = le_from_test (pos 1) c.other.inside.lo (positive c) in
    let a = c.min-lo.ensures.value in
    let b = c.max-hi.ensures.value in
    let d = c.max.ensures.value in
    let e = c.min.ensures.value in
    record { above = omega (arith, ints, clamps); ordered = omega (arith, ints, clamps); below = omega (arith, ints, clamps) }

pub returns-then-other-ge1 : goal.returns-then-other-ge1
returns-then-other-ge1 c =
    let a = c.self.inside in
    let b = c.other.inside in
    let some = le_from_test (pos 1) b.lo (positive c) in
    let low : held (pos 1 -ℤ held b.hi) ≡ pos 1 -ℤ b.hi = omega (arith, ints) in
    let high : held (held b.hi -ℤ pos 1) ≡ b.hi -ℤ pos 1 = omega (arith, ints) in
    let lo = held_choice int_min int_max a.lo (pos 0) (pos 1 -ℤ b.hi) c.min-lo.result c.max.result (search rules) (record { sfits = c.min-lo.type_inv }) (record { sfits = c.max.type_inv }) c.min-lo.ensures.value (c.max.ensures.value ∙ ap (int_max (held c.min-lo.result)) low) in
    let hi = held_choice int_max int_min a.hi (pos 0) (b.hi -ℤ pos 1) c.max-hi.result c.min.result (search rules) (record { sfits = c.max-hi.type_inv }) (record { sfits = c.min.type_inv }) c.max-hi.ensures.value (c.min.ensures.value ∙ ap (int_min (held c.max-hi.result)) high) in
    rw (← c.self.view_is, ← c.other.view_is) (ap₂ signed_interval lo hi ∙ sym (cond-true _ _ _ (positive c)))
