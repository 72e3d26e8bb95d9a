use Rattle.std.proofs.Common.{◌≡◌, ℤ, arith}
use Rattle.std.specs.Prelude.{FitsSigned}
use Rattle.std.specs.Int.{w128, int_min, int_max}
use Rattle.std.proofs.lemmas.Int.{ints, clamps}
use Rattle.bpf_num.proofs.Parts.{held_is, wide, wide_choice}
use Rattle.bpf_num.proofs.signed.Signed.product.Goals as goal

pub if_fits-requires : goal.if_fits-requires
if_fits-requires c = omega (arith, ints, clamps, c.min.ensures.value, c.min-2.ensures.value, c.min-3.ensures.value, c.max.ensures.value, c.max-2.ensures.value, c.max-3.ensures.value)

pub returns : goal.returns
returns c =
    let a = c.self.inside in
    let b = c.other.inside in
    let p = c.wide_product-low_low in
    let q = c.wide_product-low_high in
    let r = c.wide_product-high_low in
    let s = c.wide_product-high_high in
    let choice : (f : ℤ → ℤ → ℤ) (m n o : ℤ) → FitsSigned w128 m → FitsSigned w128 n → FitsSigned w128 o → m ≡ f (wide p.result) (wide q.result) → n ≡ f (wide r.result) (wide s.result) → o ≡ f (wide m) (wide n) → wide o ≡ f (f p.result q.result) (f r.result s.result) =
    λ f m n o. wide_choice f p.result q.result r.result s.result m n o (record { sfits = p.type_inv }) (record { sfits = q.type_inv }) (record { sfits = r.type_inv }) (record { sfits = s.type_inv }) in
    let lo = choice int_min c.min.result c.min-2.result c.min-3.result (record { sfits = c.min.type_inv }) (record { sfits = c.min-2.type_inv }) (record { sfits = c.min-3.type_inv }) c.min.ensures.value c.min-2.ensures.value c.min-3.ensures.value in
    let hi = choice int_max c.max.result c.max-2.result c.max-3.result (record { sfits = c.max.type_inv }) (record { sfits = c.max-2.type_inv }) (record { sfits = c.max-3.type_inv }) c.max.ensures.value c.max-2.ensures.value c.max-3.ensures.value in
    let in_lo = held_is a.lo (omega (arith, ints)) (omega (arith, ints)) in
    let in_hi = held_is a.hi (omega (arith, ints)) (omega (arith, ints)) in
    let by_lo = held_is b.lo (omega (arith, ints)) (omega (arith, ints)) in
    let by_hi = held_is b.hi (omega (arith, ints)) (omega (arith, ints)) in
    rw (← c.self.view_is, ← c.other.view_is)
    (rw (lo, hi, p.ensures, q.ensures, r.ensures, s.ensures, in_lo, in_hi, by_lo, by_hi) at c.if_fits.ensures)
