use Rattle.std.proofs.Common.{pos, ◌*ℤ◌, ◌^◌, ◌∙◌, ap, arith}
use Rattle.std.specs.Int.{w128}
use Rattle.std.proofs.lemmas.Int.{ints, to_z-of_z}
use Rattle.bpf_num.specs.Laws.SignedKeeps.{scaled_order}
use Rattle.bpf_num.proofs.Parts.{held_is}
use Rattle.bpf_num.proofs.signed.Signed.multiple.Goals as goal

pub if_fits-requires : goal.if_fits-requires
if_fits-requires c =
    let a = c.self.inside in
    let p = 2 ^ c.args.amount in
    let order = scaled_order p a.lo a.hi c.self.invariant.ordered in
    let lo = c.wide_multiple.ensures ∙ ap (λ z. z *ℤ pos p) (held_is a.lo (omega (arith, ints)) (omega (arith, ints))) in
    let hi = c.wide_multiple-2.ensures ∙ ap (λ z. z *ℤ pos p) (held_is a.hi (omega (arith, ints)) (omega (arith, ints))) in
    let fits_lo = to_z-of_z w128 c.wide_multiple.result (record { sfits = c.wide_multiple.type_inv }) in
    let fits_hi = to_z-of_z w128 c.wide_multiple-2.result (record { sfits = c.wide_multiple-2.type_inv }) in
    rw (fits_lo, fits_hi, lo, hi) order
