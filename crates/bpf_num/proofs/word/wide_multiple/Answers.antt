use Rattle.std.proofs.Common.{◌≡◌, pos, ◌*ℤ◌, ◌*◌, ◌%◌, ◌^◌, sym, ◌∙◌, ap₂, subst, arith}
use Rattle.std.specs.Prelude.{FitsSigned}
use Rattle.std.specs.Int.{w128, cast_signed, cast_unsigned}
use Rattle.std.proofs.lemmas.Int.{ints, to_z-of_z}
use Rattle.bpf_num.proofs.Parts.{power_held, multiple_fits}
use Rattle.bpf_num.proofs.word.wide_multiple.Goals as goal

-- the product as the code computes it
product : (c : goal.After-from) → cast_signed w128 (cast_unsigned w128 c.from.result) *ℤ cast_signed w128 (1 * 2 ^ c.args.amount % 2 ^ 128) ≡ c.args.a *ℤ pos (2 ^ c.args.amount)
product c = ap₂ (λ x y. x *ℤ y) (let fits = c.ranges.a.sfits in let e = c.from.ensures in let t = c.from.type_inv in omega (arith, ints)) (power_held c.args.amount c.requires)

pub overflow_mul-result : goal.overflow_mul-result
overflow_mul-result c = subst (λ z. FitsSigned w128 z) (sym (product c)) (multiple_fits c.args.a c.args.amount c.ranges.a c.requires)

pub returns : goal.returns
returns c = to_z-of_z w128 _ (overflow_mul-result c) ∙ product c
