use Rattle.std.proofs.Common.{◌≡◌, to_z, of_z, sym, ap, ap₂, ◌∙◌, subst}
use Rattle.std.specs.Prelude.{pos, ◌+ℤ◌, FitsSigned}
use Rattle.std.specs.Int.{w16, w128}
use Rattle.std.proofs.lemmas.Int.{to_z-of_z}
use Rattle.bpf_kept.proofs.NumberLemmas.{end_fits}
use Rattle.bpf_kept.proofs.guards.end_of.Goals as goal

pub overflow_add-result : goal.overflow_add-result
overflow_add-result c =
    let off : to_z w128 (of_z w128 c.from.result) ≡ c.args.off = to_z-of_z w128 c.from.result (record { sfits = c.from.type_inv }) ∙ c.from.ensures ∙ to_z-of_z w16 c.args.off c.ranges.off in
    let size : to_z w128 (of_z w128 c.from-2.result) ≡ pos c.bytes.result = to_z-of_z w128 c.from-2.result (record { sfits = c.from-2.type_inv }) ∙ c.from-2.ensures in
    subst (λ z. FitsSigned w128 z) (sym (ap₂ (λ a b. a +ℤ b) off size)) (end_fits c.args.off c.bytes.result c.ranges.off c.bytes.type_inv)

pub returns : goal.returns
returns c =
    let off : to_z w128 (of_z w128 c.from.result) ≡ c.args.off = to_z-of_z w128 c.from.result (record { sfits = c.from.type_inv }) ∙ c.from.ensures ∙ to_z-of_z w16 c.args.off c.ranges.off in
    let size : to_z w128 (of_z w128 c.from-2.result) ≡ pos c.bytes.result = to_z-of_z w128 c.from-2.result (record { sfits = c.from-2.type_inv }) ∙ c.from-2.ensures in
    ap₂ (λ a b. to_z w128 (of_z w128 (a +ℤ b))) off size ∙ to_z-of_z w128 (c.args.off +ℤ pos c.bytes.result) (end_fits c.args.off c.bytes.result c.ranges.off c.bytes.type_inv) ∙ ap (λ n. c.args.off +ℤ pos n) c.bytes.ensures
