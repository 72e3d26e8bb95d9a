use Rattle.std.proofs.Common.{◌≡◌, to_z, of_z, sym, ap₂, ◌∙◌, subst}
use Rattle.std.specs.Prelude.{pos, ◌+ℤ◌, ◌-ℤ◌, FitsSigned}
use Rattle.std.specs.Int.{w64, w128}
use Rattle.std.proofs.lemmas.Int.{to_z-of_z}
use Rattle.bpf_kept.proofs.NumberLemmas.{moved_fits, needed_fits}
use Rattle.bpf_kept.proofs.guards.needed.Goals as goal

pub overflow_sub-result : goal.overflow_sub-result
overflow_sub-result c =
    let byte : to_z w128 (of_z w128 c.from.result) ≡ pos c.args.byte = to_z-of_z w128 c.from.result (record { sfits = c.from.type_inv }) ∙ c.from.ensures in
    let moved : to_z w128 (of_z w128 c.from-2.result) ≡ c.args.moved = to_z-of_z w128 c.from-2.result (record { sfits = c.from-2.type_inv }) ∙ c.from-2.ensures ∙ to_z-of_z w64 c.args.moved c.ranges.moved in
    let limit : to_z w128 (of_z w128 c.from-3.result) ≡ pos c.args.limit = to_z-of_z w128 c.from-3.result (record { sfits = c.from-3.type_inv }) ∙ c.from-3.ensures in
    let sum : to_z w128 (of_z w128 (to_z w128 (of_z w128 c.from.result) +ℤ to_z w128 (of_z w128 c.from-2.result))) ≡ pos c.args.byte +ℤ c.args.moved =
    ap₂ (λ a b. to_z w128 (of_z w128 (a +ℤ b))) byte moved ∙ to_z-of_z w128 (pos c.args.byte +ℤ c.args.moved) (moved_fits c.args.byte c.args.moved c.ranges.byte.fits c.ranges.moved) in
    subst (λ z. FitsSigned w128 z) (sym (ap₂ (λ a b. a -ℤ b) sum limit)) (needed_fits c.args.byte c.args.limit c.args.moved c.ranges.byte.fits c.ranges.limit.fits c.ranges.moved)

pub returns : goal.returns
returns c =
    let byte : to_z w128 (of_z w128 c.from.result) ≡ pos c.args.byte = to_z-of_z w128 c.from.result (record { sfits = c.from.type_inv }) ∙ c.from.ensures in
    let moved : to_z w128 (of_z w128 c.from-2.result) ≡ c.args.moved = to_z-of_z w128 c.from-2.result (record { sfits = c.from-2.type_inv }) ∙ c.from-2.ensures ∙ to_z-of_z w64 c.args.moved c.ranges.moved in
    let limit : to_z w128 (of_z w128 c.from-3.result) ≡ pos c.args.limit = to_z-of_z w128 c.from-3.result (record { sfits = c.from-3.type_inv }) ∙ c.from-3.ensures in
    let sum : to_z w128 (of_z w128 (to_z w128 (of_z w128 c.from.result) +ℤ to_z w128 (of_z w128 c.from-2.result))) ≡ pos c.args.byte +ℤ c.args.moved =
    ap₂ (λ a b. to_z w128 (of_z w128 (a +ℤ b))) byte moved ∙ to_z-of_z w128 (pos c.args.byte +ℤ c.args.moved) (moved_fits c.args.byte c.args.moved c.ranges.byte.fits c.ranges.moved) in
    ap₂ (λ a b. to_z w128 (of_z w128 (a -ℤ b))) sum limit
    ∙ to_z-of_z w128 ((pos c.args.byte +ℤ c.args.moved) -ℤ pos c.args.limit) (needed_fits c.args.byte c.args.limit c.args.moved c.ranges.byte.fits c.ranges.limit.fits c.ranges.moved)
