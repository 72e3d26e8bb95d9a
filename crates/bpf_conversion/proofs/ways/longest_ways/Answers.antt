use Rattle.std.proofs.Common.{◌≡◌, ◌+◌, ◌-◌, ◌<◌, ◌≤◌, length, drop, take, get_or, subst, sym, ap, ap₂, ◌∙◌, arith}
use Rattle.std.specs.Prelude.{slice_get, slice_set, option_copied}
use Rattle.std.proofs.lemmas.List.{take_rest}
use Rattle.bpf_insn.specs.Limits.{max_slots}
use Rattle.bpf_conversion.specs.Outline.{longest_if}
use Rattle.bpf_conversion.proofs.LongestLemmas.{WaysFrom, insn_is, slots_are, behind_few, ways_more}
use Rattle.bpf_conversion.proofs.ways.longest_ways.Goals as goal

pub longest-most-requires : goal.longest-most-requires
longest-most-requires c =
    let list = c.args.program.now.list in
    let ways = c.back.ways.items in
    let all = c.deref.result.now in
    let at = c.slots-count.result - 1 - c.back.back + 1 in
    let e : at ≡ length list - c.back.back = omega (arith, slots_are list c.requires) in
    let whole : take (length all - at) (drop at all) ≡ drop (length list - c.back.back) ways = take_rest all at ∙ ap₂ (λ n xs. drop n xs) e c.deref.ensures.value in
    λ k. subst (λ xs. get_or xs k 0 ≤ max_slots) (sym whole) (behind_few list (length list - c.back.back) ways c.requires c.back.invariant k)

pub back-preserved : goal.back-preserved
back-preserved c =
    let list = c.args.program.now.list in
    let ways = c.back.ways.items in
    let all = c.deref.result.now in
    let slot = c.slots-count.result - 1 - c.back.back in
    let o = option_copied c.at.result in
    let same = slots_are list c.requires in
    let low : slot < length list = omega (arith, same) in
    let before : length list - c.back.back ≡ slot + 1 = omega (arith, same) in
    let here : length list - (c.back.back + 1) ≡ slot = omega (arith, same) in
    let is : o ≡ slice_get list slot = c.at.ensures ∙ insn_is list slot c.requires in
    let behind : take (length all - (slot + 1)) (drop (slot + 1) all) ≡ drop (slot + 1) ways = take_rest all (slot + 1) ∙ ap (drop (slot + 1)) c.deref.ensures.value in
    let most : c.longest-most.result ≡ longest_if (drop (slot + 1) ways) o = c.longest-most.ensures ∙ ap (λ xs. longest_if xs o) behind in
    let next = ways_more list slot ways o low is (subst (λ n. WaysFrom list n ways) before c.back.invariant) in
    subst (λ v. WaysFrom list (length list - (c.back.back + 1)) (slice_set ways slot v)) (sym most)
    (subst (λ n. WaysFrom list n (slice_set ways slot (longest_if (drop (slot + 1) ways) o))) (sym here) next)
