use Rattle.std.proofs.Common.{◌≡◌, ◌+◌, ◌-◌, suc, sym, ap, ◌∙◌, arith}
use Rattle.bpf_follows.specs.NotesText.{itself, slots_noted}
use Rattle.bpf_follows.specs.code.Reading.{listed_in, mark_at}
use Rattle.bpf_follows.proofs.ListLemmas.{listed_step, listed_full}
use Rattle.bpf_follows.proofs.lists.marks_in.Goals as goal

pub loop-at-preserved : goal.loop-at-preserved
loop-at-preserved c =
    let at = c.loop-at.at in
    let look = mark_at c.args.word.now in
    let left : slots_noted - at ≡ suc (slots_noted - (at + 1)) = omega (arith, c.loop-at-test.true) in
    sym (ap (λ k. listed_in look itself k c.loop-at.marked at c.loop-at.marks c.loop-at.rest.now) left
    ∙ listed_step look itself (slots_noted - (at + 1)) c.loop-at.marked at c.loop-at.marks c.loop-at.rest.now c.mark_at-mark.result.0 c.mark_at-mark.result.1.now (sym c.mark_at-mark.ensures))
    ∙ c.loop-at.invariant

pub returns : goal.returns
returns c =
    let look = mark_at c.args.word.now in
    let left : slots_noted - c.loop-at.at ≡ 0 = omega (arith, c.loop-at-test.false) in
    sym (ap (λ k. listed_in look itself k c.loop-at.marked c.loop-at.at c.loop-at.marks c.loop-at.rest.now) left
    ∙ listed_full look itself c.loop-at.marked c.loop-at.at c.loop-at.marks c.loop-at.rest.now) ∙ c.loop-at.invariant
