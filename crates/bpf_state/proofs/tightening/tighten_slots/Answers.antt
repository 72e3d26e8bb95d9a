use Rattle.std.proofs.Common.{sym, ◌∙◌, ap, arith}
use Rattle.std.proofs.lemmas.List.{length-set}
use Rattle.std.proofs.lemmas.List.Elements.{All-set}
use Rattle.bpf_state.specs.declared.known.SlotState.TheVariants.{Bytes}
use Rattle.bpf_state.specs.State.{IsSlot, tightened_slot}
use Rattle.bpf_state.proofs.ListLemmas.{start_done, done_more, kept_more, all_done}
use Rattle.bpf_state.proofs.MaskedLemmas.{tight_by_mask}
use Rattle.bpf_state.proofs.tightening.tighten_slots.Goals.{then-mask+in-Some, else-mask}
use Rattle.bpf_state.proofs.tightening.tighten_slots.Goals as goal

pub loop-i-init : goal.loop-i-init
loop-i-init c = (start_done tightened_slot c.args.slots.now, c.requires, c.valid.ensures)

pub loop-i-preserved : goal.loop-i-preserved
loop-i-preserved c =
    let l = c.loop-i in
    let within = c.loop-i-test.true in
    let long = l.invariant.2 in
    elim c.if-mask.branch [
      | then-mask+in-Some w ↦ rw (w.slots-is, w.set.ensures) (
        sym (done_more tightened_slot l.slots l.i (Bytes 0) w.in-Some.held (omega arith) (ap tightened_slot (sym w.get.ensures) ∙ sym w.in-Some.ensures.value)) ∙ l.invariant.0,
        All-set IsSlot l.slots l.i w.in-Some.held w.in-Some.ensures.ordered l.invariant.1,
        length-set l.slots l.i w.in-Some.held ∙ long,
      )
      | else-mask w ↦ rw w.slots-is (
        sym (kept_more tightened_slot l.slots l.i (Bytes 0) (omega arith) (tight_by_mask _ (λ full. w.if-mask.false (c.mask.ensures ∙ full)))) ∙ l.invariant.0,
        l.invariant.1,
        long,
      )
    ]

pub returns-clause-value : goal.returns-clause-value
returns-clause-value c =
    let l = c.loop-i in
    let past = c.loop-i-test.false in
    let long = l.invariant.2 in
    sym (all_done tightened_slot l.slots l.i (omega arith)) ∙ l.invariant.0
