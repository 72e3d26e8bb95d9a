use Rattle.std.proofs.Common.{◌∙◌, take, sym, ap}
use Rattle.bpf_state.specs.State.{with_register, with_slot}
use Rattle.bpf_state.specs.code.Entries.{put, state_of}
use Rattle.bpf_state.proofs.EntryLemmas.{state_next}
use Rattle.bpf_state.proofs.entries.put_entries.Goals as goal
use Rattle.bpf_state.proofs.entries.put_entries.Goals.{in-Register, in-Slot}

pub loop-entry-preserved : goal.loop-entry-preserved
loop-entry-preserved c =
    let es = c.args.entries.now in
    let i = c.loop-entry.entry-index in
    let next = state_next es i _ c.loop-entry-test.true c.entry-item.is in
    elim c.match-entry.branch [
      | in-Register w ↦ w.state-is ∙ w.set_reg.ensures ∙ ap (λ s. with_register s w.in-Register.r w.in-Register.value) c.loop-entry.invariant ∙ sym (next ∙ ap (put (state_of (take i es))) w.in-Register.is)
      | in-Slot w ↦ w.state-is ∙ w.set_slot.ensures ∙ ap (λ s. with_slot s w.in-Slot.k w.in-Slot.value) c.loop-entry.invariant ∙ sym (next ∙ ap (put (state_of (take i es))) w.in-Slot.is)
    ]
