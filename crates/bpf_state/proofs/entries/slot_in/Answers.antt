use Rattle.bpf_state.proofs.EntryLemmas.{blank_slot, slot_past, slot_past_register}
use Rattle.bpf_state.proofs.entries.slot_in.Goals as goal
use Rattle.bpf_state.proofs.entries.slot_in.Goals.{in-Slot+else-number-k, in-Register}

pub loop-entry-init : goal.loop-entry-init
loop-entry-init c = blank_slot c.args.k c.requires.low c.requires.high

pub loop-entry-preserved : goal.loop-entry-preserved
loop-entry-preserved c = elim c.match-entry.branch [
  | in-Slot+else-number-k w ↦ slot_past c.args.entries.now c.loop-entry.entry-index _ _ c.args.k _ c.requires.entries.each c.requires.low c.loop-entry-test.true c.entry-item.is w.in-Slot.is w.if-number-k.false c.loop-entry.invariant
  | in-Register w ↦ slot_past_register c.args.entries.now c.loop-entry.entry-index _ _ c.args.k _ c.loop-entry-test.true c.entry-item.is w.in-Register.is c.loop-entry.invariant
]
