use Rattle.std.proofs.Common.{sym}
use Rattle.std.proofs.lemmas.Bool.{eqb-false}
use Rattle.bpf_state.proofs.EntryLemmas.{register_past, register_past_slot}
use Rattle.bpf_state.proofs.entries.register_in.Goals as goal
use Rattle.bpf_state.proofs.entries.register_in.Goals.{in-Register+else-is_same, in-Slot}

pub loop-entry-preserved : goal.loop-entry-preserved
loop-entry-preserved c = elim c.match-entry.branch [
  | in-Register+else-is_same w ↦ register_past c.args.entries.now c.loop-entry.entry-index _ _ c.args.r _ c.loop-entry-test.true c.entry-item.is w.in-Register.is (eqb-false _ _ (sym w.if-is_same.ensures)) c.loop-entry.invariant
  | in-Slot w ↦ register_past_slot c.args.entries.now c.loop-entry.entry-index _ _ c.args.r _ c.loop-entry-test.true c.entry-item.is w.in-Slot.is c.loop-entry.invariant
]
