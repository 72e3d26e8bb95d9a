use Rattle.std.proofs.Common.{arith}
use Rattle.bpf_state.specs.Transfer.{slot_maybe_written}
use Rattle.bpf_state.proofs.SlotLemmas.{slots_changed}
use Rattle.bpf_state.proofs.slots.maybe_write_slots.Goals as goal

pub returns-clause-value : goal.returns-clause-value
returns-clause-value c =
    let are = c.slots-first.ensures in
    let ordered = are.ordered in
    slots_changed (λ k held. slot_maybe_written held) c.args.reach _ _ c.loop-i.i c.args.slots.now c.loop-i.slots are c.loop-i.invariant.0 (omega (arith, c.loop-i.auto.i-end ordered)) c.valid.ensures
