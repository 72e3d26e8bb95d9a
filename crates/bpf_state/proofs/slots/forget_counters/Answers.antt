use Rattle.std.proofs.Common.{arith}
use Rattle.bpf_state.proofs.SlotLemmas.{tags_changed}
use Rattle.bpf_state.proofs.slots.forget_counters.Goals as goal

pub returns-clause-value : goal.returns-clause-value
returns-clause-value c =
    let are = c.slots-first.ensures in
    let ordered = are.ordered in
    tags_changed c.args.reach _ _ c.loop-i.i c.args.tags.now c.loop-i.tags are c.loop-i.invariant (omega (arith, c.loop-i.auto.i-end ordered)) c.valid.ensures
