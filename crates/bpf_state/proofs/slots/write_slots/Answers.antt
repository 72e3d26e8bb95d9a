use Rattle.std.proofs.Common.{◌∙◌, ap₂, arith, suc}
use Rattle.std.proofs.lemmas.List.Elements.{All-set}
use Rattle.bpf_state.specs.declared.known.SlotState.TheVariants.{Bytes}
use Rattle.bpf_state.specs.State.{IsSlot}
use Rattle.bpf_state.specs.Access.{touched_bytes}
use Rattle.bpf_state.specs.Transfer.{slot_written}
use Rattle.bpf_state.proofs.SlotLemmas.{slots_changed, change_more, partial_mask}
use Rattle.bpf_state.proofs.slots.write_slots.Goals as goal

pub written-requires-clause-partial : goal.written-requires-clause-partial
written-requires-clause-partial c =
    let few = partial_mask c.args.reach (suc c.loop-i.i) c.valid.ensures c.requires.known c.requires.partial in
    let mask = c.mask.ensures in
    omega arith

pub loop-i-preserved : goal.loop-i-preserved
loop-i-preserved c =
    let are = c.slots-first.ensures in
    let within = are.within in
    let below = c.loop-i-test.true in
    let long = c.valid-2.ensures in
    let same = c.loop-i.invariant.0.long in
    rw c.set.ensures (
      change_more (Bytes 0) (λ k held. slot_written (touched_bytes c.args.reach k) held) _ c.loop-i.i c.args.slots.now c.loop-i.slots c.written.result c.loop-i.invariant.0 c.loop-i.auto.i (omega arith)
          (c.written.ensures.value ∙ ap₂ slot_written c.mask.ensures c.get.ensures),
      All-set IsSlot c.loop-i.slots c.loop-i.i c.written.result c.written.ensures.mask c.loop-i.invariant.1,
    )

pub returns-clause-value : goal.returns-clause-value
returns-clause-value c =
    let are = c.slots-first.ensures in
    let ordered = are.ordered in
    slots_changed (λ k held. slot_written (touched_bytes c.args.reach k) held) c.args.reach _ _ c.loop-i.i c.args.slots.now c.loop-i.slots are c.loop-i.invariant.0 (omega (arith, c.loop-i.auto.i-end ordered)) c.valid-2.ensures
