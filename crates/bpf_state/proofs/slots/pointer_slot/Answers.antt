use Rattle.std.proofs.Common.{sym, ◌∙◌, ap, refl}
use Rattle.bpf_state.specs.Access.{is_pointer_slot}
use Rattle.bpf_state.proofs.SlotLemmas.{touched_any, touched_first, touched_none}
use Rattle.bpf_state.proofs.slots.pointer_slot.Goals as goal

pub returns-then-is_pointer_slot-clause-some : goal.returns-then-is_pointer_slot-clause-some
returns-then-is_pointer_slot-clause-some c =
    let are = c.slots-first.ensures in
    let within = are.within in
    let below = c.loop-i-test.true in
    sym (touched_any c.args.reach _ _ (λ k held. is_pointer_slot held) c.args.slots.now c.loop-i.i are c.valid.ensures c.loop-i.auto.i below
    (ap (λ held. is_pointer_slot held) (sym c.get.ensures) ∙ sym c.is_pointer_slot.ensures ∙ c.if-is_pointer_slot.true))

pub returns-then-is_pointer_slot-clause-first : goal.returns-then-is_pointer_slot-clause-first
returns-then-is_pointer_slot-clause-first c =
    let are = c.slots-first.ensures in
    let within = are.within in
    let below = c.loop-i-test.true in
    touched_first c.args.reach _ _ (λ k held. is_pointer_slot held) c.args.slots.now c.loop-i.i _ are c.loop-i.auto.i below refl c.loop-i.invariant
    (ap (λ held. is_pointer_slot held) (sym c.get.ensures) ∙ sym c.is_pointer_slot.ensures ∙ c.if-is_pointer_slot.true)

pub returns-clause-some : goal.returns-clause-some
returns-clause-some c =
    sym (touched_none c.args.reach _ _ c.loop-i.i (λ k held. is_pointer_slot held) c.args.slots.now c.slots-first.ensures c.valid.ensures c.loop-i-test.false c.loop-i.invariant)
