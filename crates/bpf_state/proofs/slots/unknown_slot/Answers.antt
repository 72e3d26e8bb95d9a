use Rattle.std.proofs.Common.{sym, ◌∙◌, ap, get_or, refl}
use Rattle.std.specs.Prelude.{not}
use Rattle.bpf_state.specs.declared.known.SlotState.TheVariants.{Bytes}
use Rattle.bpf_state.specs.Access.{are_known_bytes, touched_bytes}
use Rattle.bpf_state.proofs.SlotLemmas.{touched_any, touched_first, touched_none, none_more}
use Rattle.bpf_state.proofs.slots.unknown_slot.Goals as goal

pub returns-then-not-knows-clause-some : goal.returns-then-not-knows-clause-some
returns-then-not-knows-clause-some c =
    sym (touched_any c.args.reach _ _ (λ k held. not (are_known_bytes (touched_bytes c.args.reach k) held)) c.args.slots.now c.loop-i.i c.slots-first.ensures c.valid.ensures c.loop-i.auto.i c.loop-i-test.true
    (ap not (ap (λ b. are_known_bytes b (get_or c.args.slots.now c.loop-i.i (Bytes 0))) (sym c.mask.ensures) ∙ sym c.knows.ensures ∙ c.if-not-knows.true)))

pub returns-then-not-knows-clause-first : goal.returns-then-not-knows-clause-first
returns-then-not-knows-clause-first c =
    touched_first c.args.reach _ _ (λ k held. not (are_known_bytes (touched_bytes c.args.reach k) held)) c.args.slots.now c.loop-i.i _ c.slots-first.ensures c.loop-i.auto.i c.loop-i-test.true refl c.loop-i.invariant
    (ap not (ap (λ b. are_known_bytes b (get_or c.args.slots.now c.loop-i.i (Bytes 0))) (sym c.mask.ensures) ∙ sym c.knows.ensures ∙ c.if-not-knows.true))

pub loop-i-preserved : goal.loop-i-preserved
loop-i-preserved c =
    none_more (λ k held. not (are_known_bytes (touched_bytes c.args.reach k) held)) _ c.loop-i.i c.args.slots.now c.loop-i.invariant
    (ap not (ap (λ b. are_known_bytes b (get_or c.args.slots.now c.loop-i.i (Bytes 0))) (sym c.mask.ensures) ∙ sym c.knows.ensures ∙ c.if-not-knows.false))

pub returns-clause-some : goal.returns-clause-some
returns-clause-some c =
    sym (touched_none c.args.reach _ _ c.loop-i.i (λ k held. not (are_known_bytes (touched_bytes c.args.reach k) held)) c.args.slots.now c.slots-first.ensures c.valid.ensures c.loop-i-test.false c.loop-i.invariant)
