use Rattle.std.proofs.Common.{refl, arith}
use Rattle.std.proofs.lemmas.Bool.{false≢true}
use Rattle.bpf_state.proofs.EntryLemmas.{no_slot_past, no_slot_in, slot_said}
use Rattle.bpf_state.proofs.entries.are_registers.Goals as goal

pub loop-entry-init : goal.loop-entry-init
loop-entry-init c = refl

pub returns-in-Slot : goal.returns-in-Slot
returns-in-Slot c = (λ t. absurd (false≢true t), λ none. absurd (slot_said c.args.entries.now c.loop-entry.entry-index _ _ _ c.requires c.loop-entry-test.true c.entry-item.is c.in-Slot.is none))

pub loop-entry-preserved : goal.loop-entry-preserved
loop-entry-preserved c = no_slot_past c.args.entries.now c.loop-entry.entry-index _ _ _ c.loop-entry-test.true c.entry-item.is c.in-Register.is c.loop-entry.invariant

pub returns : goal.returns
returns c = (λ t. no_slot_in c.args.entries.now c.loop-entry.entry-index (omega (arith, c.loop-entry-test.false)) c.loop-entry.invariant, λ none. refl)
