-- A counter of turns, in a slot of the frame: a loop that may turn for ever, and what a hardener makes of it.
use Rattle.std.proofs.Common.{ℕ, zero, suc, refl, subst, arith, Bool, true, false, List, [], ◌∷◌, ◌++◌, Some, None}
use Rattle.std.specs.Prelude.{pos, negsuc, replicate}
use Rattle.std.proofs.lemmas.Option.{none-some, same_Some}
use Rattle.std.proofs.lemmas.Bool.{false≢true}
use Rattle.bpf_insn.specs.Instruction.{Instructions}
use Rattle.bpf_insn.specs.declared.order.Order.TheVariants.{Little}
use Rattle.bpf_insn.specs.declared.instruction.Reg.TheVariants.{R0, R1, R3, R9, R10}
use Rattle.bpf_insn.specs.declared.instruction.Operand.TheVariants.{Imm, Reg as FromReg}
use Rattle.bpf_insn.specs.declared.instruction.Width.TheVariants.{W64}
use Rattle.bpf_insn.specs.declared.instruction.Size.TheVariants.{B, DW}
use Rattle.bpf_insn.specs.declared.instruction.AluOp.TheVariants.{Add, Mov}
use Rattle.bpf_insn.specs.declared.instruction.Cond.TheVariants.{Eq, Ne}
use Rattle.bpf_insn.specs.declared.instruction.Insn.TheVariants.{Alu, Load, Store, StoreImm, JumpIf, Exit}
use Rattle.bpf_kept.specs.declared.notes.Holder.TheVariants.{Register, Slot}
use Rattle.bpf_kept.specs.declared.notes.Note.{Note}
use Rattle.bpf_kept.specs.Rules.{own_in, pinned, numbered, reads_same, result_term, same_address, is_common, is_widened, keeps, paired}
use Rattle.bpf_kept.specs.Behind.{made, holds_behind, are_told, by_itself}
use Rattle.bpf_kept.specs.Ways.{is_dead}
use Rattle.bpf_kept.specs.States.{no_states}
use Rattle.bpf_kept.specs.Counters.{all_count_behind, has_turn}
use Rattle.bpf_kept.specs.Guards.{accesses_ahead, is_ahead, guards_sum, passes}
use Rattle.bpf_kept.specs.Matching.{Notes, facts_at, left_alone, known_at_start, arrives, starts, stands, extra, adds, IsBody, IsExtra, IsEither, HoldsAt, Matches}
use Rattle.bpf_kept.proofs.Example.{bounds}
use Rattle.bpf_kept.proofs.SpillExample.{held_by}

abbrev apart : List Bool
apart = replicate 63 false ++ true ∷ []

-- Bytes are added until the sum is 7.
abbrev pub old : Instructions
old = record { order = Little; list = Alu Mov W64 R0 (Imm (pos 0)) ∷ Load B R3 R1 (pos 0) ∷ Alu Add W64 R0 (FromReg R3) ∷ JumpIf Ne W64 R0 (Imm (pos 7)) (negsuc 2) ∷ Exit ∷ [] }

abbrev pub new : Instructions
new = record { order = Little; list = StoreImm DW R10 (negsuc 7) (pos 65536) ∷ Alu Mov W64 R0 (Imm (pos 0)) ∷ Load DW R9 R10 (negsuc 7) ∷ JumpIf Eq W64 R9 (Imm (pos 0)) (pos 6) ∷ Alu Add W64 R9 (Imm (negsuc 0)) ∷ Store DW R10 (negsuc 7) R9 ∷ Load B R3 R1 (pos 0) ∷ Alu Add W64 R0 (FromReg R3) ∷ JumpIf Ne W64 R0 (Imm (pos 7)) (negsuc 6) ∷ Exit ∷ Alu Mov W64 R0 (Imm (pos 0)) ∷ Exit ∷ [] }

abbrev note_0 : Note
note_0 = record { old = 0; extras = 1; apart = []; zeros = []; facts = held_by (Some (Register R1)) (Some (Register R1)) 0 0 ∷ []; counters = []; back = by_itself (Register R0) ∷ []; spare = None; barred = None }

abbrev note_1 : Note
note_1 = record { old = 0; extras = 0; apart = apart; zeros = []; facts = held_by (Some (Register R1)) (Some (Register R1)) 0 0 ∷ []; counters = Some (record { of = Slot 63; head = 1; taken = 0 }) ∷ []; back = by_itself (Register R0) ∷ []; spare = None; barred = None }

abbrev note_2 : Note
note_2 = record { old = 1; extras = 4; apart = apart; zeros = []; facts = held_by (Some (Register R0)) (Some (Register R0)) 0 0 ∷ held_by (Some (Register R1)) (Some (Register R1)) 0 0 ∷ []; counters = Some (record { of = Slot 63; head = 1; taken = 0 }) ∷ []; back = by_itself (Register R0) ∷ []; spare = None; barred = None }

abbrev note_3 : Note
note_3 = record { old = 1; extras = 3; apart = apart; zeros = []; facts = held_by (Some (Register R0)) (Some (Register R0)) 0 0 ∷ held_by (Some (Register R1)) (Some (Register R1)) 0 0 ∷ []; counters = Some (record { of = Register R9; head = 1; taken = 0 }) ∷ []; back = by_itself (Register R0) ∷ []; spare = None; barred = None }

abbrev note_4 : Note
note_4 = record { old = 1; extras = 2; apart = apart; zeros = []; facts = held_by (Some (Register R0)) (Some (Register R0)) 0 0 ∷ held_by (Some (Register R1)) (Some (Register R1)) 0 0 ∷ []; counters = Some (record { of = Register R9; head = 1; taken = 0 }) ∷ []; back = by_itself (Register R0) ∷ []; spare = None; barred = None }

abbrev note_5 : Note
note_5 = record { old = 1; extras = 1; apart = apart; zeros = []; facts = held_by (Some (Register R0)) (Some (Register R0)) 0 0 ∷ held_by (Some (Register R1)) (Some (Register R1)) 0 0 ∷ []; counters = Some (record { of = Register R9; head = 1; taken = 1 }) ∷ []; back = by_itself (Register R0) ∷ []; spare = None; barred = None }

abbrev note_6 : Note
note_6 = record { old = 1; extras = 0; apart = apart; zeros = []; facts = held_by (Some (Register R0)) (Some (Register R0)) 0 0 ∷ held_by (Some (Register R1)) (Some (Register R1)) 0 0 ∷ []; counters = Some (record { of = Slot 63; head = 1; taken = 1 }) ∷ []; back = by_itself (Register R0) ∷ []; spare = None; barred = None }

abbrev note_7 : Note
note_7 = record { old = 2; extras = 0; apart = apart; zeros = []; facts = held_by (Some (Register R0)) (Some (Register R0)) 0 0 ∷ held_by (Some (Register R1)) (Some (Register R1)) 0 0 ∷ held_by (Some (Register R3)) (Some (Register R3)) 0 0 ∷ []; counters = Some (record { of = Slot 63; head = 1; taken = 0 }) ∷ []; back = by_itself (Register R0) ∷ []; spare = None; barred = None }

abbrev note_8 : Note
note_8 = record { old = 3; extras = 0; apart = apart; zeros = []; facts = held_by (Some (Register R0)) (Some (Register R0)) 0 0 ∷ held_by (Some (Register R1)) (Some (Register R1)) 0 0 ∷ held_by (Some (Register R3)) (Some (Register R3)) 0 0 ∷ []; counters = Some (record { of = Slot 63; head = 1; taken = 0 }) ∷ []; back = by_itself (Register R0) ∷ []; spare = None; barred = None }

abbrev note_9 : Note
note_9 = record { old = 4; extras = 0; apart = apart; zeros = []; facts = held_by (Some (Register R0)) (Some (Register R0)) 0 0 ∷ []; counters = []; back = by_itself (Register R0) ∷ []; spare = None; barred = None }

abbrev pub notes : Notes
notes = Some note_0 ∷ Some note_1 ∷ Some note_2 ∷ Some note_3 ∷ Some note_4 ∷ Some note_5 ∷ Some note_6 ∷ Some note_7 ∷ Some note_8 ∷ Some note_9 ∷ []

-- ---- what is noted of each slot holds

extra_0 : IsExtra old new notes bounds None 0 note_0 0
unfolding own_in pinned numbered reads_same result_term same_address is_common keeps paired made holds_behind are_told all_count_behind has_turn accesses_ahead is_ahead guards_sum passes facts_at left_alone known_at_start arrives stands extra adds is_dead is_widened
extra_0 = record { moved = StoreImm DW R10 (negsuc 7) (pos 65536); moved_is = refl; good = refl }

body_1 : IsBody old new notes bounds None 1 note_1
unfolding own_in pinned numbered reads_same result_term same_address is_common keeps paired made holds_behind are_told all_count_behind has_turn accesses_ahead is_ahead guards_sum passes facts_at left_alone known_at_start arrives stands extra adds is_dead is_widened
body_1 = record { insn = Alu Mov W64 R0 (Imm (pos 0)); insn_is = refl; moved = Alu Mov W64 R0 (Imm (pos 0)); moved_is = refl; same = true; same_is = (λ h. refl, λ h. refl); good = refl }

extra_2 : IsExtra old new notes bounds None 2 note_2 3
unfolding own_in pinned numbered reads_same result_term same_address is_common keeps paired made holds_behind are_told all_count_behind has_turn accesses_ahead is_ahead guards_sum passes facts_at left_alone known_at_start arrives stands extra adds is_dead is_widened
extra_2 = record { moved = Load DW R9 R10 (negsuc 7); moved_is = refl; good = refl }

extra_3 : IsExtra old new notes bounds None 3 note_3 2
unfolding own_in pinned numbered reads_same result_term same_address is_common keeps paired made holds_behind are_told all_count_behind has_turn accesses_ahead is_ahead guards_sum passes facts_at left_alone known_at_start arrives stands extra adds is_dead is_widened
extra_3 = record { moved = JumpIf Eq W64 R9 (Imm (pos 0)) (pos 6); moved_is = refl; good = refl }

extra_4 : IsExtra old new notes bounds None 4 note_4 1
unfolding own_in pinned numbered reads_same result_term same_address is_common keeps paired made holds_behind are_told all_count_behind has_turn accesses_ahead is_ahead guards_sum passes facts_at left_alone known_at_start arrives stands extra adds is_dead is_widened
extra_4 = record { moved = Alu Add W64 R9 (Imm (negsuc 0)); moved_is = refl; good = refl }

extra_5 : IsExtra old new notes bounds None 5 note_5 0
unfolding own_in pinned numbered reads_same result_term same_address is_common keeps paired made holds_behind are_told all_count_behind has_turn accesses_ahead is_ahead guards_sum passes facts_at left_alone known_at_start arrives stands extra adds is_dead is_widened
extra_5 = record { moved = Store DW R10 (negsuc 7) R9; moved_is = refl; good = refl }

body_6 : IsBody old new notes bounds None 6 note_6
unfolding own_in pinned numbered reads_same result_term same_address is_common keeps paired made holds_behind are_told all_count_behind has_turn accesses_ahead is_ahead guards_sum passes facts_at left_alone known_at_start arrives stands extra adds is_dead is_widened
body_6 = record { insn = Load B R3 R1 (pos 0); insn_is = refl; moved = Load B R3 R1 (pos 0); moved_is = refl; same = true; same_is = (λ h. refl, λ h. refl); good = refl }

body_7 : IsBody old new notes bounds None 7 note_7
unfolding own_in pinned numbered reads_same result_term same_address is_common keeps paired made holds_behind are_told all_count_behind has_turn accesses_ahead is_ahead guards_sum passes facts_at left_alone known_at_start arrives stands extra adds is_dead is_widened
body_7 = record { insn = Alu Add W64 R0 (FromReg R3); insn_is = refl; moved = Alu Add W64 R0 (FromReg R3); moved_is = refl; same = true; same_is = (λ h. refl, λ h. refl); good = refl }

body_8 : IsBody old new notes bounds None 8 note_8
unfolding own_in pinned numbered reads_same result_term same_address is_common keeps paired made holds_behind are_told all_count_behind has_turn accesses_ahead is_ahead guards_sum passes facts_at left_alone known_at_start arrives stands extra adds is_dead is_widened lib.Count.count_leading_zeros
body_8 = record { insn = JumpIf Ne W64 R0 (Imm (pos 7)) (negsuc 2); insn_is = refl; moved = JumpIf Ne W64 R0 (Imm (pos 7)) (negsuc 6); moved_is = refl; same = true; same_is = (λ h. refl, λ h. refl); good = refl }

body_9 : IsBody old new notes bounds None 9 note_9
unfolding own_in pinned numbered reads_same result_term same_address is_common keeps paired made holds_behind are_told all_count_behind has_turn accesses_ahead is_ahead guards_sum passes facts_at left_alone known_at_start arrives stands extra adds is_dead is_widened
body_9 = record { insn = Exit; insn_is = refl; moved = Exit; moved_is = refl; same = true; same_is = (λ h. refl, λ h. refl); good = refl }

each : (slot : ℕ) → HoldsAt old new notes bounds None slot
each zero note e = subst (λ note. IsEither old new notes bounds None 0 note note.extras) (same_Some note_0 note e) extra_0
each (suc zero) note e = subst (λ note. IsEither old new notes bounds None 1 note note.extras) (same_Some note_1 note e) body_1
each (suc (suc zero)) note e = subst (λ note. IsEither old new notes bounds None 2 note note.extras) (same_Some note_2 note e) extra_2
each (suc (suc (suc zero))) note e = subst (λ note. IsEither old new notes bounds None 3 note note.extras) (same_Some note_3 note e) extra_3
each (suc (suc (suc (suc zero)))) note e = subst (λ note. IsEither old new notes bounds None 4 note note.extras) (same_Some note_4 note e) extra_4
each (suc (suc (suc (suc (suc zero))))) note e = subst (λ note. IsEither old new notes bounds None 5 note note.extras) (same_Some note_5 note e) extra_5
each (suc (suc (suc (suc (suc (suc zero)))))) note e = subst (λ note. IsEither old new notes bounds None 6 note note.extras) (same_Some note_6 note e) body_6
each (suc (suc (suc (suc (suc (suc (suc zero))))))) note e = subst (λ note. IsEither old new notes bounds None 7 note note.extras) (same_Some note_7 note e) body_7
each (suc (suc (suc (suc (suc (suc (suc (suc zero)))))))) note e = subst (λ note. IsEither old new notes bounds None 8 note note.extras) (same_Some note_8 note e) body_8
each (suc (suc (suc (suc (suc (suc (suc (suc (suc zero))))))))) note e = subst (λ note. IsEither old new notes bounds None 9 note note.extras) (same_Some note_9 note e) body_9
each (suc (suc (suc (suc (suc (suc (suc (suc (suc (suc n)))))))))) note e = absurd (none-some note e)

pub matches : Matches old new notes bounds no_states
unfolding starts own_in pinned numbered reads_same result_term same_address is_common keeps paired made holds_behind are_told all_count_behind has_turn accesses_ahead is_ahead guards_sum passes facts_at left_alone known_at_start arrives stands extra adds
matches = record { short = omega arith; few_turns = omega arith; order_is = refl; few = omega arith; cuts = λ e. absurd (false≢true e); start = refl; each = each }
