-- Slots of the frame: the old program spills a pointer into the context, and the new one an offset; and it keeps the context's start in a slot of its own.
use Rattle.std.proofs.Common.{ℕ, zero, suc, refl, sym, ap, subst, arith, Bool, true, false, List, [], ◌∷◌, ◌++◌, Option, Some, None}
use Rattle.std.specs.Prelude.{pos, negsuc, replicate}
use Rattle.std.proofs.lemmas.Bool.{false≢true}
use Rattle.std.proofs.lemmas.Option.{none-some, same_Some}
use Rattle.bpf_insn.specs.Instruction.{Instructions}
use Rattle.bpf_insn.specs.declared.order.Order.TheVariants.{Little}
use Rattle.bpf_insn.specs.declared.instruction.Reg.TheVariants.{R0, R1, R3, R4, R5, R10}
use Rattle.bpf_insn.specs.declared.instruction.Operand.TheVariants.{Imm, Reg as FromReg}
use Rattle.bpf_insn.specs.declared.instruction.Width.TheVariants.{W64}
use Rattle.bpf_insn.specs.declared.instruction.Size.TheVariants.{B, DW}
use Rattle.bpf_insn.specs.declared.instruction.AluOp.TheVariants.{Add, Mov}
use Rattle.bpf_insn.specs.declared.instruction.Cond.TheVariants.{Gt}
use Rattle.bpf_insn.specs.declared.instruction.Insn.TheVariants.{Alu, Load, Store, JumpIf, Exit}
use Rattle.bpf_kept.specs.Far.{middle}
use Rattle.bpf_kept.specs.declared.notes.Holder.{Holder}
use Rattle.bpf_kept.specs.declared.notes.Holder.TheVariants.{Register, Slot}
use Rattle.bpf_kept.specs.declared.notes.Fact.{Fact}
use Rattle.bpf_kept.specs.declared.notes.Note.{Note}
use Rattle.bpf_kept.specs.Rules.{own_in, pinned, numbered, reads_same, result_term, same_address, is_common, is_widened, keeps, paired}
use Rattle.bpf_kept.specs.Behind.{made, holds_behind, are_told, by_itself}
use Rattle.bpf_kept.specs.Ways.{is_dead}
use Rattle.bpf_kept.specs.States.{no_states}
use Rattle.bpf_kept.specs.Counters.{all_count_behind, has_turn}
use Rattle.bpf_kept.specs.Guards.{accesses_ahead, is_ahead, guards_sum, passes}
use Rattle.bpf_kept.specs.Matching.{Notes, facts_at, left_alone, known_at_start, arrives, starts, stands, extra, adds, IsBody, IsExtra, IsEither, HoldsAt, Matches}
use Rattle.bpf_kept.proofs.Example.{bounds, goes_by_r5}

-- a fact of registers and slots
abbrev pub held_by : Option Holder → Option Holder → ℕ → ℕ → Fact
held_by of base frames moved = record { of = of; base = base; by = Some (record { frames = frames; moved = moved }) }

abbrev apart : List Bool
apart = replicate 62 false ++ true ∷ true ∷ []

-- A byte of the context is the index of another one. The pointer is spilled meanwhile. The guard tests the index, in front of the sum.
abbrev pub old : Instructions
old = record { order = Little; list = Store DW R10 (negsuc 7) R1 ∷ Load B R4 R1 (pos 0) ∷ Load DW R3 R10 (negsuc 7) ∷ Alu Add W64 R3 (FromReg R4) ∷ Load B R0 R3 (pos 0) ∷ Exit ∷ [] }

abbrev pub new : Instructions
new = record { order = Little; list = Store DW R10 (negsuc 15) R1 ∷ Alu Mov W64 R1 (Imm (pos 0)) ∷ Store DW R10 (negsuc 7) R1 ∷ Load DW R5 R10 (negsuc 15) ∷ Load B R4 R5 (pos 0) ∷ Load DW R3 R10 (negsuc 7) ∷ JumpIf Gt W64 R4 (Imm (pos 63)) (pos 5) ∷ Alu Add W64 R3 (FromReg R4) ∷ Load DW R5 R10 (negsuc 15) ∷ Alu Add W64 R5 (FromReg R3) ∷ Load B R0 R5 (pos 0) ∷ Exit ∷ Alu Mov W64 R0 (Imm (pos 0)) ∷ Exit ∷ [] }

abbrev note_0 : Note
note_0 = record { old = 0; extras = 2; apart = []; zeros = []; facts = held_by (Some (Register R1)) (Some (Register R1)) 0 0 ∷ held_by (Some (Register R1)) (None) 0 middle ∷ held_by (None) (Some (Register R1)) 0 middle ∷ []; counters = []; back = by_itself (Register R0) ∷ []; spare = None; barred = None }

abbrev note_1 : Note
note_1 = record { old = 0; extras = 1; apart = apart; zeros = []; facts = held_by (Some (Slot 62)) (Some (Register R1)) 0 0 ∷ held_by (Some (Slot 62)) (None) 0 middle ∷ held_by (None) (Some (Register R1)) 0 middle ∷ []; counters = []; back = by_itself (Register R0) ∷ []; spare = None; barred = None }

abbrev note_2 : Note
note_2 = record { old = 0; extras = 0; apart = apart; zeros = []; facts = held_by (Some (Register R1)) (Some (Register R1)) 0 middle ∷ held_by (Some (Slot 62)) (Some (Register R1)) 0 0 ∷ held_by (Some (Slot 62)) (None) 0 middle ∷ held_by (None) (Some (Register R1)) 0 middle ∷ []; counters = []; back = by_itself (Register R0) ∷ []; spare = None; barred = None }

abbrev note_3 : Note
note_3 = record { old = 1; extras = 1; apart = apart; zeros = []; facts = held_by (Some (Slot 62)) (Some (Register R1)) 0 0 ∷ held_by (Some (Slot 62)) (None) 0 middle ∷ held_by (Some (Slot 63)) (Some (Slot 63)) 0 middle ∷ held_by (None) (Some (Slot 63)) 0 middle ∷ []; counters = []; back = by_itself (Register R0) ∷ []; spare = None; barred = None }

abbrev note_4 : Note
note_4 = record { old = 1; extras = 0; apart = apart; zeros = []; facts = held_by (Some (Register R5)) (Some (Register R1)) 0 0 ∷ held_by (Some (Slot 62)) (None) 0 middle ∷ held_by (Some (Slot 63)) (Some (Slot 63)) 0 middle ∷ held_by (None) (Some (Slot 63)) 0 middle ∷ []; counters = []; back = by_itself (Register R0) ∷ []; spare = None; barred = None }

abbrev note_5 : Note
note_5 = record { old = 2; extras = 0; apart = apart; zeros = []; facts = held_by (Some (Register R4)) (Some (Register R4)) 0 0 ∷ held_by (Some (Slot 62)) (None) 0 middle ∷ held_by (Some (Slot 63)) (Some (Slot 63)) 0 middle ∷ held_by (None) (Some (Slot 63)) 0 middle ∷ []; counters = []; back = by_itself (Register R0) ∷ []; spare = None; barred = None }

abbrev note_6 : Note
note_6 = record { old = 3; extras = 1; apart = apart; zeros = []; facts = held_by (Some (Register R3)) (Some (Register R3)) 0 middle ∷ held_by (Some (Register R4)) (Some (Register R4)) 0 0 ∷ held_by (Some (Slot 62)) (None) 0 middle ∷ held_by (None) (Some (Register R3)) 0 middle ∷ []; counters = []; back = by_itself (Register R0) ∷ []; spare = None; barred = None }

abbrev note_7 : Note
note_7 = record { old = 3; extras = 0; apart = apart; zeros = []; facts = held_by (Some (Register R3)) (Some (Register R3)) 0 middle ∷ held_by (Some (Register R4)) (Some (Register R4)) 0 0 ∷ held_by (Some (Slot 62)) (None) 0 middle ∷ []; counters = []; back = by_itself (Register R0) ∷ []; spare = None; barred = None }

abbrev note_8 : Note
note_8 = record { old = 4; extras = 2; apart = apart; zeros = []; facts = held_by (Some (Register R3)) (Some (Register R3)) 0 middle ∷ held_by (Some (Slot 62)) (None) 0 middle ∷ []; counters = []; back = by_itself (Register R0) ∷ []; spare = None; barred = None }

abbrev note_9 : Note
note_9 = record { old = 4; extras = 1; apart = apart; zeros = []; facts = held_by (Some (Register R3)) (Some (Register R3)) 0 middle ∷ held_by (Some (Register R5)) (None) 0 middle ∷ []; counters = []; back = by_itself (Register R0) ∷ []; spare = None; barred = None }

abbrev note_10 : Note
note_10 = record { old = 4; extras = 0; apart = apart; zeros = []; facts = held_by (Some (Register R5)) (Some (Register R3)) 0 0 ∷ []; counters = []; back = by_itself (Register R0) ∷ []; spare = None; barred = None }

abbrev note_11 : Note
note_11 = record { old = 5; extras = 0; apart = apart; zeros = []; facts = held_by (Some (Register R0)) (Some (Register R0)) 0 0 ∷ []; counters = []; back = by_itself (Register R0) ∷ []; spare = None; barred = None }

abbrev pub notes : Notes
notes = Some note_0 ∷ Some note_1 ∷ Some note_2 ∷ Some note_3 ∷ Some note_4 ∷ Some note_5 ∷ Some note_6 ∷ Some note_7 ∷ Some note_8 ∷ Some note_9 ∷ Some note_10 ∷ Some note_11 ∷ []

-- ---- what is noted of each slot holds

extra_0 : IsExtra old new notes bounds None 0 note_0 1
unfolding own_in pinned numbered reads_same result_term same_address is_common keeps paired made holds_behind are_told all_count_behind has_turn accesses_ahead is_ahead guards_sum passes facts_at left_alone known_at_start arrives stands extra adds is_dead is_widened
extra_0 = record { moved = Store DW R10 (negsuc 15) R1; moved_is = refl; good = refl }

extra_1 : IsExtra old new notes bounds None 1 note_1 0
unfolding own_in pinned numbered reads_same result_term same_address is_common keeps paired made holds_behind are_told all_count_behind has_turn accesses_ahead is_ahead guards_sum passes facts_at left_alone known_at_start arrives stands extra adds is_dead is_widened
extra_1 = record { moved = Alu Mov W64 R1 (Imm (pos 0)); moved_is = refl; good = refl }

body_2 : IsBody old new notes bounds None 2 note_2
unfolding own_in pinned numbered reads_same result_term same_address is_common keeps paired made holds_behind are_told all_count_behind has_turn accesses_ahead is_ahead guards_sum passes facts_at left_alone known_at_start arrives stands extra adds is_dead is_widened
body_2 = record { insn = Store DW R10 (negsuc 7) R1; insn_is = refl; moved = Store DW R10 (negsuc 7) R1; moved_is = refl; same = true; same_is = (λ h. refl, λ h. refl); good = refl }

extra_3 : IsExtra old new notes bounds None 3 note_3 0
unfolding own_in pinned numbered reads_same result_term same_address is_common keeps paired made holds_behind are_told all_count_behind has_turn accesses_ahead is_ahead guards_sum passes facts_at left_alone known_at_start arrives stands extra adds is_dead is_widened
extra_3 = record { moved = Load DW R5 R10 (negsuc 15); moved_is = refl; good = refl }

body_4 : IsBody old new notes bounds None 4 note_4
unfolding own_in pinned numbered reads_same result_term same_address is_common keeps paired made holds_behind are_told all_count_behind has_turn accesses_ahead is_ahead guards_sum passes facts_at left_alone known_at_start arrives stands extra adds is_dead is_widened
body_4 = record { insn = Load B R4 R1 (pos 0); insn_is = refl; moved = Load B R4 R5 (pos 0); moved_is = refl; same = false; same_is = (λ h. absurd (false≢true h), λ e. absurd (false≢true (sym (ap goes_by_r5 e)))); good = refl }

body_5 : IsBody old new notes bounds None 5 note_5
unfolding own_in pinned numbered reads_same result_term same_address is_common keeps paired made holds_behind are_told all_count_behind has_turn accesses_ahead is_ahead guards_sum passes facts_at left_alone known_at_start arrives stands extra adds is_dead is_widened
body_5 = record { insn = Load DW R3 R10 (negsuc 7); insn_is = refl; moved = Load DW R3 R10 (negsuc 7); moved_is = refl; same = true; same_is = (λ h. refl, λ h. refl); good = refl }

extra_6 : IsExtra old new notes bounds None 6 note_6 0
unfolding own_in pinned numbered reads_same result_term same_address is_common keeps paired made holds_behind are_told all_count_behind has_turn accesses_ahead is_ahead guards_sum passes facts_at left_alone known_at_start arrives stands extra adds is_dead is_widened
extra_6 = record { moved = JumpIf Gt W64 R4 (Imm (pos 63)) (pos 5); moved_is = refl; good = refl }

body_7 : IsBody old new notes bounds None 7 note_7
unfolding own_in pinned numbered reads_same result_term same_address is_common keeps paired made holds_behind are_told all_count_behind has_turn accesses_ahead is_ahead guards_sum passes facts_at left_alone known_at_start arrives stands extra adds is_dead is_widened
body_7 = record { insn = Alu Add W64 R3 (FromReg R4); insn_is = refl; moved = Alu Add W64 R3 (FromReg R4); moved_is = refl; same = true; same_is = (λ h. refl, λ h. refl); good = refl }

extra_8 : IsExtra old new notes bounds None 8 note_8 1
unfolding own_in pinned numbered reads_same result_term same_address is_common keeps paired made holds_behind are_told all_count_behind has_turn accesses_ahead is_ahead guards_sum passes facts_at left_alone known_at_start arrives stands extra adds is_dead is_widened
extra_8 = record { moved = Load DW R5 R10 (negsuc 15); moved_is = refl; good = refl }

extra_9 : IsExtra old new notes bounds None 9 note_9 0
unfolding own_in pinned numbered reads_same result_term same_address is_common keeps paired made holds_behind are_told all_count_behind has_turn accesses_ahead is_ahead guards_sum passes facts_at left_alone known_at_start arrives stands extra adds is_dead is_widened
extra_9 = record { moved = Alu Add W64 R5 (FromReg R3); moved_is = refl; good = refl }

body_10 : IsBody old new notes bounds None 10 note_10
unfolding own_in pinned numbered reads_same result_term same_address is_common keeps paired made holds_behind are_told all_count_behind has_turn accesses_ahead is_ahead guards_sum passes facts_at left_alone known_at_start arrives stands extra adds is_dead is_widened
body_10 = record { insn = Load B R0 R3 (pos 0); insn_is = refl; moved = Load B R0 R5 (pos 0); moved_is = refl; same = false; same_is = (λ h. absurd (false≢true h), λ e. absurd (false≢true (sym (ap goes_by_r5 e)))); good = refl }

body_11 : IsBody old new notes bounds None 11 note_11
unfolding own_in pinned numbered reads_same result_term same_address is_common keeps paired made holds_behind are_told all_count_behind has_turn accesses_ahead is_ahead guards_sum passes facts_at left_alone known_at_start arrives stands extra adds is_dead is_widened
body_11 = record { insn = Exit; insn_is = refl; moved = Exit; moved_is = refl; same = true; same_is = (λ h. refl, λ h. refl); good = refl }

each : (slot : ℕ) → HoldsAt old new notes bounds None slot
each zero note e = subst (λ note. IsEither old new notes bounds None 0 note note.extras) (same_Some note_0 note e) extra_0
each (suc zero) note e = subst (λ note. IsEither old new notes bounds None 1 note note.extras) (same_Some note_1 note e) extra_1
each (suc (suc zero)) note e = subst (λ note. IsEither old new notes bounds None 2 note note.extras) (same_Some note_2 note e) body_2
each (suc (suc (suc zero))) note e = subst (λ note. IsEither old new notes bounds None 3 note note.extras) (same_Some note_3 note e) extra_3
each (suc (suc (suc (suc zero)))) note e = subst (λ note. IsEither old new notes bounds None 4 note note.extras) (same_Some note_4 note e) body_4
each (suc (suc (suc (suc (suc zero))))) note e = subst (λ note. IsEither old new notes bounds None 5 note note.extras) (same_Some note_5 note e) body_5
each (suc (suc (suc (suc (suc (suc zero)))))) note e = subst (λ note. IsEither old new notes bounds None 6 note note.extras) (same_Some note_6 note e) extra_6
each (suc (suc (suc (suc (suc (suc (suc zero))))))) note e = subst (λ note. IsEither old new notes bounds None 7 note note.extras) (same_Some note_7 note e) body_7
each (suc (suc (suc (suc (suc (suc (suc (suc zero)))))))) note e = subst (λ note. IsEither old new notes bounds None 8 note note.extras) (same_Some note_8 note e) extra_8
each (suc (suc (suc (suc (suc (suc (suc (suc (suc zero))))))))) note e = subst (λ note. IsEither old new notes bounds None 9 note note.extras) (same_Some note_9 note e) extra_9
each (suc (suc (suc (suc (suc (suc (suc (suc (suc (suc zero)))))))))) note e = subst (λ note. IsEither old new notes bounds None 10 note note.extras) (same_Some note_10 note e) body_10
each (suc (suc (suc (suc (suc (suc (suc (suc (suc (suc (suc zero))))))))))) note e = subst (λ note. IsEither old new notes bounds None 11 note note.extras) (same_Some note_11 note e) body_11
each (suc (suc (suc (suc (suc (suc (suc (suc (suc (suc (suc (suc n)))))))))))) note e = absurd (none-some note e)

pub matches : Matches old new notes bounds no_states
unfolding starts own_in pinned numbered reads_same result_term same_address is_common keeps paired made holds_behind are_told all_count_behind has_turn accesses_ahead is_ahead guards_sum passes facts_at left_alone known_at_start arrives stands extra adds
matches = record { short = omega arith; few_turns = omega arith; order_is = refl; few = omega arith; cuts = λ e. absurd (false≢true e); start = refl; each = each }
