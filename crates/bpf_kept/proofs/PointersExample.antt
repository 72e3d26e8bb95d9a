-- Two facts of one register: r9 is where the context begins, and what the old program has in r1, until that is overwritten.
use Rattle.std.proofs.Common.{ℕ, zero, suc, refl, sym, ap, subst, arith, true, false, [], ◌∷◌, Some, None}
use Rattle.std.specs.Prelude.{pos}
use Rattle.std.proofs.lemmas.Bool.{false≢true}
use Rattle.std.proofs.lemmas.Option.{none-some, same_Some}
use Rattle.bpf_insn.specs.Instruction.{Instructions}
use Rattle.bpf_insn.specs.declared.order.Order.TheVariants.{Little}
use Rattle.bpf_insn.specs.declared.instruction.Reg.TheVariants.{R0, R1, R3, R4, R5, R9}
use Rattle.bpf_insn.specs.declared.instruction.Operand.TheVariants.{Imm, Reg as FromReg}
use Rattle.bpf_insn.specs.declared.instruction.Width.TheVariants.{W64}
use Rattle.bpf_insn.specs.declared.instruction.Size.TheVariants.{B}
use Rattle.bpf_insn.specs.declared.instruction.AluOp.TheVariants.{Add, Mov}
use Rattle.bpf_insn.specs.declared.instruction.Cond.TheVariants.{Gt}
use Rattle.bpf_insn.specs.declared.instruction.Insn.TheVariants.{Alu, Load, JumpIf, Exit}
use Rattle.bpf_kept.specs.Far.{middle}
use Rattle.bpf_kept.specs.declared.notes.Note.{Note}
use Rattle.bpf_kept.specs.Rules.{own_in, pinned, numbered, reads_same, result_term, same_address, is_common, is_widened, keeps, paired}
use Rattle.bpf_kept.specs.Behind.{made, holds_behind, are_told}
use Rattle.bpf_kept.specs.Ways.{is_dead}
use Rattle.bpf_kept.specs.States.{no_states}
use Rattle.bpf_kept.specs.Counters.{all_count_behind, has_turn}
use Rattle.bpf_kept.specs.Guards.{accesses_ahead, is_ahead, guards_sum, passes}
use Rattle.bpf_kept.specs.Matching.{Notes, facts_at, left_alone, known_at_start, arrives, starts, stands, extra, adds, IsBody, IsExtra, IsEither, HoldsAt, Matches}
use Rattle.bpf_kept.proofs.Example.{fact, noted, bounds, goes_by_r5, goes_by_r9}

-- A byte of the context is the index of another one.
abbrev pub old : Instructions
old = record { order = Little; list = Load B R4 R1 (pos 12) ∷ Alu Mov W64 R3 (FromReg R1) ∷ Alu Mov W64 R1 (Imm (pos 0)) ∷ Alu Add W64 R3 (FromReg R4) ∷ Load B R0 R3 (pos 1) ∷ Exit ∷ [] }

-- The new one reads the first by r9 as it is, and the second by an offset and r9.
abbrev pub new : Instructions
new = record { order = Little; list = Alu Mov W64 R9 (FromReg R1) ∷ Alu Mov W64 R1 (Imm (pos 0)) ∷ Load B R4 R9 (pos 12) ∷ Alu Mov W64 R3 (FromReg R1) ∷ Alu Mov W64 R1 (Imm (pos 0)) ∷ Alu Add W64 R3 (FromReg R4) ∷ Alu Mov W64 R5 (FromReg R3) ∷ Alu Add W64 R5 (Imm (pos 1)) ∷ JumpIf Gt W64 R5 (Imm (pos 63)) (pos 3) ∷ Alu Add W64 R5 (FromReg R9) ∷ Load B R0 R5 (pos 0) ∷ Exit ∷ Alu Mov W64 R0 (Imm (pos 0)) ∷ Exit ∷ [] }

abbrev note_0 : Note
note_0 = noted 0 2 (fact (Some R1) (None) 0 middle ∷ fact (None) (Some R1) 0 middle ∷ fact (Some R1) (Some R1) 0 0 ∷ [])

abbrev note_1 : Note
note_1 = noted 0 1 (fact (None) (Some R1) 0 middle ∷ fact (Some R9) (None) 0 middle ∷ fact (Some R9) (Some R1) 0 0 ∷ [])

abbrev note_2 : Note
note_2 = noted 0 0 (fact (Some R1) (Some R1) 0 middle ∷ fact (Some R9) (None) 0 middle ∷ fact (Some R9) (Some R1) 0 0 ∷ [])

abbrev note_3 : Note
note_3 = noted 1 0 (fact (Some R1) (Some R1) 0 middle ∷ fact (Some R9) (None) 0 middle ∷ fact (Some R9) (Some R1) 0 0 ∷ fact (Some R4) (Some R4) 0 0 ∷ [])

abbrev note_4 : Note
note_4 = noted 2 0 (fact (Some R9) (None) 0 middle ∷ fact (Some R9) (Some R1) 0 0 ∷ fact (Some R3) (Some R3) 0 middle ∷ fact (Some R4) (Some R4) 0 0 ∷ [])

abbrev note_5 : Note
note_5 = noted 3 0 (fact (Some R9) (None) 0 middle ∷ fact (Some R3) (Some R3) 0 middle ∷ fact (Some R4) (Some R4) 0 0 ∷ [])

abbrev note_6 : Note
note_6 = noted 4 4 (fact (Some R9) (None) 0 middle ∷ fact (Some R3) (Some R3) 0 middle ∷ [])

abbrev note_7 : Note
note_7 = noted 4 3 (fact (Some R9) (None) 0 middle ∷ fact (Some R3) (Some R3) 0 middle ∷ fact (Some R5) (Some R3) 0 middle ∷ [])

abbrev note_8 : Note
note_8 = noted 4 2 (fact (Some R9) (None) 0 middle ∷ fact (Some R3) (Some R3) 0 middle ∷ fact (Some R5) (Some R3) 0 9223372036854775809 ∷ [])

abbrev note_9 : Note
note_9 = noted 4 1 (fact (Some R9) (None) 0 middle ∷ fact (Some R3) (Some R3) 0 middle ∷ fact (Some R5) (Some R3) 0 9223372036854775809 ∷ [])

abbrev note_10 : Note
note_10 = noted 4 0 (fact (Some R5) (Some R3) 0 1 ∷ [])

abbrev note_11 : Note
note_11 = noted 5 0 (fact (Some R0) (Some R0) 0 0 ∷ [])

abbrev pub notes : Notes
notes = Some note_0 ∷ Some note_1 ∷ Some note_2 ∷ Some note_3 ∷ Some note_4 ∷ Some note_5 ∷ Some note_6 ∷ Some note_7 ∷ Some note_8 ∷ Some note_9 ∷ Some note_10 ∷ Some note_11 ∷ []

-- ---- what is noted of each slot holds

extra_0 : IsExtra old new notes bounds None 0 note_0 1
unfolding own_in pinned numbered reads_same result_term same_address is_common keeps paired made holds_behind are_told all_count_behind has_turn accesses_ahead is_ahead guards_sum passes facts_at left_alone known_at_start arrives stands extra adds is_dead is_widened
extra_0 = record { moved = Alu Mov W64 R9 (FromReg R1); moved_is = refl; good = refl }

extra_1 : IsExtra old new notes bounds None 1 note_1 0
unfolding own_in pinned numbered reads_same result_term same_address is_common keeps paired made holds_behind are_told all_count_behind has_turn accesses_ahead is_ahead guards_sum passes facts_at left_alone known_at_start arrives stands extra adds is_dead is_widened
extra_1 = record { moved = Alu Mov W64 R1 (Imm (pos 0)); moved_is = refl; good = refl }

body_2 : IsBody old new notes bounds None 2 note_2
unfolding own_in pinned numbered reads_same result_term same_address is_common keeps paired made holds_behind are_told all_count_behind has_turn accesses_ahead is_ahead guards_sum passes facts_at left_alone known_at_start arrives stands extra adds is_dead is_widened
body_2 = record { insn = Load B R4 R1 (pos 12); insn_is = refl; moved = Load B R4 R9 (pos 12); moved_is = refl; same = false; same_is = (λ h. absurd (false≢true h), λ e. absurd (false≢true (sym (ap goes_by_r9 e)))); good = refl }

body_3 : IsBody old new notes bounds None 3 note_3
unfolding own_in pinned numbered reads_same result_term same_address is_common keeps paired made holds_behind are_told all_count_behind has_turn accesses_ahead is_ahead guards_sum passes facts_at left_alone known_at_start arrives stands extra adds is_dead is_widened
body_3 = record { insn = Alu Mov W64 R3 (FromReg R1); insn_is = refl; moved = Alu Mov W64 R3 (FromReg R1); moved_is = refl; same = true; same_is = (λ h. refl, λ h. refl); good = refl }

body_4 : IsBody old new notes bounds None 4 note_4
unfolding own_in pinned numbered reads_same result_term same_address is_common keeps paired made holds_behind are_told all_count_behind has_turn accesses_ahead is_ahead guards_sum passes facts_at left_alone known_at_start arrives stands extra adds is_dead is_widened
body_4 = record { insn = Alu Mov W64 R1 (Imm (pos 0)); insn_is = refl; moved = Alu Mov W64 R1 (Imm (pos 0)); moved_is = refl; same = true; same_is = (λ h. refl, λ h. refl); good = refl }

body_5 : IsBody old new notes bounds None 5 note_5
unfolding own_in pinned numbered reads_same result_term same_address is_common keeps paired made holds_behind are_told all_count_behind has_turn accesses_ahead is_ahead guards_sum passes facts_at left_alone known_at_start arrives stands extra adds is_dead is_widened
body_5 = record { insn = Alu Add W64 R3 (FromReg R4); insn_is = refl; moved = Alu Add W64 R3 (FromReg R4); moved_is = refl; same = true; same_is = (λ h. refl, λ h. refl); good = refl }

extra_6 : IsExtra old new notes bounds None 6 note_6 3
unfolding own_in pinned numbered reads_same result_term same_address is_common keeps paired made holds_behind are_told all_count_behind has_turn accesses_ahead is_ahead guards_sum passes facts_at left_alone known_at_start arrives stands extra adds is_dead is_widened
extra_6 = record { moved = Alu Mov W64 R5 (FromReg R3); moved_is = refl; good = refl }

extra_7 : IsExtra old new notes bounds None 7 note_7 2
unfolding own_in pinned numbered reads_same result_term same_address is_common keeps paired made holds_behind are_told all_count_behind has_turn accesses_ahead is_ahead guards_sum passes facts_at left_alone known_at_start arrives stands extra adds is_dead is_widened
extra_7 = record { moved = Alu Add W64 R5 (Imm (pos 1)); moved_is = refl; good = refl }

extra_8 : IsExtra old new notes bounds None 8 note_8 1
unfolding own_in pinned numbered reads_same result_term same_address is_common keeps paired made holds_behind are_told all_count_behind has_turn accesses_ahead is_ahead guards_sum passes facts_at left_alone known_at_start arrives stands extra adds is_dead is_widened
extra_8 = record { moved = JumpIf Gt W64 R5 (Imm (pos 63)) (pos 3); moved_is = refl; good = refl }

extra_9 : IsExtra old new notes bounds None 9 note_9 0
unfolding own_in pinned numbered reads_same result_term same_address is_common keeps paired made holds_behind are_told all_count_behind has_turn accesses_ahead is_ahead guards_sum passes facts_at left_alone known_at_start arrives stands extra adds is_dead is_widened
extra_9 = record { moved = Alu Add W64 R5 (FromReg R9); moved_is = refl; good = refl }

body_10 : IsBody old new notes bounds None 10 note_10
unfolding own_in pinned numbered reads_same result_term same_address is_common keeps paired made holds_behind are_told all_count_behind has_turn accesses_ahead is_ahead guards_sum passes facts_at left_alone known_at_start arrives stands extra adds is_dead is_widened
body_10 = record { insn = Load B R0 R3 (pos 1); insn_is = refl; moved = Load B R0 R5 (pos 0); moved_is = refl; same = false; same_is = (λ h. absurd (false≢true h), λ e. absurd (false≢true (sym (ap goes_by_r5 e)))); good = refl }

body_11 : IsBody old new notes bounds None 11 note_11
unfolding own_in pinned numbered reads_same result_term same_address is_common keeps paired made holds_behind are_told all_count_behind has_turn accesses_ahead is_ahead guards_sum passes facts_at left_alone known_at_start arrives stands extra adds is_dead is_widened
body_11 = record { insn = Exit; insn_is = refl; moved = Exit; moved_is = refl; same = true; same_is = (λ h. refl, λ h. refl); good = refl }

each : (slot : ℕ) → HoldsAt old new notes bounds None slot
each zero note e = subst (λ note. IsEither old new notes bounds None 0 note note.extras) (same_Some note_0 note e) extra_0
each (suc zero) note e = subst (λ note. IsEither old new notes bounds None 1 note note.extras) (same_Some note_1 note e) extra_1
each (suc (suc zero)) note e = subst (λ note. IsEither old new notes bounds None 2 note note.extras) (same_Some note_2 note e) body_2
each (suc (suc (suc zero))) note e = subst (λ note. IsEither old new notes bounds None 3 note note.extras) (same_Some note_3 note e) body_3
each (suc (suc (suc (suc zero)))) note e = subst (λ note. IsEither old new notes bounds None 4 note note.extras) (same_Some note_4 note e) body_4
each (suc (suc (suc (suc (suc zero))))) note e = subst (λ note. IsEither old new notes bounds None 5 note note.extras) (same_Some note_5 note e) body_5
each (suc (suc (suc (suc (suc (suc zero)))))) note e = subst (λ note. IsEither old new notes bounds None 6 note note.extras) (same_Some note_6 note e) extra_6
each (suc (suc (suc (suc (suc (suc (suc zero))))))) note e = subst (λ note. IsEither old new notes bounds None 7 note note.extras) (same_Some note_7 note e) extra_7
each (suc (suc (suc (suc (suc (suc (suc (suc zero)))))))) note e = subst (λ note. IsEither old new notes bounds None 8 note note.extras) (same_Some note_8 note e) extra_8
each (suc (suc (suc (suc (suc (suc (suc (suc (suc zero))))))))) note e = subst (λ note. IsEither old new notes bounds None 9 note note.extras) (same_Some note_9 note e) extra_9
each (suc (suc (suc (suc (suc (suc (suc (suc (suc (suc zero)))))))))) note e = subst (λ note. IsEither old new notes bounds None 10 note note.extras) (same_Some note_10 note e) body_10
each (suc (suc (suc (suc (suc (suc (suc (suc (suc (suc (suc zero))))))))))) note e = subst (λ note. IsEither old new notes bounds None 11 note note.extras) (same_Some note_11 note e) body_11
each (suc (suc (suc (suc (suc (suc (suc (suc (suc (suc (suc (suc n)))))))))))) note e = absurd (none-some note e)

pub matches : Matches old new notes bounds no_states
unfolding starts own_in pinned numbered reads_same result_term same_address is_common keeps paired made holds_behind are_told all_count_behind has_turn accesses_ahead is_ahead guards_sum passes facts_at left_alone known_at_start arrives stands extra adds
matches = record { short = omega arith; few_turns = omega arith; order_is = refl; few = omega arith; cuts = λ e. absurd (false≢true e); start = refl; each = each }
