-- An example that the definitions can be met in blocks: a byte tells where another one is, and what a hardener makes of it, with notes that match.
use Rattle.std.proofs.Common.{ℕ, zero, suc, refl, ap, subst, arith, Bool, true, false, [], ◌∷◌, Option, Some, None}
use Rattle.std.specs.Prelude.{pos, negsuc}
use Rattle.std.proofs.lemmas.Bool.{false≢true}
use Rattle.std.proofs.lemmas.Option.{none-some, same_Some}
use Rattle.bpf_insn.specs.Instruction.{Instructions}
use Rattle.bpf_insn.specs.declared.order.Order.TheVariants.{Little}
use Rattle.bpf_insn.specs.declared.instruction.Reg.TheVariants.{R0, R1, R2, R3, R4, R8, R9}
use Rattle.bpf_insn.specs.declared.instruction.Operand.TheVariants.{Imm, Reg as FromReg}
use Rattle.bpf_insn.specs.declared.instruction.Width.TheVariants.{W64}
use Rattle.bpf_insn.specs.declared.instruction.Size.TheVariants.{B}
use Rattle.bpf_insn.specs.declared.instruction.AluOp.TheVariants.{Add, Mov}
use Rattle.bpf_insn.specs.declared.instruction.Cond.TheVariants.{Gt, Lt}
use Rattle.bpf_insn.specs.declared.instruction.Insn.{Insn}
use Rattle.bpf_insn.specs.declared.instruction.Insn.TheVariants.{Alu, Load, JumpIf, Exit}
use Rattle.bpf_kept.specs.Far.{middle}
use Rattle.bpf_kept.specs.declared.notes.Holder.{Holder}
use Rattle.bpf_kept.specs.declared.notes.Holder.TheVariants.{Register, Length}
use Rattle.bpf_kept.specs.declared.notes.Fact.{Fact}
use Rattle.bpf_kept.specs.declared.notes.Note.{Note}
use Rattle.bpf_kept.specs.Meaning.{Bounds}
use Rattle.bpf_kept.specs.Terms.{Facts}
use Rattle.bpf_kept.specs.Rules.{own_in, pinned, numbered, reads_same, result_term, same_address, is_common, is_widened, keeps, paired}
use Rattle.bpf_kept.specs.Behind.{made, holds_behind, are_told, by_itself}
use Rattle.bpf_kept.specs.Ways.{is_dead}
use Rattle.bpf_kept.specs.States.{no_states}
use Rattle.bpf_kept.specs.Counters.{all_count_behind, has_turn}
use Rattle.bpf_kept.specs.Guards.{accesses_ahead, is_ahead, guards_sum, has_end, passes}
use Rattle.bpf_kept.specs.Matching.{Notes, loads_length, skips_cut, cuts_length, Cuts, facts_at, left_alone, known_at_start, arrives, starts, stands, extra, adds, IsBody, IsExtra, IsEither, HoldsAt, Matches}

-- a fact with a constant
abbrev fact : Option Holder → Option Holder → ℕ → Fact
fact of base moved = record { of = of; base = base; by = Some (record { frames = 0; moved = moved }) }

abbrev noted : ℕ → ℕ → Facts → Note
noted old extras facts = record { old = old; extras = extras; apart = []; zeros = []; facts = facts; counters = []; back = by_itself (Register R0) ∷ []; spare = None; barred = None }

-- blocks of 64 bytes
abbrev bounds : Bounds
bounds = record { length = 64; padded = true; turns = 65536; untouched = 0 }

-- what tells instructions apart
abbrev goes_by_r1 : Insn → Bool
goes_by_r1 (Load size dst R1 off) = true
goes_by_r1 i = false

-- the packet's first byte, and 2, is where the answer is
abbrev pub old : Instructions
old = record { order = Little; list = Load B R3 R1 (pos 0) ∷ Alu Add W64 R1 (FromReg R3) ∷ Load B R0 R1 (pos 2) ∷ Exit ∷ [] }

-- The new one computes with offsets into the block. r9 is where that begins, and r8 the packet's end.
abbrev pub new : Instructions
new = record { order = Little; list = loads_length ∷ skips_cut 56 ∷ cuts_length 56 ∷ Alu Mov W64 R9 (FromReg R1) ∷ Alu Mov W64 R8 (FromReg R2) ∷ Alu Add W64 R8 (Imm (pos 8)) ∷ Alu Mov W64 R1 (Imm (pos 8)) ∷ JumpIf Lt W64 R8 (Imm (pos 9)) (pos 8) ∷ Load B R3 R9 (pos 8) ∷ Alu Add W64 R1 (FromReg R3) ∷ Alu Mov W64 R4 (FromReg R1) ∷ Alu Add W64 R4 (Imm (pos 3)) ∷ JumpIf Gt W64 R4 (FromReg R8) (pos 3) ∷ Alu Add W64 R4 (FromReg R9) ∷ Load B R0 R4 (negsuc 0) ∷ Exit ∷ Alu Mov W64 R0 (Imm (pos 0)) ∷ Exit ∷ [] }

abbrev note_3 : Note
note_3 = noted 0 5 (fact (Some (Register R1)) None middle ∷ fact None (Some (Register R1)) 9223372036854775800 ∷ fact (Some (Register R2)) (Some Length) 0 ∷ [])

abbrev note_4 : Note
note_4 = noted 0 4 (fact (Some (Register R9)) None middle ∷ fact None (Some (Register R1)) 9223372036854775800 ∷ fact (Some (Register R2)) (Some Length) 0 ∷ [])

abbrev note_5 : Note
note_5 = noted 0 3 (fact (Some (Register R9)) None middle ∷ fact None (Some (Register R1)) 9223372036854775800 ∷ fact (Some (Register R8)) (Some Length) 0 ∷ [])

abbrev note_6 : Note
note_6 = noted 0 2 (fact (Some (Register R9)) None middle ∷ fact None (Some (Register R1)) 9223372036854775800 ∷ fact (Some (Register R8)) (Some Length) 8 ∷ [])

abbrev note_7 : Note
note_7 = noted 0 1 (fact (Some (Register R9)) None middle ∷ fact None (Some (Register R1)) 9223372036854775800 ∷ fact (Some (Register R8)) (Some Length) 8 ∷ fact (Some (Register R1)) (Some (Register R1)) middle ∷ [])

abbrev note_8 : Note
note_8 = noted 0 0 (fact (Some (Register R9)) None middle ∷ fact None (Some (Register R1)) 9223372036854775800 ∷ fact (Some (Register R8)) (Some Length) 8 ∷ fact (Some (Register R1)) (Some (Register R1)) middle ∷ [])

abbrev note_9 : Note
note_9 = noted 1 0 (fact (Some (Register R9)) None middle ∷ fact (Some (Register R8)) (Some Length) 8 ∷ fact (Some (Register R1)) (Some (Register R1)) middle ∷ fact (Some (Register R3)) (Some (Register R3)) 0 ∷ [])

abbrev note_10 : Note
note_10 = noted 2 4 (fact (Some (Register R9)) None middle ∷ fact (Some (Register R8)) (Some Length) 8 ∷ fact (Some (Register R1)) (Some (Register R1)) middle ∷ [])

abbrev note_11 : Note
note_11 = noted 2 3 (fact (Some (Register R9)) None middle ∷ fact (Some (Register R8)) (Some Length) 8 ∷ fact (Some (Register R4)) (Some (Register R1)) middle ∷ [])

abbrev note_12 : Note
note_12 = noted 2 2 (fact (Some (Register R9)) None middle ∷ fact (Some (Register R8)) (Some Length) 8 ∷ fact (Some (Register R4)) (Some (Register R1)) 9223372036854775811 ∷ [])

abbrev note_13 : Note
note_13 = noted 2 1 (fact (Some (Register R9)) None middle ∷ fact (Some (Register R4)) (Some (Register R1)) 9223372036854775811 ∷ [])

abbrev note_14 : Note
note_14 = noted 2 0 (fact (Some (Register R4)) (Some (Register R1)) 3 ∷ [])

abbrev note_15 : Note
note_15 = noted 3 0 (fact (Some (Register R0)) (Some (Register R0)) 0 ∷ [])

abbrev pub notes : Notes
notes = None ∷ None ∷ None ∷ Some note_3 ∷ Some note_4 ∷ Some note_5 ∷ Some note_6 ∷ Some note_7 ∷ Some note_8 ∷ Some note_9 ∷ Some note_10 ∷ Some note_11 ∷ Some note_12 ∷ Some note_13 ∷ Some note_14 ∷ Some note_15 ∷ []

-- ---- what is noted of each slot holds

extra_3 : IsExtra old new notes bounds None 3 note_3 4
unfolding own_in pinned numbered reads_same result_term same_address is_common keeps paired made holds_behind are_told all_count_behind has_turn accesses_ahead is_ahead guards_sum has_end passes facts_at left_alone known_at_start arrives stands extra adds is_dead is_widened
extra_3 = record { moved = Alu Mov W64 R9 (FromReg R1); moved_is = refl; good = refl }

extra_4 : IsExtra old new notes bounds None 4 note_4 3
unfolding own_in pinned numbered reads_same result_term same_address is_common keeps paired made holds_behind are_told all_count_behind has_turn accesses_ahead is_ahead guards_sum has_end passes facts_at left_alone known_at_start arrives stands extra adds is_dead is_widened
extra_4 = record { moved = Alu Mov W64 R8 (FromReg R2); moved_is = refl; good = refl }

extra_5 : IsExtra old new notes bounds None 5 note_5 2
unfolding own_in pinned numbered reads_same result_term same_address is_common keeps paired made holds_behind are_told all_count_behind has_turn accesses_ahead is_ahead guards_sum has_end passes facts_at left_alone known_at_start arrives stands extra adds is_dead is_widened
extra_5 = record { moved = Alu Add W64 R8 (Imm (pos 8)); moved_is = refl; good = refl }

extra_6 : IsExtra old new notes bounds None 6 note_6 1
unfolding own_in pinned numbered reads_same result_term same_address is_common keeps paired made holds_behind are_told all_count_behind has_turn accesses_ahead is_ahead guards_sum has_end passes facts_at left_alone known_at_start arrives stands extra adds is_dead is_widened
extra_6 = record { moved = Alu Mov W64 R1 (Imm (pos 8)); moved_is = refl; good = refl }

extra_7 : IsExtra old new notes bounds None 7 note_7 0
unfolding own_in pinned numbered reads_same result_term same_address is_common keeps paired made holds_behind are_told all_count_behind has_turn accesses_ahead is_ahead guards_sum has_end passes facts_at left_alone known_at_start arrives stands extra adds is_dead is_widened
extra_7 = record { moved = JumpIf Lt W64 R8 (Imm (pos 9)) (pos 8); moved_is = refl; good = refl }

body_8 : IsBody old new notes bounds None 8 note_8
unfolding own_in pinned numbered reads_same result_term same_address is_common keeps paired made holds_behind are_told all_count_behind has_turn accesses_ahead is_ahead guards_sum has_end passes facts_at left_alone known_at_start arrives stands extra adds is_dead is_widened
body_8 = record { insn = Load B R3 R1 (pos 0); insn_is = refl; moved = Load B R3 R9 (pos 8); moved_is = refl; same = false; same_is = (λ h. absurd (false≢true h), λ e. absurd (false≢true (ap goes_by_r1 e))); good = refl }

body_9 : IsBody old new notes bounds None 9 note_9
unfolding own_in pinned numbered reads_same result_term same_address is_common keeps paired made holds_behind are_told all_count_behind has_turn accesses_ahead is_ahead guards_sum has_end passes facts_at left_alone known_at_start arrives stands extra adds is_dead is_widened
body_9 = record { insn = Alu Add W64 R1 (FromReg R3); insn_is = refl; moved = Alu Add W64 R1 (FromReg R3); moved_is = refl; same = true; same_is = (λ h. refl, λ h. refl); good = refl }

extra_10 : IsExtra old new notes bounds None 10 note_10 3
unfolding own_in pinned numbered reads_same result_term same_address is_common keeps paired made holds_behind are_told all_count_behind has_turn accesses_ahead is_ahead guards_sum has_end passes facts_at left_alone known_at_start arrives stands extra adds is_dead is_widened
extra_10 = record { moved = Alu Mov W64 R4 (FromReg R1); moved_is = refl; good = refl }

extra_11 : IsExtra old new notes bounds None 11 note_11 2
unfolding own_in pinned numbered reads_same result_term same_address is_common keeps paired made holds_behind are_told all_count_behind has_turn accesses_ahead is_ahead guards_sum has_end passes facts_at left_alone known_at_start arrives stands extra adds is_dead is_widened
extra_11 = record { moved = Alu Add W64 R4 (Imm (pos 3)); moved_is = refl; good = refl }

extra_12 : IsExtra old new notes bounds None 12 note_12 1
unfolding own_in pinned numbered reads_same result_term same_address is_common keeps paired made holds_behind are_told all_count_behind has_turn accesses_ahead is_ahead guards_sum has_end passes facts_at left_alone known_at_start arrives stands extra adds is_dead is_widened
extra_12 = record { moved = JumpIf Gt W64 R4 (FromReg R8) (pos 3); moved_is = refl; good = refl }

extra_13 : IsExtra old new notes bounds None 13 note_13 0
unfolding own_in pinned numbered reads_same result_term same_address is_common keeps paired made holds_behind are_told all_count_behind has_turn accesses_ahead is_ahead guards_sum has_end passes facts_at left_alone known_at_start arrives stands extra adds is_dead is_widened
extra_13 = record { moved = Alu Add W64 R4 (FromReg R9); moved_is = refl; good = refl }

body_14 : IsBody old new notes bounds None 14 note_14
unfolding own_in pinned numbered reads_same result_term same_address is_common keeps paired made holds_behind are_told all_count_behind has_turn accesses_ahead is_ahead guards_sum has_end passes facts_at left_alone known_at_start arrives stands extra adds is_dead is_widened
body_14 = record { insn = Load B R0 R1 (pos 2); insn_is = refl; moved = Load B R0 R4 (negsuc 0); moved_is = refl; same = false; same_is = (λ h. absurd (false≢true h), λ e. absurd (false≢true (ap goes_by_r1 e))); good = refl }

body_15 : IsBody old new notes bounds None 15 note_15
unfolding own_in pinned numbered reads_same result_term same_address is_common keeps paired made holds_behind are_told all_count_behind has_turn accesses_ahead is_ahead guards_sum has_end passes facts_at left_alone known_at_start arrives stands extra adds is_dead is_widened
body_15 = record { insn = Exit; insn_is = refl; moved = Exit; moved_is = refl; same = true; same_is = (λ h. refl, λ h. refl); good = refl }

each : (slot : ℕ) → HoldsAt old new notes bounds None slot
each zero note e = absurd (none-some note e)
each (suc zero) note e = absurd (none-some note e)
each (suc (suc zero)) note e = absurd (none-some note e)
each (suc (suc (suc zero))) note e = subst (λ note. IsEither old new notes bounds None 3 note note.extras) (same_Some note_3 note e) extra_3
each (suc (suc (suc (suc zero)))) note e = subst (λ note. IsEither old new notes bounds None 4 note note.extras) (same_Some note_4 note e) extra_4
each (suc (suc (suc (suc (suc zero))))) note e = subst (λ note. IsEither old new notes bounds None 5 note note.extras) (same_Some note_5 note e) extra_5
each (suc (suc (suc (suc (suc (suc zero)))))) note e = subst (λ note. IsEither old new notes bounds None 6 note note.extras) (same_Some note_6 note e) extra_6
each (suc (suc (suc (suc (suc (suc (suc zero))))))) note e = subst (λ note. IsEither old new notes bounds None 7 note note.extras) (same_Some note_7 note e) extra_7
each (suc (suc (suc (suc (suc (suc (suc (suc zero)))))))) note e = subst (λ note. IsEither old new notes bounds None 8 note note.extras) (same_Some note_8 note e) body_8
each (suc (suc (suc (suc (suc (suc (suc (suc (suc zero))))))))) note e = subst (λ note. IsEither old new notes bounds None 9 note note.extras) (same_Some note_9 note e) body_9
each (suc (suc (suc (suc (suc (suc (suc (suc (suc (suc zero)))))))))) note e = subst (λ note. IsEither old new notes bounds None 10 note note.extras) (same_Some note_10 note e) extra_10
each (suc (suc (suc (suc (suc (suc (suc (suc (suc (suc (suc zero))))))))))) note e = subst (λ note. IsEither old new notes bounds None 11 note note.extras) (same_Some note_11 note e) extra_11
each (suc (suc (suc (suc (suc (suc (suc (suc (suc (suc (suc (suc zero)))))))))))) note e = subst (λ note. IsEither old new notes bounds None 12 note note.extras) (same_Some note_12 note e) extra_12
each (suc (suc (suc (suc (suc (suc (suc (suc (suc (suc (suc (suc (suc zero))))))))))))) note e = subst (λ note. IsEither old new notes bounds None 13 note note.extras) (same_Some note_13 note e) extra_13
each (suc (suc (suc (suc (suc (suc (suc (suc (suc (suc (suc (suc (suc (suc zero)))))))))))))) note e = subst (λ note. IsEither old new notes bounds None 14 note note.extras) (same_Some note_14 note e) body_14
each (suc (suc (suc (suc (suc (suc (suc (suc (suc (suc (suc (suc (suc (suc (suc zero))))))))))))))) note e = subst (λ note. IsEither old new notes bounds None 15 note note.extras) (same_Some note_15 note e) body_15
each (suc (suc (suc (suc (suc (suc (suc (suc (suc (suc (suc (suc (suc (suc (suc (suc n)))))))))))))))) note e = absurd (none-some note e)

cut : Cuts new 64
cut = record { has_head = omega arith; fits_constant = omega arith; loads = refl; skips = refl; cuts = refl }

pub matches : Matches old new notes bounds no_states
unfolding own_in pinned numbered reads_same result_term same_address is_common keeps paired made holds_behind are_told all_count_behind has_turn accesses_ahead is_ahead guards_sum has_end passes facts_at left_alone known_at_start arrives stands extra adds starts is_dead is_widened
matches = record { short = omega arith; few_turns = omega arith; order_is = refl; few = omega arith; cuts = λ e. cut; start = refl; each = each }
