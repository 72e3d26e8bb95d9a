-- An atomic operation: the old program adds to a slot of the frame by a pointer, and fetches. The new one does so by an offset, behind a guard.
use Rattle.std.proofs.Common.{refl, sym, ap, Bool, true, false, [], ◌∷◌, Some, None}
use Rattle.std.specs.Prelude.{pos, negsuc}
use Rattle.std.proofs.lemmas.Bool.{false≢true}
use Rattle.bpf_insn.specs.Instruction.{Instructions}
use Rattle.bpf_insn.specs.declared.order.Order.TheVariants.{Little}
use Rattle.bpf_insn.specs.declared.instruction.Reg.TheVariants.{R0, R1, R3, R5, R10}
use Rattle.bpf_insn.specs.declared.instruction.Operand.TheVariants.{Imm, Reg as FromReg}
use Rattle.bpf_insn.specs.declared.instruction.Width.TheVariants.{W64}
use Rattle.bpf_insn.specs.declared.instruction.Size.TheVariants.{DW}
use Rattle.bpf_insn.specs.declared.instruction.AluOp.TheVariants.{Add, Mov}
use Rattle.bpf_insn.specs.declared.instruction.Cond.TheVariants.{Gt}
use Rattle.bpf_insn.specs.declared.instruction.Modify.TheVariants.{Add as AddTo}
use Rattle.bpf_insn.specs.declared.instruction.AtomicOp.TheVariants.{Modify as Changes}
use Rattle.bpf_insn.specs.declared.instruction.Insn.{Insn}
use Rattle.bpf_insn.specs.declared.instruction.Insn.TheVariants.{Alu, StoreImm, Atomic, JumpIf, Exit}
use Rattle.bpf_kept.specs.declared.notes.Note.{Note}
use Rattle.bpf_kept.specs.Rules.{own_in, pinned, numbered, reads_same, result_term, same_address, is_common, is_widened, keeps, paired}
use Rattle.bpf_kept.specs.Behind.{made, holds_behind, are_told}
use Rattle.bpf_kept.specs.Ways.{is_dead}
use Rattle.bpf_kept.specs.Counters.{all_count_behind, has_turn}
use Rattle.bpf_kept.specs.Guards.{accesses_ahead, is_ahead, guards_sum, passes}
use Rattle.bpf_kept.specs.Matching.{Notes, facts_at, left_alone, known_at_start, arrives, stands, extra, adds, IsBody, IsExtra}
use Rattle.bpf_kept.proofs.Example.{fact, noted, bounds}

abbrev adds_by_r5 : Insn → Bool
adds_by_r5 (Atomic wide op R5 off src) = true
adds_by_r5 i = false

-- It adds 7 to 5, and answers what was there.
abbrev pub old : Instructions
old = record { order = Little; list = Alu Mov W64 R3 (FromReg R10) ∷ StoreImm DW R10 (negsuc 7) (pos 5) ∷ Alu Mov W64 R1 (Imm (pos 7)) ∷ Atomic true (Changes AddTo true) R3 (negsuc 7) R1 ∷ Alu Mov W64 R0 (FromReg R1) ∷ Exit ∷ [] }

-- The new one has the offset in r3, and makes the address of it in r5.
abbrev pub new : Instructions
new = record { order = Little; list = Alu Mov W64 R3 (Imm (pos 512)) ∷ StoreImm DW R10 (negsuc 7) (pos 5) ∷ Alu Mov W64 R1 (Imm (pos 7)) ∷ JumpIf Gt W64 R3 (Imm (pos 512)) (pos 6) ∷ Alu Mov W64 R5 (FromReg R3) ∷ Alu Add W64 R5 (FromReg R10) ∷ Alu Add W64 R5 (Imm (negsuc 511)) ∷ Atomic true (Changes AddTo true) R5 (negsuc 7) R1 ∷ Alu Mov W64 R0 (FromReg R1) ∷ Exit ∷ Alu Mov W64 R0 (Imm (pos 0)) ∷ Exit ∷ [] }

abbrev note_0 : Note
note_0 = noted 0 0 []

abbrev note_1 : Note
note_1 = noted 1 0 (fact (Some R3) (Some R3) 1 0 ∷ [])

abbrev note_2 : Note
note_2 = noted 2 0 (fact (Some R3) (Some R3) 1 0 ∷ [])

abbrev note_3 : Note
note_3 = noted 3 4 (fact (Some R3) (Some R3) 1 0 ∷ fact (Some R1) (Some R1) 0 0 ∷ [])

abbrev note_4 : Note
note_4 = noted 3 3 (fact (Some R3) (Some R3) 1 0 ∷ fact (Some R1) (Some R1) 0 0 ∷ [])

abbrev note_5 : Note
note_5 = noted 3 2 (fact (Some R5) (Some R3) 1 0 ∷ fact (Some R1) (Some R1) 0 0 ∷ [])

abbrev note_6 : Note
note_6 = noted 3 1 (fact (Some R5) (Some R3) 0 512 ∷ fact (Some R1) (Some R1) 0 0 ∷ [])

abbrev note_7 : Note
note_7 = noted 3 0 (fact (Some R5) (Some R3) 0 0 ∷ fact (Some R1) (Some R1) 0 0 ∷ [])

-- behind it both have the same in r1: what was there
abbrev note_8 : Note
note_8 = noted 4 0 (fact (Some R1) (Some R1) 0 0 ∷ [])

abbrev note_9 : Note
note_9 = noted 5 0 (fact (Some R0) (Some R0) 0 0 ∷ [])

abbrev pub notes : Notes
notes = Some note_0 ∷ Some note_1 ∷ Some note_2 ∷ Some note_3 ∷ Some note_4 ∷ Some note_5 ∷ Some note_6 ∷ Some note_7 ∷ Some note_8 ∷ Some note_9 ∷ []

-- ---- what is noted of the guard and of the operations holds

pub guard : IsExtra old new notes bounds None 3 note_3 3
unfolding own_in pinned numbered reads_same result_term same_address is_common keeps paired made holds_behind are_told all_count_behind has_turn accesses_ahead is_ahead guards_sum passes facts_at left_alone known_at_start arrives stands extra adds is_dead is_widened
guard = record { moved = JumpIf Gt W64 R3 (Imm (pos 512)) (pos 6); moved_is = refl; good = refl }

pub address : IsExtra old new notes bounds None 6 note_6 0
unfolding own_in pinned numbered reads_same result_term same_address is_common keeps paired made holds_behind are_told all_count_behind has_turn accesses_ahead is_ahead guards_sum passes facts_at left_alone known_at_start arrives stands extra adds is_dead is_widened
address = record { moved = Alu Add W64 R5 (Imm (negsuc 511)); moved_is = refl; good = refl }

pub operation : IsBody old new notes bounds None 7 note_7
unfolding own_in pinned numbered reads_same result_term same_address is_common keeps paired made holds_behind are_told all_count_behind has_turn accesses_ahead is_ahead guards_sum passes facts_at left_alone known_at_start arrives stands extra adds is_dead is_widened
operation =
    record {
      insn = Atomic true (Changes AddTo true) R3 (negsuc 7) R1;
      insn_is = refl;
      moved = Atomic true (Changes AddTo true) R5 (negsuc 7) R1;
      moved_is = refl;
      same = false;
      same_is = (λ h. absurd (false≢true h), λ e. absurd (false≢true (sym (ap adds_by_r5 e))));
      good = refl;
    }

pub fetched : IsBody old new notes bounds None 8 note_8
unfolding own_in pinned numbered reads_same result_term same_address is_common keeps paired made holds_behind are_told all_count_behind has_turn accesses_ahead is_ahead guards_sum passes facts_at left_alone known_at_start arrives stands extra adds is_dead is_widened
fetched = record { insn = Alu Mov W64 R0 (FromReg R1); insn_is = refl; moved = Alu Mov W64 R0 (FromReg R1); moved_is = refl; same = true; same_is = (λ h. refl, λ h. refl); good = refl }
