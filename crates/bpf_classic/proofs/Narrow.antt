-- No instruction of a converted filter has two slots.
use Rattle.std.proofs.Common.{◌≡◌, ℕ, ◌+◌, List, [], ◌∷◌, ◌++◌, length, Bool, true, false, cond, Option, Some, None, refl}
use Rattle.std.specs.Prelude.{ℤ, pos, nat_lt, flat_map, not, ◌&&◌, ◌==◌}
use Rattle.std.specs.List.{range_with_len}
use Rattle.bpf_insn.specs.declared.instruction.Reg.{Reg}
use Rattle.bpf_insn.specs.declared.instruction.Reg.TheVariants.{R0, R1, R2, R3, R5, R10}
use Rattle.bpf_insn.specs.declared.instruction.Operand.TheVariants.{Imm}
use Rattle.bpf_insn.specs.declared.instruction.Width.TheVariants.{W32, W64}
use Rattle.bpf_insn.specs.declared.instruction.Size.TheVariants.{B, DW}
use Rattle.bpf_insn.specs.declared.instruction.AluOp.TheVariants.{And as AndWith, Lsh as ShiftUp, Mov}
use Rattle.bpf_insn.specs.declared.instruction.Cond.TheVariants.{Eq as IsEq, Lt as IsLt}
use Rattle.bpf_insn.specs.declared.instruction.Insn.TheVariants.{Alu as AluInsn, Load as LoadInsn, StoreImm, Ja, JumpIf as JumpIfInsn}
use Rattle.bpf_classic.specs.Auxiliary.{offset_of}
use Rattle.bpf_classic.specs.Machine.{shifts, divides, same_op, same_test}
use Rattle.bpf_insn.specs.declared.instruction.Cond.{Cond}
use Rattle.bpf_insn.specs.declared.instruction.EndBits.{EndBits}
use Rattle.bpf_insn.specs.declared.instruction.Insn.{Insn}
use Rattle.bpf_classic.specs.declared.instruction.Source.{Source}
use Rattle.bpf_classic.specs.declared.instruction.Test.{Test}
use Rattle.bpf_classic.specs.declared.instruction.Op.{Op}
use Rattle.bpf_classic.specs.declared.instruction.LoadSize.{LoadSize}
use Rattle.bpf_classic.specs.declared.instruction.Classic.{Classic}
use Rattle.bpf_classic.specs.declared.instruction.Classic.TheVariants.{Constant, Length, Cell, Store, At, Index, Header, Extension, Alu, Neg, Jump, Back, JumpIf, Return, ReturnA, Tax, Txa}
use Rattle.bpf_classic.specs.Template.{head, is_block, is_swapped, is_masked, word_insn, is_register, is_beyond, is_loaded, insn_size, need, constant, operand_of, cell_offset, room_insns, swap_if, swap_of, length_test, load_code, any_load_code, length_insn, length_offset, alu_code, inverse, jump_code, unless_code, if_code, code_of, template, total, ahead_in, trap_code, code, room_code, turns_code, zero_if, zero_cell, entry, whole, reg_of, end_bits}
use Rattle.bpf_classic.specs.declared.layout.Form.{Form}
use Rattle.bpf_classic.specs.declared.layout.Form.TheVariants.{Blocks, Plain, Seccomp, Extended}
use Rattle.bpf_classic.specs.declared.layout.Layout.{Layout}
use Rattle.bpf_classic.specs.declared.layout.Annotated.{Annotated}
use Rattle.bpf_classic.proofs.Steps.{is_narrow, AreNarrow, narrow_both}

narrow_cond : (t : Bool) (a b : List Insn) → AreNarrow a → AreNarrow b → AreNarrow (cond t a b)
narrow_cond true a b x y = x
narrow_cond false a b x y = y

narrow_swap_if : (o : Option EndBits) → AreNarrow (swap_if o)
narrow_swap_if None = tt
narrow_swap_if (Some bits) = (refl, tt)

narrow_swap : (l : Layout) (size : LoadSize) → AreNarrow (swap_of l size)
narrow_swap l size = narrow_cond (is_swapped l) (swap_if (end_bits size)) [] (narrow_swap_if (end_bits size)) tt

narrow_test : (a : Annotated) (behind out : ℕ) → AreNarrow (length_test a behind out)
narrow_test a behind out = narrow_cond (nat_lt a.known (need a.insn)) (JumpIfInsn IsLt W64 R2 (constant (need a.insn)) (pos (out + behind)) ∷ []) [] (refl, tt) tt

narrow_load : (l : Layout) (a : Annotated) (i : Classic) (out : ℕ) → AreNarrow (load_code l a i out)
narrow_load l a (At size k) out =
    let behind = 1 + length (swap_of l size) in
    let tail : List Insn = LoadInsn (insn_size size) R0 R1 (pos (head l.form + k)) ∷ swap_of l size in
    narrow_both (length_test a behind out) tail (narrow_test a behind out) (refl, narrow_swap l size)
narrow_load l a (Index size k) out = (refl, (refl, (refl, (refl, (refl, narrow_swap l size)))))
narrow_load l a (Header k) out =
    let tail : List Insn = LoadInsn B R3 R1 (pos (head l.form + k)) ∷ AluInsn AndWith W32 R3 (Imm (pos 15)) ∷ AluInsn ShiftUp W32 R3 (Imm (pos 2)) ∷ [] in
    narrow_both (length_test a 3 out) tail (narrow_test a 3 out) (refl, (refl, (refl, tt)))
narrow_load l a (Constant to k) out = tt
narrow_load l a (Length to) out = tt
narrow_load l a (Cell to cell) out = tt
narrow_load l a (Store from cell) out = tt
narrow_load l a (Extension word) out = tt
narrow_load l a (Alu op source) out = tt
narrow_load l a Neg out = tt
narrow_load l a (Jump k) out = tt
narrow_load l a (Back k) out = tt
narrow_load l a (JumpIf test source jt jf) out = tt
narrow_load l a (Return k) out = tt
narrow_load l a ReturnA out = tt
narrow_load l a Tax out = tt
narrow_load l a Txa out = tt

narrow_any_load : (l : Layout) (a : Annotated) (i : Classic) (out : ℕ) → AreNarrow (any_load_code l a i out)
narrow_any_load l a i out = narrow_cond (is_beyond l i) (Ja (pos out) ∷ []) (load_code l a i out) (refl, tt) (narrow_load l a i out)

narrow_length : (form : Form) (offset : ℤ) (r : Reg) → is_narrow (length_insn form offset r) ≡ true
narrow_length Blocks offset r = refl
narrow_length Plain offset r = refl
narrow_length Seccomp offset r = refl
narrow_length Extended offset r = refl

narrow_word : (form : Form) (offset : ℕ) → is_narrow (word_insn form offset) ≡ true
narrow_word Blocks offset = refl
narrow_word Plain offset = refl
narrow_word Seccomp offset = refl
narrow_word Extended offset = refl

narrow_alu : (l : Layout) (op : Op) (source : Source) (out : ℕ) → AreNarrow (alu_code l op source out)
narrow_alu l op source out =
    let it : Insn = AluInsn (same_op op) W32 R0 (operand_of source) in
    let two : List Insn = JumpIfInsn IsEq W32 R3 (Imm (pos 0)) (pos (out + 1)) ∷ it ∷ [] in
    let three : List Insn = JumpIfInsn IsLt W32 R3 (Imm (pos 32)) (pos 1) ∷ AluInsn Mov W32 R0 (Imm (pos 0)) ∷ it ∷ [] in
    let shift = is_register source && (shifts op && not (is_masked l)) in
    narrow_cond (is_register source && divides op) two (cond shift three (it ∷ [])) (refl, (refl, tt)) (narrow_cond shift three (it ∷ []) (refl, (refl, (refl, tt))) (refl, tt))

narrow_jump : (k d : ℕ) → AreNarrow (jump_code k d)
narrow_jump k d = narrow_cond (k == 0) [] (Ja (pos d) ∷ []) tt (refl, tt)

narrow_unless : (o : Option Cond) (source : Source) (d : ℕ) → AreNarrow (unless_code o source d)
narrow_unless None source d = (refl, (refl, tt))
narrow_unless (Some test) source d = (refl, tt)

narrow_if : (test : Test) (source : Source) (jt jf a b : ℕ) → AreNarrow (if_code test source jt jf a b)
narrow_if test source jt jf a b =
    let full : List Insn = JumpIfInsn (same_test test) W32 R0 (operand_of source) (pos (a + length (jump_code jf 0))) ∷ jump_code jf b in
    let less : List Insn = unless_code (inverse test) source b in
    narrow_cond (jt == jf) (jump_code jt a) (cond (jt == 0) less full) (narrow_jump jt a) (narrow_cond (jt == 0) less full (narrow_unless (inverse test) source b) (refl, narrow_jump jf b))

narrow_of : (l : Layout) (a : Annotated) (i : Classic) (f : ℕ → ℕ) (out : ℕ) → AreNarrow (code_of l a i f out)
narrow_of l a (At size k) f out = narrow_any_load l a (At size k) out
narrow_of l a (Index size k) f out = narrow_any_load l a (Index size k) out
narrow_of l a (Header k) f out = narrow_any_load l a (Header k) out
narrow_of l a (Constant to k) f out = (refl, tt)
narrow_of l a (Length to) f out = (narrow_length l.form (length_offset l) (reg_of to), tt)
narrow_of l a (Cell to cell) f out = (refl, tt)
narrow_of l a (Store from cell) f out = (refl, tt)
narrow_of l a (Extension word) f out = (narrow_word l.form (offset_of word), tt)
narrow_of l a (Alu op source) f out = narrow_alu l op source out
narrow_of l a Neg f out = (refl, tt)
narrow_of l a (Jump k) f out = narrow_jump k (f k)
narrow_of l a (Back k) f out = (refl, (refl, (refl, tt)))
narrow_of l a (JumpIf test source jt jf) f out = narrow_if test source jt jf (f jt) (f jf)
narrow_of l a (Return k) f out = (refl, (refl, tt))
narrow_of l a ReturnA f out = (refl, tt)
narrow_of l a Tax f out = (refl, tt)
narrow_of l a Txa f out = (refl, tt)

narrow_code : (l : Layout) (list : List Annotated) → AreNarrow (code l list)
narrow_code l [] = narrow_cond l.trap trap_code [] (refl, (refl, tt)) tt
narrow_code l (a ∷ rest) =
    narrow_both (template l a (ahead_in l rest) (total l rest)) (code l rest)
    (narrow_cond a.reached (code_of l a a.insn (ahead_in l rest) (total l rest)) [] (narrow_of l a a.insn (ahead_in l rest) (total l rest)) tt) (narrow_code l rest)

narrow_zero : (t : Bool) (r : Reg) → AreNarrow (zero_if t r)
narrow_zero t r = narrow_cond t (AluInsn Mov W64 r (Imm (pos 0)) ∷ []) [] (refl, tt) tt

narrow_cells : (filter : List Annotated) (cells : List ℕ) → AreNarrow (flat_map (zero_cell filter) cells)
narrow_cells filter [] = tt
narrow_cells filter (c ∷ cells) = narrow_both (zero_cell filter c) (flat_map (zero_cell filter) cells) (narrow_cond (is_loaded filter c) (StoreImm DW R10 (cell_offset c) (pos 0) ∷ []) [] (refl, tt) tt) (narrow_cells filter cells)

narrow_turns : (l : Layout) → AreNarrow (turns_code l)
narrow_turns l = narrow_cond l.loops (AluInsn Mov W64 R5 (constant l.turns) ∷ []) [] (refl, tt) tt

narrow_entry : (l : Layout) (filter : List Annotated) → AreNarrow (entry l filter)
narrow_entry l filter =
    let cells : List Insn = flat_map (zero_cell filter) (range_with_len 0 16) in
    let zeros : List Insn = zero_if l.zero_a R0 ++ (zero_if l.zero_x R3 ++ cells) in
    narrow_both (room_code l) (turns_code l ++ zeros) (narrow_cond (is_block l.form) (room_insns l) [] (refl, (refl, (refl, tt))) tt)
    (narrow_both (turns_code l) zeros (narrow_turns l)
    (narrow_both (zero_if l.zero_a R0) (zero_if l.zero_x R3 ++ cells) (narrow_zero l.zero_a R0) (narrow_both (zero_if l.zero_x R3) cells (narrow_zero l.zero_x R3) (narrow_cells filter (range_with_len 0 16)))))

pub narrow_whole : (l : Layout) (filter : List Annotated) → AreNarrow (whole l filter)
narrow_whole l filter = narrow_both (entry l filter) (code l filter) (narrow_entry l filter) (narrow_code l filter)
