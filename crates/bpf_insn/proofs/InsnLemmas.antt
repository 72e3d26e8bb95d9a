-- Two instructions are the same exactly where they are compared as equal.
use Rattle.std.proofs.Common.{◌≡◌, ◌↔◌, ℕ, ◌==◌, Bool, true, false, ◌&&◌, refl, ap, ◌∙◌, subst}
use Rattle.std.specs.Prelude.{ℤ}
use Rattle.std.specs.Ordering.{int_eq}
use Rattle.std.specs.Bool.{beq}
use Rattle.std.proofs.lemmas.Bool.{false≢true, eqb-true, and_from}
use Rattle.std.proofs.lemmas.Bool.Decides.{Decides-int_eq, Decides-eqb}
use Rattle.bpf_insn.specs.declared.instruction.Reg.{Reg}
use Rattle.bpf_insn.specs.declared.instruction.Reg.TheVariants.{R0, R1, R2, R3, R4, R5, R6, R7, R8, R9, R10}
use Rattle.bpf_insn.specs.contracts.instruction.RegPartialEq.TheImpl as reg_eq
use Rattle.bpf_insn.specs.declared.instruction.Size.{Size}
use Rattle.bpf_insn.specs.declared.instruction.Size.TheVariants.{B as SizeB, H as SizeH, W as SizeW, DW as SizeDW}
use Rattle.bpf_insn.specs.contracts.instruction.SizePartialEq.TheImpl as size_eq
use Rattle.bpf_insn.specs.declared.instruction.Width.{Width}
use Rattle.bpf_insn.specs.declared.instruction.Width.TheVariants.{W32, W64}
use Rattle.bpf_insn.specs.contracts.instruction.WidthPartialEq.TheImpl as width_eq
use Rattle.bpf_insn.specs.declared.instruction.AluOp.{AluOp}
use Rattle.bpf_insn.specs.declared.instruction.AluOp.TheVariants.{Add as OpAdd, Sub as OpSub, Mul as OpMul, Div as OpDiv, SDiv as OpSDiv, Or as OpOr, And as OpAnd, Lsh as OpLsh, Rsh as OpRsh, Mod as OpMod, SMod as OpSMod, Xor as OpXor, Mov as OpMov, Arsh as OpArsh}
use Rattle.bpf_insn.specs.contracts.instruction.AluOpPartialEq.TheImpl as aluop_eq
use Rattle.bpf_insn.specs.declared.instruction.SignBits.{SignBits}
use Rattle.bpf_insn.specs.declared.instruction.SignBits.TheVariants.{B8 as SignB8, B16 as SignB16, B32 as SignB32}
use Rattle.bpf_insn.specs.contracts.instruction.SignBitsPartialEq.TheImpl as signbits_eq
use Rattle.bpf_insn.specs.declared.instruction.EndKind.{EndKind}
use Rattle.bpf_insn.specs.declared.instruction.EndKind.TheVariants.{Le as KindLe, Be as KindBe, Swap as KindSwap}
use Rattle.bpf_insn.specs.contracts.instruction.EndKindPartialEq.TheImpl as endkind_eq
use Rattle.bpf_insn.specs.declared.instruction.EndBits.{EndBits}
use Rattle.bpf_insn.specs.declared.instruction.EndBits.TheVariants.{B16 as EndB16, B32 as EndB32, B64 as EndB64}
use Rattle.bpf_insn.specs.contracts.instruction.EndBitsPartialEq.TheImpl as endbits_eq
use Rattle.bpf_insn.specs.declared.instruction.Cond.{Cond}
use Rattle.bpf_insn.specs.declared.instruction.Cond.TheVariants.{Eq as IfEq, Gt as IfGt, Ge as IfGe, Set as IfSet, Ne as IfNe, SGt as IfSGt, SGe as IfSGe, Lt as IfLt, Le as IfLe, SLt as IfSLt, SLe as IfSLe}
use Rattle.bpf_insn.specs.contracts.instruction.CondPartialEq.TheImpl as cond_eq
use Rattle.bpf_insn.specs.declared.instruction.Modify.{Modify}
use Rattle.bpf_insn.specs.declared.instruction.Modify.TheVariants.{Add as ByAdd, Or as ByOr, And as ByAnd, Xor as ByXor}
use Rattle.bpf_insn.specs.contracts.instruction.ModifyPartialEq.TheImpl as modify_eq
use Rattle.bpf_insn.specs.declared.instruction.Operand.{Operand}
use Rattle.bpf_insn.specs.contracts.instruction.OperandPartialEq.TheImpl as operand_eq
use Rattle.bpf_insn.specs.declared.instruction.AtomicOp.{AtomicOp}
use Rattle.bpf_insn.specs.contracts.instruction.AtomicOpPartialEq.TheImpl as atomicop_eq
use Rattle.bpf_insn.specs.declared.instruction.Insn.{Insn}
use Rattle.bpf_insn.specs.contracts.instruction.InsnPartialEq.TheImpl as insn_eq
use Rattle.bpf_insn.specs.declared.instruction.Operand.TheVariants.{Imm, Reg as FromReg}
use Rattle.bpf_insn.specs.declared.instruction.AtomicOp.TheVariants.{Modify as Changes, Xchg, CmpXchg}
use Rattle.bpf_insn.specs.declared.instruction.Insn.TheVariants.{Alu, Neg, MovSx, End, LoadImm64, Load, LoadSx, Store, StoreImm, Atomic, Ja, JaLong, JumpIf, CallLocal, Exit}

pub both_true : (a b : Bool) → (a && b) ≡ true → (a ≡ true) × (b ≡ true)
both_true true b e = (refl, e)
both_true false b e = absurd (false≢true e)

pub reg_same : (a b : Reg) → (reg_eq.ghosts).eq a b ≡ true → a ≡ b
reg_same R0 R0 e = refl
reg_same R1 R1 e = refl
reg_same R2 R2 e = refl
reg_same R3 R3 e = refl
reg_same R4 R4 e = refl
reg_same R5 R5 e = refl
reg_same R6 R6 e = refl
reg_same R7 R7 e = refl
reg_same R8 R8 e = refl
reg_same R9 R9 e = refl
reg_same R10 R10 e = refl
reg_same a b e = absurd (false≢true e)

size_same : (a b : Size) → (size_eq.ghosts).eq a b ≡ true → a ≡ b
size_same SizeB SizeB e = refl
size_same SizeH SizeH e = refl
size_same SizeW SizeW e = refl
size_same SizeDW SizeDW e = refl
size_same a b e = absurd (false≢true e)

width_same : (a b : Width) → (width_eq.ghosts).eq a b ≡ true → a ≡ b
width_same W32 W32 e = refl
width_same W64 W64 e = refl
width_same a b e = absurd (false≢true e)

aluop_same : (a b : AluOp) → (aluop_eq.ghosts).eq a b ≡ true → a ≡ b
aluop_same OpAdd OpAdd e = refl
aluop_same OpSub OpSub e = refl
aluop_same OpMul OpMul e = refl
aluop_same OpDiv OpDiv e = refl
aluop_same OpSDiv OpSDiv e = refl
aluop_same OpOr OpOr e = refl
aluop_same OpAnd OpAnd e = refl
aluop_same OpLsh OpLsh e = refl
aluop_same OpRsh OpRsh e = refl
aluop_same OpMod OpMod e = refl
aluop_same OpSMod OpSMod e = refl
aluop_same OpXor OpXor e = refl
aluop_same OpMov OpMov e = refl
aluop_same OpArsh OpArsh e = refl
aluop_same a b e = absurd (false≢true e)

signbits_same : (a b : SignBits) → (signbits_eq.ghosts).eq a b ≡ true → a ≡ b
signbits_same SignB8 SignB8 e = refl
signbits_same SignB16 SignB16 e = refl
signbits_same SignB32 SignB32 e = refl
signbits_same a b e = absurd (false≢true e)

endkind_same : (a b : EndKind) → (endkind_eq.ghosts).eq a b ≡ true → a ≡ b
endkind_same KindLe KindLe e = refl
endkind_same KindBe KindBe e = refl
endkind_same KindSwap KindSwap e = refl
endkind_same a b e = absurd (false≢true e)

endbits_same : (a b : EndBits) → (endbits_eq.ghosts).eq a b ≡ true → a ≡ b
endbits_same EndB16 EndB16 e = refl
endbits_same EndB32 EndB32 e = refl
endbits_same EndB64 EndB64 e = refl
endbits_same a b e = absurd (false≢true e)

cond_same : (a b : Cond) → (cond_eq.ghosts).eq a b ≡ true → a ≡ b
cond_same IfEq IfEq e = refl
cond_same IfGt IfGt e = refl
cond_same IfGe IfGe e = refl
cond_same IfSet IfSet e = refl
cond_same IfNe IfNe e = refl
cond_same IfSGt IfSGt e = refl
cond_same IfSGe IfSGe e = refl
cond_same IfLt IfLt e = refl
cond_same IfLe IfLe e = refl
cond_same IfSLt IfSLt e = refl
cond_same IfSLe IfSLe e = refl
cond_same a b e = absurd (false≢true e)

modify_same : (a b : Modify) → (modify_eq.ghosts).eq a b ≡ true → a ≡ b
modify_same ByAdd ByAdd e = refl
modify_same ByOr ByOr e = refl
modify_same ByAnd ByAnd e = refl
modify_same ByXor ByXor e = refl
modify_same a b e = absurd (false≢true e)

operand_same : (a b : Operand) → (operand_eq.ghosts).eq a b ≡ true → a ≡ b
operand_same (Imm x) (Imm y) e = ap Imm ((Decides-int_eq x y).0 e)
operand_same (FromReg r) (FromReg s) e = ap FromReg (reg_same r s e)
operand_same a b e = absurd (false≢true e)

atomicop_same : (a b : AtomicOp) → (atomicop_eq.ghosts).eq a b ≡ true → a ≡ b
atomicop_same (Changes x true) (Changes y true) e = ap (λ z. Changes z true) (modify_same x y (both_true _ true e).0)
atomicop_same (Changes x false) (Changes y false) e = ap (λ z. Changes z false) (modify_same x y (both_true _ true e).0)
atomicop_same (Changes x true) (Changes y false) e = absurd (false≢true (both_true _ false e).1)
atomicop_same (Changes x false) (Changes y true) e = absurd (false≢true (both_true _ false e).1)
atomicop_same Xchg Xchg e = refl
atomicop_same CmpXchg CmpXchg e = refl
atomicop_same a b e = absurd (false≢true e)

bool_same : (a b : Bool) → beq a b ≡ true → a ≡ b
bool_same true true e = refl
bool_same false false e = refl
bool_same a b e = absurd (false≢true e)

insn_same : (a b : Insn) → (insn_eq.ghosts).eq a b ≡ true → a ≡ b
insn_same (Alu a0 a1 a2 a3) (Alu b0 b1 b2 b3) e =
    let h0 = both_true ((aluop_eq.ghosts).eq a0 b0) (((width_eq.ghosts).eq a1 b1) && (((reg_eq.ghosts).eq a2 b2) && ((operand_eq.ghosts).eq a3 b3))) e in
    let h1 = both_true ((width_eq.ghosts).eq a1 b1) (((reg_eq.ghosts).eq a2 b2) && ((operand_eq.ghosts).eq a3 b3)) h0.1 in
    let h2 = both_true ((reg_eq.ghosts).eq a2 b2) ((operand_eq.ghosts).eq a3 b3) h1.1 in
    ap (λ x. Alu x a1 a2 a3) (aluop_same a0 b0 h0.0) ∙ ap (λ x. Alu b0 x a2 a3) (width_same a1 b1 h1.0) ∙ ap (λ x. Alu b0 b1 x a3) (reg_same a2 b2 h2.0) ∙ ap (λ x. Alu b0 b1 b2 x) (operand_same a3 b3 h2.1)
insn_same (Neg a0 a1) (Neg b0 b1) e =
    let h0 = both_true ((width_eq.ghosts).eq a0 b0) ((reg_eq.ghosts).eq a1 b1) e in
    ap (λ x. Neg x a1) (width_same a0 b0 h0.0) ∙ ap (λ x. Neg b0 x) (reg_same a1 b1 h0.1)
insn_same (MovSx a0 a1 a2 a3) (MovSx b0 b1 b2 b3) e =
    let h0 = both_true ((width_eq.ghosts).eq a0 b0) (((signbits_eq.ghosts).eq a1 b1) && (((reg_eq.ghosts).eq a2 b2) && ((reg_eq.ghosts).eq a3 b3))) e in
    let h1 = both_true ((signbits_eq.ghosts).eq a1 b1) (((reg_eq.ghosts).eq a2 b2) && ((reg_eq.ghosts).eq a3 b3)) h0.1 in
    let h2 = both_true ((reg_eq.ghosts).eq a2 b2) ((reg_eq.ghosts).eq a3 b3) h1.1 in
    ap (λ x. MovSx x a1 a2 a3) (width_same a0 b0 h0.0) ∙ ap (λ x. MovSx b0 x a2 a3) (signbits_same a1 b1 h1.0) ∙ ap (λ x. MovSx b0 b1 x a3) (reg_same a2 b2 h2.0) ∙ ap (λ x. MovSx b0 b1 b2 x) (reg_same a3 b3 h2.1)
insn_same (End a0 a1 a2) (End b0 b1 b2) e =
    let h0 = both_true ((endkind_eq.ghosts).eq a0 b0) (((endbits_eq.ghosts).eq a1 b1) && ((reg_eq.ghosts).eq a2 b2)) e in
    let h1 = both_true ((endbits_eq.ghosts).eq a1 b1) ((reg_eq.ghosts).eq a2 b2) h0.1 in
    ap (λ x. End x a1 a2) (endkind_same a0 b0 h0.0) ∙ ap (λ x. End b0 x a2) (endbits_same a1 b1 h1.0) ∙ ap (λ x. End b0 b1 x) (reg_same a2 b2 h1.1)
insn_same (LoadImm64 a0 a1) (LoadImm64 b0 b1) e =
    let h0 = both_true ((reg_eq.ghosts).eq a0 b0) (a1 == b1) e in
    ap (λ x. LoadImm64 x a1) (reg_same a0 b0 h0.0) ∙ ap (λ x. LoadImm64 b0 x) (eqb-true a1 b1 h0.1)
insn_same (Load a0 a1 a2 a3) (Load b0 b1 b2 b3) e =
    let h0 = both_true ((size_eq.ghosts).eq a0 b0) (((reg_eq.ghosts).eq a1 b1) && (((reg_eq.ghosts).eq a2 b2) && (int_eq a3 b3))) e in
    let h1 = both_true ((reg_eq.ghosts).eq a1 b1) (((reg_eq.ghosts).eq a2 b2) && (int_eq a3 b3)) h0.1 in
    let h2 = both_true ((reg_eq.ghosts).eq a2 b2) (int_eq a3 b3) h1.1 in
    ap (λ x. Load x a1 a2 a3) (size_same a0 b0 h0.0) ∙ ap (λ x. Load b0 x a2 a3) (reg_same a1 b1 h1.0) ∙ ap (λ x. Load b0 b1 x a3) (reg_same a2 b2 h2.0) ∙ ap (λ x. Load b0 b1 b2 x) ((Decides-int_eq a3 b3).0 h2.1)
insn_same (LoadSx a0 a1 a2 a3) (LoadSx b0 b1 b2 b3) e =
    let h0 = both_true ((size_eq.ghosts).eq a0 b0) (((reg_eq.ghosts).eq a1 b1) && (((reg_eq.ghosts).eq a2 b2) && (int_eq a3 b3))) e in
    let h1 = both_true ((reg_eq.ghosts).eq a1 b1) (((reg_eq.ghosts).eq a2 b2) && (int_eq a3 b3)) h0.1 in
    let h2 = both_true ((reg_eq.ghosts).eq a2 b2) (int_eq a3 b3) h1.1 in
    ap (λ x. LoadSx x a1 a2 a3) (size_same a0 b0 h0.0) ∙ ap (λ x. LoadSx b0 x a2 a3) (reg_same a1 b1 h1.0) ∙ ap (λ x. LoadSx b0 b1 x a3) (reg_same a2 b2 h2.0) ∙ ap (λ x. LoadSx b0 b1 b2 x) ((Decides-int_eq a3 b3).0 h2.1)
insn_same (Store a0 a1 a2 a3) (Store b0 b1 b2 b3) e =
    let h0 = both_true ((size_eq.ghosts).eq a0 b0) (((reg_eq.ghosts).eq a1 b1) && ((int_eq a2 b2) && ((reg_eq.ghosts).eq a3 b3))) e in
    let h1 = both_true ((reg_eq.ghosts).eq a1 b1) ((int_eq a2 b2) && ((reg_eq.ghosts).eq a3 b3)) h0.1 in
    let h2 = both_true (int_eq a2 b2) ((reg_eq.ghosts).eq a3 b3) h1.1 in
    ap (λ x. Store x a1 a2 a3) (size_same a0 b0 h0.0) ∙ ap (λ x. Store b0 x a2 a3) (reg_same a1 b1 h1.0) ∙ ap (λ x. Store b0 b1 x a3) ((Decides-int_eq a2 b2).0 h2.0) ∙ ap (λ x. Store b0 b1 b2 x) (reg_same a3 b3 h2.1)
insn_same (StoreImm a0 a1 a2 a3) (StoreImm b0 b1 b2 b3) e =
    let h0 = both_true ((size_eq.ghosts).eq a0 b0) (((reg_eq.ghosts).eq a1 b1) && ((int_eq a2 b2) && (int_eq a3 b3))) e in
    let h1 = both_true ((reg_eq.ghosts).eq a1 b1) ((int_eq a2 b2) && (int_eq a3 b3)) h0.1 in
    let h2 = both_true (int_eq a2 b2) (int_eq a3 b3) h1.1 in
    ap (λ x. StoreImm x a1 a2 a3) (size_same a0 b0 h0.0) ∙ ap (λ x. StoreImm b0 x a2 a3) (reg_same a1 b1 h1.0) ∙ ap (λ x. StoreImm b0 b1 x a3) ((Decides-int_eq a2 b2).0 h2.0) ∙ ap (λ x. StoreImm b0 b1 b2 x) ((Decides-int_eq a3 b3).0 h2.1)
insn_same (Atomic a0 a1 a2 a3 a4) (Atomic b0 b1 b2 b3 b4) e =
    let h0 = both_true (beq a0 b0) (((atomicop_eq.ghosts).eq a1 b1) && (((reg_eq.ghosts).eq a2 b2) && ((int_eq a3 b3) && ((reg_eq.ghosts).eq a4 b4)))) e in
    let h1 = both_true ((atomicop_eq.ghosts).eq a1 b1) (((reg_eq.ghosts).eq a2 b2) && ((int_eq a3 b3) && ((reg_eq.ghosts).eq a4 b4))) h0.1 in
    let h2 = both_true ((reg_eq.ghosts).eq a2 b2) ((int_eq a3 b3) && ((reg_eq.ghosts).eq a4 b4)) h1.1 in
    let h3 = both_true (int_eq a3 b3) ((reg_eq.ghosts).eq a4 b4) h2.1 in
    ap (λ x. Atomic x a1 a2 a3 a4) (bool_same a0 b0 h0.0) ∙ ap (λ x. Atomic b0 x a2 a3 a4) (atomicop_same a1 b1 h1.0) ∙ ap (λ x. Atomic b0 b1 x a3 a4) (reg_same a2 b2 h2.0) ∙ ap (λ x. Atomic b0 b1 b2 x a4) ((Decides-int_eq a3 b3).0 h3.0) ∙ ap (λ x. Atomic b0 b1 b2 b3 x) (reg_same a4 b4 h3.1)
insn_same (Ja a0) (Ja b0) e = ap Ja ((Decides-int_eq a0 b0).0 e)
insn_same (JaLong a0) (JaLong b0) e = ap JaLong ((Decides-int_eq a0 b0).0 e)
insn_same (JumpIf a0 a1 a2 a3 a4) (JumpIf b0 b1 b2 b3 b4) e =
    let h0 = both_true ((cond_eq.ghosts).eq a0 b0) (((width_eq.ghosts).eq a1 b1) && (((reg_eq.ghosts).eq a2 b2) && (((operand_eq.ghosts).eq a3 b3) && (int_eq a4 b4)))) e in
    let h1 = both_true ((width_eq.ghosts).eq a1 b1) (((reg_eq.ghosts).eq a2 b2) && (((operand_eq.ghosts).eq a3 b3) && (int_eq a4 b4))) h0.1 in
    let h2 = both_true ((reg_eq.ghosts).eq a2 b2) (((operand_eq.ghosts).eq a3 b3) && (int_eq a4 b4)) h1.1 in
    let h3 = both_true ((operand_eq.ghosts).eq a3 b3) (int_eq a4 b4) h2.1 in
    ap (λ x. JumpIf x a1 a2 a3 a4) (cond_same a0 b0 h0.0) ∙ ap (λ x. JumpIf b0 x a2 a3 a4) (width_same a1 b1 h1.0) ∙ ap (λ x. JumpIf b0 b1 x a3 a4) (reg_same a2 b2 h2.0) ∙ ap (λ x. JumpIf b0 b1 b2 x a4) (operand_same a3 b3 h3.0) ∙ ap (λ x. JumpIf b0 b1 b2 b3 x) ((Decides-int_eq a4 b4).0 h3.1)
insn_same (CallLocal a0) (CallLocal b0) e = ap CallLocal ((Decides-int_eq a0 b0).0 e)
insn_same Exit Exit e = refl
insn_same a b e = absurd (false≢true e)

-- ---- each is the same as itself

pub reg_self : (a : Reg) → (reg_eq.ghosts).eq a a ≡ true
reg_self R0 = refl
reg_self R1 = refl
reg_self R2 = refl
reg_self R3 = refl
reg_self R4 = refl
reg_self R5 = refl
reg_self R6 = refl
reg_self R7 = refl
reg_self R8 = refl
reg_self R9 = refl
reg_self R10 = refl

size_self : (a : Size) → (size_eq.ghosts).eq a a ≡ true
size_self SizeB = refl
size_self SizeH = refl
size_self SizeW = refl
size_self SizeDW = refl

width_self : (a : Width) → (width_eq.ghosts).eq a a ≡ true
width_self W32 = refl
width_self W64 = refl

aluop_self : (a : AluOp) → (aluop_eq.ghosts).eq a a ≡ true
aluop_self OpAdd = refl
aluop_self OpSub = refl
aluop_self OpMul = refl
aluop_self OpDiv = refl
aluop_self OpSDiv = refl
aluop_self OpOr = refl
aluop_self OpAnd = refl
aluop_self OpLsh = refl
aluop_self OpRsh = refl
aluop_self OpMod = refl
aluop_self OpSMod = refl
aluop_self OpXor = refl
aluop_self OpMov = refl
aluop_self OpArsh = refl

signbits_self : (a : SignBits) → (signbits_eq.ghosts).eq a a ≡ true
signbits_self SignB8 = refl
signbits_self SignB16 = refl
signbits_self SignB32 = refl

endkind_self : (a : EndKind) → (endkind_eq.ghosts).eq a a ≡ true
endkind_self KindLe = refl
endkind_self KindBe = refl
endkind_self KindSwap = refl

endbits_self : (a : EndBits) → (endbits_eq.ghosts).eq a a ≡ true
endbits_self EndB16 = refl
endbits_self EndB32 = refl
endbits_self EndB64 = refl

cond_self : (a : Cond) → (cond_eq.ghosts).eq a a ≡ true
cond_self IfEq = refl
cond_self IfGt = refl
cond_self IfGe = refl
cond_self IfSet = refl
cond_self IfNe = refl
cond_self IfSGt = refl
cond_self IfSGe = refl
cond_self IfLt = refl
cond_self IfLe = refl
cond_self IfSLt = refl
cond_self IfSLe = refl

modify_self : (a : Modify) → (modify_eq.ghosts).eq a a ≡ true
modify_self ByAdd = refl
modify_self ByOr = refl
modify_self ByAnd = refl
modify_self ByXor = refl

int_self : (z : ℤ) → int_eq z z ≡ true
int_self z = (Decides-int_eq z z).1 refl

nat_self : (n : ℕ) → n == n ≡ true
nat_self n = (Decides-eqb n n).1 refl

bool_self : (b : Bool) → beq b b ≡ true
bool_self true = refl
bool_self false = refl

operand_self : (a : Operand) → (operand_eq.ghosts).eq a a ≡ true
operand_self (Imm x) = int_self x
operand_self (FromReg r) = reg_self r

atomicop_self : (a : AtomicOp) → (atomicop_eq.ghosts).eq a a ≡ true
atomicop_self (Changes x fetch) = and_from ((modify_eq.ghosts).eq x x) (beq fetch fetch) (modify_self x) (bool_self fetch)
atomicop_self Xchg = refl
atomicop_self CmpXchg = refl

insn_self : (a : Insn) → (insn_eq.ghosts).eq a a ≡ true
insn_self (Alu a0 a1 a2 a3) = and_from _ _ (aluop_self a0) (and_from _ _ (width_self a1) (and_from _ _ (reg_self a2) (operand_self a3)))
insn_self (Neg a0 a1) = and_from _ _ (width_self a0) (reg_self a1)
insn_self (MovSx a0 a1 a2 a3) = and_from _ _ (width_self a0) (and_from _ _ (signbits_self a1) (and_from _ _ (reg_self a2) (reg_self a3)))
insn_self (End a0 a1 a2) = and_from _ _ (endkind_self a0) (and_from _ _ (endbits_self a1) (reg_self a2))
insn_self (LoadImm64 a0 a1) = and_from _ _ (reg_self a0) (nat_self a1)
insn_self (Load a0 a1 a2 a3) = and_from _ _ (size_self a0) (and_from _ _ (reg_self a1) (and_from _ _ (reg_self a2) (int_self a3)))
insn_self (LoadSx a0 a1 a2 a3) = and_from _ _ (size_self a0) (and_from _ _ (reg_self a1) (and_from _ _ (reg_self a2) (int_self a3)))
insn_self (Store a0 a1 a2 a3) = and_from _ _ (size_self a0) (and_from _ _ (reg_self a1) (and_from _ _ (int_self a2) (reg_self a3)))
insn_self (StoreImm a0 a1 a2 a3) = and_from _ _ (size_self a0) (and_from _ _ (reg_self a1) (and_from _ _ (int_self a2) (int_self a3)))
insn_self (Atomic a0 a1 a2 a3 a4) = and_from _ _ (bool_self a0) (and_from _ _ (atomicop_self a1) (and_from _ _ (reg_self a2) (and_from _ _ (int_self a3) (reg_self a4))))
insn_self (Ja a0) = int_self a0
insn_self (JaLong a0) = int_self a0
insn_self (JumpIf a0 a1 a2 a3 a4) = and_from _ _ (cond_self a0) (and_from _ _ (width_self a1) (and_from _ _ (reg_self a2) (and_from _ _ (operand_self a3) (int_self a4))))
insn_self (CallLocal a0) = int_self a0
insn_self Exit = refl

pub insn_decides : (a b : Insn) → ((insn_eq.ghosts).eq a b ≡ true) ↔ (a ≡ b)
insn_decides a b = (insn_same a b, λ e. subst (λ b. (insn_eq.ghosts).eq a b ≡ true) e (insn_self a))
