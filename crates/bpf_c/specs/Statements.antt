-- A statement for each instruction that neither jumps nor calls: the name of an operation, and in brackets the registers and constants
-- that it is for.
use Rattle.std.specs.Prelude.{ℕ, suc, List, [], ◌∷◌, ◌++◌, ℤ, pos, negsuc, codes, decimal}
use Rattle.std.specs.List.{concat}
use Rattle.bpf_c.specs.Words.{alu_word, width_word, size_word, order_word, swap_word, bits_word, extension_word, atomic_word, register_word}
use Rattle.bpf_c.specs.declared.memory.Cell.{Cell}
use Rattle.bpf_insn.specs.declared.order.Order.{Order}
use Rattle.bpf_insn.specs.declared.instruction.Reg.{Reg}
use Rattle.bpf_insn.specs.declared.instruction.Width.{Width}
use Rattle.bpf_insn.specs.declared.instruction.SignBits.{SignBits}
use Rattle.bpf_insn.specs.declared.instruction.EndKind.{EndKind}
use Rattle.bpf_insn.specs.declared.instruction.EndBits.{EndBits}
use Rattle.bpf_insn.specs.declared.instruction.AluOp.{AluOp}
use Rattle.bpf_insn.specs.declared.instruction.AtomicOp.{AtomicOp}
use Rattle.bpf_insn.specs.declared.instruction.Operand.{Operand}
use Rattle.bpf_insn.specs.declared.instruction.Operand.TheVariants.{Imm, Reg as FromReg}

-- `UINT64_C(5)`, `-UINT64_C(5)`: a constant of 64 bits, its sign extended
abbrev pub constant_text : ℤ → List ℕ
constant_text (pos n) = codes "UINT64_C(" ++ (decimal n ++ codes ")")
constant_text (negsuc n) = codes "-UINT64_C(" ++ (decimal (suc n) ++ codes ")")

abbrev pub operand_text : Operand → List ℕ
operand_text (Imm imm) = constant_text imm
operand_text (FromReg r) = register_word r

-- `bpf_add64(r1, r2);`
abbrev pub alu_text : AluOp → Width → Reg → Operand → List ℕ
alu_text op width dst src = concat (alu_word op ∷ width_word width ∷ register_word dst ∷ codes ", " ∷ operand_text src ∷ codes ");\n" ∷ [])

-- `bpf_neg64(r1);`
abbrev pub neg_text : Width → Reg → List ℕ
neg_text width dst = concat (codes "    bpf_neg" ∷ width_word width ∷ register_word dst ∷ codes ");\n" ∷ [])

-- `bpf_s8to64(r1, r2);`
abbrev pub extension_text : Width → SignBits → Reg → Reg → List ℕ
extension_text width bits dst src = concat (extension_word bits ∷ width_word width ∷ register_word dst ∷ codes ", " ∷ register_word src ∷ codes ");\n" ∷ [])

-- `bpf_swap16(r1);`
abbrev pub swap_text : Order → EndKind → EndBits → Reg → List ℕ
swap_text order kind bits dst = concat (swap_word order kind ∷ bits_word bits ∷ register_word dst ∷ codes ");\n" ∷ [])

-- `bpf_mov64(r1, UINT64_C(5));`
abbrev pub wide_text : Reg → ℕ → List ℕ
wide_text dst value = concat (codes "    bpf_mov64(" ∷ register_word dst ∷ codes ", UINT64_C(" ∷ decimal value ∷ codes "));\n" ∷ [])

-- `r1, UINT64_C(8)`: the base of an access and its offset
abbrev pub place_text : Cell → List ℕ
place_text cell = register_word cell.base ++ (codes ", " ++ constant_text cell.off)

-- `bpf_load64_le(r0, r1, UINT64_C(8));`, by the word in front
abbrev pub load_text : List ℕ → Reg → Cell → List ℕ
load_text word dst cell = concat (word ∷ size_word cell.size ∷ order_word cell.order ∷ register_word dst ∷ codes ", " ∷ place_text cell ∷ codes ");\n" ∷ [])

-- `bpf_store64_le(r10, -UINT64_C(8), r1);`
abbrev pub store_text : Cell → Operand → List ℕ
store_text cell src = concat (codes "    bpf_store" ∷ size_word cell.size ∷ order_word cell.order ∷ place_text cell ∷ codes ", " ∷ operand_text src ∷ codes ");\n" ∷ [])

-- `bpf_fetch_add64_le(r10, -UINT64_C(8), r1);`
abbrev pub atomic_text : AtomicOp → Cell → Reg → List ℕ
atomic_text op cell src = concat (atomic_word op ∷ size_word cell.size ∷ order_word cell.order ∷ place_text cell ∷ codes ", " ∷ register_word src ∷ codes ");\n" ∷ [])
