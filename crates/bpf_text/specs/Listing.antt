-- The listing of a program: one line for each instruction, in one spelling.
use Rattle.std.specs.Prelude.{ℕ, suc, false, List, [], ◌∷◌, ◌++◌, flat_map, ℤ, pos, negsuc, codes, decimal, if◌then◌else◌}
use Rattle.std.specs.List.{concat}
use Rattle.std.specs.Fmt.{digits}
use Rattle.bpf_text.specs.Spelling.{register_text, operation_text, cond_text, modify_text, sign_bits_text, swap_text, unsigned_text, signed_text}
use Rattle.bpf_insn.specs.Instruction.{word_size}
use Rattle.bpf_insn.specs.declared.instruction.Reg.{Reg}
use Rattle.bpf_insn.specs.declared.instruction.Width.{Width}
use Rattle.bpf_insn.specs.declared.instruction.Width.TheVariants.{W64}
use Rattle.bpf_insn.specs.declared.instruction.Operand.{Operand}
use Rattle.bpf_insn.specs.declared.instruction.Operand.TheVariants.{Imm, Reg as FromReg}
use Rattle.bpf_insn.specs.declared.instruction.AtomicOp.{AtomicOp}
use Rattle.bpf_insn.specs.declared.instruction.AtomicOp.TheVariants.{Modify as Changes, Xchg, CmpXchg}
use Rattle.bpf_insn.specs.declared.instruction.Insn.{Insn}
use Rattle.bpf_insn.specs.declared.instruction.Insn.TheVariants.{Alu, Neg, MovSx, End, LoadImm64, Load, LoadSx, Store, StoreImm, Atomic, Ja, JaLong, JumpIf, CallLocal, Exit}

-- ---- numbers

-- in decimal, with one text in front from 0 on and another below
abbrev pub with_sign : List ℕ → List ℕ → ℤ → List ℕ
with_sign plus minus (pos n) = plus ++ decimal n
with_sign plus minus (negsuc n) = minus ++ decimal (suc n)

-- `5` and `-5`
abbrev pub number_text : ℤ → List ℕ
number_text z = with_sign [] (codes "-") z

-- `+ 8` and `- 8`
abbrev pub offset_text : ℤ → List ℕ
offset_text z = with_sign (codes "+ ") (codes "- ") z

-- `+3` and `-1`
abbrev pub distance_text : ℤ → List ℕ
distance_text z = with_sign (codes "+") (codes "-") z

abbrev pub hex_text : ℕ → List ℕ
hex_text n = codes "0x" ++ digits 16 false n

-- ---- instructions

abbrev pub r_text : Reg → List ℕ
r_text r = register_text W64 r

abbrev pub operand_text : Width → Operand → List ℕ
operand_text width (Imm imm) = number_text imm
operand_text width (FromReg r) = register_text width r

-- what stands before and behind the memory operand that an atomic operation changes
abbrev pub atomic_word : AtomicOp → List ℕ
atomic_word (Changes by fetch) = if fetch then codes "fetch " else []
atomic_word Xchg = codes "xchg "
atomic_word CmpXchg = codes "cmpxchg "

abbrev pub atomic_sign : AtomicOp → List ℕ
atomic_sign (Changes by fetch) = codes ") " ++ modify_text by ++ codes " "
atomic_sign Xchg = codes "), "
atomic_sign CmpXchg = codes "), "

-- An instruction in the pieces of its line.
abbrev pub pieces : Insn → List (List ℕ)
pieces (Alu op width dst src) = register_text width dst ∷ codes " " ∷ operation_text op ∷ codes " " ∷ operand_text width src ∷ []
pieces (Neg width dst) = register_text width dst ∷ codes " = -" ∷ register_text width dst ∷ []
pieces (MovSx width bits dst src) = register_text width dst ∷ codes " = (" ∷ sign_bits_text bits ∷ codes ")" ∷ register_text width src ∷ []
pieces (End kind bits dst) = r_text dst ∷ codes " = " ∷ swap_text kind bits ∷ codes " " ∷ r_text dst ∷ []
pieces (LoadImm64 dst value) = r_text dst ∷ codes " = " ∷ hex_text value ∷ codes " ll" ∷ []
pieces (Load size dst src off) = r_text dst ∷ codes " = *(" ∷ unsigned_text size ∷ codes " *)(" ∷ r_text src ∷ codes " " ∷ offset_text off ∷ codes ")" ∷ []
pieces (LoadSx size dst src off) = r_text dst ∷ codes " = *(" ∷ signed_text size ∷ codes " *)(" ∷ r_text src ∷ codes " " ∷ offset_text off ∷ codes ")" ∷ []
pieces (Store size dst off src) = codes "*(" ∷ unsigned_text size ∷ codes " *)(" ∷ r_text dst ∷ codes " " ∷ offset_text off ∷ codes ") = " ∷ r_text src ∷ []
pieces (StoreImm size dst off imm) = codes "*(" ∷ unsigned_text size ∷ codes " *)(" ∷ r_text dst ∷ codes " " ∷ offset_text off ∷ codes ") = " ∷ number_text imm ∷ []
pieces (Atomic wide op dst off src) =
    codes "lock " ∷ atomic_word op ∷ codes "*(" ∷ unsigned_text (word_size wide) ∷ codes " *)("
    ∷ r_text dst ∷ codes " " ∷ offset_text off ∷ atomic_sign op ∷ r_text src ∷ []
pieces (Ja off) = codes "goto " ∷ distance_text off ∷ []
pieces (JaLong off) = codes "gotol " ∷ distance_text off ∷ []
pieces (JumpIf cond width dst src off) = codes "if " ∷ register_text width dst ∷ codes " " ∷ cond_text cond ∷ codes " " ∷ operand_text width src ∷ codes " goto " ∷ distance_text off ∷ []
pieces (CallLocal off) = codes "call " ∷ distance_text off ∷ []
pieces Exit = codes "exit" ∷ []

-- an instruction's line, and the line end
abbrev pub line_text : Insn → List ℕ
line_text i = concat (pieces i ++ codes "\n" ∷ [])

abbrev pub listing : List Insn → List ℕ
listing is = flat_map line_text is
