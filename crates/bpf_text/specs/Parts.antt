-- All parts of instructions, for a reader to find the one that stands in a text. One whose marks begin with those of
-- another comes before it.
use Rattle.std.specs.Prelude.{ℕ, List, [], ◌∷◌, codes}
use Rattle.bpf_insn.specs.declared.instruction.Reg.{Reg}
use Rattle.bpf_insn.specs.declared.instruction.Reg.TheVariants.{R0, R1, R2, R3, R4, R5, R6, R7, R8, R9, R10}
use Rattle.bpf_insn.specs.declared.instruction.Size.TheVariants.{B, H, W, DW}
use Rattle.bpf_insn.specs.declared.instruction.Width.{Width}
use Rattle.bpf_insn.specs.declared.instruction.Width.TheVariants.{W32, W64}
use Rattle.bpf_insn.specs.declared.instruction.AluOp.{AluOp}
use Rattle.bpf_insn.specs.declared.instruction.AluOp.TheVariants.{Add, Sub, Mul, Div, SDiv, Or, And, Lsh, Rsh, Mod, SMod, Xor, Mov, Arsh}
use Rattle.bpf_insn.specs.declared.instruction.SignBits.{SignBits}
use Rattle.bpf_insn.specs.declared.instruction.SignBits.TheVariants.{B8 as S8, B16 as S16, B32 as S32}
use Rattle.bpf_insn.specs.declared.instruction.EndKind.{EndKind}
use Rattle.bpf_insn.specs.declared.instruction.EndKind.TheVariants.{Le as ToLe, Be as ToBe, Swap as Swaps}
use Rattle.bpf_insn.specs.declared.instruction.EndBits.{EndBits}
use Rattle.bpf_insn.specs.declared.instruction.EndBits.TheVariants.{B16 as E16, B32 as E32, B64 as E64}
use Rattle.bpf_insn.specs.declared.instruction.Cond.{Cond}
use Rattle.bpf_insn.specs.declared.instruction.Cond.TheVariants.{Eq, Gt, Ge, Set, Ne, SGt, SGe, Lt, Le, SLt, SLe}
use Rattle.bpf_insn.specs.declared.instruction.Modify.{Modify}
use Rattle.bpf_insn.specs.declared.instruction.Modify.TheVariants.{Add as AddTo, Or as OrTo, And as AndTo, Xor as XorTo}
use Rattle.bpf_text.specs.declared.spelling.Register.{Register}
use Rattle.bpf_text.specs.declared.spelling.Swap.{Swap}
use Rattle.bpf_text.specs.declared.spelling.Memory.{Memory}
use Rattle.bpf_text.specs.declared.spelling.Memory.TheVariants.{Unsigned, Signed}
use Rattle.bpf_text.specs.declared.spelling.Keyword.{Keyword}
use Rattle.bpf_text.specs.declared.spelling.Keyword.TheVariants.{Lock, If, Goto, GotoLong, Call, Exit}
use Rattle.bpf_text.specs.Spelling.{register_text, swap_text, unsigned_text, signed_text}

abbrev pub register_spelling : Register → List ℕ
register_spelling r = register_text r.0 r.1

abbrev pub swap_spelling : Swap → List ℕ
swap_spelling s = swap_text s.0 s.1

abbrev pub memory_text : Memory → List ℕ
memory_text (Unsigned size) = unsigned_text size
memory_text (Signed size) = signed_text size

abbrev pub keyword_text : Keyword → List ℕ
keyword_text Lock = codes "lock"
keyword_text If = codes "if"
keyword_text Goto = codes "goto"
keyword_text GotoLong = codes "gotol"
keyword_text Call = codes "call"
keyword_text Exit = codes "exit"

abbrev pub register : Width → Reg → Register
register width r = record { 0 = width; 1 = r }

abbrev pub registers : List Register
registers =
    register W64 R0 ∷ register W64 R1 ∷ register W64 R2 ∷ register W64 R3 ∷ register W64 R4 ∷ register W64 R5
    ∷ register W64 R6 ∷ register W64 R7 ∷ register W64 R8 ∷ register W64 R9 ∷ register W64 R10
    ∷ register W32 R0 ∷ register W32 R1 ∷ register W32 R2 ∷ register W32 R3 ∷ register W32 R4 ∷ register W32 R5
    ∷ register W32 R6 ∷ register W32 R7 ∷ register W32 R8 ∷ register W32 R9 ∷ register W32 R10 ∷ []

abbrev pub swap : EndKind → EndBits → Swap
swap kind bits = record { 0 = kind; 1 = bits }

abbrev pub swaps : List Swap
swaps = swap ToLe E16 ∷ swap ToLe E32 ∷ swap ToLe E64 ∷ swap ToBe E16 ∷ swap ToBe E32 ∷ swap ToBe E64 ∷ swap Swaps E16 ∷ swap Swaps E32 ∷ swap Swaps E64 ∷ []

abbrev pub operations : List AluOp
operations = Add ∷ Sub ∷ Mul ∷ Div ∷ SDiv ∷ Or ∷ And ∷ Lsh ∷ Rsh ∷ Mod ∷ SMod ∷ Xor ∷ Mov ∷ Arsh ∷ []

abbrev pub conditions : List Cond
conditions = Eq ∷ Ne ∷ Set ∷ Ge ∷ Gt ∷ Le ∷ Lt ∷ SGe ∷ SGt ∷ SLe ∷ SLt ∷ []

abbrev pub modifications : List Modify
modifications = AddTo ∷ OrTo ∷ AndTo ∷ XorTo ∷ []

abbrev pub extensions : List SignBits
extensions = S8 ∷ S16 ∷ S32 ∷ []

abbrev pub memories : List Memory
memories = Unsigned B ∷ Unsigned H ∷ Unsigned W ∷ Unsigned DW ∷ Signed B ∷ Signed H ∷ Signed W ∷ []

abbrev pub keywords : List Keyword
keywords = Lock ∷ If ∷ Goto ∷ GotoLong ∷ Call ∷ Exit ∷ []
