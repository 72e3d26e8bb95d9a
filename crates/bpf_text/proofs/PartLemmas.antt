-- Each part of an instruction, found where it is spelled.
use Rattle.std.proofs.Common.{◌≡◌, ℕ, List, ◌∷◌, ◌++◌, Some, None, refl}
use Rattle.bpf_insn.specs.declared.instruction.Reg.{Reg}
use Rattle.bpf_insn.specs.declared.instruction.Reg.TheVariants.{R0, R1, R2, R3, R4, R5, R6, R7, R8, R9, R10}
use Rattle.bpf_insn.specs.declared.instruction.Size.{Size}
use Rattle.bpf_insn.specs.declared.instruction.Size.TheVariants.{B, H, W, DW}
use Rattle.bpf_insn.specs.declared.instruction.Width.{Width}
use Rattle.bpf_insn.specs.declared.instruction.Width.TheVariants.{W32, W64}
use Rattle.bpf_insn.specs.declared.instruction.AluOp.{AluOp}
use Rattle.bpf_insn.specs.declared.instruction.AluOp.TheVariants.{Add, Sub, Mul, Div, SDiv, Or, And, Lsh, Rsh, Mod, SMod, Xor, Mov, Arsh}
use Rattle.bpf_insn.specs.declared.instruction.SignBits.{SignBits}
use Rattle.bpf_insn.specs.declared.instruction.SignBits.TheVariants.{B8 as S8, B16 as S16, B32 as S32}
use Rattle.bpf_insn.specs.declared.instruction.EndKind.{EndKind}
use Rattle.bpf_insn.specs.declared.instruction.EndKind.TheVariants.{Le as ToLe, Be as ToBe, Swap}
use Rattle.bpf_insn.specs.declared.instruction.EndBits.{EndBits}
use Rattle.bpf_insn.specs.declared.instruction.EndBits.TheVariants.{B16 as E16, B32 as E32, B64 as E64}
use Rattle.bpf_insn.specs.declared.instruction.Cond.{Cond}
use Rattle.bpf_insn.specs.declared.instruction.Cond.TheVariants.{Eq, Gt, Ge, Set, Ne, SGt, SGe, Lt, Le, SLt, SLe}
use Rattle.bpf_insn.specs.declared.instruction.Modify.{Modify}
use Rattle.bpf_insn.specs.declared.instruction.Modify.TheVariants.{Add as AddTo, Or as OrTo, And as AndTo, Xor as XorTo}
use Rattle.bpf_text.specs.declared.spelling.Memory.TheVariants.{Unsigned, Signed}
use Rattle.bpf_text.specs.code.WordReading.{word_in, behind, behind_word, behind_mark, first_spelled}
use Rattle.bpf_text.specs.Spelling.{register_text, operation_text, cond_text, modify_text, sign_bits_text, swap_text, unsigned_text, signed_text}
use Rattle.bpf_text.specs.Parts.{register, operations, conditions, modifications, extensions, swaps, memories, swap_spelling, memory_text, swap}
use Rattle.bpf_text.specs.code.StatementReading.{any_register_in, register_in}
use Rattle.bpf_text.proofs.WordLemmas.{Stops}

-- ---- registers

pub register_word : (width : Width) (r : Reg) (text : List ℕ) → Stops text → word_in (register_text width r ++ text) ≡ Some (register_text width r, text)
unfolding word_in
register_word W32 R0 text stops = rw (stops.front, stops.rest) refl
register_word W32 R1 text stops = rw (stops.front, stops.rest) refl
register_word W32 R2 text stops = rw (stops.front, stops.rest) refl
register_word W32 R3 text stops = rw (stops.front, stops.rest) refl
register_word W32 R4 text stops = rw (stops.front, stops.rest) refl
register_word W32 R5 text stops = rw (stops.front, stops.rest) refl
register_word W32 R6 text stops = rw (stops.front, stops.rest) refl
register_word W32 R7 text stops = rw (stops.front, stops.rest) refl
register_word W32 R8 text stops = rw (stops.front, stops.rest) refl
register_word W32 R9 text stops = rw (stops.front, stops.rest) refl
register_word W32 R10 text stops = rw (stops.front, stops.rest) refl
register_word W64 R0 text stops = rw (stops.front, stops.rest) refl
register_word W64 R1 text stops = rw (stops.front, stops.rest) refl
register_word W64 R2 text stops = rw (stops.front, stops.rest) refl
register_word W64 R3 text stops = rw (stops.front, stops.rest) refl
register_word W64 R4 text stops = rw (stops.front, stops.rest) refl
register_word W64 R5 text stops = rw (stops.front, stops.rest) refl
register_word W64 R6 text stops = rw (stops.front, stops.rest) refl
register_word W64 R7 text stops = rw (stops.front, stops.rest) refl
register_word W64 R8 text stops = rw (stops.front, stops.rest) refl
register_word W64 R9 text stops = rw (stops.front, stops.rest) refl
register_word W64 R10 text stops = rw (stops.front, stops.rest) refl

pub register_found : (width : Width) (r : Reg) (text rest : List ℕ) → word_in text ≡ Some (register_text width r, rest) → any_register_in text ≡ Some (register width r, rest)
unfolding any_register_in behind behind_word
register_found W32 R0 text rest e = rw e refl
register_found W32 R1 text rest e = rw e refl
register_found W32 R2 text rest e = rw e refl
register_found W32 R3 text rest e = rw e refl
register_found W32 R4 text rest e = rw e refl
register_found W32 R5 text rest e = rw e refl
register_found W32 R6 text rest e = rw e refl
register_found W32 R7 text rest e = rw e refl
register_found W32 R8 text rest e = rw e refl
register_found W32 R9 text rest e = rw e refl
register_found W32 R10 text rest e = rw e refl
register_found W64 R0 text rest e = rw e refl
register_found W64 R1 text rest e = rw e refl
register_found W64 R2 text rest e = rw e refl
register_found W64 R3 text rest e = rw e refl
register_found W64 R4 text rest e = rw e refl
register_found W64 R5 text rest e = rw e refl
register_found W64 R6 text rest e = rw e refl
register_found W64 R7 text rest e = rw e refl
register_found W64 R8 text rest e = rw e refl
register_found W64 R9 text rest e = rw e refl
register_found W64 R10 text rest e = rw e refl

pub register_here : (width : Width) (r : Reg) (text rest : List ℕ) → word_in text ≡ Some (register_text width r, rest) → register_in width text ≡ Some (r, rest)
unfolding register_in
register_here W32 r text rest e = rw (register_found W32 r text rest e) refl
register_here W64 r text rest e = rw (register_found W64 r text rest e) refl

-- its spelling itself
pub register_itself : (width : Width) (r : Reg) (text rest : List ℕ) → word_in text ≡ Some (register_text width r, rest) → behind (register_text width r) text ≡ Some rest
unfolding behind behind_word
register_itself W32 R0 text rest e = rw e refl
register_itself W32 R1 text rest e = rw e refl
register_itself W32 R2 text rest e = rw e refl
register_itself W32 R3 text rest e = rw e refl
register_itself W32 R4 text rest e = rw e refl
register_itself W32 R5 text rest e = rw e refl
register_itself W32 R6 text rest e = rw e refl
register_itself W32 R7 text rest e = rw e refl
register_itself W32 R8 text rest e = rw e refl
register_itself W32 R9 text rest e = rw e refl
register_itself W32 R10 text rest e = rw e refl
register_itself W64 R0 text rest e = rw e refl
register_itself W64 R1 text rest e = rw e refl
register_itself W64 R2 text rest e = rw e refl
register_itself W64 R3 text rest e = rw e refl
register_itself W64 R4 text rest e = rw e refl
register_itself W64 R5 text rest e = rw e refl
register_itself W64 R6 text rest e = rw e refl
register_itself W64 R7 text rest e = rw e refl
register_itself W64 R8 text rest e = rw e refl
register_itself W64 R9 text rest e = rw e refl
register_itself W64 R10 text rest e = rw e refl

-- ---- operators, in front of a space

pub operation_found : (op : AluOp) (text : List ℕ) → first_spelled operation_text operations (32 ∷ (operation_text op ++ 32 ∷ text)) ≡ Some (op, 32 ∷ text)
unfolding behind behind_word behind_mark word_in
operation_found Add text = refl
operation_found Sub text = refl
operation_found Mul text = refl
operation_found Div text = refl
operation_found SDiv text = refl
operation_found Or text = refl
operation_found And text = refl
operation_found Lsh text = refl
operation_found Rsh text = refl
operation_found Mod text = refl
operation_found SMod text = refl
operation_found Xor text = refl
operation_found Mov text = refl
operation_found Arsh text = refl

-- no equals sign comes next, so `>` isn't `> =`
pub cond_found : (test : Cond) (text : List ℕ) → behind_mark 61 (32 ∷ text) ≡ None → first_spelled cond_text conditions (32 ∷ (cond_text test ++ 32 ∷ text)) ≡ Some (test, 32 ∷ text)
unfolding behind behind_word behind_mark word_in
cond_found Eq text none = refl
cond_found Gt text none = rw none refl
cond_found Ge text none = refl
cond_found Set text none = refl
cond_found Ne text none = refl
cond_found SGt text none = rw none refl
cond_found SGe text none = refl
cond_found Lt text none = rw none refl
cond_found Le text none = refl
cond_found SLt text none = rw none refl
cond_found SLe text none = refl

pub modify_found : (by : Modify) (text : List ℕ) → first_spelled modify_text modifications (32 ∷ (modify_text by ++ 32 ∷ text)) ≡ Some (by, 32 ∷ text)
unfolding behind behind_word behind_mark word_in
modify_found AddTo text = refl
modify_found OrTo text = refl
modify_found AndTo text = refl
modify_found XorTo text = refl

-- ---- words in front of marks

pub extension_found : (bits : SignBits) (text : List ℕ) → first_spelled sign_bits_text extensions (sign_bits_text bits ++ 41 ∷ text) ≡ Some (bits, 41 ∷ text)
unfolding behind behind_word behind_mark word_in
extension_found S8 text = refl
extension_found S16 text = refl
extension_found S32 text = refl

pub swap_found : (kind : EndKind) (bits : EndBits) (text : List ℕ) → first_spelled swap_spelling swaps (32 ∷ (swap_text kind bits ++ 32 ∷ text)) ≡ Some (swap kind bits, 32 ∷ text)
unfolding behind behind_word behind_mark word_in
swap_found ToLe E16 text = refl
swap_found ToLe E32 text = refl
swap_found ToLe E64 text = refl
swap_found ToBe E16 text = refl
swap_found ToBe E32 text = refl
swap_found ToBe E64 text = refl
swap_found Swap E16 text = refl
swap_found Swap E32 text = refl
swap_found Swap E64 text = refl

pub unsigned_found : (size : Size) (text : List ℕ) → first_spelled memory_text memories (unsigned_text size ++ 32 ∷ text) ≡ Some (Unsigned size, 32 ∷ text)
unfolding behind behind_word behind_mark word_in
unsigned_found B text = refl
unsigned_found H text = refl
unsigned_found W text = refl
unsigned_found DW text = refl

-- there is no sign-extending load of 8 bytes
abbrev pub IsSigned : Size → Type 0
IsSigned DW = ⊥
IsSigned _ = Unit {0}

pub signed_found : (size : Size) (text : List ℕ) → IsSigned size → first_spelled memory_text memories (signed_text size ++ 32 ∷ text) ≡ Some (Signed size, 32 ∷ text)
unfolding behind behind_word behind_mark word_in
signed_found B text is = refl
signed_found H text is = refl
signed_found W text is = refl
signed_found DW text is = absurd is
