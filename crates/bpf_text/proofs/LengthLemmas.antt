-- No line of a listing is long, and so no listing.
use Rattle.std.proofs.Common.{ℕ, zero, suc, ◌+◌, ◌*◌, ◌/◌, ◌%◌, ◌≤◌, Bool, true, false, cond, eqb, List, [], ◌∷◌, length, length-append, arith}
use Rattle.std.specs.Prelude.{ℤ, pos, negsuc, codes, decimal}
use Rattle.std.specs.List.{concat}
use Rattle.std.specs.Fmt.{digits, digits_onto, digit_glyph}
use Rattle.bpf_insn.specs.Instruction.{layout, slots, slots_of}
use Rattle.bpf_insn.specs.Instruction.{word_size}
use Rattle.bpf_insn.specs.declared.instruction.Reg.{Reg}
use Rattle.bpf_insn.specs.declared.instruction.Reg.TheVariants.{R0, R1, R2, R3, R4, R5, R6, R7, R8, R9, R10}
use Rattle.bpf_insn.specs.declared.instruction.Size.{Size}
use Rattle.bpf_insn.specs.declared.instruction.Size.TheVariants.{B, H, W, DW}
use Rattle.bpf_insn.specs.declared.instruction.Width.{Width}
use Rattle.bpf_insn.specs.declared.instruction.Width.TheVariants.{W32, W64}
use Rattle.bpf_insn.specs.declared.instruction.Operand.{Operand}
use Rattle.bpf_insn.specs.declared.instruction.Operand.TheVariants.{Imm, Reg as FromReg}
use Rattle.bpf_insn.specs.declared.instruction.AluOp.{AluOp}
use Rattle.bpf_insn.specs.declared.instruction.AluOp.TheVariants.{Add, Sub, Mul, Div, SDiv, Or, And, Lsh, Rsh, Mod, SMod, Xor, Mov, Arsh}
use Rattle.bpf_insn.specs.declared.instruction.SignBits.{SignBits}
use Rattle.bpf_insn.specs.declared.instruction.SignBits.TheVariants.{B8 as S8, B16 as S16, B32 as S32}
use Rattle.bpf_insn.specs.declared.instruction.EndKind.{EndKind}
use Rattle.bpf_insn.specs.declared.instruction.EndKind.TheVariants.{Le as ToLe, Be as ToBe, Swap}
use Rattle.bpf_insn.specs.declared.instruction.EndBits.{EndBits}
use Rattle.bpf_insn.specs.declared.instruction.EndBits.TheVariants.{B16 as E16, B32 as E32, B64 as E64}
use Rattle.bpf_insn.specs.declared.instruction.Cond.{Cond}
use Rattle.bpf_insn.specs.declared.instruction.Cond.TheVariants.{Eq, Gt, Ge, Set, Ne, SGt, SGe, Lt, Le, SLt, SLe}
use Rattle.bpf_insn.specs.declared.instruction.Modify.TheVariants.{Add as AddTo, Or as OrTo, And as AndTo, Xor as XorTo}
use Rattle.bpf_insn.specs.declared.instruction.AtomicOp.{AtomicOp}
use Rattle.bpf_insn.specs.declared.instruction.AtomicOp.TheVariants.{Modify as Changes, Xchg, CmpXchg}
use Rattle.bpf_insn.specs.declared.instruction.Insn.{Insn}
use Rattle.bpf_insn.specs.declared.instruction.Insn.TheVariants.{Alu, Neg, MovSx, End, LoadImm64, Load, LoadSx, Store, StoreImm, Atomic, Ja, JaLong, JumpIf, CallLocal, Exit}
use Rattle.bpf_text.specs.Spelling.{register_text, operation_text, cond_text, sign_bits_text, swap_text, unsigned_text, signed_text}
use Rattle.bpf_text.specs.Listing.{with_sign, offset_text, distance_text, number_text, hex_text, operand_text, atomic_word, atomic_sign, pieces, line_text, listing}

-- ---- parts

onto_short : (k base n : ℕ) (ds : List ℕ) → length (digits_onto k base false n ds) ≤ k + length ds
onto_short zero base n ds = omega arith
onto_short (suc k) base n ds = go (eqb (n / base) 0) (onto_short k base (n / base) (digit_glyph false (n % base) ∷ ds))
  where
    go : (b : Bool) → length (digits_onto k base false (n / base) (digit_glyph false (n % base) ∷ ds)) ≤ k + suc (length ds)
        → length (cond b (digit_glyph false (n % base) ∷ ds) (digits_onto k base false (n / base) (digit_glyph false (n % base) ∷ ds))) ≤ suc k + length ds
    go true h = omega arith
    go false h = omega arith

-- a number has at most 64 digits
pub digits_short : (base n : ℕ) → length (digits base false n) ≤ 64
unfolding digits
digits_short base n = let short : length (digits_onto 64 base false n []) ≤ 64 + 0 = onto_short 64 base n [] in omega arith

sign_short : (plus minus : List ℕ) (z : ℤ) → length plus ≤ 2 → length minus ≤ 2 → length (with_sign plus minus z) ≤ 66
sign_short plus minus (pos n) h k = let some : length (decimal n) ≤ 64 = digits_short 10 n in omega (arith, length-append plus (decimal n))
sign_short plus minus (negsuc n) h k = let some : length (decimal (suc n)) ≤ 64 = digits_short 10 (suc n) in omega (arith, length-append minus (decimal (suc n)))

number_short : (z : ℤ) → length (number_text z) ≤ 66
number_short z = sign_short [] (codes "-") z (omega arith) (omega arith)

offset_short : (z : ℤ) → length (offset_text z) ≤ 66
offset_short z = sign_short (codes "+ ") (codes "- ") z (omega arith) (omega arith)

distance_short : (z : ℤ) → length (distance_text z) ≤ 66
distance_short z = sign_short (codes "+") (codes "-") z (omega arith) (omega arith)

hex_short : (n : ℕ) → length (hex_text n) ≤ 66
hex_short n = let some : length (digits 16 false n) ≤ 64 = digits_short 16 n in omega (arith, length-append (codes "0x") (digits 16 false n))

register_short : (width : Width) (r : Reg) → length (register_text width r) ≤ 8
register_short W32 R0 = omega arith
register_short W32 R1 = omega arith
register_short W32 R2 = omega arith
register_short W32 R3 = omega arith
register_short W32 R4 = omega arith
register_short W32 R5 = omega arith
register_short W32 R6 = omega arith
register_short W32 R7 = omega arith
register_short W32 R8 = omega arith
register_short W32 R9 = omega arith
register_short W32 R10 = omega arith
register_short W64 R0 = omega arith
register_short W64 R1 = omega arith
register_short W64 R2 = omega arith
register_short W64 R3 = omega arith
register_short W64 R4 = omega arith
register_short W64 R5 = omega arith
register_short W64 R6 = omega arith
register_short W64 R7 = omega arith
register_short W64 R8 = omega arith
register_short W64 R9 = omega arith
register_short W64 R10 = omega arith

operation_short : (op : AluOp) → length (operation_text op) ≤ 8
operation_short Add = omega arith
operation_short Sub = omega arith
operation_short Mul = omega arith
operation_short Div = omega arith
operation_short SDiv = omega arith
operation_short Or = omega arith
operation_short And = omega arith
operation_short Lsh = omega arith
operation_short Rsh = omega arith
operation_short Mod = omega arith
operation_short SMod = omega arith
operation_short Xor = omega arith
operation_short Mov = omega arith
operation_short Arsh = omega arith

cond_short : (test : Cond) → length (cond_text test) ≤ 8
cond_short Eq = omega arith
cond_short Gt = omega arith
cond_short Ge = omega arith
cond_short Set = omega arith
cond_short Ne = omega arith
cond_short SGt = omega arith
cond_short SGe = omega arith
cond_short Lt = omega arith
cond_short Le = omega arith
cond_short SLt = omega arith
cond_short SLe = omega arith

bits_short : (bits : SignBits) → length (sign_bits_text bits) ≤ 8
bits_short S8 = omega arith
bits_short S16 = omega arith
bits_short S32 = omega arith

swap_short : (kind : EndKind) (bits : EndBits) → length (swap_text kind bits) ≤ 8
swap_short ToLe E16 = omega arith
swap_short ToLe E32 = omega arith
swap_short ToLe E64 = omega arith
swap_short ToBe E16 = omega arith
swap_short ToBe E32 = omega arith
swap_short ToBe E64 = omega arith
swap_short Swap E16 = omega arith
swap_short Swap E32 = omega arith
swap_short Swap E64 = omega arith

unsigned_short : (size : Size) → length (unsigned_text size) ≤ 8
unsigned_short B = omega arith
unsigned_short H = omega arith
unsigned_short W = omega arith
unsigned_short DW = omega arith

signed_short : (size : Size) → length (signed_text size) ≤ 8
signed_short B = omega arith
signed_short H = omega arith
signed_short W = omega arith
signed_short DW = omega arith

word_short : (op : AtomicOp) → length (atomic_word op) ≤ 8
word_short (Changes by true) = omega arith
word_short (Changes by false) = omega arith
word_short Xchg = omega arith
word_short CmpXchg = omega arith

mark_short : (op : AtomicOp) → length (atomic_sign op) ≤ 8
mark_short (Changes AddTo fetch) = omega arith
mark_short (Changes OrTo fetch) = omega arith
mark_short (Changes AndTo fetch) = omega arith
mark_short (Changes XorTo fetch) = omega arith
mark_short Xchg = omega arith
mark_short CmpXchg = omega arith

operand_short : (width : Width) (src : Operand) → length (operand_text width src) ≤ 66
operand_short width (Imm imm) = number_short imm
operand_short width (FromReg r) = omega (arith, register_short width r)

-- ---- lines

pub line_short : (i : Insn) → length (line_text i) ≤ 256
line_short (Alu op width dst src) = simp length-append (omega (arith, register_short width dst, operation_short op, operand_short width src))
line_short (Neg width dst) = simp length-append (omega (arith, register_short width dst))
line_short (MovSx width bits dst src) = simp length-append (omega (arith, register_short width dst, bits_short bits, register_short width src))
line_short (End kind bits dst) = simp length-append (omega (arith, register_short W64 dst, swap_short kind bits))
line_short (LoadImm64 dst value) = simp length-append (omega (arith, register_short W64 dst, hex_short value))
line_short (Load size dst src off) = simp length-append (omega (arith, register_short W64 dst, unsigned_short size, register_short W64 src, offset_short off))
line_short (LoadSx size dst src off) = simp length-append (omega (arith, register_short W64 dst, signed_short size, register_short W64 src, offset_short off))
line_short (Store size dst off src) = simp length-append (omega (arith, register_short W64 dst, unsigned_short size, register_short W64 src, offset_short off))
line_short (StoreImm size dst off imm) = simp length-append (omega (arith, register_short W64 dst, unsigned_short size, number_short imm, offset_short off))
line_short (Atomic wide op dst off src) = simp length-append (omega (arith, word_short op, unsigned_short (word_size wide), register_short W64 dst, offset_short off, mark_short op, register_short W64 src))
line_short (Ja off) = simp length-append (omega (arith, distance_short off))
line_short (JaLong off) = simp length-append (omega (arith, distance_short off))
line_short (JumpIf test width dst src off) = simp length-append (omega (arith, register_short width dst, cond_short test, operand_short width src, distance_short off))
line_short (CallLocal off) = simp length-append (omega (arith, distance_short off))
line_short Exit = omega arith

-- the same without the line end, which leaves room for a comment
pub text_short : (i : Insn) → length (concat (pieces i)) ≤ 162
text_short (Alu op width dst src) = simp length-append (omega (arith, register_short width dst, operation_short op, operand_short width src))
text_short (Neg width dst) = simp length-append (omega (arith, register_short width dst))
text_short (MovSx width bits dst src) = simp length-append (omega (arith, register_short width dst, bits_short bits, register_short width src))
text_short (End kind bits dst) = simp length-append (omega (arith, register_short W64 dst, swap_short kind bits))
text_short (LoadImm64 dst value) = simp length-append (omega (arith, register_short W64 dst, hex_short value))
text_short (Load size dst src off) = simp length-append (omega (arith, register_short W64 dst, unsigned_short size, register_short W64 src, offset_short off))
text_short (LoadSx size dst src off) = simp length-append (omega (arith, register_short W64 dst, signed_short size, register_short W64 src, offset_short off))
text_short (Store size dst off src) = simp length-append (omega (arith, register_short W64 dst, unsigned_short size, register_short W64 src, offset_short off))
text_short (StoreImm size dst off imm) = simp length-append (omega (arith, register_short W64 dst, unsigned_short size, number_short imm, offset_short off))
text_short (Atomic wide op dst off src) = simp length-append (omega (arith, word_short op, unsigned_short (word_size wide), register_short W64 dst, offset_short off, mark_short op, register_short W64 src))
text_short (Ja off) = simp length-append (omega (arith, distance_short off))
text_short (JaLong off) = simp length-append (omega (arith, distance_short off))
text_short (JumpIf test width dst src off) = simp length-append (omega (arith, register_short width dst, cond_short test, operand_short width src, distance_short off))
text_short (CallLocal off) = simp length-append (omega (arith, distance_short off))
text_short Exit = omega arith

-- ---- the listing

slot_short : (i : Insn) → 1 ≤ length (slots_of i)
slot_short (LoadImm64 dst value) = omega arith
slot_short i = omega arith

pub lines_short : (is : List Insn) → length (listing is) ≤ 256 * slots is
lines_short [] = omega arith
lines_short (i ∷ is) = omega (arith, line_short i, slot_short i, lines_short is, length-append (line_text i) (listing is), length-append (slots_of i) (layout is))
