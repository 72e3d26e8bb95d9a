-- The lines of a listing: no line end, colon or semicolon stands in one, and it begins with no blank.
use Rattle.std.proofs.Common.{◌≡◌, ℕ, suc, ◌^◌, ◌<◌, Bool, true, false, eqb, List, [], ◌∷◌, ◌++◌, refl, sym, ap, ◌∙◌, append_assoc, arith}
use Rattle.std.specs.Prelude.{codes, decimal, ℤ, pos, negsuc, not, ◌||◌, ◌==◌, FitsSigned}
use Rattle.std.specs.Int.{w16, w32}
use Rattle.std.specs.List.{concat, list_all}
use Rattle.std.proofs.lemmas.Bool.Decides.{nat_tests}
use Rattle.bpf_insn.specs.Instruction.{word_size}
use Rattle.bpf_insn.specs.Image.{HasEncoding, OperandFits}
use Rattle.bpf_insn.specs.declared.instruction.Reg.{Reg}
use Rattle.bpf_insn.specs.declared.instruction.Reg.TheVariants.{R0, R1, R2, R3, R4, R5, R6, R7, R8, R9, R10}
use Rattle.bpf_insn.specs.declared.instruction.Size.{Size}
use Rattle.bpf_insn.specs.declared.instruction.Size.TheVariants.{B, H, W, DW}
use Rattle.bpf_insn.specs.declared.instruction.Width.{Width}
use Rattle.bpf_insn.specs.declared.instruction.Width.TheVariants.{W32, W64}
use Rattle.bpf_insn.specs.declared.instruction.Operand.{Operand}
use Rattle.bpf_insn.specs.declared.instruction.Operand.TheVariants.{Imm, Reg as FromReg}
use Rattle.bpf_insn.specs.declared.instruction.AluOp.{AluOp}
use Rattle.bpf_insn.specs.declared.instruction.AluOp.TheVariants.{Add, Sub, Mul, Div, SDiv, Or, And, Lsh, Rsh, Mod, SMod, Xor, Mov, Arsh}
use Rattle.bpf_insn.specs.declared.instruction.SignBits.{SignBits}
use Rattle.bpf_insn.specs.declared.instruction.SignBits.TheVariants.{B8 as S8, B16 as S16, B32 as S32}
use Rattle.bpf_insn.specs.declared.instruction.EndKind.{EndKind}
use Rattle.bpf_insn.specs.declared.instruction.EndKind.TheVariants.{Le as ToLe, Be as ToBe, Swap}
use Rattle.bpf_insn.specs.declared.instruction.EndBits.{EndBits}
use Rattle.bpf_insn.specs.declared.instruction.EndBits.TheVariants.{B16 as E16, B32 as E32, B64 as E64}
use Rattle.bpf_insn.specs.declared.instruction.Cond.{Cond}
use Rattle.bpf_insn.specs.declared.instruction.Cond.TheVariants.{Eq, Gt, Ge, Set, Ne, SGt, SGe, Lt, Le, SLt, SLe}
use Rattle.bpf_insn.specs.declared.instruction.Modify.TheVariants.{Add as AddTo, Or as OrTo, And as AndTo, Xor as XorTo}
use Rattle.bpf_insn.specs.declared.instruction.AtomicOp.{AtomicOp}
use Rattle.bpf_insn.specs.declared.instruction.AtomicOp.TheVariants.{Modify as Changes, Xchg, CmpXchg}
use Rattle.bpf_insn.specs.declared.instruction.Insn.{Insn}
use Rattle.bpf_insn.specs.declared.instruction.Insn.TheVariants.{Alu, Neg, MovSx, End, LoadImm64, Load, LoadSx, Store, StoreImm, Atomic, Ja, JaLong, JumpIf, CallLocal, Exit}
use Rattle.bpf_text.specs.Characters.{is_word_part}
use Rattle.bpf_text.specs.code.WordReading.{skip_blanks}
use Rattle.bpf_text.specs.Spelling.{register_text, operation_text, cond_text, sign_bits_text, swap_text, unsigned_text, signed_text}
use Rattle.bpf_text.specs.Listing.{pieces, line_text, with_sign, number_text, offset_text, distance_text, operand_text, hex_text, atomic_word, atomic_sign}
use Rattle.bpf_text.specs.Sources.{before, lines_of}
use Rattle.bpf_text.specs.code.LineReading.{parts_of}
use Rattle.bpf_text.proofs.WordLemmas.{both_true, decimal_number, hex_number, IsNumber}
use Rattle.bpf_text.proofs.AccessLemmas.{IsShort, short_16, short_32}

-- neither a line end nor a colon nor a semicolon
abbrev pub is_inside : ℕ → Bool
is_inside c = not ((c == 10) || (c == 58) || (c == 59))

pub apart : (a b c : Bool) → not (a || b || c) ≡ true → (a ≡ false) × (b ≡ false) × (c ≡ false)
apart true b c e = cc
apart false true c e = cc
apart false false true e = cc
apart false false false e = (refl, refl, refl)

-- ---- what such a text is cut to

pub first_line : (line rest : List ℕ) → list_all is_inside line ≡ true → lines_of (line ++ 10 ∷ rest) ≡ line ∷ lines_of rest
first_line [] rest h = refl
first_line (c ∷ cs) rest h =
    let parts = both_true (is_inside c) (list_all is_inside cs) h in let not_it = apart (eqb c 10) (eqb c 58) (eqb c 59) parts.0 in
    rw (not_it.0, first_line cs rest parts.1) refl

pub no_comment : (line : List ℕ) → list_all is_inside line ≡ true → before 59 line ≡ line
no_comment [] h = refl
no_comment (c ∷ cs) h =
    let parts = both_true (is_inside c) (list_all is_inside cs) h in let not_it = apart (eqb c 10) (eqb c 58) (eqb c 59) parts.0 in
    rw (not_it.2, no_comment cs parts.1) refl

pub no_label : (line : List ℕ) → list_all is_inside line ≡ true → parts_of line ≡ line ∷ []
no_label [] h = refl
no_label (c ∷ cs) h =
    let parts = both_true (is_inside c) (list_all is_inside cs) h in let not_it = apart (eqb c 10) (eqb c 58) (eqb c 59) parts.0 in
    rw (not_it.1, no_label cs parts.1) refl

-- ---- the pieces of a line

joined : (a b : List ℕ) → list_all is_inside a ≡ true → list_all is_inside b ≡ true → list_all is_inside (a ++ b) ≡ true
joined [] b h k = k
joined (c ∷ cs) b h k = let parts = both_true (is_inside c) (list_all is_inside cs) h in rw (parts.0, joined cs b parts.1 k) refl

abbrev pub EachInside : List (List ℕ) → Type 0
EachInside [] = Unit {0}
EachInside (x ∷ xs) = (list_all is_inside x ≡ true) × EachInside xs

all_joined : (xs : List (List ℕ)) → EachInside xs → list_all is_inside (concat xs) ≡ true
all_joined [] h = refl
all_joined (x ∷ xs) h = joined x (concat xs) h.0 (all_joined xs h.1)

part_inside : (c : ℕ) → is_word_part c ≡ true → is_inside c ≡ true
part_inside c h = grind (arith, nat_tests)

word_inside : (cs : List ℕ) → list_all is_word_part cs ≡ true → list_all is_inside cs ≡ true
word_inside [] h = refl
word_inside (c ∷ cs) h = let parts = both_true (is_word_part c) (list_all is_word_part cs) h in rw (part_inside c parts.0, word_inside cs parts.1) refl

decimal_inside : (n : ℕ) → n < 2 ^ 64 → list_all is_inside (decimal n) ≡ true
decimal_inside n h = let number : IsNumber (decimal n) n = decimal_number n h in word_inside (decimal n) number.parts

sign_inside : (plus minus : List ℕ) (z : ℤ) → list_all is_inside plus ≡ true → list_all is_inside minus ≡ true → IsShort z → list_all is_inside (with_sign plus minus z) ≡ true
sign_inside plus minus (pos n) h k fits = joined plus (decimal n) h (decimal_inside n fits)
sign_inside plus minus (negsuc n) h k fits = joined minus (decimal (suc n)) k (decimal_inside (suc n) fits)

hex_inside : (n : ℕ) → n < 2 ^ 64 → list_all is_inside (hex_text n) ≡ true
hex_inside n h = let number : IsNumber (hex_text n) n = hex_number n h in word_inside (hex_text n) number.parts

register_inside : (width : Width) (r : Reg) → list_all is_inside (register_text width r) ≡ true
register_inside W32 R0 = refl
register_inside W32 R1 = refl
register_inside W32 R2 = refl
register_inside W32 R3 = refl
register_inside W32 R4 = refl
register_inside W32 R5 = refl
register_inside W32 R6 = refl
register_inside W32 R7 = refl
register_inside W32 R8 = refl
register_inside W32 R9 = refl
register_inside W32 R10 = refl
register_inside W64 R0 = refl
register_inside W64 R1 = refl
register_inside W64 R2 = refl
register_inside W64 R3 = refl
register_inside W64 R4 = refl
register_inside W64 R5 = refl
register_inside W64 R6 = refl
register_inside W64 R7 = refl
register_inside W64 R8 = refl
register_inside W64 R9 = refl
register_inside W64 R10 = refl

operation_inside : (op : AluOp) → list_all is_inside (operation_text op) ≡ true
operation_inside Add = refl
operation_inside Sub = refl
operation_inside Mul = refl
operation_inside Div = refl
operation_inside SDiv = refl
operation_inside Or = refl
operation_inside And = refl
operation_inside Lsh = refl
operation_inside Rsh = refl
operation_inside Mod = refl
operation_inside SMod = refl
operation_inside Xor = refl
operation_inside Mov = refl
operation_inside Arsh = refl

cond_inside : (test : Cond) → list_all is_inside (cond_text test) ≡ true
cond_inside Eq = refl
cond_inside Gt = refl
cond_inside Ge = refl
cond_inside Set = refl
cond_inside Ne = refl
cond_inside SGt = refl
cond_inside SGe = refl
cond_inside Lt = refl
cond_inside Le = refl
cond_inside SLt = refl
cond_inside SLe = refl

bits_inside : (bits : SignBits) → list_all is_inside (sign_bits_text bits) ≡ true
bits_inside S8 = refl
bits_inside S16 = refl
bits_inside S32 = refl

swap_inside : (kind : EndKind) (bits : EndBits) → list_all is_inside (swap_text kind bits) ≡ true
swap_inside ToLe E16 = refl
swap_inside ToLe E32 = refl
swap_inside ToLe E64 = refl
swap_inside ToBe E16 = refl
swap_inside ToBe E32 = refl
swap_inside ToBe E64 = refl
swap_inside Swap E16 = refl
swap_inside Swap E32 = refl
swap_inside Swap E64 = refl

unsigned_inside : (size : Size) → list_all is_inside (unsigned_text size) ≡ true
unsigned_inside B = refl
unsigned_inside H = refl
unsigned_inside W = refl
unsigned_inside DW = refl

signed_inside : (size : Size) → list_all is_inside (signed_text size) ≡ true
signed_inside B = refl
signed_inside H = refl
signed_inside W = refl
signed_inside DW = refl

atomic_word_inside : (op : AtomicOp) → list_all is_inside (atomic_word op) ≡ true
atomic_word_inside (Changes AddTo true) = refl
atomic_word_inside (Changes AddTo false) = refl
atomic_word_inside (Changes OrTo true) = refl
atomic_word_inside (Changes OrTo false) = refl
atomic_word_inside (Changes AndTo true) = refl
atomic_word_inside (Changes AndTo false) = refl
atomic_word_inside (Changes XorTo true) = refl
atomic_word_inside (Changes XorTo false) = refl
atomic_word_inside Xchg = refl
atomic_word_inside CmpXchg = refl

atomic_sign_inside : (op : AtomicOp) → list_all is_inside (atomic_sign op) ≡ true
atomic_sign_inside (Changes AddTo true) = refl
atomic_sign_inside (Changes AddTo false) = refl
atomic_sign_inside (Changes OrTo true) = refl
atomic_sign_inside (Changes OrTo false) = refl
atomic_sign_inside (Changes AndTo true) = refl
atomic_sign_inside (Changes AndTo false) = refl
atomic_sign_inside (Changes XorTo true) = refl
atomic_sign_inside (Changes XorTo false) = refl
atomic_sign_inside Xchg = refl
atomic_sign_inside CmpXchg = refl

number_inside : (z : ℤ) → FitsSigned w32 z → list_all is_inside (number_text z) ≡ true
number_inside z fits = sign_inside [] (codes "-") z refl refl (short_32 z fits)

offset_inside : (z : ℤ) → FitsSigned w16 z → list_all is_inside (offset_text z) ≡ true
offset_inside z fits = sign_inside (codes "+ ") (codes "- ") z refl refl (short_16 z fits)

distance_inside : (z : ℤ) → IsShort z → list_all is_inside (distance_text z) ≡ true
distance_inside z fits = sign_inside (codes "+") (codes "-") z refl refl fits

operand_inside : (width : Width) (src : Operand) → OperandFits src → list_all is_inside (operand_text width src) ≡ true
operand_inside width (Imm imm) fits = number_inside imm fits
operand_inside width (FromReg r) fits = register_inside width r

loads_inside : (size : Size) (dst src : Reg) (off : ℤ) → FitsSigned w16 off → EachInside (pieces (LoadSx size dst src off))
loads_inside size dst src off fits = (register_inside W64 dst, (refl, (signed_inside size, (refl, (register_inside W64 src, (refl, (offset_inside off fits, (refl, tt))))))))

extends_inside : (width : Width) (bits : SignBits) (dst src : Reg) → EachInside (pieces (MovSx width bits dst src))
extends_inside width bits dst src = (register_inside width dst, (refl, (bits_inside bits, (refl, (register_inside width src, tt)))))

pieces_inside : (i : Insn) → HasEncoding i → EachInside (pieces i)
pieces_inside (Alu op width dst src) fits = (register_inside width dst, (refl, (operation_inside op, (refl, (operand_inside width src fits, tt)))))
pieces_inside (Neg width dst) fits = (register_inside width dst, (refl, (register_inside width dst, tt)))
pieces_inside (MovSx W32 S8 dst src) fits = extends_inside W32 S8 dst src
pieces_inside (MovSx W32 S16 dst src) fits = extends_inside W32 S16 dst src
pieces_inside (MovSx W32 S32 dst src) fits = extends_inside W32 S32 dst src
pieces_inside (MovSx W64 S8 dst src) fits = extends_inside W64 S8 dst src
pieces_inside (MovSx W64 S16 dst src) fits = extends_inside W64 S16 dst src
pieces_inside (MovSx W64 S32 dst src) fits = extends_inside W64 S32 dst src
pieces_inside (End kind bits dst) fits = (register_inside W64 dst, (refl, (swap_inside kind bits, (refl, (register_inside W64 dst, tt)))))
pieces_inside (LoadImm64 dst value) fits = (register_inside W64 dst, (refl, (hex_inside value fits, (refl, tt))))
pieces_inside (Load size dst src off) fits = (register_inside W64 dst, (refl, (unsigned_inside size, (refl, (register_inside W64 src, (refl, (offset_inside off fits, (refl, tt))))))))
pieces_inside (LoadSx DW dst src off) fits = absurd fits
pieces_inside (LoadSx B dst src off) fits = loads_inside B dst src off fits
pieces_inside (LoadSx H dst src off) fits = loads_inside H dst src off fits
pieces_inside (LoadSx W dst src off) fits = loads_inside W dst src off fits
pieces_inside (Store size dst off src) fits = (refl, (unsigned_inside size, (refl, (register_inside W64 dst, (refl, (offset_inside off fits, (refl, (register_inside W64 src, tt))))))))
pieces_inside (StoreImm size dst off imm) fits = (refl, (unsigned_inside size, (refl, (register_inside W64 dst, (refl, (offset_inside off fits.0, (refl, (number_inside imm fits.1, tt))))))))
pieces_inside (Atomic wide op dst off src) fits =
    (refl, (atomic_word_inside op, (refl, (unsigned_inside (word_size wide), (refl, (register_inside W64 dst, (refl, (offset_inside off fits, (atomic_sign_inside op, (register_inside W64 src, tt))))))))))
pieces_inside (Ja off) fits = (refl, (distance_inside off (short_16 off fits), tt))
pieces_inside (JaLong off) fits = (refl, (distance_inside off (short_32 off fits), tt))
pieces_inside (JumpIf test width dst src off) fits =
    (refl, (register_inside width dst, (refl, (cond_inside test, (refl, (operand_inside width src fits.0, (refl, (distance_inside off (short_16 off fits.1), tt))))))))
pieces_inside (CallLocal off) fits = (refl, (distance_inside off (short_32 off fits), tt))
pieces_inside Exit fits = (refl, tt)

pub line_inside : (i : Insn) → HasEncoding i → list_all is_inside (concat (pieces i)) ≡ true
line_inside i fits = all_joined (pieces i) (pieces_inside i fits)

-- ---- a line and its end

with_end : (xs : List (List ℕ)) → concat (xs ++ (10 ∷ []) ∷ []) ≡ concat xs ++ 10 ∷ []
with_end [] = refl
with_end (x ∷ xs) = ap (λ t. x ++ t) (with_end xs) ∙ sym (append_assoc x (concat xs) (10 ∷ []))

pub line_first : (i : Insn) (rest : List ℕ) → line_text i ++ rest ≡ concat (pieces i) ++ 10 ∷ rest
line_first i rest = ap (λ t. t ++ rest) (with_end (pieces i)) ∙ append_assoc (concat (pieces i)) (10 ∷ []) rest

-- ---- no blank in front

pub record Opens (text : List ℕ) : Type 0 where
  pub first : ℕ
  pub others : List ℕ
  pub is : skip_blanks text ≡ first ∷ others

register_opens : (width : Width) (r : Reg) (text : List ℕ) → Opens (register_text width r ++ text)
register_opens W32 R0 text = record { first = 119; others = 48 ∷ text; is = refl }
register_opens W32 R1 text = record { first = 119; others = 49 ∷ text; is = refl }
register_opens W32 R2 text = record { first = 119; others = 50 ∷ text; is = refl }
register_opens W32 R3 text = record { first = 119; others = 51 ∷ text; is = refl }
register_opens W32 R4 text = record { first = 119; others = 52 ∷ text; is = refl }
register_opens W32 R5 text = record { first = 119; others = 53 ∷ text; is = refl }
register_opens W32 R6 text = record { first = 119; others = 54 ∷ text; is = refl }
register_opens W32 R7 text = record { first = 119; others = 55 ∷ text; is = refl }
register_opens W32 R8 text = record { first = 119; others = 56 ∷ text; is = refl }
register_opens W32 R9 text = record { first = 119; others = 57 ∷ text; is = refl }
register_opens W32 R10 text = record { first = 119; others = 49 ∷ 48 ∷ text; is = refl }
register_opens W64 R0 text = record { first = 114; others = 48 ∷ text; is = refl }
register_opens W64 R1 text = record { first = 114; others = 49 ∷ text; is = refl }
register_opens W64 R2 text = record { first = 114; others = 50 ∷ text; is = refl }
register_opens W64 R3 text = record { first = 114; others = 51 ∷ text; is = refl }
register_opens W64 R4 text = record { first = 114; others = 52 ∷ text; is = refl }
register_opens W64 R5 text = record { first = 114; others = 53 ∷ text; is = refl }
register_opens W64 R6 text = record { first = 114; others = 54 ∷ text; is = refl }
register_opens W64 R7 text = record { first = 114; others = 55 ∷ text; is = refl }
register_opens W64 R8 text = record { first = 114; others = 56 ∷ text; is = refl }
register_opens W64 R9 text = record { first = 114; others = 57 ∷ text; is = refl }
register_opens W64 R10 text = record { first = 114; others = 49 ∷ 48 ∷ text; is = refl }

pub line_opens : (i : Insn) → Opens (concat (pieces i))
line_opens (Alu op width dst src) = register_opens width dst _
line_opens (Neg width dst) = register_opens width dst _
line_opens (MovSx width bits dst src) = register_opens width dst _
line_opens (End kind bits dst) = register_opens W64 dst _
line_opens (LoadImm64 dst value) = register_opens W64 dst _
line_opens (Load size dst src off) = register_opens W64 dst _
line_opens (LoadSx size dst src off) = register_opens W64 dst _
line_opens (Store size dst off src) = record { first = _; others = _; is = refl }
line_opens (StoreImm size dst off imm) = record { first = _; others = _; is = refl }
line_opens (Atomic wide op dst off src) = record { first = _; others = _; is = refl }
line_opens (Ja off) = record { first = _; others = _; is = refl }
line_opens (JaLong off) = record { first = _; others = _; is = refl }
line_opens (JumpIf test width dst src off) = record { first = _; others = _; is = refl }
line_opens (CallLocal off) = record { first = _; others = _; is = refl }
line_opens Exit = record { first = _; others = _; is = refl }
