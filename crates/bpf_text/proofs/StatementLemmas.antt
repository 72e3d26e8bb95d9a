-- Statements, read from their lines in the listing.
use Rattle.std.proofs.Common.{◌≡◌, ℕ, suc, ◌^◌, ◌<◌, true, false, cond, eqb, leb, ltb, List, [], ◌∷◌, ◌++◌, Some, None, refl, ap, ◌∙◌, arith}
use Rattle.std.specs.Prelude.{codes, decimal, ℤ, pos, negsuc, neg_ℤ, FitsSigned}
use Rattle.std.specs.Int.{w16, w32}
use Rattle.std.proofs.lemmas.Int.{ints}
use Rattle.bpf_insn.specs.declared.instruction.Reg.{Reg}
use Rattle.bpf_insn.specs.declared.instruction.Reg.TheVariants.{R0, R1, R2, R3, R4, R5, R6, R7, R8, R9, R10}
use Rattle.bpf_insn.specs.declared.instruction.Width.{Width}
use Rattle.bpf_insn.specs.declared.instruction.Width.TheVariants.{W32, W64}
use Rattle.bpf_insn.specs.declared.instruction.Operand.{Operand}
use Rattle.bpf_insn.specs.declared.instruction.Operand.TheVariants.{Imm, Reg as FromReg}
use Rattle.bpf_insn.specs.declared.instruction.AluOp.{AluOp}
use Rattle.bpf_insn.specs.declared.instruction.AluOp.TheVariants.{Add, Sub, Mul, Div, SDiv, Or, And, Lsh, Rsh, Mod, SMod, Xor, Mov, Arsh}
use Rattle.bpf_insn.specs.declared.instruction.SignBits.{SignBits}
use Rattle.bpf_insn.specs.declared.instruction.SignBits.TheVariants.{B8 as S8, B16 as S16, B32 as S32}
use Rattle.bpf_insn.specs.declared.instruction.EndKind.{EndKind}
use Rattle.bpf_insn.specs.declared.instruction.EndKind.TheVariants.{Le as ToLe, Be as ToBe, Swap}
use Rattle.bpf_insn.specs.declared.instruction.EndBits.{EndBits}
use Rattle.bpf_insn.specs.declared.instruction.EndBits.TheVariants.{B16 as E16, B32 as E32, B64 as E64}
use Rattle.bpf_insn.specs.declared.instruction.Insn.{Insn}
use Rattle.bpf_insn.specs.declared.instruction.Insn.TheVariants.{Alu, Neg, MovSx, End, LoadImm64}
use Rattle.bpf_insn.specs.Image.{OperandFits}
use Rattle.bpf_text.specs.Characters.{is_digit}
use Rattle.bpf_text.specs.code.WordReading.{word_in, behind, behind_word, behind_mark, first_spelled, unsigned_in, number_in}
use Rattle.bpf_text.specs.Spelling.{register_text, operation_text, sign_bits_text, swap_text}
use Rattle.bpf_text.specs.Parts.{swaps, swap_spelling}
use Rattle.bpf_text.specs.code.StatementReading.{Checked, any_register_in, register_in, operand_in, constant_in, negative_in, extension_in, swap_in, assigned_in, operation_in, assignment_in}
use Rattle.bpf_text.specs.Numerals.{fits_16, fits_32}
use Rattle.bpf_text.specs.Statements.{is_extension}
use Rattle.bpf_text.specs.Listing.{operand_text, hex_text}
use Rattle.bpf_text.proofs.WordLemmas.{Stops, at_most, below, IsNumber, decimal_number, hex_number, number_word, unsigned_here, unsigned_behind_blank, word_behind_blank, not_digit}
use Rattle.bpf_text.proofs.PartLemmas.{register_word, register_here, register_itself, operation_found, extension_found, swap_found}

-- nothing, or a blank, stops a word
pub at_end : Stops []
at_end = record { front = refl; rest = refl }

pub at_blank : (text : List ℕ) → Stops (32 ∷ text)
at_blank text = record { front = refl; rest = refl }

pub at_parenthesis : (text : List ℕ) → Stops (41 ∷ text)
at_parenthesis text = record { front = refl; rest = refl }

-- ---- ranges

pub small : (n : ℕ) → FitsSigned w32 (pos n) → n < 2 ^ 64
small n h = omega (arith, ints)

pub small_below : (n : ℕ) → FitsSigned w32 (negsuc n) → suc n < 2 ^ 64
small_below n h = omega (arith, ints)

pub in_16 : (z : ℤ) → FitsSigned w16 z → fits_16 z ≡ Some z
in_16 (pos n) h = let few : leb n 32767 ≡ true = at_most n 32767 (omega (arith, ints)) in rw few refl
in_16 (negsuc n) h = let few : leb n 32767 ≡ true = at_most n 32767 (omega (arith, ints)) in rw few refl

pub in_32 : (z : ℤ) → FitsSigned w32 z → fits_32 z ≡ Some z
in_32 (pos n) h = let few : leb n 2147483647 ≡ true = at_most n 2147483647 (omega (arith, ints)) in rw few refl
in_32 (negsuc n) h = let few : leb n 2147483647 ≡ true = at_most n 2147483647 (omega (arith, ints)) in rw few refl

-- ---- a number isn't a register

pub no_register : (d : ℕ) (ds text rest : List ℕ) → word_in text ≡ Some (d ∷ ds, rest) → eqb d 114 ≡ false → eqb d 119 ≡ false → any_register_in text ≡ None
unfolding any_register_in behind behind_word
no_register d ds text rest e r w = rw (e, r, w) refl

pub no_register_of : (width : Width) (d : ℕ) (ds text rest : List ℕ) → word_in text ≡ Some (d ∷ ds, rest) → eqb d 114 ≡ false → eqb d 119 ≡ false → register_in width text ≡ None
unfolding register_in
no_register_of width d ds text rest e r w = rw (no_register d ds text rest e r w) refl

no_swap : (d : ℕ) (ds text rest : List ℕ) → word_in text ≡ Some (d ∷ ds, rest) → eqb d 108 ≡ false → eqb d 98 ≡ false → first_spelled swap_spelling swaps text ≡ None
unfolding behind behind_word
no_swap d ds text rest e l b = rw (e, l, b) refl

not_itself : (width : Width) (r : Reg) (d : ℕ) (ds text rest : List ℕ) → word_in text ≡ Some (d ∷ ds, rest) → eqb d 114 ≡ false → eqb d 119 ≡ false → behind (register_text width r) text ≡ None
unfolding behind behind_word
not_itself W32 R0 d ds text rest e r w = rw (e, w) refl
not_itself W32 R1 d ds text rest e r w = rw (e, w) refl
not_itself W32 R2 d ds text rest e r w = rw (e, w) refl
not_itself W32 R3 d ds text rest e r w = rw (e, w) refl
not_itself W32 R4 d ds text rest e r w = rw (e, w) refl
not_itself W32 R5 d ds text rest e r w = rw (e, w) refl
not_itself W32 R6 d ds text rest e r w = rw (e, w) refl
not_itself W32 R7 d ds text rest e r w = rw (e, w) refl
not_itself W32 R8 d ds text rest e r w = rw (e, w) refl
not_itself W32 R9 d ds text rest e r w = rw (e, w) refl
not_itself W32 R10 d ds text rest e r w = rw (e, w) refl
not_itself W64 R0 d ds text rest e r w = rw (e, r) refl
not_itself W64 R1 d ds text rest e r w = rw (e, r) refl
not_itself W64 R2 d ds text rest e r w = rw (e, r) refl
not_itself W64 R3 d ds text rest e r w = rw (e, r) refl
not_itself W64 R4 d ds text rest e r w = rw (e, r) refl
not_itself W64 R5 d ds text rest e r w = rw (e, r) refl
not_itself W64 R6 d ds text rest e r w = rw (e, r) refl
not_itself W64 R7 d ds text rest e r w = rw (e, r) refl
not_itself W64 R8 d ds text rest e r w = rw (e, r) refl
not_itself W64 R9 d ds text rest e r w = rw (e, r) refl
not_itself W64 R10 d ds text rest e r w = rw (e, r) refl

-- ---- numbers

-- no mark stands in front of a number
no_mark : (m d : ℕ) (text : List ℕ) → eqb d 32 ≡ false → eqb d 9 ≡ false → eqb d 13 ≡ false → eqb d m ≡ false → behind_mark m (32 ∷ d ∷ text) ≡ None
unfolding behind_mark
no_mark m d text a b c e = rw (a, b, c) (rw e refl)

pub no_mark_before : (m : ℕ) (w : List ℕ) (n : ℕ) (text : List ℕ) → IsNumber w n → is_digit m ≡ false → behind_mark m (32 ∷ (w ++ text)) ≡ None
no_mark_before m w n text number other =
    ap (λ v. behind_mark m (32 ∷ (v ++ text))) number.is
    ∙ no_mark m number.first (number.others ++ text) (not_digit number.first 32 number.digit refl) (not_digit number.first 9 number.digit refl) (not_digit number.first 13 number.digit refl) (not_digit number.first m number.digit other)

-- what a number in front of a text comes to for the readers that try something else first
pub record Ahead (w : List ℕ) (n : ℕ) (text : List ℕ) : Type 0 where
  pub registers : any_register_in (32 ∷ (w ++ text)) ≡ None
  pub register : (width : Width) → register_in width (32 ∷ (w ++ text)) ≡ None
  pub itself : (width : Width) (r : Reg) → behind (register_text width r) (w ++ text) ≡ None
  pub swaps : first_spelled swap_spelling swaps (32 ∷ (w ++ text)) ≡ None
  pub minus : behind_mark 45 (32 ∷ (w ++ text)) ≡ None
  pub parenthesis : behind_mark 40 (32 ∷ (w ++ text)) ≡ None
  pub star : behind_mark 42 (32 ∷ (w ++ text)) ≡ None
  pub number : unsigned_in (w ++ text) ≡ Some (n, text)

pub ahead : (w : List ℕ) (n : ℕ) (text : List ℕ) → IsNumber w n → Stops text → Ahead w n text
ahead w n text number stops =
    let word : word_in (w ++ text) ≡ Some (number.first ∷ number.others, text) = number_word w n text number stops in
    let behind_one : word_in (32 ∷ (w ++ text)) ≡ Some (number.first ∷ number.others, text) = word_behind_blank (w ++ text) ∙ word in
    let r : eqb number.first 114 ≡ false = not_digit number.first 114 number.digit refl in
    let w' : eqb number.first 119 ≡ false = not_digit number.first 119 number.digit refl in
    record {
      registers = no_register number.first number.others (32 ∷ (w ++ text)) text behind_one r w';
      register = λ width. no_register_of width number.first number.others (32 ∷ (w ++ text)) text behind_one r w';
      itself = λ width reg. not_itself width reg number.first number.others (w ++ text) text word r w';
      swaps = no_swap number.first number.others (32 ∷ (w ++ text)) text behind_one (not_digit number.first 108 number.digit refl) (not_digit number.first 98 number.digit refl);
      minus = no_mark_before 45 w n text number refl;
      parenthesis = no_mark_before 40 w n text number refl;
      star = no_mark_before 42 w n text number refl;
      number = unsigned_here w n text number stops;
    }

-- ---- operands

minus_ahead : (text : List ℕ) → behind_mark 45 (32 ∷ 45 ∷ text) ≡ Some text
unfolding behind_mark
minus_ahead text = refl

no_register_ahead : (width : Width) (text : List ℕ) → register_in width (32 ∷ 45 ∷ text) ≡ None
unfolding register_in any_register_in behind behind_word word_in
no_register_ahead width text = refl

pub operand_here : (width : Width) (src : Operand) (text : List ℕ) → OperandFits src → Stops text → operand_in width (32 ∷ (operand_text width src ++ text)) ≡ Some (Some src, text)
unfolding operand_in number_in
operand_here width (FromReg r) text fits stops =
    let word : word_in (32 ∷ (register_text width r ++ text)) ≡ Some (register_text width r, text) = word_behind_blank (register_text width r ++ text) ∙ register_word width r text stops in
    rw (register_here width r (32 ∷ (register_text width r ++ text)) text word) refl
operand_here width (Imm (pos n)) text fits stops =
    let number : Ahead (decimal n) n text = ahead (decimal n) n text (decimal_number n (small n fits)) stops in
    rw (number.register width, number.minus, unsigned_behind_blank (decimal n ++ text), number.number, in_32 (pos n) fits) refl
operand_here width (Imm (negsuc n)) text fits stops =
    let number : Ahead (decimal (suc n)) (suc n) text = ahead (decimal (suc n)) (suc n) text (decimal_number (suc n) (small_below n fits)) stops in
    rw (no_register_ahead width (decimal (suc n) ++ text), minus_ahead (decimal (suc n) ++ text), number.number, in_32 (negsuc n) fits) refl

-- ---- arithmetic

moved_register : (width : Width) (dst r : Reg) → assigned_in width dst (32 ∷ (register_text width r ++ [])) ≡ Some (Some (Alu Mov width dst (FromReg r)), [])
unfolding assigned_in behind_mark behind behind_word word_in register_in any_register_in
moved_register W32 dst R0 = refl
moved_register W32 dst R1 = refl
moved_register W32 dst R2 = refl
moved_register W32 dst R3 = refl
moved_register W32 dst R4 = refl
moved_register W32 dst R5 = refl
moved_register W32 dst R6 = refl
moved_register W32 dst R7 = refl
moved_register W32 dst R8 = refl
moved_register W32 dst R9 = refl
moved_register W32 dst R10 = refl
moved_register W64 dst R0 = refl
moved_register W64 dst R1 = refl
moved_register W64 dst R2 = refl
moved_register W64 dst R3 = refl
moved_register W64 dst R4 = refl
moved_register W64 dst R5 = refl
moved_register W64 dst R6 = refl
moved_register W64 dst R7 = refl
moved_register W64 dst R8 = refl
moved_register W64 dst R9 = refl
moved_register W64 dst R10 = refl

constant_here : (width : Width) (dst : Reg) (z : ℤ) → FitsSigned w32 z → constant_in width dst z [] ≡ Some (Some (Alu Mov width dst (Imm z)), [])
unfolding constant_in behind behind_word word_in
constant_here width dst z fits = rw (in_32 z fits) refl

pub number_assigned : (width : Width) (dst : Reg) (w : List ℕ) (n : ℕ) (text : List ℕ) → Ahead w n text → assigned_in width dst (32 ∷ (w ++ text)) ≡ constant_in width dst (pos n) text
unfolding assigned_in
number_assigned width dst w n text number =
    rw (number.minus, number.parenthesis, number.star, number.swaps, number.register width, unsigned_behind_blank (w ++ text), number.number) refl

negative_here : (width : Width) (dst : Reg) (w : List ℕ) (n : ℕ) (text : List ℕ) → Ahead w n text → assigned_in width dst (32 ∷ 45 ∷ (w ++ text)) ≡ constant_in width dst (neg_ℤ (pos n)) text
unfolding assigned_in negative_in
negative_here width dst w n text number =
    rw (minus_ahead (w ++ text), number.itself width dst, number.number) refl

moved : (width : Width) (dst : Reg) (src : Operand) → OperandFits src → assigned_in width dst (32 ∷ (operand_text width src ++ [])) ≡ Some (Some (Alu Mov width dst src), [])
moved width dst (FromReg r) fits = moved_register width dst r
moved width dst (Imm (pos n)) fits = number_assigned width dst (decimal n) n [] (ahead (decimal n) n [] (decimal_number n (small n fits)) at_end) ∙ constant_here width dst (pos n) fits
moved width dst (Imm (negsuc n)) fits = negative_here width dst (decimal (suc n)) (suc n) [] (ahead (decimal (suc n)) (suc n) [] (decimal_number (suc n) (small_below n fits)) at_end) ∙ constant_here width dst (negsuc n) fits

pub calculated : (op : AluOp) (width : Width) (dst : Reg) (src : Operand) → OperandFits src → operation_in width dst op (32 ∷ (operand_text width src ++ [])) ≡ Some (Some (Alu op width dst src), [])
calculated Add width dst src fits = rw (operand_here width src [] fits at_end) refl
calculated Sub width dst src fits = rw (operand_here width src [] fits at_end) refl
calculated Mul width dst src fits = rw (operand_here width src [] fits at_end) refl
calculated Div width dst src fits = rw (operand_here width src [] fits at_end) refl
calculated SDiv width dst src fits = rw (operand_here width src [] fits at_end) refl
calculated Or width dst src fits = rw (operand_here width src [] fits at_end) refl
calculated And width dst src fits = rw (operand_here width src [] fits at_end) refl
calculated Lsh width dst src fits = rw (operand_here width src [] fits at_end) refl
calculated Rsh width dst src fits = rw (operand_here width src [] fits at_end) refl
calculated Mod width dst src fits = rw (operand_here width src [] fits at_end) refl
calculated SMod width dst src fits = rw (operand_here width src [] fits at_end) refl
calculated Xor width dst src fits = rw (operand_here width src [] fits at_end) refl
calculated Arsh width dst src fits = rw (operand_here width src [] fits at_end) refl
calculated Mov width dst src fits = moved width dst src fits

pub assigned_by : (op : AluOp) (width : Width) (dst : Reg) (text : List ℕ) → assignment_in width dst (32 ∷ (operation_text op ++ 32 ∷ text)) ≡ operation_in width dst op (32 ∷ text)
unfolding assignment_in
assigned_by op width dst text = rw (operation_found op text) refl

pub negated : (width : Width) (dst : Reg) → assigned_in width dst (32 ∷ 45 ∷ (register_text width dst ++ [])) ≡ Some (Some (Neg width dst), [])
unfolding assigned_in negative_in
negated width dst = rw (minus_ahead (register_text width dst ++ []), register_itself width dst (register_text width dst ++ []) [] (register_word width dst [] at_end)) refl

-- ---- extensions and byte swaps

abbrev pub IsExtension : Width → SignBits → Type 0
IsExtension W32 S32 = ⊥
IsExtension _ _ = Unit {0}

parenthesis_ahead : (text : List ℕ) → (behind_mark 45 (32 ∷ 40 ∷ text) ≡ None) × (behind_mark 40 (32 ∷ 40 ∷ text) ≡ Some text) × (behind_mark 41 (41 ∷ text) ≡ Some text)
unfolding behind_mark
parenthesis_ahead text = (refl, refl, refl)

pub extended : (width : Width) (bits : SignBits) (dst src : Reg) → IsExtension width bits
    → assigned_in width dst (32 ∷ 40 ∷ (sign_bits_text bits ++ 41 ∷ (register_text width src ++ []))) ≡ Some (Some (MovSx width bits dst src), [])
unfolding assigned_in extension_in
extended width bits dst src is =
    let marks = parenthesis_ahead (sign_bits_text bits ++ 41 ∷ (register_text width src ++ [])) in
    let closing = parenthesis_ahead (register_text width src ++ []) in
    rw (marks.0, marks.1, extension_found bits (register_text width src ++ []), closing.2, register_here width src (register_text width src ++ []) [] (register_word width src [] at_end)) (allowed width bits is)
  where
    allowed : (width : Width) (bits : SignBits) → IsExtension width bits → cond {A = Checked Insn} (is_extension width bits) (Some (Some (MovSx width bits dst src), [])) None ≡ Some (Some (MovSx width bits dst src), [])
    allowed W32 S8 is = refl
    allowed W32 S16 is = refl
    allowed W32 S32 is = absurd is
    allowed W64 S8 is = refl
    allowed W64 S16 is = refl
    allowed W64 S32 is = refl

-- no mark stands in front of the name of a byte swap
pub record SwapAhead (kind : EndKind) (bits : EndBits) (text : List ℕ) : Type 0 where
  pub minus : behind_mark 45 (32 ∷ (swap_text kind bits ++ 32 ∷ text)) ≡ None
  pub parenthesis : behind_mark 40 (32 ∷ (swap_text kind bits ++ 32 ∷ text)) ≡ None
  pub star : behind_mark 42 (32 ∷ (swap_text kind bits ++ 32 ∷ text)) ≡ None

swap_ahead : (kind : EndKind) (bits : EndBits) (text : List ℕ) → SwapAhead kind bits text
unfolding behind_mark
swap_ahead ToLe E16 text = record { minus = refl; parenthesis = refl; star = refl }
swap_ahead ToLe E32 text = record { minus = refl; parenthesis = refl; star = refl }
swap_ahead ToLe E64 text = record { minus = refl; parenthesis = refl; star = refl }
swap_ahead ToBe E16 text = record { minus = refl; parenthesis = refl; star = refl }
swap_ahead ToBe E32 text = record { minus = refl; parenthesis = refl; star = refl }
swap_ahead ToBe E64 text = record { minus = refl; parenthesis = refl; star = refl }
swap_ahead Swap E16 text = record { minus = refl; parenthesis = refl; star = refl }
swap_ahead Swap E32 text = record { minus = refl; parenthesis = refl; star = refl }
swap_ahead Swap E64 text = record { minus = refl; parenthesis = refl; star = refl }

pub swapped : (kind : EndKind) (bits : EndBits) (dst : Reg) → assigned_in W64 dst (32 ∷ (swap_text kind bits ++ 32 ∷ (register_text W64 dst ++ []))) ≡ Some (Some (End kind bits dst), [])
unfolding assigned_in swap_in
swapped kind bits dst =
    let marks = swap_ahead kind bits (register_text W64 dst ++ []) in
    let word : word_in (32 ∷ (register_text W64 dst ++ [])) ≡ Some (register_text W64 dst, []) = word_behind_blank (register_text W64 dst ++ []) ∙ register_word W64 dst [] at_end in
    rw (marks.minus, marks.parenthesis, marks.star, swap_found kind bits (register_text W64 dst ++ []), register_itself W64 dst (32 ∷ (register_text W64 dst ++ [])) [] word) refl

-- ---- constants of 64 bits

long_behind : (dst : Reg) (n : ℕ) → n < 2 ^ 64 → constant_in W64 dst (pos n) (codes " ll") ≡ Some (Some (LoadImm64 dst n), [])
unfolding constant_in behind behind_word word_in behind_mark
long_behind dst n h = let fits : ltb n (2 ^ 64) ≡ true = below n (2 ^ 64) h in rw fits refl

pub long_moved : (dst : Reg) (n : ℕ) → n < 2 ^ 64 → assigned_in W64 dst (32 ∷ (hex_text n ++ (codes " ll" ++ []))) ≡ Some (Some (LoadImm64 dst n), [])
long_moved dst n h = number_assigned W64 dst (hex_text n) n (codes " ll") (ahead (hex_text n) n (codes " ll") (hex_number n h) (at_blank (codes "ll"))) ∙ long_behind dst n h
