-- The parts of forms are read from their spelling in tokens.
use Rattle.std.proofs.Common.{◌≡◌, ℕ, Bool, true, false, cond, eqb, ltb, List, [], ◌∷◌, ◌++◌, Option, Some, None, refl, ap, ◌∙◌, arith}
use Rattle.std.specs.Prelude.{codes, ◌&&◌}
use Rattle.std.specs.Char.{digit_value}
use Rattle.std.proofs.lemmas.Bool.{eqb-true}
use Rattle.std.proofs.lemmas.Bool.Decides.{nat_tests}
use Rattle.bpf_insn.specs.declared.instruction.Reg.{Reg}
use Rattle.bpf_insn.specs.declared.instruction.Reg.TheVariants.{R0, R1, R2, R3, R4, R5, R6, R7, R8, R9, R10}
use Rattle.bpf_insn.specs.declared.instruction.Size.TheVariants.{B, H, W, DW}
use Rattle.bpf_insn.specs.declared.instruction.Width.{Width}
use Rattle.bpf_insn.specs.declared.instruction.Width.TheVariants.{W32, W64}
use Rattle.bpf_insn.specs.declared.instruction.AluOp.{AluOp}
use Rattle.bpf_insn.specs.declared.instruction.AluOp.TheVariants.{Add, Sub, Mul, Div, SDiv, Or, And, Lsh, Rsh, Mod, SMod, Xor, Mov, Arsh}
use Rattle.bpf_insn.specs.declared.instruction.SignBits.{SignBits}
use Rattle.bpf_insn.specs.declared.instruction.SignBits.TheVariants.{B8 as S8, B16 as S16, B32 as S32}
use Rattle.bpf_insn.specs.declared.instruction.EndKind.{EndKind}
use Rattle.bpf_insn.specs.declared.instruction.EndKind.TheVariants.{Le as ToLe, Be as ToBe, Swap as Swaps}
use Rattle.bpf_insn.specs.declared.instruction.EndBits.{EndBits}
use Rattle.bpf_insn.specs.declared.instruction.EndBits.TheVariants.{B16 as E16, B32 as E32, B64 as E64}
use Rattle.bpf_insn.specs.declared.instruction.Cond.{Cond}
use Rattle.bpf_text.specs.declared.spelling.Memory.{Memory}
use Rattle.bpf_text.specs.declared.spelling.Memory.TheVariants.{Unsigned, Signed}
use Rattle.bpf_text.specs.declared.spelling.Keyword.TheVariants as keyword
use Rattle.bpf_text.specs.declared.statement.Jump.{Jump}
use Rattle.bpf_text.specs.Parts.{register, swap, operations, conditions, modifications, extensions, swaps, memories, swap_spelling, memory_text}
use Rattle.bpf_text.specs.Characters.{is_digit}
use Rattle.bpf_text.specs.Numerals.{word_value, value_after, value_up_to}
use Rattle.bpf_text.specs.Spelling.{register_text, operation_text, cond_text, modify_text, sign_bits_text, swap_text}
use Rattle.bpf_text.specs.Statements.{to_label}
use Rattle.bpf_text.specs.Grammar.{Token, tokens, Numeral, Number, number_value, constant_tokens, signed_tokens, Name, Address, Target, operand_tokens, address_tokens, target_tokens, is_loaded, operand_said, offset_said, target_said}
use Rattle.bpf_text.specs.Grammar.{OperandForm}
use Rattle.bpf_text.specs.Grammar.Token.{word, mark}
use Rattle.bpf_text.proofs.TokenReading.{unsigned_t, number_t, signed_t, any_register_t, register_t, operand_t, place_t, name_t, target_t}
use Rattle.bpf_insn.specs.declared.instruction.Cond.TheVariants.{Eq, Gt, Ge, Set, Ne, SGt, SGe, Lt, Le, SLt, SLe}
use Rattle.bpf_insn.specs.declared.instruction.Modify.{Modify}
use Rattle.bpf_insn.specs.declared.instruction.Modify.TheVariants.{Add as AddTo, Or as OrTo, And as AndTo, Xor as XorTo}
use Rattle.bpf_text.proofs.TokenLemmas.{word_t, mark_t, strip, first_t}
use Rattle.bpf_text.proofs.WordLemmas.{not_digit}

-- ---- registers and spellings

pub register_found : (width : Width) (r : Reg) (ts : List Token) → any_register_t (word (register_text width r) ∷ ts) ≡ Some (register width r, ts)
unfolding any_register_t first_t strip word_t mark_t
register_found W32 R0 ts = refl
register_found W32 R1 ts = refl
register_found W32 R2 ts = refl
register_found W32 R3 ts = refl
register_found W32 R4 ts = refl
register_found W32 R5 ts = refl
register_found W32 R6 ts = refl
register_found W32 R7 ts = refl
register_found W32 R8 ts = refl
register_found W32 R9 ts = refl
register_found W32 R10 ts = refl
register_found W64 R0 ts = refl
register_found W64 R1 ts = refl
register_found W64 R2 ts = refl
register_found W64 R3 ts = refl
register_found W64 R4 ts = refl
register_found W64 R5 ts = refl
register_found W64 R6 ts = refl
register_found W64 R7 ts = refl
register_found W64 R8 ts = refl
register_found W64 R9 ts = refl
register_found W64 R10 ts = refl

pub register_here : (width : Width) (r : Reg) (ts : List Token) → register_t width (word (register_text width r) ∷ ts) ≡ Some (r, ts)
unfolding register_t
register_here W32 r ts = rw (register_found W32 r ts) refl
register_here W64 r ts = rw (register_found W64 r ts) refl

pub register_itself : (width : Width) (r : Reg) (ts : List Token) → strip (tokens (register_text width r)) (word (register_text width r) ∷ ts) ≡ Some ts
unfolding strip word_t
register_itself W32 R0 ts = refl
register_itself W32 R1 ts = refl
register_itself W32 R2 ts = refl
register_itself W32 R3 ts = refl
register_itself W32 R4 ts = refl
register_itself W32 R5 ts = refl
register_itself W32 R6 ts = refl
register_itself W32 R7 ts = refl
register_itself W32 R8 ts = refl
register_itself W32 R9 ts = refl
register_itself W32 R10 ts = refl
register_itself W64 R0 ts = refl
register_itself W64 R1 ts = refl
register_itself W64 R2 ts = refl
register_itself W64 R3 ts = refl
register_itself W64 R4 ts = refl
register_itself W64 R5 ts = refl
register_itself W64 R6 ts = refl
register_itself W64 R7 ts = refl
register_itself W64 R8 ts = refl
register_itself W64 R9 ts = refl
register_itself W64 R10 ts = refl

pub register_no_swap : (width : Width) (r : Reg) (ts : List Token) → first_t swap_spelling swaps (word (register_text width r) ∷ ts) ≡ None
unfolding first_t strip word_t
register_no_swap W32 R0 ts = refl
register_no_swap W32 R1 ts = refl
register_no_swap W32 R2 ts = refl
register_no_swap W32 R3 ts = refl
register_no_swap W32 R4 ts = refl
register_no_swap W32 R5 ts = refl
register_no_swap W32 R6 ts = refl
register_no_swap W32 R7 ts = refl
register_no_swap W32 R8 ts = refl
register_no_swap W32 R9 ts = refl
register_no_swap W32 R10 ts = refl
register_no_swap W64 R0 ts = refl
register_no_swap W64 R1 ts = refl
register_no_swap W64 R2 ts = refl
register_no_swap W64 R3 ts = refl
register_no_swap W64 R4 ts = refl
register_no_swap W64 R5 ts = refl
register_no_swap W64 R6 ts = refl
register_no_swap W64 R7 ts = refl
register_no_swap W64 R8 ts = refl
register_no_swap W64 R9 ts = refl
register_no_swap W64 R10 ts = refl

pub operation_here : (op : AluOp) (ts : List Token) → first_t operation_text operations (tokens (operation_text op) ++ ts) ≡ Some (op, ts)
unfolding first_t strip word_t mark_t
operation_here Add ts = refl
operation_here Sub ts = refl
operation_here Mul ts = refl
operation_here Div ts = refl
operation_here SDiv ts = refl
operation_here Or ts = refl
operation_here And ts = refl
operation_here Lsh ts = refl
operation_here Rsh ts = refl
operation_here Mod ts = refl
operation_here SMod ts = refl
operation_here Xor ts = refl
operation_here Mov ts = refl
operation_here Arsh ts = refl

-- no equals sign comes next, so `>` isn't `> =`
pub cond_here : (test : Cond) (ts : List Token) → mark_t 61 ts ≡ None → first_t cond_text conditions (tokens (cond_text test) ++ ts) ≡ Some (test, ts)
unfolding first_t strip word_t mark_t
cond_here Eq ts none = refl
cond_here Gt ts none = rw none refl
cond_here Ge ts none = refl
cond_here Set ts none = refl
cond_here Ne ts none = refl
cond_here SGt ts none = rw none refl
cond_here SGe ts none = refl
cond_here Lt ts none = rw none refl
cond_here Le ts none = refl
cond_here SLt ts none = rw none refl
cond_here SLe ts none = refl

pub modify_here : (by : Modify) (ts : List Token) → first_t modify_text modifications (tokens (modify_text by) ++ ts) ≡ Some (by, ts)
unfolding first_t strip word_t mark_t
modify_here AddTo ts = refl
modify_here OrTo ts = refl
modify_here AndTo ts = refl
modify_here XorTo ts = refl

pub extension_here : (bits : SignBits) (ts : List Token) → first_t sign_bits_text extensions (word (sign_bits_text bits) ∷ ts) ≡ Some (bits, ts)
unfolding first_t strip word_t mark_t
extension_here S8 ts = refl
extension_here S16 ts = refl
extension_here S32 ts = refl

pub swap_here : (kind : EndKind) (bits : EndBits) (ts : List Token) → first_t swap_spelling swaps (word (swap_text kind bits) ∷ ts) ≡ Some (swap kind bits, ts)
unfolding first_t strip word_t mark_t
swap_here ToLe E16 ts = refl
swap_here ToLe E32 ts = refl
swap_here ToLe E64 ts = refl
swap_here ToBe E16 ts = refl
swap_here ToBe E32 ts = refl
swap_here ToBe E64 ts = refl
swap_here Swaps E16 ts = refl
swap_here Swaps E32 ts = refl
swap_here Swaps E64 ts = refl

memory_here : (memory : Memory) (ts : List Token) → is_loaded memory ≡ true → first_t memory_text memories (word (memory_text memory) ∷ ts) ≡ Some (memory, ts)
unfolding first_t strip word_t mark_t
memory_here (Unsigned B) ts is = refl
memory_here (Unsigned H) ts is = refl
memory_here (Unsigned W) ts is = refl
memory_here (Unsigned DW) ts is = refl
memory_here (Signed B) ts is = refl
memory_here (Signed H) ts is = refl
memory_here (Signed W) ts is = refl
memory_here (Signed DW) ts is = cc

-- ---- a number begins with a digit, so it is no other word

small_digit : (c : ℕ) → ltb (digit_value c) 10 ≡ true → is_digit c ≡ true
small_digit c h = grind (arith, nat_tests)

if_there : {A : Type 0} (b : Bool) (o : Option A) (x : A) → cond b o None ≡ Some x → (b ≡ true) × (o ≡ Some x)
if_there true o x e = (refl, e)
if_there false o x e = cc

decimal_first : (c n : ℕ) (cs : List ℕ) → value_up_to 20 10 (c ∷ cs) ≡ Some n → is_digit c ≡ true
decimal_first c n cs e = small_digit c (if_there (ltb (digit_value c) 10) _ n (if_there _ (value_after 10 0 (c ∷ cs)) n e).1).0

begins : (w : List ℕ) (n : ℕ) → word_value w ≡ Some n → (c : ℕ) × (cs : List ℕ) × (w ≡ c ∷ cs) × (is_digit c ≡ true)
unfolding word_value
begins [] n e = cc
begins (c ∷ []) n e = (c, [], refl, decimal_first c n [] e)
begins (c ∷ d ∷ ds) n e = (c, d ∷ ds, refl, go (eqb c 48) (eqb d 120) refl e)
  where
    go : (a b : Bool) → eqb c 48 ≡ a → cond (a && b) (value_up_to 16 16 ds) (value_up_to 20 10 (c ∷ d ∷ ds)) ≡ Some n → is_digit c ≡ true
    go true b k h = ap is_digit (eqb-true c 48 k)
    go false b k h = decimal_first c n (d ∷ ds) h

other_register : (width : Width) (r : Reg) (c : ℕ) (cs : List ℕ) (ts : List Token) → eqb c 114 ≡ false → eqb c 119 ≡ false → strip (tokens (register_text width r)) (word (c ∷ cs) ∷ ts) ≡ None
unfolding strip word_t
other_register W32 R0 c cs ts e f = rw f refl
other_register W32 R1 c cs ts e f = rw f refl
other_register W32 R2 c cs ts e f = rw f refl
other_register W32 R3 c cs ts e f = rw f refl
other_register W32 R4 c cs ts e f = rw f refl
other_register W32 R5 c cs ts e f = rw f refl
other_register W32 R6 c cs ts e f = rw f refl
other_register W32 R7 c cs ts e f = rw f refl
other_register W32 R8 c cs ts e f = rw f refl
other_register W32 R9 c cs ts e f = rw f refl
other_register W32 R10 c cs ts e f = rw f refl
other_register W64 R0 c cs ts e f = rw e refl
other_register W64 R1 c cs ts e f = rw e refl
other_register W64 R2 c cs ts e f = rw e refl
other_register W64 R3 c cs ts e f = rw e refl
other_register W64 R4 c cs ts e f = rw e refl
other_register W64 R5 c cs ts e f = rw e refl
other_register W64 R6 c cs ts e f = rw e refl
other_register W64 R7 c cs ts e f = rw e refl
other_register W64 R8 c cs ts e f = rw e refl
other_register W64 R9 c cs ts e f = rw e refl
other_register W64 R10 c cs ts e f = rw e refl

no_register : (c : ℕ) (cs : List ℕ) (ts : List Token) → eqb c 114 ≡ false → eqb c 119 ≡ false → any_register_t (word (c ∷ cs) ∷ ts) ≡ None
unfolding any_register_t first_t strip word_t mark_t
no_register c cs ts e f = rw (e, f) refl

no_swap : (c : ℕ) (cs : List ℕ) (ts : List Token) → eqb c 108 ≡ false → eqb c 98 ≡ false → first_t swap_spelling swaps (word (c ∷ cs) ∷ ts) ≡ None
unfolding first_t strip word_t mark_t
no_swap c cs ts e f = rw (e, f) refl

-- what a number isn't
pub record IsAlone (w : List ℕ) (ts : List Token) : Type 0 where
  pub register : (width : Width) → register_t width (word w ∷ ts) ≡ None
  pub itself : (width : Width) (r : Reg) → strip (tokens (register_text width r)) (word w ∷ ts) ≡ None
  pub swap : first_t swap_spelling swaps (word w ∷ ts) ≡ None

no_register_of : (width : Width) (w : List ℕ) (ts : List Token) → any_register_t (word w ∷ ts) ≡ None → register_t width (word w ∷ ts) ≡ None
unfolding register_t
no_register_of width w ts e = rw e refl

pub alone : (n : Numeral) (ts : List Token) → IsAlone n.digits ts
alone n ts =
    let b = begins n.digits n.value n.is in
    let r : eqb b.0 114 ≡ false = not_digit b.0 114 b.3 refl in
    let w : eqb b.0 119 ≡ false = not_digit b.0 119 b.3 refl in
    record {
      register = λ width. no_register_of width n.digits ts (ap (λ z. any_register_t (word z ∷ ts)) b.2 ∙ no_register b.0 b.1 ts r w);
      itself = λ width reg. ap (λ z. strip (tokens (register_text width reg)) (word z ∷ ts)) b.2 ∙ other_register width reg b.0 b.1 ts r w;
      swap = ap (λ z. first_t swap_spelling swaps (word z ∷ ts)) b.2 ∙ no_swap b.0 b.1 ts (not_digit b.0 108 b.3 refl) (not_digit b.0 98 b.3 refl);
    }

-- ---- numbers, operands, places and targets

pub numeral_here : (n : Numeral) (ts : List Token) → unsigned_t (word n.digits ∷ ts) ≡ Some (n.value, ts)
unfolding unsigned_t word_t
numeral_here n ts = rw n.is refl

number_of : (minus : Bool) (n : Numeral) (ts : List Token) → let number : Number = record { minus = minus; numeral = n } in number_t (constant_tokens number ++ ts) ≡ Some (number_value number, ts)
unfolding number_t mark_t
number_of true n ts = rw (numeral_here n ts) refl
number_of false n ts = rw (numeral_here n ts) refl

signed_of : (minus : Bool) (n : Numeral) (ts : List Token) → let number : Number = record { minus = minus; numeral = n } in signed_t (signed_tokens number ++ ts) ≡ Some (number_value number, ts)
unfolding signed_t mark_t
signed_of true n ts = rw (numeral_here n ts) refl
signed_of false n ts = rw (numeral_here n ts) refl

signed_here : (n : Number) (ts : List Token) → signed_t (signed_tokens n ++ ts) ≡ Some (number_value n, ts)
signed_here n ts = signed_of n.minus n.numeral ts

no_register_before : (width : Width) (minus : Bool) (n : Numeral) (ts : List Token) → let number : Number = record { minus = minus; numeral = n } in register_t width (constant_tokens number ++ ts) ≡ None
unfolding register_t any_register_t first_t strip word_t mark_t
no_register_before width true n ts = refl
no_register_before width false n ts = (alone n ts).register width

pub operand_here : (width : Width) (src : OperandForm) (ts : List Token) → operand_t width (operand_tokens width src ++ ts) ≡ Some (operand_said src, ts)
unfolding operand_t
operand_here width (OperandForm.register r) ts = rw (register_here width r ts) refl
operand_here width (OperandForm.constant n) ts = rw (no_register_before width n.minus n.numeral ts, number_of n.minus n.numeral ts) refl

pub no_equals : (width : Width) (src : OperandForm) (ts : List Token) → mark_t 61 (operand_tokens width src ++ ts) ≡ None
unfolding mark_t
no_equals width (OperandForm.register r) ts = refl
no_equals width (OperandForm.constant n) ts = go n.minus
  where
    go : (minus : Bool) → mark_t 61 (cond minus (mark 45 ∷ word n.numeral.digits ∷ []) (word n.numeral.digits ∷ []) ++ ts) ≡ None
    go true = refl
    go false = refl

star_opens : (ts : List Token) → (strip (tokens (codes "*(")) (mark 42 ∷ mark 40 ∷ ts) ≡ Some ts) × (strip (tokens (codes "*)(")) (mark 42 ∷ mark 41 ∷ mark 40 ∷ ts) ≡ Some ts) × (mark_t 41 (mark 41 ∷ ts) ≡ Some ts)
unfolding strip mark_t
star_opens ts = (refl, refl, refl)

pub place_here : (memory : Memory) (a : Address) (ts : List Token) → is_loaded memory ≡ true → place_t (address_tokens memory a ++ ts) ≡ Some (record { memory = memory; base = a.base; off = offset_said a }, ts)
unfolding place_t
place_here memory a ts is =
    let behind_off = mark 41 ∷ ts in
    let behind_base = signed_tokens a.off ++ behind_off in
    let pointer = word (register_text W64 a.base) ∷ behind_base in
    let behind_memory = mark 42 ∷ mark 41 ∷ mark 40 ∷ pointer in
    rw ((star_opens (word (memory_text memory) ∷ behind_memory)).0, memory_here memory behind_memory is, (star_opens pointer).1, register_here W64 a.base behind_base, signed_here a.off behind_off, (star_opens ts).2) refl

no_sign : (w : List ℕ) (ts : List Token) → signed_t (word w ∷ ts) ≡ None
unfolding signed_t mark_t
no_sign w ts = refl

name_here : (jump : Jump) (name : Name) (ts : List Token) → name_t jump (word name.text ∷ ts) ≡ Some (Some (to_label jump name.text), ts)
unfolding name_t word_t
name_here jump name ts = rw name.is refl

pub target_here : (jump : Jump) (target : Target) (ts : List Token) → target_t jump (target_tokens target ++ ts) ≡ Some (target_said jump target, ts)
unfolding target_t
target_here jump (Target.distance n) ts = rw (signed_here n ts) refl
target_here jump (Target.label name) ts = rw (no_sign name.text ts, name_here jump name ts) refl
