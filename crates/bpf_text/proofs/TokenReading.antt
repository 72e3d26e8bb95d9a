-- Statements, read from tokens: `x_t` reads of tokens what `x_in` reads of a text.
use Rattle.std.proofs.Common.{◌≡◌, ℕ, Bool, true, false, cond, List, [], ◌∷◌, Option, Some, None, option_map, refl, ap, ◌∙◌}
use Rattle.std.specs.Prelude.{codes, ℤ, pos, neg_ℤ, option_and_then, if◌then◌else◌}
use Rattle.bpf_insn.specs.declared.instruction.Reg.{Reg}
use Rattle.bpf_insn.specs.declared.instruction.Reg.TheVariants.{R0, R1, R2, R3, R4, R5, R6, R7, R8, R9, R10}
use Rattle.bpf_insn.specs.declared.instruction.Width.{Width}
use Rattle.bpf_insn.specs.declared.instruction.Width.TheVariants.{W32, W64}
use Rattle.bpf_insn.specs.declared.instruction.Operand.{Operand}
use Rattle.bpf_insn.specs.declared.instruction.Operand.TheVariants.{Imm, Reg as FromReg}
use Rattle.bpf_insn.specs.declared.instruction.AluOp.{AluOp}
use Rattle.bpf_insn.specs.declared.instruction.AluOp.TheVariants.{Mov}
use Rattle.bpf_insn.specs.declared.instruction.Cond.{Cond}
use Rattle.bpf_insn.specs.declared.instruction.AtomicOp.{AtomicOp}
use Rattle.bpf_insn.specs.declared.instruction.AtomicOp.TheVariants.{Modify as Changes, Xchg, CmpXchg}
use Rattle.bpf_insn.specs.declared.instruction.Insn.{Insn}
use Rattle.bpf_insn.specs.declared.instruction.Insn.TheVariants.{Alu, Neg, MovSx, End, LoadImm64, Atomic, Exit}
use Rattle.bpf_text.specs.declared.spelling.Register.{Register}
use Rattle.bpf_text.specs.declared.spelling.Swap.{Swap}
use Rattle.bpf_text.specs.declared.spelling.Keyword.{Keyword}
use Rattle.bpf_text.specs.declared.spelling.Keyword.TheVariants as keyword
use Rattle.bpf_text.specs.Parts.{registers, operations, conditions, modifications, extensions, swaps, memories, keywords, register_spelling, swap_spelling, memory_text, keyword_text}
use Rattle.bpf_text.specs.declared.statement.memory.MemoryOperand.{MemoryOperand}
use Rattle.bpf_text.specs.declared.statement.Jump.{Jump}
use Rattle.bpf_text.specs.declared.statement.Jump.TheVariants.{Goto as ToSlot, GotoLong as FarToSlot, Call as CallSlot, If as OnTest}
use Rattle.bpf_text.specs.code.WordReading.{◌>>=◌, skip_blanks, behind, unsigned_in, with_sign_of, number_behind, number_in, signed_behind, signed_in}
use Rattle.bpf_text.specs.Numerals.{word_value}
use Rattle.bpf_text.specs.Spelling.{register_text, operation_text, cond_text, modify_text, sign_bits_text}
use Rattle.bpf_text.specs.Statements.{Statement, plain, to_label}
use Rattle.bpf_text.specs.code.StatementReading.{first_way, same_width, any_register_in, register_in, operand_in, wide_if, constant_in, negative_in, extension_in, swap_in, memory_operand_in, load_in, assigned_in, operation_in, assignment_in, unsigned_size, store_in, wide_of, change_in, exchange_in, atomic_in, name_in, target_in, test_in, branch_in, plainly, keyword_in, statement_in, if_blank, whole_statement}
use Rattle.bpf_text.specs.Numerals.{fits_16, fits_32, fits_wide}
use Rattle.bpf_text.specs.Statements.{is_extension, load_of, store_of, jump_by}
use Rattle.bpf_text.specs.Characters.{is_name}
use Rattle.bpf_text.specs.Grammar.{Token, tokens}
use Rattle.bpf_text.proofs.TokenLemmas.{ReadTokens, word_t, mark_t, strip, first_t, Same, SameRest, both_none, both_some, then_same, rest_then_same, value_then_same, if_same, word_same, mark_same, behind_same, first_same, head}
use Rattle.bpf_text.proofs.TokenLemmas.Head.{nothing, a_word, a_mark}

-- ---- numbers

unfoldable pub unsigned_t : List Token → ReadTokens ℕ
unsigned_t ts = do
  w ← word_t ts
  n ← word_value w.0
  Some (n, w.1)

abbrev pub with_sign_t : Bool → ReadTokens ℕ → ReadTokens ℤ
with_sign_t minus o = o >>= λ n. Some (if minus then neg_ℤ (pos n.0) else pos n.0, n.1)

abbrev pub number_behind_t : Option (List Token) → List Token → ReadTokens ℤ
number_behind_t None ts = with_sign_t false (unsigned_t ts)
number_behind_t (Some rest) ts = with_sign_t true (unsigned_t rest)

unfoldable pub number_t : List Token → ReadTokens ℤ
number_t ts = number_behind_t (mark_t 45 ts) ts

abbrev pub signed_behind_t : Option (List Token) → List Token → ReadTokens ℤ
signed_behind_t None ts = mark_t 43 ts >>= λ rest. with_sign_t false (unsigned_t rest)
signed_behind_t (Some rest) ts = with_sign_t true (unsigned_t rest)

unfoldable pub signed_t : List Token → ReadTokens ℤ
signed_t ts = signed_behind_t (mark_t 45 ts) ts

-- ---- statements

abbrev pub CheckedTokens : Type 0 → Type 0
CheckedTokens A = ReadTokens (Option A)

unfoldable pub any_register_t : List Token → ReadTokens Register
any_register_t ts = first_t register_spelling registers ts

unfoldable pub register_t : Width → List Token → ReadTokens Reg
register_t width ts = any_register_t ts >>= λ r. if same_width (r.0).0 width then Some ((r.0).1, r.1) else None

unfoldable pub operand_t : Width → List Token → CheckedTokens Operand
operand_t width ts = first_way (register_t width ts) (λ r. Some (Some (FromReg r.0), r.1))
    (number_t ts >>= λ n. Some (option_map Imm (fits_32 n.0), n.1))

abbrev pub wide_if_t : Width → Reg → ℤ → List Token → CheckedTokens Insn
wide_if_t W32 dst z rest = None
wide_if_t W64 dst z rest = Some (option_map (LoadImm64 dst) (fits_wide z), rest)

unfoldable pub constant_t : Width → Reg → ℤ → List Token → CheckedTokens Insn
constant_t width dst z ts = first_way (strip (tokens (codes "ll")) ts) (wide_if_t width dst z)
    (Some (option_map (λ imm. Alu Mov width dst (Imm imm)) (fits_32 z), ts))

unfoldable pub negative_t : Width → Reg → List Token → CheckedTokens Insn
negative_t width dst ts = first_way (strip (tokens (register_text width dst)) ts) (λ rest. Some (Some (Neg width dst), rest))
    (unsigned_t ts >>= λ n. constant_t width dst (neg_ℤ (pos n.0)) n.1)

unfoldable pub extension_t : Width → Reg → List Token → CheckedTokens Insn
extension_t width dst ts = do
  bits ← first_t sign_bits_text extensions ts
  rest ← mark_t 41 bits.1
  src ← register_t width rest
  if is_extension width bits.0 then Some (Some (MovSx width bits.0 dst src.0), src.1) else None

unfoldable pub place_t : List Token → ReadTokens MemoryOperand
place_t ts = do
  inside ← strip (tokens (codes "*(")) ts
  memory ← first_t memory_text memories inside
  pointer ← strip (tokens (codes "*)(")) memory.1
  base ← register_t W64 pointer
  off ← signed_t base.1
  rest ← mark_t 41 off.1
  Some (record { memory = memory.0; base = base.0; off = fits_16 off.0 }, rest)

unfoldable pub load_t : Width → Reg → List Token → CheckedTokens Insn
load_t W32 dst ts = None
load_t W64 dst ts = place_t ts >>= λ p. Some (option_map (load_of (p.0).memory dst (p.0).base) (p.0).off, p.1)

unfoldable pub swap_t : Width → Reg → Swap → List Token → CheckedTokens Insn
swap_t W32 dst swap ts = None
swap_t W64 dst swap ts = strip (tokens (register_text W64 dst)) ts >>= λ rest. Some (Some (End swap.0 swap.1 dst), rest)

unfoldable pub assigned_t : Width → Reg → List Token → CheckedTokens Insn
assigned_t width dst ts =
    first_way (mark_t 45 ts) (negative_t width dst)
    (first_way (mark_t 40 ts) (extension_t width dst)
    (first_way (mark_t 42 ts) (λ rest. load_t width dst ts)
    (first_way (first_t swap_spelling swaps ts) (λ s. swap_t width dst s.0 s.1)
    (first_way (register_t width ts) (λ r. Some (Some (Alu Mov width dst (FromReg r.0)), r.1))
    (unsigned_t ts >>= λ n. constant_t width dst (pos n.0) n.1)))))

abbrev pub operation_t : Width → Reg → AluOp → List Token → CheckedTokens Insn
operation_t width dst Mov ts = assigned_t width dst ts
operation_t width dst op ts = operand_t width ts >>= λ src. Some (option_map (λ s. Alu op width dst s) src.0, src.1)

unfoldable pub assignment_t : Width → Reg → List Token → CheckedTokens Insn
assignment_t width dst ts = first_t operation_text operations ts >>= λ op. operation_t width dst op.0 op.1

unfoldable pub store_t : List Token → CheckedTokens Insn
store_t ts = do
  p ← place_t ts
  size ← unsigned_size (p.0).memory
  rest ← mark_t 61 p.1
  src ← operand_t W64 rest
  Some (store_of size (p.0).base (p.0).off src.0, src.1)

unfoldable pub change_t : Bool → List Token → CheckedTokens Insn
change_t fetch ts = do
  p ← place_t ts
  wide ← wide_of (p.0).memory
  by ← first_t modify_text modifications p.1
  src ← register_t W64 by.1
  Some (option_map (λ off. Atomic wide (Changes by.0 fetch) (p.0).base off src.0) (p.0).off, src.1)

unfoldable pub exchange_t : AtomicOp → List Token → CheckedTokens Insn
exchange_t op ts = do
  p ← place_t ts
  wide ← wide_of (p.0).memory
  rest ← mark_t 44 p.1
  src ← register_t W64 rest
  Some (option_map (λ off. Atomic wide op (p.0).base off src.0) (p.0).off, src.1)

unfoldable pub atomic_t : List Token → CheckedTokens Insn
atomic_t ts =
    first_way (strip (tokens (codes "fetch")) ts) (change_t true)
    (first_way (strip (tokens (codes "xchg")) ts) (exchange_t Xchg)
    (first_way (strip (tokens (codes "cmpxchg")) ts) (exchange_t CmpXchg)
    (change_t false ts)))

unfoldable pub name_t : Jump → List Token → CheckedTokens Statement
name_t jump ts = word_t ts >>= λ w. if is_name w.0 then Some (Some (to_label jump w.0), w.1) else None

unfoldable pub target_t : Jump → List Token → CheckedTokens Statement
target_t jump ts = first_way (signed_t ts) (λ n. Some (option_map plain (jump_by jump n.0), n.1)) (name_t jump ts)

abbrev pub test_t : Cond → Width → Reg → Option Operand → List Token → CheckedTokens Statement
test_t cond width dst (Some src) ts = target_t (OnTest cond width dst src) ts
test_t cond width dst None ts = target_t ToSlot ts >>= λ t. Some (None, t.1)

unfoldable pub branch_t : List Token → CheckedTokens Statement
branch_t ts = do
  dst ← any_register_t ts
  cond ← first_t cond_text conditions dst.1
  src ← operand_t (dst.0).0 cond.1
  rest ← strip (tokens (codes "goto")) src.1
  test_t cond.0 (dst.0).0 (dst.0).1 src.0 rest

abbrev pub plainly_t : CheckedTokens Insn → CheckedTokens Statement
plainly_t read = option_map (λ i. (option_map plain i.0, i.1)) read

abbrev pub keyword_t : Keyword → List Token → CheckedTokens Statement
keyword_t keyword.Lock ts = plainly_t (atomic_t ts)
keyword_t keyword.If ts = branch_t ts
keyword_t keyword.Goto ts = target_t ToSlot ts
keyword_t keyword.GotoLong ts = target_t FarToSlot ts
keyword_t keyword.Call ts = target_t CallSlot ts
keyword_t keyword.Exit ts = Some (Some (plain Exit), ts)

unfoldable pub statement_t : List Token → CheckedTokens Statement
statement_t ts =
    first_way (any_register_t ts) (λ r. plainly_t (assignment_t (r.0).0 (r.0).1 r.1))
    (first_way (first_t keyword_text keywords ts) (λ k. keyword_t k.0 k.1)
    (plainly_t (store_t ts)))

abbrev pub if_nothing : {A : Type 0} → A → List Token → Option A
if_nothing x [] = Some x
if_nothing x (t ∷ ts) = None

unfoldable pub whole_t : List Token → Option (Option Statement)
whole_t ts = statement_t ts >>= λ s. if_nothing s.0 s.1

-- ---- the same is read

pub way_same : {A B : Type 0} {o : Option (A × List ℕ)} {p : ReadTokens A} (f : A × List ℕ → Option (B × List ℕ)) (g : A × List Token → ReadTokens B) {q : Option (B × List ℕ)} {r : ReadTokens B}
    → Same o p → ((x : A) (rest : List ℕ) → Same (f (x, rest)) (g (x, tokens rest))) → Same q r → Same (first_way o f q) (first_way p g r)
way_same {o = None} f g {r = r} same each other = record { is = other.is ∙ ap (λ z. first_way z g r) same.is }
way_same {o = Some x} f g {r = r} same each other = record { is = (each x.0 x.1).is ∙ ap (λ z. first_way z g r) same.is }

pub rest_way_same : {B : Type 0} {o : Option (List ℕ)} {p : Option (List Token)} (f : List ℕ → Option (B × List ℕ)) (g : List Token → ReadTokens B) {q : Option (B × List ℕ)} {r : ReadTokens B}
    → SameRest o p → ((rest : List ℕ) → Same (f rest) (g (tokens rest))) → Same q r → Same (first_way o f q) (first_way p g r)
rest_way_same {o = None} f g {r = r} same each other = record { is = other.is ∙ ap (λ z. first_way z g r) same.is }
rest_way_same {o = Some x} f g {r = r} same each other = record { is = (each x).is ∙ ap (λ z. first_way z g r) same.is }

unsigned_same : (text : List ℕ) → Same (unsigned_in text) (unsigned_t (tokens text))
unfolding unsigned_in unsigned_t
unsigned_same text = then_same _ _ (word_same text) (λ w rest. value_then_same (word_value w) _ _ (λ n. both_some n rest))

sign_same : (minus : Bool) (text : List ℕ) → Same (with_sign_of minus (unsigned_in text)) (with_sign_t minus (unsigned_t (tokens text)))
sign_same minus text = then_same _ _ (unsigned_same text) (λ n rest. both_some (if minus then neg_ℤ (pos n) else pos n) rest)

-- with a minus in front, or without
minus_same : {o : Option (List ℕ)} {p : Option (List Token)} (text : List ℕ) → SameRest o p → Same (number_behind o text) (number_behind_t p (tokens text))
minus_same {o = None} text same = record { is = (sign_same false text).is ∙ ap (λ z. number_behind_t z (tokens text)) same.is }
minus_same {o = Some rest} text same = record { is = (sign_same true rest).is ∙ ap (λ z. number_behind_t z (tokens text)) same.is }

number_same : (text : List ℕ) → Same (number_in text) (number_t (tokens text))
unfolding number_in number_t
number_same text = minus_same text (mark_same 45 text refl)

plus_same : {o : Option (List ℕ)} {p : Option (List Token)} (text : List ℕ) → SameRest o p → Same (signed_behind o text) (signed_behind_t p (tokens text))
plus_same {o = None} text same = record { is = (rest_then_same _ _ (mark_same 43 text refl) (λ rest. sign_same false rest)).is ∙ ap (λ z. signed_behind_t z (tokens text)) same.is }
plus_same {o = Some rest} text same = record { is = (sign_same true rest).is ∙ ap (λ z. signed_behind_t z (tokens text)) same.is }

signed_same : (text : List ℕ) → Same (signed_in text) (signed_t (tokens text))
unfolding signed_in signed_t
signed_same text = plus_same text (mark_same 45 text refl)

any_register_same : (text : List ℕ) → Same (any_register_in text) (any_register_t (tokens text))
unfolding any_register_in any_register_t
any_register_same text = first_same register_spelling registers text refl

register_same : (width : Width) (text : List ℕ) → Same (register_in width text) (register_t width (tokens text))
unfolding register_in register_t
register_same width text = then_same _ _ (any_register_same text) (λ r rest. if_same (same_width r.0 width) (both_some r.1 rest))

operand_same : (width : Width) (text : List ℕ) → Same (operand_in width text) (operand_t width (tokens text))
unfolding operand_in operand_t
operand_same width text = way_same _ _ (register_same width text) (λ r rest. both_some (Some (FromReg r)) rest) (then_same _ _ (number_same text) (λ n rest. both_some (option_map Imm (fits_32 n)) rest))

wide_same : (width : Width) (dst : Reg) (z : ℤ) (rest : List ℕ) → Same (wide_if width dst z rest) (wide_if_t width dst z (tokens rest))
wide_same W32 dst z rest = both_none
wide_same W64 dst z rest = both_some (option_map (LoadImm64 dst) (fits_wide z)) rest

constant_same : (width : Width) (dst : Reg) (z : ℤ) (text : List ℕ) → Same (constant_in width dst z text) (constant_t width dst z (tokens text))
unfolding constant_in constant_t
constant_same width dst z text = rest_way_same _ _ (behind_same (codes "ll") text refl) (wide_same width dst z) (both_some (option_map (λ imm. Alu Mov width dst (Imm imm)) (fits_32 z)) text)

register_is_spelling : (width : Width) (dst : Reg) (text : List ℕ) → SameRest (behind (register_text width dst) text) (strip (tokens (register_text width dst)) (tokens text))
register_is_spelling W32 R0 text = behind_same (register_text W32 R0) text refl
register_is_spelling W32 R1 text = behind_same (register_text W32 R1) text refl
register_is_spelling W32 R2 text = behind_same (register_text W32 R2) text refl
register_is_spelling W32 R3 text = behind_same (register_text W32 R3) text refl
register_is_spelling W32 R4 text = behind_same (register_text W32 R4) text refl
register_is_spelling W32 R5 text = behind_same (register_text W32 R5) text refl
register_is_spelling W32 R6 text = behind_same (register_text W32 R6) text refl
register_is_spelling W32 R7 text = behind_same (register_text W32 R7) text refl
register_is_spelling W32 R8 text = behind_same (register_text W32 R8) text refl
register_is_spelling W32 R9 text = behind_same (register_text W32 R9) text refl
register_is_spelling W32 R10 text = behind_same (register_text W32 R10) text refl
register_is_spelling W64 R0 text = behind_same (register_text W64 R0) text refl
register_is_spelling W64 R1 text = behind_same (register_text W64 R1) text refl
register_is_spelling W64 R2 text = behind_same (register_text W64 R2) text refl
register_is_spelling W64 R3 text = behind_same (register_text W64 R3) text refl
register_is_spelling W64 R4 text = behind_same (register_text W64 R4) text refl
register_is_spelling W64 R5 text = behind_same (register_text W64 R5) text refl
register_is_spelling W64 R6 text = behind_same (register_text W64 R6) text refl
register_is_spelling W64 R7 text = behind_same (register_text W64 R7) text refl
register_is_spelling W64 R8 text = behind_same (register_text W64 R8) text refl
register_is_spelling W64 R9 text = behind_same (register_text W64 R9) text refl
register_is_spelling W64 R10 text = behind_same (register_text W64 R10) text refl

negative_same : (width : Width) (dst : Reg) (text : List ℕ) → Same (negative_in width dst text) (negative_t width dst (tokens text))
unfolding negative_in negative_t
negative_same width dst text = rest_way_same _ _ (register_is_spelling width dst text) (λ rest. both_some (Some (Neg width dst)) rest) (then_same _ _ (unsigned_same text) (λ n rest. constant_same width dst (neg_ℤ (pos n)) rest))

extension_same : (width : Width) (dst : Reg) (text : List ℕ) → Same (extension_in width dst text) (extension_t width dst (tokens text))
unfolding extension_in extension_t
extension_same width dst text = then_same _ _ (first_same sign_bits_text extensions text refl) (λ bits behind_bits. rest_then_same _ _ (mark_same 41 behind_bits refl) (λ closed.
    then_same _ _ (register_same width closed) (λ src rest. if_same (is_extension width bits) (both_some (Some (MovSx width bits dst src)) rest))))

place_same : (text : List ℕ) → Same (memory_operand_in text) (place_t (tokens text))
unfolding memory_operand_in place_t
place_same text = rest_then_same _ _ (behind_same (codes "*(") text refl) (λ inside. then_same _ _ (first_same memory_text memories inside refl) (λ memory behind_memory. rest_then_same _ _ (behind_same (codes "*)(") behind_memory refl) (λ pointer.
    then_same _ _ (register_same W64 pointer) (λ base behind_base. then_same _ _ (signed_same behind_base) (λ off behind_off. rest_then_same _ _ (mark_same 41 behind_off refl) (λ rest.
    both_some (record { memory = memory; base = base; off = fits_16 off }) rest))))))

load_same : (width : Width) (dst : Reg) (text : List ℕ) → Same (load_in width dst text) (load_t width dst (tokens text))
unfolding load_in load_t
load_same W32 dst text = both_none
load_same W64 dst text = then_same _ _ (place_same text) (λ p rest. both_some (option_map (load_of p.memory dst p.base) p.off) rest)

swap_same : (width : Width) (dst : Reg) (swap : Swap) (text : List ℕ) → Same (swap_in width dst swap text) (swap_t width dst swap (tokens text))
unfolding swap_in swap_t
swap_same W32 dst swap text = both_none
swap_same W64 dst swap text = rest_then_same _ _ (register_is_spelling W64 dst text) (λ rest. both_some (Some (End swap.0 swap.1 dst)) rest)

assigned_same : (width : Width) (dst : Reg) (text : List ℕ) → Same (assigned_in width dst text) (assigned_t width dst (tokens text))
unfolding assigned_in assigned_t
assigned_same width dst text = rest_way_same _ _ (mark_same 45 text refl) (negative_same width dst)
    (rest_way_same _ _ (mark_same 40 text refl) (extension_same width dst)
    (rest_way_same _ _ (mark_same 42 text refl) (λ rest. load_same width dst text)
    (way_same _ _ (first_same swap_spelling swaps text refl) (λ s rest. swap_same width dst s rest)
    (way_same _ _ (register_same width text) (λ r rest. both_some (Some (Alu Mov width dst (FromReg r))) rest)
    (then_same _ _ (unsigned_same text) (λ n rest. constant_same width dst (pos n) rest))))))

calculation_same : (width : Width) (dst : Reg) (op : AluOp) (text : List ℕ) → Same (operand_in width text >>= λ src. Some (option_map (λ s. Alu op width dst s) src.0, src.1)) (operand_t width (tokens text) >>= λ src. Some (option_map (λ s. Alu op width dst s) src.0, src.1))
calculation_same width dst op text = then_same _ _ (operand_same width text) (λ src rest. both_some (option_map (λ s. Alu op width dst s) src) rest)

operation_same : (width : Width) (dst : Reg) (op : AluOp) (text : List ℕ) → Same (operation_in width dst op text) (operation_t width dst op (tokens text))
operation_same width dst Mov text = assigned_same width dst text
operation_same width dst op text = calculation_same width dst op text

assignment_same : (width : Width) (dst : Reg) (text : List ℕ) → Same (assignment_in width dst text) (assignment_t width dst (tokens text))
unfolding assignment_in assignment_t
assignment_same width dst text = then_same _ _ (first_same operation_text operations text refl) (λ op rest. operation_same width dst op rest)

store_same : (text : List ℕ) → Same (store_in text) (store_t (tokens text))
unfolding store_in store_t
store_same text = then_same _ _ (place_same text) (λ p behind_place. value_then_same (unsigned_size p.memory) _ _ (λ size. rest_then_same _ _ (mark_same 61 behind_place refl) (λ rest.
    then_same _ _ (operand_same W64 rest) (λ src end. both_some (store_of size p.base p.off src) end))))

change_same : (fetch : Bool) (text : List ℕ) → Same (change_in fetch text) (change_t fetch (tokens text))
unfolding change_in change_t
change_same fetch text = then_same _ _ (place_same text) (λ p behind_place. value_then_same (wide_of p.memory) _ _ (λ wide. then_same _ _ (first_same modify_text modifications behind_place refl) (λ by behind_by.
    then_same _ _ (register_same W64 behind_by) (λ src rest. both_some (option_map (λ off. Atomic wide (Changes by fetch) p.base off src) p.off) rest))))

exchange_same : (op : AtomicOp) (text : List ℕ) → Same (exchange_in op text) (exchange_t op (tokens text))
unfolding exchange_in exchange_t
exchange_same op text = then_same _ _ (place_same text) (λ p behind_place. value_then_same (wide_of p.memory) _ _ (λ wide. rest_then_same _ _ (mark_same 44 behind_place refl) (λ behind_comma.
    then_same _ _ (register_same W64 behind_comma) (λ src rest. both_some (option_map (λ off. Atomic wide op p.base off src) p.off) rest))))

atomic_same : (text : List ℕ) → Same (atomic_in text) (atomic_t (tokens text))
unfolding atomic_in atomic_t
atomic_same text = rest_way_same _ _ (behind_same (codes "fetch") text refl) (change_same true)
    (rest_way_same _ _ (behind_same (codes "xchg") text refl) (exchange_same Xchg)
    (rest_way_same _ _ (behind_same (codes "cmpxchg") text refl) (exchange_same CmpXchg)
    (change_same false text)))

name_same : (jump : Jump) (text : List ℕ) → Same (name_in jump text) (name_t jump (tokens text))
unfolding name_in name_t
name_same jump text = then_same _ _ (word_same text) (λ w rest. if_same (is_name w) (both_some (Some (to_label jump w)) rest))

target_same : (jump : Jump) (text : List ℕ) → Same (target_in jump text) (target_t jump (tokens text))
unfolding target_in target_t
target_same jump text = way_same _ _ (signed_same text) (λ n rest. both_some (option_map plain (jump_by jump n)) rest) (name_same jump text)

test_same : (test : Cond) (width : Width) (dst : Reg) (src : Option Operand) (text : List ℕ) → Same (test_in test width dst src text) (test_t test width dst src (tokens text))
test_same test width dst (Some src) text = target_same (OnTest test width dst src) text
test_same test width dst None text = then_same _ _ (target_same ToSlot text) (λ t rest. both_some None rest)

branch_same : (text : List ℕ) → Same (branch_in text) (branch_t (tokens text))
unfolding branch_in branch_t
branch_same text = then_same _ _ (any_register_same text) (λ dst behind_dst. then_same _ _ (first_same cond_text conditions behind_dst refl) (λ test behind_test. then_same _ _ (operand_same dst.0 behind_test) (λ src behind_src.
    rest_then_same _ _ (behind_same (codes "goto") behind_src refl) (λ rest. test_same test dst.0 dst.1 src rest))))

plainly_same : {o : Option (Option Insn × List ℕ)} {p : CheckedTokens Insn} → Same o p → Same (plainly o) (plainly_t p)
plainly_same {o = None} same = record { is = ap plainly_t same.is }
plainly_same {o = Some x} same = record { is = ap plainly_t same.is }

keyword_same : (k : Keyword) (text : List ℕ) → Same (keyword_in k text) (keyword_t k (tokens text))
keyword_same keyword.Lock text = plainly_same (atomic_same text)
keyword_same keyword.If text = branch_same text
keyword_same keyword.Goto text = target_same ToSlot text
keyword_same keyword.GotoLong text = target_same FarToSlot text
keyword_same keyword.Call text = target_same CallSlot text
keyword_same keyword.Exit text = both_some (Some (plain Exit)) text

statement_same : (text : List ℕ) → Same (statement_in text) (statement_t (tokens text))
unfolding statement_in statement_t
statement_same text = way_same _ _ (any_register_same text) (λ r rest. plainly_same (assignment_same r.0 r.1 rest))
    (way_same _ _ (first_same keyword_text keywords text refl) (λ k rest. keyword_same k rest)
    (plainly_same (store_same text)))

-- blanks are no tokens
pub nothing_left : {A : Type 0} (x : A) (text : List ℕ) → if_blank x (skip_blanks text) ≡ if_nothing x (tokens text)
nothing_left x text = elim (head text) [
  | nothing skipped all ↦ rw (skipped, all) refl
  | a_word c cs more rest part skipped found all ↦ rw (skipped, all) refl
  | a_mark c rest skipped found all ↦ rw (skipped, all) refl
]

whole_of : {o : Option (Option Statement × List ℕ)} {p : CheckedTokens Statement} → Same o p → (o >>= λ s. if_blank s.0 (skip_blanks s.1)) ≡ (p >>= λ s. if_nothing s.0 s.1)
whole_of {o = None} same = ap (option_and_then (λ s. if_nothing s.0 s.1)) same.is
whole_of {o = Some x} same = nothing_left x.0 x.1 ∙ ap (option_and_then (λ s. if_nothing s.0 s.1)) same.is

-- a text is read as its tokens are
pub whole_same : (text : List ℕ) → whole_statement text ≡ whole_t (tokens text)
unfolding whole_statement whole_t
whole_same text = whole_of (statement_same text)
