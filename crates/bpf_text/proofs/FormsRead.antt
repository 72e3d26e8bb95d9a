-- What is read of tokens is the spelling of a form, and says what the form says.
use Rattle.std.proofs.Common.{◌≡◌, ℕ, Bool, true, false, cond, List, [], ◌∷◌, ◌++◌, Option, Some, None, option_map, refl, sym, ap, ◌∙◌, append_assoc, append-nil}
use Rattle.std.specs.Prelude.{codes, ℤ, pos, neg_ℤ}
use Rattle.bpf_insn.specs.Instruction.{word_size}
use Rattle.bpf_insn.specs.declared.instruction.Reg.{Reg}
use Rattle.bpf_insn.specs.declared.instruction.Size.{Size}
use Rattle.bpf_insn.specs.declared.instruction.Size.TheVariants.{B, H, W, DW}
use Rattle.bpf_insn.specs.declared.instruction.Width.{Width}
use Rattle.bpf_insn.specs.declared.instruction.Width.TheVariants.{W32, W64}
use Rattle.bpf_insn.specs.declared.instruction.Operand.{Operand}
use Rattle.bpf_insn.specs.declared.instruction.Operand.TheVariants.{Imm, Reg as FromReg}
use Rattle.bpf_insn.specs.declared.instruction.AluOp.{AluOp}
use Rattle.bpf_insn.specs.declared.instruction.AluOp.TheVariants.{Mov}
use Rattle.bpf_insn.specs.declared.instruction.Cond.{Cond}
use Rattle.bpf_insn.specs.declared.instruction.AtomicOp.{AtomicOp}
use Rattle.bpf_insn.specs.declared.instruction.AtomicOp.TheVariants.{Modify as Changes, Xchg, CmpXchg}
use Rattle.bpf_insn.specs.declared.instruction.Insn.{Insn}
use Rattle.bpf_insn.specs.declared.instruction.Insn.TheVariants.{Alu, Neg, MovSx, End, LoadImm64, Atomic, Exit}
use Rattle.bpf_text.specs.declared.spelling.Swap.{Swap}
use Rattle.bpf_text.specs.declared.spelling.Memory.{Memory}
use Rattle.bpf_text.specs.declared.spelling.Memory.TheVariants.{Unsigned, Signed}
use Rattle.bpf_text.specs.declared.spelling.Keyword.{Keyword}
use Rattle.bpf_text.specs.declared.spelling.Keyword.TheVariants as keyword
use Rattle.bpf_text.specs.declared.statement.memory.MemoryOperand.{MemoryOperand}
use Rattle.bpf_text.specs.declared.statement.Jump.{Jump}
use Rattle.bpf_text.specs.declared.statement.Jump.TheVariants.{Goto as ToSlot, GotoLong as FarToSlot, Call as CallSlot, If as OnTest}
use Rattle.bpf_text.specs.Parts.{operations, conditions, modifications, extensions, swaps, keywords, swap_spelling, keyword_text}
use Rattle.bpf_text.specs.code.WordReading.{◌>>=◌}
use Rattle.bpf_text.specs.Spelling.{register_text, operation_text, cond_text, modify_text, sign_bits_text, swap_text}
use Rattle.bpf_text.specs.Statements.{Statement, plain}
use Rattle.bpf_text.specs.code.StatementReading.{unsigned_size, wide_of}
use Rattle.bpf_text.specs.Numerals.{fits_32, fits_wide}
use Rattle.bpf_text.specs.Statements.{is_extension, load_of, store_of}
use Rattle.bpf_text.specs.Grammar.{Token, tokens, Number, number_value, constant_tokens, Address, Target, one_word, operand_tokens, address_tokens, target_tokens, atomic_marks, Form, form_tokens, form_said, operand_said, offset_said, target_said, branch_said}
use Rattle.bpf_text.specs.Grammar.{OperandForm}
use Rattle.bpf_text.specs.Grammar.Token.{word, mark}
use Rattle.bpf_text.proofs.TokenReading.{CheckedTokens, operand_t, wide_if_t, constant_t, negative_t, extension_t, load_t, swap_t, assigned_t, operation_t, assignment_t, store_t, change_t, exchange_t, atomic_t, target_t, test_t, branch_t, plainly_t, keyword_t, statement_t, if_nothing, whole_t}
use Rattle.bpf_text.proofs.PartsRead.{Gives, none_gives, some_gives, then_gives, any_then, way_gives, if_gives, mark_gives, strip_gives, first_gives, register_token, extension_token, swap_token, any_register_gives, register_gives, IsPart, numeral_gives, operand_gives, IsPlace, place_gives, target_gives}

-- ---- forms

-- what stands in front and what is read behind it are a form
pub record IsForm (front ts : List Token) (p : Option Statement × List Token) : Type 0 where
  pub form : Form
  pub there : front ++ ts ≡ form_tokens form ++ p.1
  pub says : form_said form ≡ p.0

abbrev IsInsn : List Token → List Token → Option Insn × List Token → Type 0
IsInsn front ts p = IsForm front ts (option_map plain p.0, p.1)

-- behind a register and `=`
abbrev assigned_to : Width → Reg → List Token
assigned_to width dst = word (register_text width dst) ∷ mark 61 ∷ []

abbrev constant_front : Width → Reg → Number → List Token
constant_front width dst n = assigned_to width dst ++ constant_tokens n

wide_gives : (width : Width) (dst : Reg) (n : Number) (ts rest : List Token) → ts ≡ word (codes "ll") ∷ rest → Gives (wide_if_t width dst (number_value n) rest) (IsInsn (constant_front width dst n) ts)
wide_gives W32 dst n ts rest h = none_gives
wide_gives W64 dst n ts rest h = some_gives (option_map (LoadImm64 dst) (fits_wide (number_value n)), rest) (record {
  form = Form.load_constant dst n;
  there = ap (λ z. word (register_text W64 dst) ∷ mark 61 ∷ (constant_tokens n ++ z)) h ∙ ap (λ z. word (register_text W64 dst) ∷ mark 61 ∷ z) (sym (append_assoc (constant_tokens n) (one_word (codes "ll")) rest));
  says = refl;
})

constant_gives : (width : Width) (dst : Reg) (n : Number) (ts : List Token) → Gives (constant_t width dst (number_value n) ts) (IsInsn (constant_front width dst n) ts)
unfolding constant_t
constant_gives width dst n ts = way_gives _ (strip_gives (tokens (codes "ll")) ts) (λ rest h. wide_gives width dst n ts rest h)
    (some_gives (option_map (λ imm. Alu Mov width dst (Imm imm)) (fits_32 (number_value n)), ts) (record { form = Form.calculate Mov width dst (OperandForm.constant n); there = refl; says = said (fits_32 (number_value n)) }))
  where
    said : (o : Option ℤ) → option_map plain (option_map (λ s. Alu Mov width dst s) (option_map Imm o)) ≡ option_map plain (option_map (λ imm. Alu Mov width dst (Imm imm)) o)
    said None = refl
    said (Some z) = refl

-- the number that was read is the one that stands there
numbered : (width : Width) (dst : Reg) (n : Number) (z : ℤ) (ts rest : List Token) → number_value n ≡ z → ts ≡ constant_tokens n ++ rest → Gives (constant_t width dst z rest) (IsInsn (assigned_to width dst) ts)
numbered width dst n z ts rest e h = record {
  holds = λ p there.
      let found : IsInsn (constant_front width dst n) rest p = (constant_gives width dst n rest).holds p (ap (λ v. constant_t width dst v rest) e ∙ there) in
      record { form = found.form; there = ap (λ z. word (register_text width dst) ∷ mark 61 ∷ z) h ∙ found.there; says = found.says };
}

negative_gives : (width : Width) (dst : Reg) (ts rest : List Token) → ts ≡ mark 45 ∷ rest → Gives (negative_t width dst rest) (IsInsn (assigned_to width dst) ts)
unfolding negative_t
negative_gives width dst ts rest h = way_gives _ (strip_gives (tokens (register_text width dst)) rest)
    (λ end same. some_gives (Some (Neg width dst), end) (record {
      form = Form.negate width dst;
      there = ap (λ z. word (register_text width dst) ∷ mark 61 ∷ z) (h ∙ ap (λ z. mark 45 ∷ z) (same ∙ ap (λ z. z ++ end) (register_token width dst)));
      says = refl;
    }))
    (then_gives _ (numeral_gives rest) (λ n k. numbered width dst (record { minus = true; numeral = k.part }) (neg_ℤ (pos n.0)) ts n.1 (ap (λ z. neg_ℤ (pos z)) k.says) (h ∙ ap (λ z. mark 45 ∷ z) k.there)))

extension_gives : (width : Width) (dst : Reg) (ts rest : List Token) → ts ≡ mark 40 ∷ rest → Gives (extension_t width dst rest) (IsInsn (assigned_to width dst) ts)
unfolding extension_t
extension_gives width dst ts rest h = then_gives _ (first_gives sign_bits_text extensions rest) (λ bits found. then_gives _ (mark_gives 41 bits.1) (λ closed closes. then_gives _ (register_gives width closed) (λ src there.
    if_gives (is_extension width bits.0) (λ is. some_gives (Some (MovSx width bits.0 dst src.0), src.1) (record {
      form = Form.extend width bits.0 is dst src.0;
      there = ap (λ z. word (register_text width dst) ∷ mark 61 ∷ z) (h ∙ ap (λ z. mark 40 ∷ z) (found ∙ ap (λ z. z ++ bits.1) (extension_token bits.0)
          ∙ ap (λ z. word (sign_bits_text bits.0) ∷ z) (closes ∙ ap (λ z. mark 41 ∷ z) there)));
      says = refl;
    })))))

load_gives : (width : Width) (dst : Reg) (ts : List Token) → Gives (load_t width dst ts) (IsInsn (assigned_to width dst) ts)
unfolding load_t
load_gives W32 dst ts = none_gives
load_gives W64 dst ts = then_gives _ (place_gives ts) (λ p h. some_gives (option_map (load_of (p.0).memory dst (p.0).base) (p.0).off, p.1) (record {
  form = Form.load (p.0).memory h.loaded dst h.address;
  there = ap (λ z. word (register_text W64 dst) ∷ mark 61 ∷ z) h.there;
  says = ap (λ base. option_map plain (option_map (load_of (p.0).memory dst base) (offset_said h.address))) h.base ∙ ap (λ off. option_map plain (option_map (load_of (p.0).memory dst (p.0).base) off)) h.off;
}))

swap_gives : (width : Width) (dst : Reg) (s : Swap) (ts rest : List Token) → ts ≡ tokens (swap_spelling s) ++ rest → Gives (swap_t width dst s rest) (IsInsn (assigned_to width dst) ts)
unfolding swap_t
swap_gives W32 dst s ts rest h = none_gives
swap_gives W64 dst s ts rest h = then_gives _ (strip_gives (tokens (register_text W64 dst)) rest) (λ end same. some_gives (Some (End s.0 s.1 dst), end) (record {
  form = Form.swap s.0 s.1 dst;
  there = ap (λ z. word (register_text W64 dst) ∷ mark 61 ∷ z) (h ∙ ap (λ z. z ++ rest) (swap_token s.0 s.1) ∙ ap (λ z. word (swap_text s.0 s.1) ∷ z) (same ∙ ap (λ z. z ++ end) (register_token W64 dst)));
  says = refl;
}))

assigned_gives : (width : Width) (dst : Reg) (ts : List Token) → Gives (assigned_t width dst ts) (IsInsn (assigned_to width dst) ts)
unfolding assigned_t
assigned_gives width dst ts = way_gives _ (mark_gives 45 ts) (λ rest h. negative_gives width dst ts rest h)
    (way_gives _ (mark_gives 40 ts) (λ rest h. extension_gives width dst ts rest h)
    (way_gives _ (mark_gives 42 ts) (λ rest h. load_gives width dst ts)
    (way_gives _ (first_gives swap_spelling swaps ts) (λ s h. swap_gives width dst s.0 ts s.1 h)
    (way_gives _ (register_gives width ts) (λ r h. some_gives (Some (Alu Mov width dst (FromReg r.0)), r.1) (record { form = Form.calculate Mov width dst (OperandForm.register r.0); there = ap (λ z. word (register_text width dst) ∷ mark 61 ∷ z) h; says = refl }))
    (then_gives _ (numeral_gives ts) (λ n h. numbered width dst (record { minus = false; numeral = h.part }) (pos n.0) ts n.1 (ap pos h.says) h.there))))))

calculation_gives : (width : Width) (dst : Reg) (op : AluOp) (ts rest : List Token) → ts ≡ tokens (operation_text op) ++ rest
    → Gives (operand_t width rest >>= λ src. Some (option_map (λ s. Alu op width dst s) src.0, src.1)) (IsInsn (one_word (register_text width dst)) ts)
calculation_gives width dst op ts rest h = then_gives _ (operand_gives width rest) (λ src k. some_gives (option_map (λ s. Alu op width dst s) src.0, src.1) (record {
  form = Form.calculate op width dst k.part;
  there = ap (λ z. word (register_text width dst) ∷ z) (h ∙ ap (λ z. tokens (operation_text op) ++ z) k.there ∙ sym (append_assoc (tokens (operation_text op)) (operand_tokens width k.part) src.1));
  says = ap (λ s. option_map plain (option_map (λ t. Alu op width dst t) s)) k.says;
}))

operation_gives : (width : Width) (dst : Reg) (op : AluOp) (ts rest : List Token) → ts ≡ tokens (operation_text op) ++ rest → Gives (operation_t width dst op rest) (IsInsn (one_word (register_text width dst)) ts)
operation_gives width dst Mov ts rest h = record {
  holds = λ p e. let found : IsInsn (assigned_to width dst) rest p = (assigned_gives width dst rest).holds p e in
      record { form = found.form; there = ap (λ z. word (register_text width dst) ∷ z) h ∙ found.there; says = found.says };
}
operation_gives width dst op ts rest h = calculation_gives width dst op ts rest h

assignment_gives : (width : Width) (dst : Reg) (ts : List Token) → Gives (assignment_t width dst ts) (IsInsn (one_word (register_text width dst)) ts)
unfolding assignment_t
assignment_gives width dst ts = then_gives _ (first_gives operation_text operations ts) (λ op h. operation_gives width dst op.0 ts op.1 h)

-- ---- stores, atomic operations and jumps

unsigned_is : (memory : Memory) (size : Size) → unsigned_size memory ≡ Some size → memory ≡ Unsigned size
unsigned_is (Unsigned s) size e = ap Unsigned (let same : s ≡ size = cc in same)
unsigned_is (Signed s) size e = cc

store_gives : (ts : List Token) → Gives (store_t ts) (IsInsn [] ts)
unfolding store_t
store_gives ts = then_gives _ (place_gives ts) (λ p h. any_then (unsigned_size (p.0).memory) _ (λ size is. then_gives _ (mark_gives 61 p.1) (λ rest equals. then_gives _ (operand_gives W64 rest) (λ src k.
    some_gives (store_of size (p.0).base (p.0).off src.0, src.1) (record {
      form = Form.store size h.address k.part;
      there = h.there ∙ ap (λ m. address_tokens m h.address ++ p.1) (unsigned_is (p.0).memory size is) ∙ ap (λ z. address_tokens (Unsigned size) h.address ++ z) (equals ∙ ap (λ z. mark 61 ∷ z) k.there);
      says = ap (λ base. option_map plain (store_of size base (offset_said h.address) (operand_said k.part))) h.base
          ∙ ap (λ off. option_map plain (store_of size (p.0).base off (operand_said k.part))) h.off ∙ ap (λ s. option_map plain (store_of size (p.0).base (p.0).off s)) k.says;
    })))))

wide_is : (memory : Memory) (wide : Bool) → wide_of memory ≡ Some wide → memory ≡ Unsigned (word_size wide)
wide_is (Unsigned B) wide e = cc
wide_is (Unsigned H) wide e = cc
wide_is (Unsigned W) false e = refl
wide_is (Unsigned W) true e = cc
wide_is (Unsigned DW) false e = cc
wide_is (Unsigned DW) true e = refl
wide_is (Signed s) wide e = cc

-- behind `lock` and the operation's word
atomic_gives_at : (wide : Bool) (op : AtomicOp) (ts : List Token) (p : MemoryOperand × List Token) (rest end : List Token) (src : Reg) (place : IsPlace ts p) → wide_of (p.0).memory ≡ Some wide → p.1 ≡ tokens (atomic_marks op) ++ rest → rest ≡ word (register_text W64 src) ∷ end
    → (ts ≡ address_tokens (Unsigned (word_size wide)) place.address ++ (tokens (atomic_marks op) ++ word (register_text W64 src) ∷ end))
    × (form_said (Form.atomic wide op place.address src) ≡ option_map plain (option_map (λ off. Atomic wide op (p.0).base off src) (p.0).off))
atomic_gives_at wide op ts p rest end src place is marks there = (
  place.there ∙ ap (λ m. address_tokens m place.address ++ p.1) (wide_is (p.0).memory wide is) ∙ ap (λ z. address_tokens (Unsigned (word_size wide)) place.address ++ z) (marks ∙ ap (λ z. tokens (atomic_marks op) ++ z) there),
  ap (λ base. option_map plain (option_map (λ off. Atomic wide op base off src) (offset_said place.address))) place.base ∙ ap (λ off. option_map plain (option_map (λ z. Atomic wide op (p.0).base z src) off)) place.off,
)

-- what stands in front of the place
abbrev pub lock_front : AtomicOp → List Token
lock_front (Changes by fetch) = cond fetch (word (codes "lock") ∷ word (codes "fetch") ∷ []) (word (codes "lock") ∷ [])
lock_front Xchg = word (codes "lock") ∷ word (codes "xchg") ∷ []
lock_front CmpXchg = word (codes "lock") ∷ word (codes "cmpxchg") ∷ []

pub locked : (wide : Bool) (op : AtomicOp) (a : Address) (src : Reg) (end : List Token)
    → lock_front op ++ (address_tokens (Unsigned (word_size wide)) a ++ (tokens (atomic_marks op) ++ word (register_text W64 src) ∷ end)) ≡ form_tokens (Form.atomic wide op a src) ++ end
locked wide (Changes by true) a src end = ap (λ z. word (codes "lock") ∷ word (codes "fetch") ∷ (address_tokens (Unsigned (word_size wide)) a ++ z)) (sym (append_assoc (tokens (modify_text by)) (one_word (register_text W64 src)) end))
locked wide (Changes by false) a src end = ap (λ z. word (codes "lock") ∷ (address_tokens (Unsigned (word_size wide)) a ++ z)) (sym (append_assoc (tokens (modify_text by)) (one_word (register_text W64 src)) end))
locked wide Xchg a src end = refl
locked wide CmpXchg a src end = refl

abbrev pub change_front : Bool → List Token
change_front fetch = cond fetch (word (codes "lock") ∷ word (codes "fetch") ∷ []) (word (codes "lock") ∷ [])

change_gives : (fetch : Bool) (ts : List Token) → Gives (change_t fetch ts) (IsInsn (change_front fetch) ts)
unfolding change_t
change_gives fetch ts = then_gives _ (place_gives ts) (λ p h. any_then (wide_of (p.0).memory) _ (λ wide is. then_gives _ (first_gives modify_text modifications p.1) (λ by changes. then_gives _ (register_gives W64 by.1) (λ src there.
    let both = atomic_gives_at wide (Changes by.0 fetch) ts p by.1 src.1 src.0 h is changes there in
    some_gives (option_map (λ off. Atomic wide (Changes by.0 fetch) (p.0).base off src.0) (p.0).off, src.1) (record {
      form = Form.atomic wide (Changes by.0 fetch) h.address src.0;
      there = ap (λ z. change_front fetch ++ z) both.0 ∙ locked wide (Changes by.0 fetch) h.address src.0 src.1;
      says = both.1;
    })))))

exchange_gives : (op : AtomicOp) (ts : List Token) → tokens (atomic_marks op) ≡ mark 44 ∷ [] → Gives (exchange_t op ts) (IsInsn (lock_front op) ts)
unfolding exchange_t
exchange_gives op ts comma = then_gives _ (place_gives ts) (λ p h. any_then (wide_of (p.0).memory) _ (λ wide is. then_gives _ (mark_gives 44 p.1) (λ rest changes. then_gives _ (register_gives W64 rest) (λ src there.
    let both = atomic_gives_at wide op ts p rest src.1 src.0 h is (changes ∙ ap (λ z. z ++ rest) (sym comma)) there in
    some_gives (option_map (λ off. Atomic wide op (p.0).base off src.0) (p.0).off, src.1) (record {
      form = Form.atomic wide op h.address src.0;
      there = ap (λ z. lock_front op ++ z) both.0 ∙ locked wide op h.address src.0 src.1;
      says = both.1;
    })))))

-- with another word in front
behind_word : {o : CheckedTokens Insn} (front us ts rest : List Token) → ts ≡ us ++ rest → Gives o (IsInsn (front ++ us) rest) → Gives o (IsInsn front ts)
behind_word front us ts rest h g = record {
  holds = λ p e. let found : IsInsn (front ++ us) rest p = g.holds p e in
      record { form = found.form; there = ap (λ z. front ++ z) h ∙ sym (append_assoc front us rest) ∙ found.there; says = found.says };
}

atomic_gives : (ts : List Token) → Gives (atomic_t ts) (IsInsn (one_word (codes "lock")) ts)
unfolding atomic_t
atomic_gives ts = way_gives _ (strip_gives (tokens (codes "fetch")) ts) (λ rest h. behind_word (one_word (codes "lock")) (one_word (codes "fetch")) ts rest h (change_gives true rest))
    (way_gives _ (strip_gives (tokens (codes "xchg")) ts) (λ rest h. behind_word (one_word (codes "lock")) (one_word (codes "xchg")) ts rest h (exchange_gives Xchg rest refl))
    (way_gives _ (strip_gives (tokens (codes "cmpxchg")) ts) (λ rest h. behind_word (one_word (codes "lock")) (one_word (codes "cmpxchg")) ts rest h (exchange_gives CmpXchg rest refl))
    (change_gives false ts)))

assoc4 : (a b c d e : List Token) → (((a ++ b) ++ c) ++ d) ++ e ≡ a ++ (b ++ (c ++ (d ++ e)))
assoc4 a b c d e = append_assoc ((a ++ b) ++ c) d e ∙ append_assoc (a ++ b) c (d ++ e) ∙ append_assoc a b (c ++ (d ++ e))

abbrev pub branch_tokens : Cond → Width → OperandForm → Target → List Token → List Token
branch_tokens test width src target end = tokens (cond_text test) ++ (operand_tokens width src ++ (word (codes "goto") ∷ (target_tokens target ++ end)))

pub branched : (test : Cond) (width : Width) (dst : Reg) (src : OperandForm) (target : Target) (end : List Token)
    → word (codes "if") ∷ word (register_text width dst) ∷ branch_tokens test width src target end ≡ form_tokens (Form.branch test width dst src target) ++ end
branched test width dst src target end = ap (λ z. word (codes "if") ∷ word (register_text width dst) ∷ z) (sym (assoc4 (tokens (cond_text test)) (operand_tokens width src) (one_word (codes "goto")) (target_tokens target) end))

test_gives : (test : Cond) (width : Width) (dst : Reg) (src : OperandForm) (o : Option Operand) (ts : List Token) → operand_said src ≡ o
    → Gives (test_t test width dst o ts) (λ p. (target : Target) × (ts ≡ target_tokens target ++ p.1) × (form_said (Form.branch test width dst src target) ≡ p.0))
test_gives test width dst src None ts e = then_gives _ (target_gives ToSlot ts) (λ t h. some_gives (None, t.1) (h.part, h.there, ap (λ s. branch_said test width dst s h.part) e))
test_gives test width dst src (Some operand) ts e = record {
  holds = λ p there. let h : IsPart target_tokens (target_said (OnTest test width dst operand)) ts p = (target_gives (OnTest test width dst operand) ts).holds p there in
      (h.part, h.there, ap (λ s. branch_said test width dst s h.part) e ∙ h.says);
}

branch_gives : (ts : List Token) → Gives (branch_t ts) (IsForm (one_word (codes "if")) ts)
unfolding branch_t
branch_gives ts = then_gives _ (any_register_gives ts) (λ dst at. then_gives _ (first_gives cond_text conditions dst.1) (λ test tested. then_gives _ (operand_gives (dst.0).0 test.1) (λ src k.
    then_gives _ (strip_gives (tokens (codes "goto")) src.1) (λ rest goes. record {
      holds = λ p there.
          let h = (test_gives test.0 (dst.0).0 (dst.0).1 k.part src.0 rest k.says).holds p there in
          record {
            form = Form.branch test.0 (dst.0).0 (dst.0).1 k.part h.0;
            there = ap (λ z. word (codes "if") ∷ z) (at ∙ ap (λ z. word (register_text (dst.0).0 (dst.0).1) ∷ z) (tested ∙ ap (λ z. tokens (cond_text test.0) ++ z) (k.there
                ∙ ap (λ z. operand_tokens (dst.0).0 k.part ++ z) (goes ∙ ap (λ z. word (codes "goto") ∷ z) h.1)))) ∙ branched test.0 (dst.0).0 (dst.0).1 k.part h.0 p.1;
            says = h.2;
          };
    }))))

-- ---- statements

-- an instruction is read as a statement
plainly_gives : {o : CheckedTokens Insn} {front ts : List Token} → Gives o (IsInsn front ts) → Gives (plainly_t o) (IsForm front ts)
plainly_gives {o = None} g = none_gives
plainly_gives {o = Some x} g = some_gives (option_map plain x.0, x.1) (g.holds x refl)

behind_front : {o : CheckedTokens Statement} (us ts rest : List Token) → ts ≡ us ++ rest → Gives o (IsForm us rest) → Gives o (IsForm [] ts)
behind_front us ts rest h g = record { holds = λ p e. let found : IsForm us rest p = g.holds p e in record { form = found.form; there = h ∙ found.there; says = found.says } }

jump_gives : (jump : Jump) (w : List ℕ) (form : Target → Form) (ts : List Token) → ((target : Target) → form_tokens (form target) ≡ word w ∷ target_tokens target) → ((target : Target) → form_said (form target) ≡ target_said jump target)
    → Gives (target_t jump ts) (IsForm (one_word w) ts)
jump_gives jump w form ts spelled says = record {
  holds = λ p e. let h : IsPart target_tokens (target_said jump) ts p = (target_gives jump ts).holds p e in
      record { form = form h.part; there = ap (λ z. word w ∷ z) h.there ∙ ap (λ z. z ++ p.1) (sym (spelled h.part)); says = says h.part ∙ h.says };
}

keyword_gives : (k : Keyword) (ts : List Token) → Gives (keyword_t k ts) (IsForm (tokens (keyword_text k)) ts)
keyword_gives keyword.Lock ts = plainly_gives (atomic_gives ts)
keyword_gives keyword.If ts = branch_gives ts
keyword_gives keyword.Goto ts = jump_gives ToSlot (codes "goto") Form.goto ts (λ target. refl) (λ target. refl)
keyword_gives keyword.GotoLong ts = jump_gives FarToSlot (codes "gotol") Form.goto_long ts (λ target. refl) (λ target. refl)
keyword_gives keyword.Call ts = jump_gives CallSlot (codes "call") Form.call ts (λ target. refl) (λ target. refl)
keyword_gives keyword.Exit ts = some_gives (Some (plain Exit), ts) (record { form = Form.exit; there = refl; says = refl })

statement_gives : (ts : List Token) → Gives (statement_t ts) (IsForm [] ts)
unfolding statement_t
statement_gives ts = way_gives _ (any_register_gives ts) (λ r h. behind_front (one_word (register_text (r.0).0 (r.0).1)) ts r.1 h (plainly_gives (assignment_gives (r.0).0 (r.0).1 r.1)))
    (way_gives _ (first_gives keyword_text keywords ts) (λ k h. behind_front (tokens (keyword_text k.0)) ts k.1 h (keyword_gives k.0 k.1))
    (plainly_gives (store_gives ts)))

-- nothing stands behind the statement
ends_there : (s : Option Statement × List Token) (x : Option Statement) → if_nothing s.0 s.1 ≡ Some x → (s.0 ≡ x) × (s.1 ≡ [])
ends_there s x e = go s.1 e
  where
    go : (ts : List Token) → if_nothing s.0 ts ≡ Some x → (s.0 ≡ x) × (ts ≡ [])
    go [] k = (cc, refl)
    go (t ∷ ts) k = cc

-- what is read of all tokens is the spelling of a form
pub whole_gives : (ts : List Token) → Gives (whole_t ts) (λ s. (form : Form) × (ts ≡ form_tokens form) × (form_said form ≡ s))
unfolding whole_t
whole_gives ts = then_gives _ (statement_gives ts) (λ s h. record {
  holds = λ x e. let ends = ends_there s x e in
      (h.form, h.there ∙ ap (λ z. form_tokens h.form ++ z) ends.1 ∙ append-nil (form_tokens h.form), h.says ∙ ends.0);
})
