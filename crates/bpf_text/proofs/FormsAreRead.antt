-- Each form is read from its tokens, and then says what the form says.
use Rattle.std.proofs.Common.{◌≡◌, ℕ, Bool, true, false, cond, List, [], ◌∷◌, ◌++◌, Option, Some, None, option_map, refl, sym, ap, ◌∙◌, append_assoc, append-nil}
use Rattle.std.specs.Prelude.{codes, ℤ}
use Rattle.bpf_insn.specs.Instruction.{word_size}
use Rattle.bpf_insn.specs.declared.instruction.Reg.{Reg}
use Rattle.bpf_insn.specs.declared.instruction.Size.{Size}
use Rattle.bpf_insn.specs.declared.instruction.Width.{Width}
use Rattle.bpf_insn.specs.declared.instruction.Width.TheVariants.{W64}
use Rattle.bpf_insn.specs.declared.instruction.Operand.{Operand}
use Rattle.bpf_insn.specs.declared.instruction.Operand.TheVariants.{Imm, Reg as FromReg}
use Rattle.bpf_insn.specs.declared.instruction.AluOp.{AluOp}
use Rattle.bpf_insn.specs.declared.instruction.AluOp.TheVariants.{Add, Sub, Mul, Div, SDiv, Or, And, Lsh, Rsh, Mod, SMod, Xor, Mov, Arsh}
use Rattle.bpf_insn.specs.declared.instruction.SignBits.{SignBits}
use Rattle.bpf_insn.specs.declared.instruction.EndKind.{EndKind}
use Rattle.bpf_insn.specs.declared.instruction.EndBits.{EndBits}
use Rattle.bpf_insn.specs.declared.instruction.Cond.{Cond}
use Rattle.bpf_insn.specs.declared.instruction.AtomicOp.{AtomicOp}
use Rattle.bpf_insn.specs.declared.instruction.AtomicOp.TheVariants.{Modify as Changes, Xchg, CmpXchg}
use Rattle.bpf_insn.specs.declared.instruction.Insn.{Insn}
use Rattle.bpf_insn.specs.declared.instruction.Insn.TheVariants.{Alu, Neg, MovSx, End, LoadImm64, Atomic}
use Rattle.bpf_text.specs.declared.spelling.Memory.{Memory}
use Rattle.bpf_text.specs.declared.spelling.Memory.TheVariants.{Unsigned}
use Rattle.bpf_text.specs.declared.spelling.Keyword.{Keyword}
use Rattle.bpf_text.specs.declared.spelling.Keyword.TheVariants as keyword
use Rattle.bpf_text.specs.declared.statement.Jump.TheVariants.{Goto as ToSlot, GotoLong as FarToSlot, Call as CallSlot, If as OnTest}
use Rattle.bpf_text.specs.Parts.{register, swap, keywords, memory_text, keyword_text}
use Rattle.bpf_text.specs.Spelling.{register_text, operation_text, cond_text, modify_text, sign_bits_text, swap_text}
use Rattle.bpf_text.specs.Statements.{plain}
use Rattle.bpf_text.specs.Numerals.{fits_32, fits_wide}
use Rattle.bpf_text.specs.Statements.{is_extension, load_of, store_of}
use Rattle.bpf_text.specs.code.StatementReading.{wide_of}
use Rattle.bpf_text.specs.Grammar.{Token, tokens, Numeral, Number, number_value, constant_tokens, signed_tokens, Address, Target, one_word, operand_tokens, address_tokens, target_tokens, atomic_marks, is_loaded, Form, form_tokens, form_said, operand_said, offset_said, branch_said}
use Rattle.bpf_text.specs.Grammar.{OperandForm}
use Rattle.bpf_text.specs.Grammar.Token.{word, mark}
use Rattle.bpf_text.proofs.TokenReading.{any_register_t, constant_t, negative_t, extension_t, load_t, swap_t, assigned_t, operation_t, assignment_t, store_t, change_t, exchange_t, atomic_t, test_t, branch_t, plainly_t, keyword_t, statement_t, whole_t}
use Rattle.bpf_insn.specs.declared.instruction.Modify.{Modify}
use Rattle.bpf_text.proofs.TokenLemmas.{word_t, mark_t, strip, first_t}
use Rattle.bpf_text.proofs.FormsRead.{locked, branched, branch_tokens, lock_front}
use Rattle.bpf_text.proofs.PartsAreRead.{register_found, register_here, register_itself, register_no_swap, operation_here, cond_here, modify_here, extension_here, swap_here, alone, numeral_here, operand_here, no_equals, place_here, target_here}

-- ---- what stands behind `=`

-- no mark of a form stands in front of a word
marks_no_word : (w : List ℕ) (ts : List Token) → (mark_t 45 (word w ∷ ts) ≡ None) × (mark_t 40 (word w ∷ ts) ≡ None) × (mark_t 42 (word w ∷ ts) ≡ None)
unfolding mark_t
marks_no_word w ts = (refl, refl, refl)

minus_first : (ts : List Token) → mark_t 45 (mark 45 ∷ ts) ≡ Some ts
unfolding mark_t
minus_first ts = refl

opening_first : (ts : List Token) → (mark_t 45 (mark 40 ∷ ts) ≡ None) × (mark_t 40 (mark 40 ∷ ts) ≡ Some ts) × (mark_t 41 (mark 41 ∷ ts) ≡ Some ts)
unfolding mark_t
opening_first ts = (refl, refl, refl)

star_first : (ts : List Token) → (mark_t 45 (mark 42 ∷ ts) ≡ None) × (mark_t 40 (mark 42 ∷ ts) ≡ None) × (mark_t 42 (mark 42 ∷ ts) ≡ Some ts)
unfolding mark_t
star_first ts = (refl, refl, refl)

short_constant : (width : Width) (dst : Reg) (z : ℤ) → constant_t width dst z [] ≡ Some (option_map (λ imm. Alu Mov width dst (Imm imm)) (fits_32 z), [])
unfolding constant_t strip word_t
short_constant width dst z = refl

long_constant : (dst : Reg) (z : ℤ) → constant_t W64 dst z (word (codes "ll") ∷ []) ≡ Some (option_map (LoadImm64 dst) (fits_wide z), [])
unfolding constant_t strip word_t
long_constant dst z = refl

-- a number, and then what its value and the tokens behind it make
number_assigned : (width : Width) (dst : Reg) (minus : Bool) (n : Numeral) (ts : List Token) → let number : Number = record { minus = minus; numeral = n } in assigned_t width dst (constant_tokens number ++ ts) ≡ constant_t width dst (number_value number) ts
unfolding assigned_t negative_t
number_assigned width dst true n ts = rw (minus_first (word n.digits ∷ ts), (alone n ts).itself width dst, numeral_here n ts) refl
number_assigned width dst false n ts = let marks = marks_no_word n.digits ts in rw (marks.0, marks.1, marks.2, (alone n ts).swap, (alone n ts).register width, numeral_here n ts) refl

register_assigned : (width : Width) (dst r : Reg) (ts : List Token) → assigned_t width dst (word (register_text width r) ∷ ts) ≡ Some (Some (Alu Mov width dst (FromReg r)), ts)
unfolding assigned_t
register_assigned width dst r ts = let marks = marks_no_word (register_text width r) ts in rw (marks.0, marks.1, marks.2, register_no_swap width r ts, register_here width r ts) refl

moved_constant : (width : Width) (dst : Reg) (o : Option ℤ) → option_map (λ imm. Alu Mov width dst (Imm imm)) o ≡ option_map (λ s. Alu Mov width dst s) (option_map Imm o)
moved_constant width dst None = refl
moved_constant width dst (Some z) = refl

moved : (width : Width) (dst : Reg) (src : OperandForm) → assigned_t width dst (operand_tokens width src ++ []) ≡ Some (option_map (λ s. Alu Mov width dst s) (operand_said src), [])
moved width dst (OperandForm.register r) = register_assigned width dst r []
moved width dst (OperandForm.constant n) = number_assigned width dst n.minus n.numeral [] ∙ short_constant width dst (number_value n) ∙ ap (λ o. Some (o, [])) (moved_constant width dst (fits_32 (number_value n)))

negated : (width : Width) (dst : Reg) (ts : List Token) → assigned_t width dst (mark 45 ∷ word (register_text width dst) ∷ ts) ≡ Some (Some (Neg width dst), ts)
unfolding assigned_t negative_t
negated width dst ts = rw (minus_first (word (register_text width dst) ∷ ts), register_itself width dst ts) refl

extended : (width : Width) (bits : SignBits) (dst src : Reg) (ts : List Token) → is_extension width bits ≡ true
    → assigned_t width dst (mark 40 ∷ word (sign_bits_text bits) ∷ mark 41 ∷ word (register_text width src) ∷ ts) ≡ Some (Some (MovSx width bits dst src), ts)
unfolding assigned_t extension_t
extended width bits dst src ts is =
    let closed = word (register_text width src) ∷ ts in
    let inside = word (sign_bits_text bits) ∷ mark 41 ∷ closed in
    rw ((opening_first inside).0, (opening_first inside).1, extension_here bits (mark 41 ∷ closed), (opening_first closed).2, register_here width src ts, is) refl

swapped : (kind : EndKind) (bits : EndBits) (dst : Reg) (ts : List Token) → assigned_t W64 dst (word (swap_text kind bits) ∷ word (register_text W64 dst) ∷ ts) ≡ Some (Some (End kind bits dst), ts)
unfolding assigned_t swap_t
swapped kind bits dst ts = let behind = word (register_text W64 dst) ∷ ts in let marks = marks_no_word (swap_text kind bits) behind in rw (marks.0, marks.1, marks.2, swap_here kind bits behind, register_itself W64 dst ts) refl

loaded : (memory : Memory) (dst : Reg) (a : Address) (ts : List Token) → is_loaded memory ≡ true → assigned_t W64 dst (address_tokens memory a ++ ts) ≡ Some (option_map (load_of memory dst a.base) (offset_said a), ts)
unfolding assigned_t load_t
loaded memory dst a ts is =
    let inside = mark 40 ∷ word (memory_text memory) ∷ mark 42 ∷ mark 41 ∷ mark 40 ∷ word (register_text W64 a.base) ∷ (signed_tokens a.off ++ mark 41 ∷ ts) in
    rw ((star_first inside).0, (star_first inside).1, (star_first inside).2, place_here memory a ts is) refl

-- ---- statements in front of which a register stands

calculated : (op : AluOp) (width : Width) (dst : Reg) (src : OperandForm) → operation_t width dst op (operand_tokens width src ++ []) ≡ Some (option_map (λ s. Alu op width dst s) (operand_said src), [])
calculated Add width dst src = rw (operand_here width src []) refl
calculated Sub width dst src = rw (operand_here width src []) refl
calculated Mul width dst src = rw (operand_here width src []) refl
calculated Div width dst src = rw (operand_here width src []) refl
calculated SDiv width dst src = rw (operand_here width src []) refl
calculated Or width dst src = rw (operand_here width src []) refl
calculated And width dst src = rw (operand_here width src []) refl
calculated Lsh width dst src = rw (operand_here width src []) refl
calculated Rsh width dst src = rw (operand_here width src []) refl
calculated Mod width dst src = rw (operand_here width src []) refl
calculated SMod width dst src = rw (operand_here width src []) refl
calculated Xor width dst src = rw (operand_here width src []) refl
calculated Arsh width dst src = rw (operand_here width src []) refl
calculated Mov width dst src = moved width dst src

assigns : (width : Width) (dst : Reg) (op : AluOp) (ts : List Token) (i : Option Insn) → operation_t width dst op ts ≡ Some (i, []) → statement_t (word (register_text width dst) ∷ (tokens (operation_text op) ++ ts)) ≡ Some (option_map plain i, [])
unfolding statement_t assignment_t
assigns width dst op ts i e = rw (register_found width dst (tokens (operation_text op) ++ ts), operation_here op ts, e) refl

-- ---- other statements

star_ahead : (ts : List Token) → (any_register_t (mark 42 ∷ ts) ≡ None) × (first_t keyword_text keywords (mark 42 ∷ ts) ≡ None)
unfolding any_register_t first_t strip word_t mark_t
star_ahead ts = (refl, refl)

equals_first : (ts : List Token) → mark_t 61 (mark 61 ∷ ts) ≡ Some ts
unfolding mark_t
equals_first ts = refl

store_here : (size : Size) (a : Address) (src : OperandForm) → store_t (address_tokens (Unsigned size) a ++ (mark 61 ∷ (operand_tokens W64 src ++ []))) ≡ Some (store_of size a.base (offset_said a) (operand_said src), [])
unfolding store_t
store_here size a src = rw (place_here (Unsigned size) a (mark 61 ∷ (operand_tokens W64 src ++ [])) refl, equals_first (operand_tokens W64 src ++ []), operand_here W64 src []) refl

stores : (size : Size) (a : Address) (src : OperandForm) → statement_t (address_tokens (Unsigned size) a ++ (mark 61 ∷ (operand_tokens W64 src ++ []))) ≡ Some (option_map plain (store_of size a.base (offset_said a) (operand_said src)), [])
unfolding statement_t
stores size a src =
    let behind = mark 40 ∷ word (memory_text (Unsigned size)) ∷ mark 42 ∷ mark 41 ∷ mark 40 ∷ word (register_text W64 a.base) ∷ (signed_tokens a.off ++ mark 41 ∷ (mark 61 ∷ (operand_tokens W64 src ++ []))) in
    rw ((star_ahead behind).0, (star_ahead behind).1, store_here size a src) refl

wide_there : (wide : Bool) → wide_of (Unsigned (word_size wide)) ≡ Some wide
wide_there false = refl
wide_there true = refl

comma_first : (ts : List Token) → mark_t 44 (mark 44 ∷ ts) ≡ Some ts
unfolding mark_t
comma_first ts = refl

-- the place, the marks and the register of an atomic operation
abbrev atomic_rest : Bool → AtomicOp → Address → Reg → List Token
atomic_rest wide op a src = address_tokens (Unsigned (word_size wide)) a ++ (tokens (atomic_marks op) ++ word (register_text W64 src) ∷ [])

abbrev atomic_said : Bool → AtomicOp → Address → Reg → Option Insn
atomic_said wide op a src = option_map (λ off. Atomic wide op a.base off src) (offset_said a)

change_here : (wide fetch : Bool) (by : Modify) (a : Address) (src : Reg) → change_t fetch (atomic_rest wide (Changes by fetch) a src) ≡ Some (atomic_said wide (Changes by fetch) a src, [])
unfolding change_t
change_here wide fetch by a src = rw (place_here (Unsigned (word_size wide)) a (tokens (modify_text by) ++ word (register_text W64 src) ∷ []) refl, wide_there wide, modify_here by (word (register_text W64 src) ∷ []), register_here W64 src []) refl

exchange_here : (wide : Bool) (op : AtomicOp) (a : Address) (src : Reg) → exchange_t op (address_tokens (Unsigned (word_size wide)) a ++ mark 44 ∷ word (register_text W64 src) ∷ []) ≡ Some (atomic_said wide op a src, [])
unfolding exchange_t
exchange_here wide op a src = rw (place_here (Unsigned (word_size wide)) a (mark 44 ∷ word (register_text W64 src) ∷ []) refl, wide_there wide, comma_first (word (register_text W64 src) ∷ []), register_here W64 src []) refl

fetch_ahead : (ts : List Token) → strip (tokens (codes "fetch")) (word (codes "fetch") ∷ ts) ≡ Some ts
unfolding strip word_t
fetch_ahead ts = refl

xchg_ahead : (ts : List Token) → (strip (tokens (codes "fetch")) (word (codes "xchg") ∷ ts) ≡ None) × (strip (tokens (codes "xchg")) (word (codes "xchg") ∷ ts) ≡ Some ts)
unfolding strip word_t
xchg_ahead ts = (refl, refl)

cmpxchg_ahead : (ts : List Token) → (strip (tokens (codes "fetch")) (word (codes "cmpxchg") ∷ ts) ≡ None) × (strip (tokens (codes "xchg")) (word (codes "cmpxchg") ∷ ts) ≡ None) × (strip (tokens (codes "cmpxchg")) (word (codes "cmpxchg") ∷ ts) ≡ Some ts)
unfolding strip word_t
cmpxchg_ahead ts = (refl, refl, refl)

no_word_ahead : (ts : List Token) → (strip (tokens (codes "fetch")) (mark 42 ∷ ts) ≡ None) × (strip (tokens (codes "xchg")) (mark 42 ∷ ts) ≡ None) × (strip (tokens (codes "cmpxchg")) (mark 42 ∷ ts) ≡ None)
unfolding strip word_t
no_word_ahead ts = (refl, refl, refl)

abbrev behind_lock : AtomicOp → List Token
behind_lock (Changes by fetch) = cond fetch (word (codes "fetch") ∷ []) []
behind_lock Xchg = word (codes "xchg") ∷ []
behind_lock CmpXchg = word (codes "cmpxchg") ∷ []

atomic_here : (wide : Bool) (op : AtomicOp) (a : Address) (src : Reg) → atomic_t (behind_lock op ++ atomic_rest wide op a src) ≡ Some (atomic_said wide op a src, [])
unfolding atomic_t
atomic_here wide (Changes by true) a src = rw (fetch_ahead (atomic_rest wide (Changes by true) a src), change_here wide true by a src) refl
atomic_here wide (Changes by false) a src =
    let inside = mark 40 ∷ word (memory_text (Unsigned (word_size wide))) ∷ mark 42 ∷ mark 41 ∷ mark 40 ∷ word (register_text W64 a.base) ∷ (signed_tokens a.off ++ mark 41 ∷ (tokens (modify_text by) ++ word (register_text W64 src) ∷ [])) in
    rw ((no_word_ahead inside).0, (no_word_ahead inside).1, (no_word_ahead inside).2, change_here wide false by a src) refl
atomic_here wide Xchg a src = let rest = atomic_rest wide Xchg a src in rw ((xchg_ahead rest).0, (xchg_ahead rest).1, exchange_here wide Xchg a src) refl
atomic_here wide CmpXchg a src = let rest = atomic_rest wide CmpXchg a src in rw ((cmpxchg_ahead rest).0, (cmpxchg_ahead rest).1, (cmpxchg_ahead rest).2, exchange_here wide CmpXchg a src) refl

-- the word of each kind of statement
word_no_register : (k : Keyword) (ts : List Token) → any_register_t (tokens (keyword_text k) ++ ts) ≡ None
unfolding any_register_t first_t strip word_t
word_no_register keyword.Lock ts = refl
word_no_register keyword.If ts = refl
word_no_register keyword.Goto ts = refl
word_no_register keyword.GotoLong ts = refl
word_no_register keyword.Call ts = refl
word_no_register keyword.Exit ts = refl

keyword_found : (k : Keyword) (ts : List Token) → first_t keyword_text keywords (tokens (keyword_text k) ++ ts) ≡ Some (k, ts)
unfolding first_t strip word_t
keyword_found keyword.Lock ts = refl
keyword_found keyword.If ts = refl
keyword_found keyword.Goto ts = refl
keyword_found keyword.GotoLong ts = refl
keyword_found keyword.Call ts = refl
keyword_found keyword.Exit ts = refl

by_keyword : (k : Keyword) (ts : List Token) → statement_t (tokens (keyword_text k) ++ ts) ≡ keyword_t k ts
unfolding statement_t
by_keyword k ts = rw (word_no_register k ts, keyword_found k ts) refl

test_here : (test : Cond) (width : Width) (dst : Reg) (src : Option Operand) (target : Target) → test_t test width dst src (target_tokens target ++ []) ≡ Some (branch_said test width dst src target, [])
test_here test width dst None target = rw (target_here ToSlot target []) refl
test_here test width dst (Some src) target = target_here (OnTest test width dst src) target []

goto_first : (ts : List Token) → strip (tokens (codes "goto")) (word (codes "goto") ∷ ts) ≡ Some ts
unfolding strip word_t
goto_first ts = refl

branch_here : (test : Cond) (width : Width) (dst : Reg) (src : OperandForm) (target : Target) → branch_t (word (register_text width dst) ∷ branch_tokens test width src target []) ≡ Some (branch_said test width dst (operand_said src) target, [])
unfolding branch_t
branch_here test width dst src target =
    let goes = word (codes "goto") ∷ (target_tokens target ++ []) in
    let tested = operand_tokens width src ++ goes in
    rw (register_found width dst (tokens (cond_text test) ++ tested), cond_here test tested (no_equals width src goes), operand_here width src goes, goto_first (target_tokens target ++ []), test_here test width dst (operand_said src) target) refl

-- ---- forms

-- the tokens of a form with nothing behind them, grouped as they are read
form_read : (form : Form) → statement_t (form_tokens form ++ []) ≡ Some (form_said form, [])
form_read (Form.calculate op width dst src) = ap (λ z. statement_t (word (register_text width dst) ∷ z)) (append_assoc (tokens (operation_text op)) (operand_tokens width src) []) ∙ assigns width dst op (operand_tokens width src ++ []) (option_map (λ s. Alu op width dst s) (operand_said src)) (calculated op width dst src)
form_read (Form.negate width dst) = assigns width dst Mov (mark 45 ∷ word (register_text width dst) ∷ []) (Some (Neg width dst)) (negated width dst [])
form_read (Form.extend width bits is dst src) = assigns width dst Mov (mark 40 ∷ word (sign_bits_text bits) ∷ mark 41 ∷ word (register_text width src) ∷ []) (Some (MovSx width bits dst src)) (extended width bits dst src [] is)
form_read (Form.swap kind bits dst) = assigns W64 dst Mov (word (swap_text kind bits) ∷ word (register_text W64 dst) ∷ []) (Some (End kind bits dst)) (swapped kind bits dst [])
form_read (Form.load_constant dst n) = ap (λ z. statement_t (word (register_text W64 dst) ∷ mark 61 ∷ z)) (append_assoc (constant_tokens n) (one_word (codes "ll")) [])
    ∙ assigns W64 dst Mov (constant_tokens n ++ one_word (codes "ll")) (option_map (LoadImm64 dst) (fits_wide (number_value n))) (number_assigned W64 dst n.minus n.numeral (one_word (codes "ll")) ∙ long_constant dst (number_value n))
form_read (Form.load memory is dst a) = assigns W64 dst Mov (address_tokens memory a ++ []) (option_map (load_of memory dst a.base) (offset_said a)) (loaded memory dst a [] is)
form_read (Form.store size a src) = stores size a src
form_read (Form.atomic wide op a src) = ap statement_t (sym (locked wide op a src [])) ∙ ap statement_t (behind wide op) ∙ by_keyword keyword.Lock (behind_lock op ++ atomic_rest wide op a src) ∙ ap plainly_t (atomic_here wide op a src)
  where
    behind : (wide : Bool) (op : AtomicOp) → lock_front op ++ atomic_rest wide op a src ≡ word (codes "lock") ∷ (behind_lock op ++ atomic_rest wide op a src)
    behind wide (Changes by true) = refl
    behind wide (Changes by false) = refl
    behind wide Xchg = refl
    behind wide CmpXchg = refl
form_read (Form.branch test width dst src target) = ap statement_t (sym (branched test width dst src target [])) ∙ by_keyword keyword.If (word (register_text width dst) ∷ branch_tokens test width src target []) ∙ branch_here test width dst src target
form_read (Form.goto target) = by_keyword keyword.Goto (target_tokens target ++ []) ∙ target_here ToSlot target []
form_read (Form.goto_long target) = by_keyword keyword.GotoLong (target_tokens target ++ []) ∙ target_here FarToSlot target []
form_read (Form.call target) = by_keyword keyword.Call (target_tokens target ++ []) ∙ target_here CallSlot target []
form_read Form.exit = by_keyword keyword.Exit []

pub whole_form : (form : Form) → whole_t (form_tokens form) ≡ Some (form_said form)
unfolding whole_t
whole_form form = let read : statement_t (form_tokens form) ≡ Some (form_said form, []) = ap statement_t (sym (append-nil (form_tokens form))) ∙ form_read form in rw read refl
