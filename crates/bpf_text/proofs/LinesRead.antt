-- Lines, read by their tokens: labels up to the last colon, and then at most one form.
use Rattle.std.proofs.Common.{◌≡◌, ℕ, Bool, true, false, cond, eqb, List, [], ◌∷◌, ◌++◌, map, Option, Some, None, option_map, Result, Ok, Err, refl, sym, ap, ◌∙◌, append-nil, inl, inr}
use Rattle.std.specs.Prelude.{not, ◌&&◌, ◌⊎◌, is_some, option_to_list}
use Rattle.std.specs.List.{list_all, slice_split, onto_first}
use Rattle.std.proofs.lemmas.Bool.{eqb-true}
use Rattle.std.specs.Prelude.{codes}
use Rattle.bpf_insn.specs.declared.instruction.AluOp.{AluOp}
use Rattle.bpf_insn.specs.declared.instruction.AluOp.TheVariants.{Add, Sub, Mul, Div, SDiv, Or, And, Lsh, Rsh, Mod, SMod, Xor, Mov, Arsh}
use Rattle.bpf_insn.specs.declared.instruction.Width.{Width}
use Rattle.bpf_insn.specs.declared.instruction.Width.TheVariants.{W64}
use Rattle.bpf_insn.specs.Instruction.{word_size}
use Rattle.bpf_text.specs.declared.spelling.Memory.TheVariants.{Unsigned}
use Rattle.bpf_insn.specs.declared.instruction.Cond.{Cond}
use Rattle.bpf_insn.specs.declared.instruction.Cond.TheVariants.{Eq, Gt, Ge, Set, Ne, SGt, SGe, Lt, Le, SLt, SLe}
use Rattle.bpf_insn.specs.declared.instruction.Modify.{Modify}
use Rattle.bpf_insn.specs.declared.instruction.Modify.TheVariants.{Add as AddTo, Or as OrTo, And as AndTo, Xor as XorTo}
use Rattle.bpf_insn.specs.declared.instruction.AtomicOp.{AtomicOp}
use Rattle.bpf_insn.specs.declared.instruction.AtomicOp.TheVariants.{Modify as Changes, Xchg, CmpXchg}
use Rattle.bpf_text.specs.declared.line.LineFault.{LineFault}
use Rattle.bpf_text.specs.declared.line.LineFault.TheVariants.{NoForm}
use Rattle.bpf_text.specs.Spelling.{operation_text, cond_text, modify_text}
use Rattle.bpf_text.specs.code.WordReading.{◌>>=◌, skip_blanks}
use Rattle.bpf_text.specs.Characters.{is_word_part, is_blank}
use Rattle.bpf_text.specs.Characters.{is_name}
use Rattle.bpf_text.specs.code.StatementReading.{if_blank}
use Rattle.bpf_text.specs.Statements.{Statement}
use Rattle.bpf_text.specs.Sources.{before}
use Rattle.bpf_text.specs.code.LineReading.{behind_it, label_in, labels_in, last_part, parts_of, checked, said_in, part_said, line_in}
use Rattle.bpf_text.specs.Grammar.{Token, word_ends, tokens_after, tokens, Name, Target, operand_tokens, constant_tokens, register_tokens, address_tokens, target_tokens, atomic_word, atomic_marks, Form, form_tokens, form_said, label_tokens, may_be_form, IsLine}
use Rattle.bpf_text.specs.Grammar.{OperandForm}
use Rattle.bpf_text.specs.Grammar.Token.{word, mark}
use Rattle.bpf_text.proofs.LineLemmas.{rest_split, split_cut}
use Rattle.bpf_text.proofs.WordLemmas.{both_true}
use Rattle.bpf_text.proofs.TokenLemmas.{ReadTokens, word_t, Same, word_same, head}
use Rattle.bpf_text.proofs.TokenLemmas.Head.{nothing, a_word, a_mark}
use Rattle.bpf_text.proofs.TokenReading.{if_nothing, nothing_left, whole_t, whole_same}
use Rattle.bpf_text.proofs.PartsRead.{Gives, then_gives, if_gives, word_gives}
use Rattle.bpf_text.proofs.FormsRead.{whole_gives}
use Rattle.bpf_text.proofs.FormsAreRead.{whole_form}

-- ---- tokens between colons

abbrev pub is_colon : Token → Bool
is_colon (word w) = false
is_colon (mark c) = eqb c 58

abbrev pub token_parts : List Token → List (List Token)
token_parts ts = slice_split is_colon ts

word_alone : (w : List ℕ) → token_parts (word_ends w) ≡ word_ends w ∷ []
word_alone [] = refl
word_alone (c ∷ cs) = refl

-- a word before what is split
word_joins : (w : List ℕ) (ts p : List Token) (ps : List (List Token)) → token_parts ts ≡ p ∷ ps → token_parts (word_ends w ++ ts) ≡ (word_ends w ++ p) ∷ ps
word_joins [] ts p ps e = e
word_joins (c ∷ cs) ts p ps e = ap (onto_first (word (c ∷ cs))) e

colon_ends : (w : List ℕ) (ts : List Token) → token_parts (word_ends w ++ mark 58 ∷ ts) ≡ word_ends w ∷ token_parts ts
colon_ends [] ts = refl
colon_ends (c ∷ cs) ts = refl

-- the tokens of a text are split where the text is
split_after : (w text : List ℕ) → token_parts (tokens_after w text) ≡ tokens_after w (before 58 text) ∷ map tokens (rest_split 58 (behind_it 58 text))
split_after w [] = word_alone w
split_after w (c ∷ cs) = elim (eqb c 58) as (λ b. eqb c 58 ≡ b → token_parts (tokens_after w (c ∷ cs)) ≡ tokens_after w (cond b [] (c ∷ before 58 cs)) ∷ map tokens (rest_split 58 (cond b (Some cs) (behind_it 58 cs)))) [
  | true ↦ λ e. ap (λ z. token_parts (tokens_after w (z ∷ cs))) (eqb-true c 58 e) ∙ colon_ends w (tokens cs) ∙ ap (λ z. word_ends w ∷ z) (split_after [] cs ∙ sym (ap (map tokens) (split_cut 58 cs)))
  | false ↦ λ e. elim (is_word_part c) as (λ b. is_word_part c ≡ b → token_parts (cond b (tokens_after (w ++ c ∷ []) cs) (word_ends w ++ cond (is_blank c) (tokens cs) (mark c ∷ tokens cs)))
      ≡ cond b (tokens_after (w ++ c ∷ []) (before 58 cs)) (word_ends w ++ cond (is_blank c) (tokens (before 58 cs)) (mark c ∷ tokens (before 58 cs))) ∷ map tokens (rest_split 58 (behind_it 58 cs))) [
        | true ↦ λ part. split_after (w ++ c ∷ []) cs
        | false ↦ λ part. word_joins w (cond (is_blank c) (tokens cs) (mark c ∷ tokens cs)) (cond (is_blank c) (tokens (before 58 cs)) (mark c ∷ tokens (before 58 cs))) (map tokens (rest_split 58 (behind_it 58 cs)))
            (either (is_blank c) e (split_after [] cs))
      ] refl
] refl
  where
    either : (b : Bool) → eqb c 58 ≡ false → token_parts (tokens cs) ≡ tokens (before 58 cs) ∷ map tokens (rest_split 58 (behind_it 58 cs)) → token_parts (cond b (tokens cs) (mark c ∷ tokens cs)) ≡ cond b (tokens (before 58 cs)) (mark c ∷ tokens (before 58 cs)) ∷ map tokens (rest_split 58 (behind_it 58 cs))
    either true e ih = ih
    either false e ih = rw (e, ih) refl

pub parts_same : (text : List ℕ) → map tokens (parts_of text) ≡ token_parts (tokens text)
parts_same text = ap (map tokens) (split_cut 58 text) ∙ sym (split_after [] text)

-- ---- labels

unfoldable pub label_t : List Token → Option (List ℕ)
label_t ts = word_t ts >>= λ w. cond (is_name w.0) (if_nothing w.0 w.1) None

label_of : {o : Option (List ℕ × List ℕ)} {p : ReadTokens (List ℕ)} → Same o p → (o >>= λ w. cond (is_name w.0) (if_blank w.0 (skip_blanks w.1)) None) ≡ (p >>= λ w. cond (is_name w.0) (if_nothing w.0 w.1) None)
label_of {o = None} {p = p} same = ap (λ z. z >>= λ w. cond (is_name w.0) (if_nothing w.0 w.1) None) same.is
label_of {o = Some x} {p = p} same = ap (λ z. cond (is_name x.0) z None) (nothing_left x.0 x.1) ∙ ap (λ z. z >>= λ w. cond (is_name w.0) (if_nothing w.0 w.1) None) same.is

pub label_same : (part : List ℕ) → label_in part ≡ label_t (tokens part)
unfolding label_in label_t
label_same part = label_of (word_same part)

-- the labels are all parts but the last
abbrev pub labels_t : List (List Token) → List (List ℕ)
labels_t [] = []
labels_t (p ∷ []) = []
labels_t (p ∷ q ∷ ps) = option_to_list (label_t p) ++ labels_t (q ∷ ps)

abbrev pub last_t : List (List Token) → Option (List Token)
last_t [] = None
last_t (p ∷ []) = Some p
last_t (p ∷ q ∷ ps) = cond (is_some (label_t p)) (last_t (q ∷ ps)) None

pub labels_same : (parts : List (List ℕ)) → labels_in parts ≡ labels_t (map tokens parts)
labels_same [] = refl
labels_same (p ∷ []) = refl
labels_same (p ∷ q ∷ ps) = ap (λ l. option_to_list l ++ labels_in (q ∷ ps)) (label_same p) ∙ ap (λ ls. option_to_list (label_t (tokens p)) ++ ls) (labels_same (q ∷ ps))

last_same : (parts : List (List ℕ)) → option_map tokens (last_part parts) ≡ last_t (map tokens parts)
last_same [] = refl
last_same (p ∷ []) = refl
last_same (p ∷ q ∷ ps) = go (label_in p) (label_t (tokens p)) (label_same p) (last_same (q ∷ ps))
  where
    go : (a b : Option (List ℕ)) → a ≡ b → option_map tokens (last_part (q ∷ ps)) ≡ last_t (map tokens (q ∷ ps)) → option_map tokens (cond (is_some a) (last_part (q ∷ ps)) None) ≡ cond (is_some b) (last_t (map tokens (q ∷ ps))) None
    go None b e h = ap (λ z. cond (is_some z) (last_t (map tokens (q ∷ ps))) None) e
    go (Some x) b e h = h ∙ ap (λ z. cond (is_some z) (last_t (map tokens (q ∷ ps))) None) e

-- ---- what the last part says

abbrev pub said_t : List Token → Result (Option Statement) LineFault
said_t [] = Ok None
said_t (t ∷ ts) = checked (whole_t (t ∷ ts))

abbrev pub part_said_t : Option (List Token) → Result (Option Statement) LineFault
part_said_t None = Err NoForm
part_said_t (Some ts) = said_t ts

said_same : (part : List ℕ) → said_in part (skip_blanks part) ≡ said_t (tokens part)
said_same part = elim (head part) [
  | nothing skipped all ↦ ap (said_in part) skipped ∙ ap said_t (sym all)
  | a_word c cs more rest is skipped found all ↦ ap (said_in part) skipped ∙ ap checked (whole_same part) ∙ ap (λ z. checked (whole_t z)) all ∙ ap said_t (sym all)
  | a_mark c rest skipped found all ↦ ap (said_in part) skipped ∙ ap checked (whole_same part) ∙ ap (λ z. checked (whole_t z)) all ∙ ap said_t (sym all)
]

-- a line is read as its tokens are
pub line_same : (line : List ℕ) → line_in line ≡ part_said_t (last_t (token_parts (tokens line)))
unfolding line_in
line_same line = go (last_part (parts_of line)) ∙ ap part_said_t (last_same (parts_of line) ∙ ap last_t (parts_same line))
  where
    go : (o : Option (List ℕ)) → part_said o ≡ part_said_t (option_map tokens o)
    go None = refl
    go (Some part) = said_same part

-- ---- the parts of a spelled line

abbrev no_colon : List Token → Bool
no_colon ts = list_all (λ t. not (is_colon t)) ts

both : {a b : Bool} → a ≡ true → b ≡ true → (a && b) ≡ true
both {a} {b} e f = rw (e, f) refl

none_in_both : (a b : List Token) → no_colon a ≡ true → no_colon b ≡ true → no_colon (a ++ b) ≡ true
none_in_both [] b e f = f
none_in_both (t ∷ a) b e f = let parts = both_true (not (is_colon t)) (no_colon a) e in both parts.0 (none_in_both a b parts.1 f)

operation_none : (op : AluOp) → no_colon (tokens (operation_text op)) ≡ true
operation_none Add = refl
operation_none Sub = refl
operation_none Mul = refl
operation_none Div = refl
operation_none SDiv = refl
operation_none Or = refl
operation_none And = refl
operation_none Lsh = refl
operation_none Rsh = refl
operation_none Mod = refl
operation_none SMod = refl
operation_none Xor = refl
operation_none Mov = refl
operation_none Arsh = refl

cond_none : (test : Cond) → no_colon (tokens (cond_text test)) ≡ true
cond_none Eq = refl
cond_none Gt = refl
cond_none Ge = refl
cond_none Set = refl
cond_none Ne = refl
cond_none SGt = refl
cond_none SGe = refl
cond_none Lt = refl
cond_none Le = refl
cond_none SLt = refl
cond_none SLe = refl

modify_none : (by : Modify) → no_colon (tokens (modify_text by)) ≡ true
modify_none AddTo = refl
modify_none OrTo = refl
modify_none AndTo = refl
modify_none XorTo = refl

marks_none : (op : AtomicOp) → no_colon (tokens (atomic_marks op)) ≡ true
marks_none (Changes by fetch) = modify_none by
marks_none Xchg = refl
marks_none CmpXchg = refl

word_none : (op : AtomicOp) → no_colon (tokens (atomic_word op)) ≡ true
word_none (Changes by true) = refl
word_none (Changes by false) = refl
word_none Xchg = refl
word_none CmpXchg = refl

sign_none : (minus : Bool) → not (eqb (cond minus 45 43) 58) ≡ true
sign_none true = refl
sign_none false = refl

constant_none : (minus : Bool) (w : List ℕ) → no_colon (cond minus (mark 45 ∷ word w ∷ []) (word w ∷ [])) ≡ true
constant_none true w = refl
constant_none false w = refl

operand_none : (width : Width) (src : OperandForm) → no_colon (operand_tokens width src) ≡ true
operand_none width (OperandForm.register r) = refl
operand_none width (OperandForm.constant n) = constant_none n.minus n.numeral.digits

target_none : (target : Target) → no_colon (target_tokens target) ≡ true
target_none (Target.distance n) = rw (sign_none n.minus) refl
target_none (Target.label name) = refl

form_none : (form : Form) → no_colon (form_tokens form) ≡ true
form_none (Form.calculate op width dst src) = none_in_both (tokens (operation_text op)) (operand_tokens width src) (operation_none op) (operand_none width src)
form_none (Form.negate width dst) = refl
form_none (Form.extend width bits is dst src) = refl
form_none (Form.swap kind bits dst) = refl
form_none (Form.load_constant dst n) = none_in_both (constant_tokens n) (word (codes "ll") ∷ []) (constant_none n.minus n.numeral.digits) refl
form_none (Form.load memory is dst a) = rw (sign_none a.off.minus) refl
form_none (Form.store size a src) = rw (sign_none a.off.minus, operand_none W64 src) refl
form_none (Form.atomic wide op a src) = none_in_both (((tokens (codes "lock") ++ tokens (atomic_word op)) ++ address_tokens (Unsigned (word_size wide)) a) ++ tokens (atomic_marks op)) (register_tokens W64 src)
    (none_in_both ((tokens (codes "lock") ++ tokens (atomic_word op)) ++ address_tokens (Unsigned (word_size wide)) a) (tokens (atomic_marks op))
    (none_in_both (tokens (codes "lock") ++ tokens (atomic_word op)) (address_tokens (Unsigned (word_size wide)) a) (none_in_both (tokens (codes "lock")) (tokens (atomic_word op)) refl (word_none op)) (rw (sign_none a.off.minus) refl))
    (marks_none op)) refl
form_none (Form.branch test width dst src target) = none_in_both (((tokens (cond_text test)) ++ operand_tokens width src) ++ tokens (codes "goto")) (target_tokens target)
    (none_in_both (tokens (cond_text test) ++ operand_tokens width src) (tokens (codes "goto")) (none_in_both (tokens (cond_text test)) (operand_tokens width src) (cond_none test) (operand_none width src)) refl) (target_none target)
form_none (Form.goto target) = target_none target
form_none (Form.goto_long target) = target_none target
form_none (Form.call target) = target_none target
form_none Form.exit = refl

may_be_none : (form : Option Form) → no_colon (may_be_form form) ≡ true
may_be_none None = refl
may_be_none (Some f) = form_none f

whole_part : (ts : List Token) → no_colon ts ≡ true → token_parts ts ≡ ts ∷ []
whole_part [] e = refl
whole_part (word w ∷ ts) e = ap (onto_first (word w)) (whole_part ts e)
whole_part (mark c ∷ ts) e = let parts = both_true (not (eqb c 58)) (no_colon ts) e in go (eqb c 58) parts.0 (whole_part ts parts.1)
  where
    go : (b : Bool) → not b ≡ true → token_parts ts ≡ ts ∷ [] → cond b ([] ∷ token_parts ts) (onto_first (mark c) (token_parts ts)) ≡ (mark c ∷ ts) ∷ []
    go true k h = cc
    go false k h = ap (onto_first (mark c)) h

-- each label is a part
abbrev name_parts : List Name → List Token → List (List Token)
name_parts [] last = last ∷ []
name_parts (name ∷ names) last = (word name.text ∷ []) ∷ name_parts names last

abbrev name_texts : List Name → List (List ℕ)
name_texts names = map (λ name. name.text) names

spelled_parts : (names : List Name) (last : List Token) → no_colon last ≡ true → token_parts (label_tokens names ++ last) ≡ name_parts names last
spelled_parts [] last e = whole_part last e
spelled_parts (name ∷ names) last e = ap (λ ps. (word name.text ∷ []) ∷ ps) (spelled_parts names last e)

label_read : (name : Name) → label_t (word name.text ∷ []) ≡ Some name.text
unfolding label_t word_t
label_read name = rw name.is refl

last_read : (names : List Name) (last : List Token) → last_t (name_parts names last) ≡ Some last
last_read [] last = refl
last_read (name ∷ []) last = rw (label_read name) refl
last_read (name ∷ next ∷ names) last = rw (label_read name) (last_read (next ∷ names) last)

labels_read : (names : List Name) (last : List Token) → labels_t (name_parts names last) ≡ name_texts names
labels_read [] last = refl
labels_read (name ∷ []) last = rw (label_read name) refl
labels_read (name ∷ next ∷ names) last = rw (label_read name) (ap (λ ls. name.text ∷ ls) (labels_read (next ∷ names) last))

-- ---- the labels and the form of a line that is read

label_gives : (p : List Token) → Gives (label_t p) (λ name. (is_name name ≡ true) × (p ≡ word name ∷ []))
unfolding label_t
label_gives p = then_gives _ (word_gives p) (λ w h. if_gives (is_name w.0) (λ e. record {
  holds = λ name there. let ends : (w.0 ≡ name) × (w.1 ≡ []) = name_ends w.0 name w.1 there in
      (ap is_name (sym ends.0) ∙ e, h ∙ ap (λ z. word z ∷ w.1) ends.0 ∙ ap (λ z. word name ∷ z) ends.1);
}))
  where
    name_ends : (w name : List ℕ) (ts : List Token) → if_nothing w ts ≡ Some name → (w ≡ name) × (ts ≡ [])
    name_ends w name [] k = (cc, refl)
    name_ends w name (t ∷ ts) k = cc

labelled : (p : List Token) (ps : List (List Token)) (last : List Token) → last_t (p ∷ ps) ≡ Some last → (names : List Name) × (p ∷ ps ≡ name_parts names last)
labelled p [] last e = ([], let same : p ≡ last = cc in ap (λ z. z ∷ []) same)
labelled p (q ∷ qs) last e = go (label_t p) (label_gives p) refl e (labelled q qs last)
  where
    go : (o : Option (List ℕ)) → Gives (label_t p) (λ name. (is_name name ≡ true) × (p ≡ word name ∷ [])) → label_t p ≡ o → cond (is_some o) (last_t (q ∷ qs)) None ≡ Some last
        → (last_t (q ∷ qs) ≡ Some last → (names : List Name) × (q ∷ qs ≡ name_parts names last)) → (names : List Name) × (p ∷ q ∷ qs ≡ name_parts names last)
    go None g found k more = cc
    go (Some name) g found k more = let is = g.holds name found in let rest = more k in (record { text = name; is = is.0 } ∷ rest.0, ap (λ z. z ∷ q ∷ qs) is.1 ∙ ap (λ z. (word name ∷ []) ∷ z) rest.1)

-- the parts with their colons are the tokens again
abbrev join_more : List (List Token) → List Token
join_more [] = []
join_more (p ∷ ps) = mark 58 ∷ (p ++ join_more ps)

abbrev join : List (List Token) → List Token
join [] = []
join (p ∷ ps) = p ++ join_more ps

some_parts : (ts : List Token) → (p : List Token) × (ps : List (List Token)) × (token_parts ts ≡ p ∷ ps)
some_parts [] = ([], [], refl)
some_parts (t ∷ ts) = let s = some_parts ts in
    elim (is_colon t) as (λ b. (p : List Token) × (ps : List (List Token)) × (cond b ([] ∷ token_parts ts) (onto_first t (token_parts ts)) ≡ p ∷ ps)) [
      | true ↦ ([], token_parts ts, refl)
      | false ↦ (t ∷ s.0, s.1, ap (onto_first t) s.2)
    ]

joined : (ts : List Token) → join (token_parts ts) ≡ ts
joined [] = refl
joined (t ∷ ts) = let s = some_parts ts in
    let same : s.0 ++ join_more s.1 ≡ ts = ap join (sym s.2) ∙ joined ts in
    elim (is_colon t) as (λ b. is_colon t ≡ b → join (cond b ([] ∷ token_parts ts) (onto_first t (token_parts ts))) ≡ t ∷ ts) [
      | true ↦ λ e. ap join_more s.2 ∙ ap (λ z. mark 58 ∷ z) same ∙ ap (λ z. z ∷ ts) (colon t e)
      | false ↦ λ e. ap (λ z. join (onto_first t z)) s.2 ∙ ap (λ z. t ∷ z) same
    ] refl
  where
    colon : (t : Token) → is_colon t ≡ true → mark 58 ≡ t
    colon (word w) e = cc
    colon (mark c) e = ap mark (sym (eqb-true c 58 e))

names_joined : (names : List Name) (last : List Token) → join (name_parts names last) ≡ label_tokens names ++ last
names_joined [] last = append-nil last
names_joined (name ∷ []) last = ap (λ z. word name.text ∷ mark 58 ∷ z) (append-nil last)
names_joined (name ∷ next ∷ names) last = ap (λ z. word name.text ∷ mark 58 ∷ z) (names_joined (next ∷ names) last)

-- ---- lines

-- what is read of a line of this form
abbrev pub line_answer : Option Form → Result (Option Statement) LineFault
line_answer None = Ok None
line_answer (Some form) = checked (Some (form_said form))

may_be_said : (form : Option Form) → said_t (may_be_form form) ≡ line_answer form
may_be_said None = refl
may_be_said (Some (Form.calculate op width dst src)) = ap checked (whole_form (Form.calculate op width dst src))
may_be_said (Some (Form.negate width dst)) = ap checked (whole_form (Form.negate width dst))
may_be_said (Some (Form.extend width bits is dst src)) = ap checked (whole_form (Form.extend width bits is dst src))
may_be_said (Some (Form.swap kind bits dst)) = ap checked (whole_form (Form.swap kind bits dst))
may_be_said (Some (Form.load_constant dst n)) = ap checked (whole_form (Form.load_constant dst n))
may_be_said (Some (Form.load memory is dst a)) = ap checked (whole_form (Form.load memory is dst a))
may_be_said (Some (Form.store size a src)) = ap checked (whole_form (Form.store size a src))
may_be_said (Some (Form.atomic wide op a src)) = ap checked (whole_form (Form.atomic wide op a src))
may_be_said (Some (Form.branch test width dst src target)) = ap checked (whole_form (Form.branch test width dst src target))
may_be_said (Some (Form.goto target)) = ap checked (whole_form (Form.goto target))
may_be_said (Some (Form.goto_long target)) = ap checked (whole_form (Form.goto_long target))
may_be_said (Some (Form.call target)) = ap checked (whole_form (Form.call target))
may_be_said (Some (Form.exit)) = ap checked (whole_form (Form.exit))

pub record IsRead (line : List ℕ) (names : List Name) (form : Option Form) : Type 0 where
  pub answer : line_in line ≡ line_answer form
  pub labels : labels_in (parts_of line) ≡ name_texts names

pub spelled_line : (line : List ℕ) (names : List Name) (form : Option Form) → IsLine line names form → IsRead line names form
spelled_line line names form is =
    let parts : token_parts (tokens line) ≡ name_parts names (may_be_form form) = ap token_parts is.spelled ∙ spelled_parts names (may_be_form form) (may_be_none form) in
    record {
      answer = line_same line ∙ ap (λ ps. part_said_t (last_t ps)) parts ∙ ap part_said_t (last_read names (may_be_form form)) ∙ may_be_said form;
      labels = labels_same (parts_of line) ∙ ap labels_t (parts_same line ∙ parts) ∙ labels_read names (may_be_form form);
    }

-- a line is spelled by labels and a form, or it is refused
abbrev pub Reads : List ℕ → Type 0
Reads line = (line_in line ≡ Err NoForm) ⊎ ((names : List Name) × (form : Option Form) × IsLine line names form)

pub line_reads : (line : List ℕ) → Reads line
line_reads line = let s = some_parts (tokens line) in by_last s.0 s.1 s.2 (last_t (s.0 ∷ s.1)) refl
  where
    by_form : (names : List Name) (last : List Token) → line_in line ≡ said_t last → tokens line ≡ label_tokens names ++ last → Reads line
    by_form names [] read spelled = inr (names, None, record { spelled = spelled })
    by_form names (t ∷ ts) read spelled = go (whole_t (t ∷ ts)) refl
      where
        go : (o : Option (Option Statement)) → whole_t (t ∷ ts) ≡ o → Reads line
        go None e = inl (read ∙ ap checked e)
        go (Some x) e = let form = (whole_gives (t ∷ ts)).holds x e in inr (names, Some form.0, record { spelled = spelled ∙ ap (λ z. label_tokens names ++ z) form.1 })

    by_last : (p : List Token) (ps : List (List Token)) → token_parts (tokens line) ≡ p ∷ ps → (o : Option (List Token)) → last_t (p ∷ ps) ≡ o → Reads line
    by_last p ps parts None e = inl (line_same line ∙ ap (λ z. part_said_t (last_t z)) parts ∙ ap part_said_t e)
    by_last p ps parts (Some last) e = let found = labelled p ps last e in
        by_form found.0 last (line_same line ∙ ap (λ z. part_said_t (last_t z)) parts ∙ ap part_said_t e) (sym (joined (tokens line)) ∙ ap join (parts ∙ found.1) ∙ names_joined found.0 last)
