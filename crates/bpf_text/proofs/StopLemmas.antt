-- A front of a line, and the next token.
use Rattle.std.proofs.Common.{◌≡◌, ℕ, ◌+◌, ◌<◌, Bool, true, false, cond, List, [], ◌∷◌, ◌++◌, take, length, Option, Some, None, get_or, refl, sym, ap, ◌∙◌, append_assoc, subst, arith}
use Rattle.std.specs.Str.{bytes_eq}
use Rattle.std.specs.List.{list_any}
use Rattle.std.proofs.Math.Seq.{take-append_seam}
use Rattle.std.proofs.lemmas.List.{length-append}
use Rattle.std.proofs.lemmas.List.Folds.{Any-from_list_any, list_any-from_Any}
use Rattle.std.proofs.lemmas.Slice.Eq.{bytes_eq-Decides}
use Rattle.bpf_text.specs.declared.line.LineFault.{LineFault}
use Rattle.bpf_text.specs.Characters.{is_word_part, is_blank}
use Rattle.bpf_text.specs.Statements.{Statement}
use Rattle.bpf_text.specs.Grammar.{Token, word_ends, tokens_after, tokens, Form, form_tokens, form_said}
use Rattle.bpf_text.specs.Grammar.Token.{word, mark}
use Rattle.bpf_text.specs.Stop.{passes, IsBegun}
use Rattle.bpf_text.specs.code.WordReading.{skip_blanks, word_front, word_rest, word_of, or_else, word_in}
use Rattle.bpf_text.specs.code.StatementReading.{whole_statement}
use Rattle.bpf_text.specs.code.Endings.{endings, is_ending, completes, mark_in, token_in}
use Rattle.bpf_text.proofs.TokenLemmas.{word_first, skipping}
use Rattle.bpf_text.proofs.TokenReading.{whole_t, whole_same}
use Rattle.bpf_text.proofs.FormsRead.{whole_gives}
use Rattle.bpf_text.proofs.FormsAreRead.{whole_form}
use Rattle.bpf_text.proofs.EndingLemmas.{Completed, front_at}
use Rattle.bpf_text.proofs.FormEndingLemmas.{all_fronts}

-- ---- a blank ends a word

pub apart : (w front part : List ℕ) → tokens_after w (front ++ 32 ∷ part) ≡ tokens_after w front ++ tokens part
apart w [] part = refl
apart w (c ∷ cs) part = elim (is_word_part c) as (λ b. cond b (tokens_after (w ++ c ∷ []) (cs ++ 32 ∷ part)) (word_ends w ++ cond (is_blank c) (tokens (cs ++ 32 ∷ part)) (mark c ∷ tokens (cs ++ 32 ∷ part))) ≡ cond b (tokens_after (w ++ c ∷ []) cs) (word_ends w ++ cond (is_blank c) (tokens cs) (mark c ∷ tokens cs)) ++ tokens part) [
  | true ↦ apart (w ++ c ∷ []) cs part
  | false ↦ elim (is_blank c) as (λ b. word_ends w ++ cond b (tokens (cs ++ 32 ∷ part)) (mark c ∷ tokens (cs ++ 32 ∷ part)) ≡ (word_ends w ++ cond b (tokens cs) (mark c ∷ tokens cs)) ++ tokens part) [
    | true ↦ ap (λ z. word_ends w ++ z) (apart [] cs part) ∙ sym (append_assoc (word_ends w) (tokens cs) (tokens part))
    | false ↦ ap (λ z. word_ends w ++ mark c ∷ z) (apart [] cs part) ∙ sym (append_assoc (word_ends w) (mark c ∷ tokens cs) (tokens part))
  ]
]

-- ---- the first token

blank_first : (text : List ℕ) (c : ℕ) (cs : List ℕ) → skip_blanks text ≡ c ∷ cs → is_blank c ≡ false
blank_first [] c cs e = let no : length {A = ℕ} [] ≡ length (c ∷ cs) = ap length e in absurd (omega arith)
blank_first (d ∷ ds) c cs e = elim (is_blank d) as (λ b. is_blank d ≡ b → cond b (skip_blanks ds) (d ∷ ds) ≡ c ∷ cs → is_blank c ≡ false) [
  | true ↦ λ blank same. blank_first ds c cs same
  | false ↦ λ blank same. ap is_blank (sym (ap (λ l. get_or l 0 0) same)) ∙ blank
] refl e

pub skipped : (text : List ℕ) → (blanks : List ℕ) × (text ≡ blanks ++ skip_blanks text)
skipped [] = ([], refl)
skipped (c ∷ cs) = elim (is_blank c) as (λ b. (blanks : List ℕ) × (c ∷ cs ≡ blanks ++ cond b (skip_blanks cs) (c ∷ cs))) [
  | true ↦ (c ∷ (skipped cs).0, ap (λ z. c ∷ z) (skipped cs).1)
  | false ↦ ([], refl)
]

pub split : (text : List ℕ) → text ≡ word_front text ++ word_rest text
split [] = refl
split (c ∷ cs) = elim (is_word_part c) as (λ b. c ∷ cs ≡ cond b (c ∷ word_front cs) [] ++ cond b (word_rest cs) (c ∷ cs)) [
  | true ↦ ap (λ z. c ∷ z) (split cs)
  | false ↦ refl
]

all_word : (text : List ℕ) → (word_front (word_front text) ≡ word_front text) × (word_rest (word_front text) ≡ [])
all_word [] = (refl, refl)
all_word (c ∷ cs) = elim (is_word_part c) as (λ b. is_word_part c ≡ b → (word_front (cond b (c ∷ word_front cs) []) ≡ cond b (c ∷ word_front cs) []) × (word_rest (cond b (c ∷ word_front cs) []) ≡ [])) [
  | true ↦ λ part. (rw part (ap (λ z. c ∷ z) (all_word cs).0), rw part (all_word cs).1)
  | false ↦ λ part. (refl, refl)
] refl

-- the first token of a text, and the rest
pub record There (text token more : List ℕ) : Type 0 where
  pub next : Token
  pub alone : tokens token ≡ next ∷ []
  pub first : tokens text ≡ next ∷ tokens more
  pub blanks : List ℕ
  pub bytes : text ≡ (blanks ++ token) ++ more
  pub some : 0 < length token

abbrev pub Here : List ℕ → Option (List ℕ × List ℕ) → Type 0
Here text None = tokens text ≡ []
Here text (Some x) = There text x.0 x.1

word_there : (text : List ℕ) (c : ℕ) (cs : List ℕ) → skip_blanks text ≡ c ∷ cs → is_word_part c ≡ true → There text (c ∷ word_front cs) (word_rest cs)
word_there text c cs s part =
    record {
      next = word (c ∷ word_front cs);
      alone = rw part (word_first (c ∷ []) (word_front cs) ∙ rw ((all_word cs).0, (all_word cs).1) refl);
      first = sym (skipping text) ∙ ap tokens s ∙ rw part (word_first (c ∷ []) cs);
      blanks = (skipped text).0;
      bytes = (skipped text).1 ∙ ap (λ z. (skipped text).0 ++ z) (s ∙ ap (λ z. c ∷ z) (split cs)) ∙ sym (append_assoc (skipped text).0 (c ∷ word_front cs) (word_rest cs));
      some = omega arith;
    }

mark_there : (text : List ℕ) (c : ℕ) (cs : List ℕ) → skip_blanks text ≡ c ∷ cs → is_word_part c ≡ false → There text (c ∷ []) cs
mark_there text c cs s part =
    let blank = blank_first text c cs s in
    record {
      next = mark c;
      alone = rw (part, blank) refl;
      first = sym (skipping text) ∙ ap tokens s ∙ rw (part, blank) refl;
      blanks = (skipped text).0;
      bytes = (skipped text).1 ∙ ap (λ z. (skipped text).0 ++ z) s ∙ sym (append_assoc (skipped text).0 (c ∷ []) cs);
      some = omega arith;
    }

here : (text : List ℕ) → Here text (token_in text)
unfolding token_in word_in
here text = elim (skip_blanks text) as (λ s. skip_blanks text ≡ s → Here text (or_else (word_of (word_front s) (word_rest s)) (mark_in s))) [
  | [] ↦ λ e. sym (skipping text) ∙ ap tokens e
  | c ∷ cs ↦ λ e. elim (is_word_part c) as (λ b. is_word_part c ≡ b → Here text (or_else (word_of (cond b (c ∷ word_front cs) []) (cond b (word_rest cs) (c ∷ cs))) (Some (c ∷ [], cs)))) [
    | true ↦ λ part. word_there text c cs e part
    | false ↦ λ part. mark_there text c cs e part
  ] refl
] refl

pub no_token : (text : List ℕ) → None ≡ token_in text → tokens text ≡ []
no_token text e = subst (Here text) (sym e) (here text)

pub a_token : (text token more : List ℕ) → Some (token, more) ≡ token_in text → There text token more
a_token text token more e = subst (Here text) (sym e) (here text)

pub shorter : (text token more : List ℕ) → There text token more → length more < length text
shorter text token more h =
    let l : length text ≡ (length h.blanks + length token) + length more = ap length h.bytes ∙ length-append (h.blanks ++ token) more ∙ ap (λ n. n + length more) (length-append h.blanks token) in
    let some = h.some in
    omega arith

-- ---- what an ending completes begins a form, and the other way

whole : (text : List ℕ) (s : Option Statement) → whole_statement text ≡ Some s → (form : Form) × (tokens text ≡ form_tokens form) × (form_said form ≡ s)
whole text s read = (whole_gives (tokens text)).holds s (sym (whole_same text) ∙ read)

ending_begins : (fault : LineFault) (front ending : List ℕ) (read : Option (Option Statement)) → whole_statement (front ++ 32 ∷ ending) ≡ read → passes fault read ≡ true → IsBegun fault (tokens front)
ending_begins fault front ending None read h = cc
ending_begins fault front ending (Some s) read h =
    let w = whole (front ++ 32 ∷ ending) s read in
    record {
      form = w.0;
      passes = ap (λ z. passes fault (Some z)) w.2 ∙ h;
      rest = tokens ending;
      begins = sym w.1 ∙ apart [] front ending;
    }

pub begun : (fault : LineFault) (front : List ℕ) → list_any (completes fault front) endings ≡ true → IsBegun fault (tokens front)
unfolding completes
begun fault front h =
    let any = Any-from_list_any (completes fault front) endings h in
    ending_begins fault front any.1 (whole_statement (front ++ 32 ∷ any.1)) refl any.4

ending_counts : (test : List ℕ → Bool) (ending : List ℕ) → is_ending ending ≡ true → test ending ≡ true → list_any test endings ≡ true
ending_counts test ending is h =
    let any = Any-from_list_any (bytes_eq ending) endings is in
    let same : ending ≡ any.1 = (bytes_eq-Decides ending any.1).0 any.4 in
    list_any-from_Any test endings (any.0, any.1, any.2, any.3, subst (λ e. test e ≡ true) same h)

complete : (fault : LineFault) (front : List ℕ) → Completed fault (tokens front) → list_any (completes fault front) endings ≡ true
unfolding completes
complete fault front c =
    let read : whole_statement (front ++ 32 ∷ c.ending) ≡ Some (form_said c.form) = whole_same (front ++ 32 ∷ c.ending) ∙ ap whole_t (apart [] front c.ending ∙ sym c.spelled) ∙ whole_form c.form in
    ending_counts (completes fault front) c.ending c.is (ap (passes fault) read ∙ c.passed)

pub goes : (fault : LineFault) (front : List ℕ) → IsBegun fault (tokens front) → list_any (completes fault front) endings ≡ true
goes fault front b =
    let at : take (length (tokens front)) (form_tokens b.form) ≡ tokens front = ap (take (length (tokens front))) b.begins ∙ take-append_seam (tokens front) b.rest in
    complete fault front (subst (Completed fault) at (front_at (Completed fault) (length (tokens front)) (form_tokens b.form) (all_fronts fault b.form b.passes)))
