-- The tokens of a text, as the reader finds them one by one.
use Rattle.std.proofs.Common.{◌≡◌, ℕ, Bool, true, false, cond, eqb, List, [], ◌∷◌, ◌++◌, map, Option, Some, None, option_map, refl, sym, ap, ◌∙◌, append_assoc, append-nil, arith}
use Rattle.std.specs.Prelude.{option_and_then, not, ◌&&◌}
use Rattle.std.specs.List.{list_all}
use Rattle.std.specs.Str.{bytes_eq}
use Rattle.std.proofs.lemmas.Bool.{eqb-true}
use Rattle.std.proofs.lemmas.Bool.Decides.{nat_tests}
use Rattle.bpf_text.specs.code.WordReading.{◌>>=◌, skip_blanks, word_front, word_rest, word_in, behind_word, behind_mark, behind_marks, behind_front, behind, found_here, or_else, first_spelled}
use Rattle.bpf_text.specs.Characters.{is_word_part, is_blank}
use Rattle.bpf_text.specs.Grammar.{Token, word_ends, tokens_after, tokens}
use Rattle.bpf_text.specs.Grammar.Token.{word, mark}
use Rattle.bpf_text.proofs.WordLemmas.{both_true}

-- ---- words, marks and blanks in a text

blank_ends : (c : ℕ) → is_blank c ≡ true → is_word_part c ≡ false
blank_ends c h = grind (arith, nat_tests)

-- a word goes on as far as it can
pub word_first : (w text : List ℕ) → tokens_after w text ≡ word_ends (w ++ word_front text) ++ tokens (word_rest text)
word_first w [] = sym (append-nil (word_ends (w ++ [])) ∙ ap word_ends (append-nil w))
word_first w (c ∷ cs) = elim (is_word_part c) as (λ b. is_word_part c ≡ b → cond b (tokens_after (w ++ c ∷ []) cs) (word_ends w ++ cond (is_blank c) (tokens cs) (mark c ∷ tokens cs)) ≡ word_ends (w ++ cond b (c ∷ word_front cs) []) ++ tokens (cond b (word_rest cs) (c ∷ cs))) [
  | true ↦ λ e. word_first (w ++ c ∷ []) cs ∙ ap (λ v. word_ends v ++ tokens (word_rest cs)) (append_assoc w (c ∷ []) (word_front cs))
  | false ↦ λ e. rw (append-nil w, e) refl
] refl

pub skipping : (text : List ℕ) → tokens (skip_blanks text) ≡ tokens text
skipping [] = refl
skipping (c ∷ cs) = elim (is_blank c) as (λ b. is_blank c ≡ b → tokens (cond b (skip_blanks cs) (c ∷ cs)) ≡ tokens (c ∷ cs)) [
  | true ↦ λ e. skipping cs ∙ rw (blank_ends c e, e) refl
  | false ↦ λ e. refl
] refl

-- what stands first in a text
pub data Head (text : List ℕ) : Type 0 where
  nothing : skip_blanks text ≡ [] → tokens text ≡ [] → Head text
  a_word : (c : ℕ) (cs more rest : List ℕ) → is_word_part c ≡ true → skip_blanks text ≡ c ∷ more → word_in text ≡ Some (c ∷ cs, rest) → tokens text ≡ word (c ∷ cs) ∷ tokens rest → Head text
  a_mark : (c : ℕ) (rest : List ℕ) → skip_blanks text ≡ c ∷ rest → word_in text ≡ None → tokens text ≡ mark c ∷ tokens rest → Head text

bare_word : (c : ℕ) (cs : List ℕ) → is_blank c ≡ false → is_word_part c ≡ true → Head (c ∷ cs)
unfolding word_in
bare_word c cs blank part = a_word c (word_front cs) cs (word_rest cs) part (rw blank refl) (rw (blank, part) refl) (rw part (word_first (c ∷ []) cs))

bare_mark : (c : ℕ) (cs : List ℕ) → is_blank c ≡ false → is_word_part c ≡ false → Head (c ∷ cs)
unfolding word_in
bare_mark c cs blank part = a_mark c cs (rw blank refl) (rw (blank, part) refl) (rw (part, blank) refl)

behind_blank : (c : ℕ) (cs : List ℕ) → is_blank c ≡ true → Head cs → Head (c ∷ cs)
unfolding word_in
behind_blank c cs blank (nothing skipped all) = nothing (rw blank skipped) (rw (blank_ends c blank, blank) all)
behind_blank c cs blank (a_word d ds more rest part skipped found all) = a_word d ds more rest part (rw blank skipped) (rw blank found) (rw (blank_ends c blank, blank) all)
behind_blank c cs blank (a_mark d rest skipped found all) = a_mark d rest (rw blank skipped) (rw blank found) (rw (blank_ends c blank, blank) all)

pub head : (text : List ℕ) → Head text
head [] = nothing refl refl
head (c ∷ cs) = elim (is_blank c) as (λ b. is_blank c ≡ b → Head (c ∷ cs)) [
  | true ↦ λ blank. behind_blank c cs blank (head cs)
  | false ↦ λ blank. elim (is_word_part c) as (λ b. is_word_part c ≡ b → Head (c ∷ cs)) [
    | true ↦ λ part. bare_word c cs blank part
    | false ↦ λ part. bare_mark c cs blank part
  ] refl
] refl

-- ---- reading tokens

-- what is read, and the tokens behind it
abbrev pub ReadTokens : Type 0 → Type 0
ReadTokens A = Option (A × List Token)

unfoldable pub word_t : List Token → ReadTokens (List ℕ)
word_t [] = None
word_t (word w ∷ ts) = Some (w, ts)
word_t (mark c ∷ ts) = None

unfoldable pub mark_t : ℕ → List Token → Option (List Token)
mark_t m [] = None
mark_t m (word w ∷ ts) = None
mark_t m (mark c ∷ ts) = cond (eqb c m) (Some ts) None

-- the tokens behind these
unfoldable pub strip : List Token → List Token → Option (List Token)
strip [] ts = Some ts
strip (word w ∷ us) ts = word_t ts >>= λ found. cond (bytes_eq found.0 w) (strip us found.1) None
strip (mark m ∷ us) ts = mark_t m ts >>= strip us

unfoldable pub first_t : {A : Type 0} → (A → List ℕ) → List A → List Token → ReadTokens A
first_t spelling [] ts = None
first_t spelling (x ∷ xs) ts = or_else (option_map (λ rest. (x, rest)) (strip (tokens (spelling x)) ts)) (first_t spelling xs ts)

-- ---- the same is read in a text and in its tokens

pub record Same {A : Type 0} (o : Option (A × List ℕ)) (p : ReadTokens A) : Type 0 where
  pub is : option_map (λ x. (x.0, tokens x.1)) o ≡ p

pub record SameRest (o : Option (List ℕ)) (p : Option (List Token)) : Type 0 where
  pub is : option_map tokens o ≡ p

pub both_none : {A : Type 0} → Same {A = A} None None
both_none = record { is = refl }

pub both_some : {A : Type 0} (x : A) (rest : List ℕ) → Same (Some (x, rest)) (Some (x, tokens rest))
both_some x rest = record { is = refl }

pub then_same : {A B : Type 0} {o : Option (A × List ℕ)} {p : ReadTokens A} (f : A × List ℕ → Option (B × List ℕ)) (g : A × List Token → ReadTokens B)
    → Same o p → ((x : A) (rest : List ℕ) → Same (f (x, rest)) (g (x, tokens rest))) → Same (o >>= f) (p >>= g)
then_same {o = None} f g same each = record { is = ap (option_and_then g) same.is }
then_same {o = Some x} f g same each = record { is = (each x.0 x.1).is ∙ ap (option_and_then g) same.is }

-- where only what stands behind is read
pub rest_then_same : {B : Type 0} {o : Option (List ℕ)} {p : Option (List Token)} (f : List ℕ → Option (B × List ℕ)) (g : List Token → ReadTokens B)
    → SameRest o p → ((rest : List ℕ) → Same (f rest) (g (tokens rest))) → Same (o >>= f) (p >>= g)
rest_then_same {o = None} f g same each = record { is = ap (option_and_then g) same.is }
rest_then_same {o = Some x} f g same each = record { is = (each x).is ∙ ap (option_and_then g) same.is }

pub rest_then_rest : {o : Option (List ℕ)} {p : Option (List Token)} (f : List ℕ → Option (List ℕ)) (g : List Token → Option (List Token))
    → SameRest o p → ((rest : List ℕ) → SameRest (f rest) (g (tokens rest))) → SameRest (o >>= f) (p >>= g)
rest_then_rest {o = None} f g same each = record { is = ap (option_and_then g) same.is }
rest_then_rest {o = Some x} f g same each = record { is = (each x).is ∙ ap (option_and_then g) same.is }

-- where nothing of the text is read
pub value_then_same : {A B : Type 0} (o : Option A) (f : A → Option (B × List ℕ)) (g : A → ReadTokens B) → ((x : A) → Same (f x) (g x)) → Same (o >>= f) (o >>= g)
value_then_same None f g each = both_none
value_then_same (Some x) f g each = each x

pub if_same : {A : Type 0} {o : Option (A × List ℕ)} {p : ReadTokens A} (b : Bool) → Same o p → Same (cond b o None) (cond b p None)
if_same true same = same
if_same false same = both_none

pub word_same : (text : List ℕ) → Same (word_in text) (word_t (tokens text))
unfolding word_t word_in
word_same text = elim (head text) [
  | nothing skipped all ↦ record { is = rw (skipped, all) refl }
  | a_word c cs more rest part skipped found all ↦ record { is = ap (option_map (λ x. (x.0, tokens x.1))) found ∙ sym (ap word_t all) }
  | a_mark c rest skipped found all ↦ record { is = ap (option_map (λ x. (x.0, tokens x.1))) found ∙ sym (ap word_t all) }
]

-- a mark is neither a part of a word nor a blank
abbrev pub is_mark : ℕ → Bool
is_mark c = not (is_word_part c) && not (is_blank c)

no_part : (m : ℕ) → is_mark m ≡ true → is_word_part m ≡ false
no_part m h = go (is_word_part m) refl h
  where
    go : (b : Bool) → is_word_part m ≡ b → (not b && not (is_blank m)) ≡ true → b ≡ false
    go true e k = cc
    go false e k = refl

no_blank : (m : ℕ) → is_mark m ≡ true → is_blank m ≡ false
no_blank m h = go (is_word_part m) (is_blank m) h
  where
    go : (a b : Bool) → (not a && not b) ≡ true → b ≡ false
    go true b k = cc
    go false true k = cc
    go false false k = refl

other_mark : (c m : ℕ) → is_word_part c ≡ true → is_mark m ≡ true → eqb c m ≡ false
other_mark c m part h = go (eqb c m) refl
  where
    go : (b : Bool) → eqb c m ≡ b → b ≡ false
    go true e = let same : is_word_part c ≡ is_word_part m = ap is_word_part (eqb-true c m e) in let other : true ≡ false = sym part ∙ same ∙ no_part m h in cc
    go false e = refl

pub mark_same : (m : ℕ) (text : List ℕ) → is_mark m ≡ true → SameRest (behind_mark m text) (mark_t m (tokens text))
unfolding mark_t behind_mark
mark_same m text is = elim (head text) [
  | nothing skipped all ↦ record { is = rw (skipped, all) refl }
  | a_word c cs more rest part skipped found all ↦ record { is = rw (skipped, all, other_mark c m part is) refl }
  | a_mark c rest skipped found all ↦ record { is = rw (skipped, all) (either c (eqb c m) rest) }
]
  where
    either : (c : ℕ) (b : Bool) (rest : List ℕ) → option_map tokens (cond b (Some rest) None) ≡ cond b (Some (tokens rest)) None
    either c true rest = refl
    either c false rest = refl

marks_same : (ms text : List ℕ) → list_all is_mark ms ≡ true → SameRest (behind_marks ms text) (strip (map mark ms) (tokens text))
unfolding strip
marks_same [] text is = record { is = refl }
marks_same (m ∷ ms) text is = let parts = both_true (is_mark m) (list_all is_mark ms) is in rest_then_rest (behind_marks ms) (strip (map mark ms)) (mark_same m text parts.0) (λ rest. marks_same ms rest parts.1)

marks_alone : (ms : List ℕ) → list_all is_mark ms ≡ true → tokens ms ≡ map mark ms
marks_alone [] is = refl
marks_alone (m ∷ ms) is = let parts = both_true (is_mark m) (list_all is_mark ms) is in rw (no_part m parts.0, no_blank m parts.0) (ap (λ ts. mark m ∷ ts) (marks_alone ms parts.1))

-- a spelling is a word, marks, or a word and then marks
abbrev pub is_spelling : List ℕ → Bool
is_spelling text = list_all is_mark (word_rest text)

-- behind this word, and then the marks
word_then_marks : (w ms : List ℕ) → list_all is_mark ms ≡ true → {o : Option (List ℕ × List ℕ)} → {p : ReadTokens (List ℕ)} → Same o p
    → SameRest ((o >>= λ found. cond (bytes_eq found.0 w) (Some found.1) None) >>= behind_marks ms) (p >>= λ found. cond (bytes_eq found.0 w) (strip (map mark ms) found.1) None)
word_then_marks w ms is {o = None} {p = p} same = record { is = ap (option_and_then (λ found. cond (bytes_eq found.0 w) (strip (map mark ms) found.1) None)) same.is }
word_then_marks w ms is {o = Some x} {p = p} same = record { is = either (bytes_eq x.0 w) ∙ ap (option_and_then (λ found. cond (bytes_eq found.0 w) (strip (map mark ms) found.1) None)) same.is }
  where
    either : (b : Bool) → option_map tokens (cond {A = Option (List ℕ)} b (Some x.1) None >>= behind_marks ms) ≡ cond b (strip (map mark ms) (tokens x.1)) None
    either true = (marks_same ms x.1 is).is
    either false = refl

behind_word_front : (w ms text : List ℕ) → list_all is_mark ms ≡ true → SameRest (behind_front w text >>= behind_marks ms) (strip (word_ends w ++ map mark ms) (tokens text))
unfolding strip behind_word
behind_word_front [] ms text is = marks_same ms text is
behind_word_front (c ∷ cs) ms text is = word_then_marks (c ∷ cs) ms is (word_same text)

pub behind_same : (spelling text : List ℕ) → is_spelling spelling ≡ true → SameRest (behind spelling text) (strip (tokens spelling) (tokens text))
unfolding behind
behind_same spelling text is = let those : word_ends (word_front spelling) ++ map mark (word_rest spelling) ≡ tokens spelling = sym (word_first [] spelling ∙ ap (λ ts. word_ends (word_front spelling) ++ ts) (marks_alone (word_rest spelling) is)) in
    record { is = (behind_word_front (word_front spelling) (word_rest spelling) text is).is ∙ ap (λ ts. strip ts (tokens text)) those }

or_same : {A : Type 0} (x : A) {o : Option (List ℕ)} {p : Option (List Token)} {q : Option (A × List ℕ)} {r : ReadTokens A} → SameRest o p → Same q r → Same (or_else (found_here x o) q) (or_else (option_map (λ rest. (x, rest)) p) r)
or_same x {o = None} {r = r} same other = record { is = other.is ∙ ap (λ z. or_else (option_map (λ rest. (x, rest)) z) r) same.is }
or_same x {o = Some rest} {r = r} same other = record { is = ap (λ z. or_else (option_map (λ rest. (x, rest)) z) r) same.is }

pub first_same : {A : Type 0} (spelling : A → List ℕ) (xs : List A) (text : List ℕ) → list_all (λ x. is_spelling (spelling x)) xs ≡ true → Same (first_spelled spelling xs text) (first_t spelling xs (tokens text))
unfolding first_t
first_same spelling [] text is = both_none
first_same spelling (x ∷ xs) text is = let parts = both_true (is_spelling (spelling x)) (list_all (λ y. is_spelling (spelling y)) xs) is in or_same x (behind_same (spelling x) text parts.0) (first_same spelling xs text parts.1)
