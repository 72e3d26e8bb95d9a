-- The reader that computes, first part: words, marks and numbers in front of a text. Blanks may stand in front of each.
use Rattle.std.specs.Prelude.{ℕ, Bool, true, false, List, [], ◌∷◌, Option, Some, None, option_and_then, ℤ, pos, neg_ℤ, ◌==◌, if◌then◌else◌}
use Rattle.std.specs.Str.{bytes_eq}
use Rattle.bpf_text.specs.Characters.{is_word_part, is_blank}
use Rattle.bpf_text.specs.Numerals.{word_value}

-- ---- words and marks

abbrev pub skip_blanks : List ℕ → List ℕ
skip_blanks [] = []
skip_blanks (c ∷ cs) = if is_blank c then skip_blanks cs else c ∷ cs

-- the longest run of word parts in front, and what stands behind it
abbrev pub word_front : List ℕ → List ℕ
word_front [] = []
word_front (c ∷ cs) = if is_word_part c then c ∷ word_front cs else []

abbrev pub word_rest : List ℕ → List ℕ
word_rest [] = []
word_rest (c ∷ cs) = if is_word_part c then word_rest cs else c ∷ cs

-- what is read, and the text behind it
abbrev pub Read : Type 0 → Type 0
Read A = Option (A × List ℕ)

infixl 10 ◌>>=◌
abbrev pub ◌>>=◌ : {A B : Type 0} → Option A → (A → Option B) → Option B
o >>= f = option_and_then f o

abbrev pub word_of : List ℕ → List ℕ → Read (List ℕ)
word_of [] rest = None
word_of (c ∷ cs) rest = Some (c ∷ cs, rest)

unfoldable pub word_in : List ℕ → Read (List ℕ)
word_in text = word_of (word_front (skip_blanks text)) (word_rest (skip_blanks text))

-- the text behind this word, or behind this mark
unfoldable pub behind_word : List ℕ → List ℕ → Option (List ℕ)
behind_word w text = word_in text >>= λ found. if bytes_eq found.0 w then Some found.1 else None

abbrev pub behind_first : ℕ → List ℕ → Option (List ℕ)
behind_first m [] = None
behind_first m (c ∷ cs) = if c == m then Some cs else None

unfoldable pub behind_mark : ℕ → List ℕ → Option (List ℕ)
behind_mark m text = behind_first m (skip_blanks text)

abbrev pub behind_marks : List ℕ → List ℕ → Option (List ℕ)
behind_marks [] text = Some text
behind_marks (m ∷ ms) text = behind_mark m text >>= behind_marks ms

abbrev pub behind_front : List ℕ → List ℕ → Option (List ℕ)
behind_front [] text = Some text
behind_front (c ∷ cs) text = behind_word (c ∷ cs) text

-- the text behind a spelling: a word, marks, or a word and then marks
unfoldable pub behind : List ℕ → List ℕ → Option (List ℕ)
behind spelling text = behind_front (word_front spelling) text >>= behind_marks (word_rest spelling)

abbrev pub or_else : {A : Type 0} → Option A → Option A → Option A
or_else None y = y
or_else (Some x) y = Some x

abbrev pub found_here : {A : Type 0} → A → Option (List ℕ) → Read A
found_here x None = None
found_here x (Some rest) = Some (x, rest)

-- the first of these things whose spelling stands in front
abbrev pub first_spelled : {A : Type 0} → (A → List ℕ) → List A → List ℕ → Read A
first_spelled spelling [] text = None
first_spelled spelling (x ∷ xs) text = or_else (found_here x (behind (spelling x) text)) (first_spelled spelling xs text)

-- ---- numbers

unfoldable pub unsigned_in : List ℕ → Read ℕ
unsigned_in text = do
  w ← word_in text
  n ← word_value w.0
  Some (n, w.1)

abbrev pub with_sign_of : Bool → Read ℕ → Read ℤ
with_sign_of minus o = o >>= λ n. Some (if minus then neg_ℤ (pos n.0) else pos n.0, n.1)

-- behind a `-`, or with no sign
abbrev pub number_behind : Option (List ℕ) → List ℕ → Read ℤ
number_behind None text = with_sign_of false (unsigned_in text)
number_behind (Some rest) text = with_sign_of true (unsigned_in rest)

unfoldable pub number_in : List ℕ → Read ℤ
number_in text = number_behind (behind_mark 45 text) text

-- behind a `-` or a `+`
abbrev pub signed_behind : Option (List ℕ) → List ℕ → Read ℤ
signed_behind None text = behind_mark 43 text >>= λ rest. with_sign_of false (unsigned_in rest)
signed_behind (Some rest) text = with_sign_of true (unsigned_in rest)

unfoldable pub signed_in : List ℕ → Read ℤ
signed_in text = signed_behind (behind_mark 45 text) text
