-- Which line a text is: the line that is spelled so, and none where there is none.
use Rattle.std.specs.Prelude.{ℕ, true, false, List, [], ◌∷◌, map, codes, Option, Some, None, ◌==◌, if◌then◌else◌}
use Rattle.std.specs.List.{slice_split}
use Rattle.std.specs.Str.{bytes_eq}
use Rattle.bpf_streams.specs.Words.{behind}
use Rattle.bpf_cert.specs.Numeral.{is_numeral, SignedDigits}
use Rattle.bpf_cert.specs.Line.{Part, Number, Content, PlaceText, Measure, Term, Lengths, Line}

infixl 10 ◌>>=◌
unfoldable pub ◌>>=◌ : {A B : Type 0} → Option A → (A → Option B) → Option B
None >>= f = None
(Some x) >>= f = f x

-- the first that is there
unfoldable pub or_else : {A : Type 0} → Option A → Option A → Option A
or_else None y = y
or_else (Some x) y = Some x

-- each of them, where all are there
unfoldable pub all_there : {A : Type 0} → List (Option A) → Option (List A)
all_there [] = Some []
all_there (o ∷ os) = do
  x ← o
  xs ← all_there os
  Some (x ∷ xs)

-- what stands before the first c and after it
unfoldable pub cut : ℕ → List ℕ → Option (List ℕ × List ℕ)
cut c [] = None
cut c (x ∷ xs) = if x == c then Some ([], xs) else (do
  p ← cut c xs
  Some (x ∷ p.0, p.1))

unfoldable pub numeral_in : List ℕ → Option (List ℕ)
numeral_in text = if is_numeral text then Some text else None

abbrev pub negative_in : List ℕ → Option SignedDigits
negative_in text = do
  digits ← behind (codes "-") text
  ds ← numeral_in digits
  Some (record { minus = true; digits = ds })

abbrev pub positive_in : List ℕ → Option SignedDigits
positive_in text = do
  ds ← numeral_in text
  Some (record { minus = false; digits = ds })

unfoldable pub signed_in : List ℕ → Option SignedDigits
signed_in text = or_else (negative_in text) (positive_in text)

-- both ends of `lo..hi`
unfoldable pub range_in : {A : Type 0} → (List ℕ → Option A) → List ℕ → Option (A × A)
range_in end_in text = do
  ends ← cut 46 text
  high ← behind (codes ".") ends.1
  lo ← end_in ends.0
  hi ← end_in high
  Some (lo, hi)

abbrev pub unsigned_part_in : List ℕ → Option Part
unsigned_part_in text = do
  range ← behind (codes "u") text
  ends ← range_in numeral_in range
  Some (Part.unsigned ends.0 ends.1)

abbrev pub signed_part_in : List ℕ → Option Part
signed_part_in text = do
  range ← behind (codes "s") text
  ends ← range_in signed_in range
  Some (Part.signed ends.0 ends.1)

abbrev pub bits_part_in : List ℕ → Option Part
bits_part_in text = do
  pair ← behind (codes "k") text
  both ← cut 47 pair
  value ← numeral_in both.0
  mask ← numeral_in both.1
  Some (Part.bits value mask)

unfoldable pub part_in : List ℕ → Option Part
part_in text = or_else (unsigned_part_in text) (or_else (signed_part_in text) (bits_part_in text))

unfoldable pub number_in : List ℕ → Option Number
number_in text = if bytes_eq text (codes "*") then Some Number.top else (do
  ps ← all_there (map part_in (slice_split (λ c. c == 44) text))
  Some (Number.parts ps))

abbrev pub context_in : List ℕ → Option Content
context_in text = do
  range ← behind (codes "ctx") text
  ends ← range_in signed_in range
  Some (Content.context ends.0 ends.1)

abbrev pub frame_in : List ℕ → Option Content
frame_in text = do
  range ← behind (codes "fp") text
  ends ← range_in signed_in range
  Some (Content.frame ends.0 ends.1)

unfoldable pub pointer_in : List ℕ → Option Content
pointer_in text = or_else (context_in text) (frame_in text)

-- the mask of a slot's bytes; a register has none
unfoldable pub bytes_in : PlaceText → List ℕ → Option Content
bytes_in (PlaceText.register i) text = None
bytes_in (PlaceText.slot k) text = do
  mask ← behind (codes "b") text
  m ← numeral_in mask
  Some (Content.bytes m)

unfoldable pub content_in : PlaceText → List ℕ → Option Content
content_in p text = if bytes_eq text (codes "any") then Some Content.any else
    or_else (pointer_in text) (or_else (bytes_in p text) (do
      n ← number_in text
      Some (Content.number n)))

abbrev pub register_in : List ℕ → Option PlaceText
register_in text = do
  digits ← behind (codes "r") text
  i ← numeral_in digits
  Some (PlaceText.register i)

abbrev pub slot_in : List ℕ → Option PlaceText
slot_in text = do
  digits ← behind (codes "s") text
  k ← numeral_in digits
  Some (PlaceText.slot k)

unfoldable pub place_in : List ℕ → Option PlaceText
place_in text = or_else (register_in text) (slot_in text)

-- the place before a `)` that ends the text
unfoldable pub place_closed_in : List ℕ → Option PlaceText
place_closed_in text = do
  both ← cut 41 text
  p ← place_in both.0
  if bytes_eq both.1 [] then Some p else None

abbrev pub down_in : List ℕ → Option Measure
down_in text = do
  p ← place_in text
  Some (Measure.down p)

abbrev pub up_in : List ℕ → Option Measure
up_in text = do
  inside ← behind (codes "(") text
  both ← cut 45 inside
  limit ← numeral_in both.0
  p ← place_closed_in both.1
  Some (Measure.up limit p)

unfoldable pub measure_in : List ℕ → Option Measure
measure_in text = or_else (down_in text) (up_in text)

unfoldable pub term_in : List ℕ → Option Term
term_in text = do
  product ← behind (codes "+") text
  both ← cut 42 product
  weight ← numeral_in both.0
  measure ← measure_in both.1
  Some (record { weight = weight; measure = measure })

unfoldable pub one_length_in : List (List ℕ) → Option Line
one_length_in (len ∷ steps ∷ []) = do
  l ← numeral_in len
  s ← numeral_in steps
  Some (Line.header (Lengths.one l) s)
one_length_in _ = None

unfoldable pub two_lengths_in : List (List ℕ) → Option Line
two_lengths_in (least ∷ most ∷ steps ∷ []) = do
  l ← numeral_in least
  m ← numeral_in most
  s ← numeral_in steps
  Some (Line.header (Lengths.range l m) s)
two_lengths_in _ = None

-- by the version
unfoldable pub header_in : List (List ℕ) → Option Line
header_in [] = None
header_in (version ∷ rest) =
    if bytes_eq version (codes "1") then one_length_in rest
    else if bytes_eq version (codes "2") then two_lengths_in rest
    else None

unfoldable pub function_in : List (List ℕ) → Option Line
function_in (first ∷ depth ∷ ret ∷ []) = do
  f ← numeral_in first
  d ← numeral_in depth
  r ← number_in ret
  Some (Line.function f d r)
function_in _ = None

unfoldable pub label_in : List (List ℕ) → Option Line
label_in (slot ∷ base ∷ terms) = do
  s ← numeral_in slot
  b ← numeral_in base
  ts ← all_there (map term_in terms)
  Some (Line.label s b ts)
label_in _ = None

unfoldable pub entry_in : List ℕ → List (List ℕ) → Option Line
entry_in name (content ∷ []) = do
  p ← place_in name
  c ← content_in p content
  Some (Line.entry p c)
entry_in name _ = None

unfoldable pub end_in : List (List ℕ) → Option Line
end_in [] = Some Line.end
end_in (f ∷ fs) = None

-- by the first field, which names the kind of line
unfoldable pub line_of_fields : List (List ℕ) → Option Line
line_of_fields [] = None
line_of_fields (name ∷ rest) =
    if bytes_eq name (codes "bpfcert") then header_in rest
    else if bytes_eq name (codes "fn") then function_in rest
    else if bytes_eq name (codes "at") then label_in rest
    else if bytes_eq name (codes "end") then end_in rest
    else entry_in name rest

unfoldable pub line_in : List ℕ → Option Line
line_in text = line_of_fields (slice_split (λ c. c == 32) text)
