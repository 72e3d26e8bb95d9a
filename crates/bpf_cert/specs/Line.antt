-- The forms of a certificate's lines, with every number as the digits that stand in the text, and how each is spelled.
-- Here a number may have needless zeros and any size, and parts and terms may come in any order: what of this is
-- refused is said in Faults. A line that has none of these forms is refused as syntax.
use Rattle.std.specs.Prelude.{ℕ, Bool, true, false, ◌&&◌, List, [], ◌∷◌, ◌++◌, map, codes, if◌then◌else◌}
use Rattle.std.specs.List.{list_all, join_with_byte}
use Rattle.bpf_cert.specs.Numeral.{is_numeral, SignedDigits}

-- a part of what is known of a number: `u0..9`, `s-1..1` or `k5/2`
pub data Part : Type 0 where
  unsigned : (lo hi : List ℕ) → Part
  signed : (lo hi : SignedDigits) → Part
  bits : (value mask : List ℕ) → Part

-- what is known of a number: `*` for nothing, or parts with commas between them
pub data Number : Type 0 where
  top : Number
  parts : List Part → Number

-- what is known of a register or a slot
pub data Content : Type 0 where
  number : Number → Content
  context : (lo hi : SignedDigits) → Content
  frame : (lo hi : SignedDigits) → Content
  bytes : (mask : List ℕ) → Content
  any : Content

-- `r6` or `s1`
pub data PlaceText : Type 0 where
  register : (index : List ℕ) → PlaceText
  slot : (index : List ℕ) → PlaceText

-- `r6` or `(4-r6)`
pub data Measure : Type 0 where
  down : PlaceText → Measure
  up : (limit : List ℕ) → PlaceText → Measure

-- `+2*r6`
pub record Term : Type 0 where
  pub weight : List ℕ
  pub measure : Measure

-- how long the contexts are: one length in version 1, the least and the greatest in version 2
pub data Lengths : Type 0 where
  one : (len : List ℕ) → Lengths
  range : (least most : List ℕ) → Lengths

pub data Line : Type 0 where
  header : Lengths → (steps : List ℕ) → Line
  function : (first depth : List ℕ) (ret : Number) → Line
  label : (at base : List ℕ) (terms : List Term) → Line
  entry : PlaceText → Content → Line
  end : Line

-- the text of each

abbrev pub signed_text : SignedDigits → List ℕ
signed_text s = if s.minus then 45 ∷ s.digits else s.digits

-- `lo..hi`
abbrev pub range_text : List ℕ → List ℕ → List ℕ
range_text lo hi = lo ++ codes ".." ++ hi

abbrev pub part_text : Part → List ℕ
part_text (unsigned lo hi) = codes "u" ++ range_text lo hi
part_text (signed lo hi) = codes "s" ++ range_text (signed_text lo) (signed_text hi)
part_text (bits value mask) = codes "k" ++ value ++ codes "/" ++ mask

-- 44 is the comma
abbrev pub number_text : Number → List ℕ
number_text top = codes "*"
number_text (parts ps) = join_with_byte 44 (map part_text ps)

abbrev pub content_text : Content → List ℕ
content_text (number n) = number_text n
content_text (context lo hi) = codes "ctx" ++ range_text (signed_text lo) (signed_text hi)
content_text (frame lo hi) = codes "fp" ++ range_text (signed_text lo) (signed_text hi)
content_text (bytes mask) = codes "b" ++ mask
content_text any = codes "any"

abbrev pub place_text : PlaceText → List ℕ
place_text (register i) = codes "r" ++ i
place_text (slot k) = codes "s" ++ k

abbrev pub measure_text : Measure → List ℕ
measure_text (down p) = place_text p
measure_text (up limit p) = codes "(" ++ limit ++ codes "-" ++ place_text p ++ codes ")"

abbrev pub term_text : Term → List ℕ
term_text t = codes "+" ++ t.weight ++ codes "*" ++ measure_text t.measure

-- The text of a line is its fields with one space, 32, between each two. A first line begins with its version.
abbrev pub fields : Line → List (List ℕ)
fields (header (one len) steps) = codes "bpfcert" ∷ codes "1" ∷ len ∷ steps ∷ []
fields (header (range least most) steps) = codes "bpfcert" ∷ codes "2" ∷ least ∷ most ∷ steps ∷ []
fields (function first depth ret) = codes "fn" ∷ first ∷ depth ∷ number_text ret ∷ []
fields (label at base terms) = codes "at" ∷ at ∷ base ∷ map term_text terms
fields (entry p c) = place_text p ∷ content_text c ∷ []
fields end = codes "end" ∷ []

abbrev pub line_text : Line → List ℕ
line_text l = join_with_byte 32 (fields l)

-- what may stand in such a line: digits where there are numbers, at least one part, and `b` at slots alone

abbrev pub is_part : Part → Bool
is_part (unsigned lo hi) = is_numeral lo && is_numeral hi
is_part (signed lo hi) = is_numeral lo.digits && is_numeral hi.digits
is_part (bits value mask) = is_numeral value && is_numeral mask

abbrev pub is_number : Number → Bool
is_number top = true
is_number (parts []) = false
is_number (parts (p ∷ ps)) = list_all is_part (p ∷ ps)

abbrev pub is_place : PlaceText → Bool
is_place (register i) = is_numeral i
is_place (slot k) = is_numeral k

abbrev pub is_content : PlaceText → Content → Bool
is_content p (number n) = is_number n
is_content p (context lo hi) = is_numeral lo.digits && is_numeral hi.digits
is_content p (frame lo hi) = is_numeral lo.digits && is_numeral hi.digits
is_content (register i) (bytes mask) = false
is_content (slot k) (bytes mask) = is_numeral mask
is_content p any = true

abbrev pub is_measure : Measure → Bool
is_measure (down p) = is_place p
is_measure (up limit p) = is_numeral limit && is_place p

abbrev pub is_term : Term → Bool
is_term t = is_numeral t.weight && is_measure t.measure

abbrev pub are_lengths : Lengths → Bool
are_lengths (one len) = is_numeral len
are_lengths (range least most) = is_numeral least && is_numeral most

abbrev pub is_line : Line → Bool
is_line (header lengths steps) = are_lengths lengths && is_numeral steps
is_line (function first depth ret) = is_numeral first && is_numeral depth && is_number ret
is_line (label at base terms) = is_numeral at && is_numeral base && list_all is_term terms
is_line (entry p c) = is_place p && is_content p c
is_line end = true
