-- Entries of a label, from a place on: what they say of all places from there.
use Rattle.std.proofs.Common.{◌≡◌, ℕ, zero, suc, ◌+◌, ◌-◌, ◌<◌, ◌≤◌, true, List, [], ◌∷◌, length, Option, refl, ap, ◌∙◌, arith}
use Rattle.std.specs.Prelude.{IfSome}
use Rattle.std.specs.List.{list_all}
use Rattle.std.proofs.lemmas.Bool.{leb-true, ltb-true}
use Rattle.bpf_state.specs.declared.known.SlotState.{SlotState}
use Rattle.bpf_state.specs.declared.known.SlotState.TheVariants as slot
use Rattle.bpf_cert.specs.Numeral.{number}
use Rattle.bpf_cert.specs.Line.{Content, PlaceText, Line, is_place, is_content}
use Rattle.bpf_cert.specs.Faults.{is_plain_place, is_limited_place, place_before, last_place, comes_after}
use Rattle.bpf_cert.specs.Limits.{is_limited_slot}
use Rattle.bpf_cert.specs.Spelling.{lines_from}
use Rattle.bpf_cert.specs.code.Standing.{stage_of, may_have_entry}
use Rattle.bpf_cert.proofs.Bools.{both_true}
use Rattle.bpf_cert.proofs.lines.LineValues.{content_said}
use Rattle.bpf_cert.proofs.lines.LineStates.{place_index}
use Rattle.bpf_cert.proofs.said.SaidValues.{IsKept, place_kept, place_inside}
use Rattle.bpf_cert.proofs.said.SaidStates.{IsRegister, AreHeld}

-- the first place that may have an entry behind the lines
abbrev pub next_index : List Line → ℕ
next_index [] = 74
next_index (Line.header _ _ ∷ ls) = 74
next_index (Line.function _ _ _ ∷ ls) = 74
next_index (Line.label _ _ _ ∷ ls) = 0
next_index (Line.entry p c ∷ ls) = place_index p + 1
next_index (Line.end ∷ ls) = 74

-- the last entry's place is one of a state
abbrev pub IsLow : Option PlaceText → Type 0
IsLow o = IfSome o (λ p. is_limited_place p ≡ true)

pub next_low : (before : List Line) → IsLow (last_place before) → next_index before ≤ 74
next_low [] low = omega arith
next_low (Line.header _ _ ∷ ls) low = omega arith
next_low (Line.function _ _ _ ∷ ls) low = omega arith
next_low (Line.label _ _ _ ∷ ls) low = omega arith
next_low (Line.entry p c ∷ ls) low = let inside = place_inside p low in omega arith
next_low (Line.end ∷ ls) low = omega arith

index_rises : (q p : PlaceText) → is_limited_place q ≡ true → is_limited_place p ≡ true → place_before q p ≡ true → place_index q < place_index p
index_rises (PlaceText.register i) (PlaceText.register j) e f g = ltb-true (number i) (number j) g
index_rises (PlaceText.register i) (PlaceText.slot k) e f g =
    let few : number i ≤ 9 = leb-true (number i) 9 e in
    let some : 1 ≤ number k = leb-true 1 (number k) (both_true _ _ f).0 in
    omega arith
index_rises (PlaceText.slot k) (PlaceText.register i) e f g = cc
index_rises (PlaceText.slot j) (PlaceText.slot k) e f g = let less : number j < number k = ltb-true (number j) (number k) g in omega arith

pub entry_index : (before : List Line) (p : PlaceText) → may_have_entry (stage_of before) ≡ true → IsLow (last_place before) → comes_after place_before (last_place before) p ≡ true → is_limited_place p ≡ true
    → next_index before ≤ place_index p
entry_index [] p may low order limited = cc
entry_index (Line.header _ _ ∷ ls) p may low order limited = cc
entry_index (Line.function _ _ _ ∷ ls) p may low order limited = cc
entry_index (Line.label _ _ _ ∷ ls) p may low order limited = omega arith
entry_index (Line.entry q c ∷ ls) p may low order limited = let less = index_rises q p low limited order in omega arith
entry_index (Line.end ∷ ls) p may low order limited = cc

-- contents of all places from j on
pub record Places (j : ℕ) (cs : List SlotState) : Type 0 where
  pub long : j + length cs ≡ 74
  pub held : AreHeld j cs
  pub limited : list_all is_limited_slot cs ≡ true

-- nothing is known of n places
abbrev pub unknowns : ℕ → List SlotState → List SlotState
unknowns zero cs = cs
unknowns (suc n) cs = slot.Bytes 0 ∷ unknowns n cs

pub no_lines : (n j k : ℕ) (cs : List SlotState) → k ≡ j + n → lines_from j (unknowns n cs) ≡ lines_from k cs
no_lines zero j k cs e = let same : j ≡ k = omega arith in ap (λ i. lines_from i cs) same
no_lines (suc n) j k cs e = no_lines n (j + 1) k cs (omega arith)

unknowns_long : (n : ℕ) (cs : List SlotState) → length (unknowns n cs) ≡ n + length cs
unknowns_long zero cs = omega arith
unknowns_long (suc n) cs = let rest = unknowns_long n cs in omega arith

unknowns_held : (n j k : ℕ) (cs : List SlotState) → k ≡ j + n → AreHeld k cs → AreHeld j (unknowns n cs)
unknowns_held zero j k cs e h = let same : k ≡ j = omega arith in rw same at h
unknowns_held (suc n) j k cs e h = (λ low. refl, unknowns_held n (j + 1) k cs (omega arith) h)

unknowns_limited : (n : ℕ) (cs : List SlotState) → list_all is_limited_slot cs ≡ true → list_all is_limited_slot (unknowns n cs) ≡ true
unknowns_limited zero cs e = e
unknowns_limited (suc n) cs e = unknowns_limited n cs e

places_past : (n j k : ℕ) (cs : List SlotState) → k ≡ j + n → Places k cs → Places j (unknowns n cs)
places_past n j k cs e p = let long = p.long in let more = unknowns_long n cs in record { long = omega arith; held = unknowns_held n j k cs e p.held; limited = unknowns_limited n cs p.limited }

-- no entry is left
pub no_places : (j : ℕ) → j ≤ 74 → Places j (unknowns (74 - j) [])
no_places j low = places_past (74 - j) j 74 [] (omega arith) (record { long = refl; held = tt; limited = refl })

pub no_entries : (j : ℕ) → j ≤ 74 → lines_from j (unknowns (74 - j) []) ≡ []
no_entries j low = no_lines (74 - j) j 74 [] (omega arith)

register_content : (p : PlaceText) (c : Content) → is_content p c ≡ true → is_limited_place p ≡ true → place_index p < 10 → IsRegister (content_said c)
register_content p (Content.number n) form limited low = refl
register_content p (Content.context lo hi) form limited low = refl
register_content p (Content.frame lo hi) form limited low = refl
register_content (PlaceText.register i) (Content.bytes m) form limited low = cc
register_content (PlaceText.slot k) (Content.bytes m) form limited low = let some : 1 ≤ number k = leb-true 1 (number k) (both_true _ _ limited).0 in absurd (omega arith)
register_content p Content.any form limited low = refl

-- an entry, and those of later places
pub more_places : (j : ℕ) (p : PlaceText) (c : Content) (cs : List SlotState) → j ≤ place_index p → is_content p c ≡ true → is_limited_place p ≡ true → IsKept c → Places (place_index p + 1) cs
    → Places j (unknowns (place_index p - j) (content_said c ∷ cs))
more_places j p c cs low form limited kept rest =
    let long : place_index p + 1 + length cs ≡ 74 = rest.long in
    places_past (place_index p - j) j (place_index p) (content_said c ∷ cs) (omega arith) (record {
      long = omega arith;
      held = (register_content p c form limited, rest.held);
      limited = rw (kept.limited, rest.limited) refl;
    })

pub more_entries : (j : ℕ) (p : PlaceText) (c : Content) (cs : List SlotState) → j ≤ place_index p → is_place p ≡ true → is_plain_place p ≡ true → is_limited_place p ≡ true → IsKept c
    → lines_from j (unknowns (place_index p - j) (content_said c ∷ cs)) ≡ Line.entry p c ∷ lines_from (place_index p + 1) cs
more_entries j p c cs low form plain limited kept = no_lines (place_index p - j) j (place_index p) (content_said c ∷ cs) (omega arith) ∙ rw (kept.some, place_kept p form plain limited, kept.same) refl
