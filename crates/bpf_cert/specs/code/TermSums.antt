-- What the terms of a budget so far say together.
use Rattle.std.specs.Prelude.{◌≡◌, ℕ, ◌-◌, Bool, true, ◌&&◌, ◌==◌, nat_le, List, [], ◌∷◌, length, map, Option, Some, None, option_map, IfSome, Ok}
use Rattle.std.specs.List.{list_all, slice_split}
use Rattle.bpf_cert.specs.Reading.{all_there, term_in}
use Rattle.bpf_cert.specs.Numeral.{is_plain}
use Rattle.bpf_cert.specs.Line.{PlaceText, Term, is_place, is_term}
use Rattle.bpf_cert.specs.Faults.{comes_after, place_before, line_place, is_plain_place, is_plain_measure, is_limited_term}
use Rattle.bpf_cert.specs.Limits.{is_rising}
use Rattle.bpf_cert.specs.Limits as limits
use Rattle.bpf_cert.specs.code.Findings.{tested}
use Rattle.bpf_cert.specs.Spelling.{term_of}
use Rattle.bpf_cert.specs.code.Seen.{place_seen}
use Rattle.bpf_cert.specs.declared.term.Terms.{Terms}

-- the terms in the text behind a label's base
abbrev pub terms_in : Option (List ℕ) → Option (List Term)
terms_in None = Some []
terms_in (Some text) = all_there (map term_in (slice_split (λ c. c == 32) text))

abbrev pub IsPlainPlace : PlaceText → Type 0
IsPlainPlace p = (is_place p ≡ true) × (is_plain_place p ≡ true)

abbrev pub is_plain_term : Term → Bool
is_plain_term t = is_plain t.weight && is_plain_measure t.measure

-- an answer whether a term is spelled plainly, and its place comes after the last one
abbrev pub MayFollow : Option PlaceText → Term → Bool → Type 0
MayFollow last t answer = is_term t ≡ true → IfSome last IsPlainPlace → answer ≡ (is_plain_term t && comes_after place_before last (line_place t))

abbrev pub term_before : Term → Term → Bool
term_before t u = place_before (line_place t) (line_place u)

abbrev pub are_canonical_terms : List Term → Bool
are_canonical_terms ts = list_all is_plain_term ts && is_rising term_before ts

abbrev pub are_limited_terms : List Term → Bool
are_limited_terms ts = nat_le (length ts) 4 && list_all is_limited_term ts

abbrev pub last : {A : Type 0} → List A → Option A
last [] = None
last (x ∷ []) = Some x
last (x ∷ y ∷ ys) = last (y ∷ ys)

pub record IsTermSum (done : List Term) (s : Terms) : Type 0 where
  pub flaws : s.found ≡ tested (are_canonical_terms done) (are_limited_terms done)
  pub last : option_map place_seen s.last ≡ option_map line_place (last done)
  pub forms : list_all is_term done ≡ true
  pub room : s.room ≡ 4 - length done
  pub limited : list_all limits.is_limited_term s.terms.items ≡ true
  pub says : s.found ≡ Ok tt → map term_of s.terms.items ≡ done
