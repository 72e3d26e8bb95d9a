-- What the terms of a budget say together, one term more.
use Rattle.std.proofs.Common.{◌≡◌, ℕ, ◌+◌, ◌-◌, ◌^◌, ◌≤◌, ◌<◌, Bool, true, false, eqb, leb, ltb, List, [], ◌∷◌, ◌++◌, length, map, Option, Some, None, Result, Ok, refl, sym, ap, subst, ◌∙◌, arith, length-append, min}
use Rattle.std.specs.Prelude.{◌&&◌, option_map, IfSome, decimal}
use Rattle.std.specs.Borrow.{Bor}
use Rattle.std.specs.List.{list_all}
use Rattle.std.proofs.lemmas.Bool.{leb-true, le-leb, lt-ltb, ltb-true, eqb-true}
use Rattle.std.proofs.lemmas.List.{map-append}
use Rattle.std.specs.Str.{bytes_eq}
use Rattle.bpf_cert.specs.Numeral.{is_from_to}
use Rattle.bpf_cert.specs.Numeral.{is_numeral, is_plain, number}
use Rattle.bpf_cert.specs.Line.{PlaceText, Measure, Term, is_place, is_measure, is_term}
use Rattle.bpf_cert.specs.Faults.{place_before, line_place, comes_after, is_plain_place, is_plain_measure, is_limited_place, is_limited_measure, is_limited_term}
use Rattle.bpf_cert.specs.Limits.{is_rising}
use Rattle.bpf_cert.specs.Limits as limits
use Rattle.bpf_cert.specs.code.Findings.{tested, found, joined, valued}
use Rattle.bpf_cert.specs.Spelling.{term_of, spelled_place}
use Rattle.bpf_cert.specs.code.Seen.{place_seen, measure_seen, term_seen}
use Rattle.bpf_cert.specs.Reading.{term_in}
use Rattle.bpf_cert.specs.code.TermSums.{is_plain_term, term_before, are_canonical_terms, are_limited_terms, last, IsTermSum, IsPlainPlace}
use Rattle.bpf_cert.specs.declared.term.TermForm.{TermForm}
use Rattle.bpf_cert.specs.declared.term.Terms.{Terms}
use Rattle.bpf_cert.specs.declared.place.PlaceForm.{PlaceForm}
use Rattle.bpf_cert.specs.declared.finding.PartFault.{PartFault}
use Rattle.bpf_cert.specs.declared.certificate.Term.{Term as TermValue}
use Rattle.bpf_cert.specs.declared.certificate.Measure.TheVariants.{Down, Up}
use Rattle.bpf_state.specs.declared.known.Place.{Place as PlaceValue}
use Rattle.bpf_cert.proofs.FindingLemmas.{found_tested, joined_tested, joined_ok, tested_true, list_all_end}
use Rattle.bpf_cert.proofs.Bools.{both_true, exchange}
use Rattle.bpf_cert.proofs.NumberLemmas.{plain_value}
use Rattle.bpf_cert.proofs.lines.LineForms.{term_is}

pub term_form : (text : List ℕ) (t : Term) → term_in text ≡ Some t → is_term t ≡ true
term_form text t e = (term_is text).holds t e

pub measure_place : (l : Option (Bor (List ℕ))) (p : PlaceForm) → is_measure (measure_seen l p) ≡ true → is_place (place_seen p) ≡ true
measure_place None p e = e
measure_place (Some limit) p e = (both_true (is_numeral limit.now) (is_place (place_seen p)) e).1

pub term_place : (t : TermForm) → is_term (term_seen t) ≡ true → is_place (place_seen t.place) ≡ true
term_place t e = measure_place t.limit t.place (both_true (is_numeral t.weight.now) (is_measure (measure_seen t.limit t.place)) e).1

pub place_of_seen : (l : Option (Bor (List ℕ))) (p : PlaceForm) (w : List ℕ) → line_place (record { weight = w; measure = measure_seen l p }) ≡ place_seen p
place_of_seen None p w = refl
place_of_seen (Some limit) p w = refl

-- the weight's digits, again
pub weight_again : (t : TermForm) (n : ℕ) → n ≡ min (number t.weight.now) (2 ^ 64) → is_term (term_seen t) ≡ true → is_plain_term (term_seen t) ≡ true → is_limited_term (term_seen t) ≡ true → decimal n ≡ t.weight.now
weight_again t n e form plain limited =
    let parts = both_true (is_numeral t.weight.now) (is_measure (measure_seen t.limit t.place)) form in
    let plains = both_true (is_plain t.weight.now) (is_plain_measure (measure_seen t.limit t.place)) plain in
    let limits = both_true (is_from_to 1 (2 ^ 20) (number t.weight.now)) (is_limited_measure (measure_seen t.limit t.place)) limited in
    let ends = both_true (leb 1 (number t.weight.now)) (leb (number t.weight.now) (2 ^ 20)) limits.0 in
    let few : number t.weight.now ≤ 2 ^ 20 = leb-true (number t.weight.now) (2 ^ 20) ends.1 in
    plain_value t.weight.now n parts.0 plains.0 e (omega arith)

pub term_down : (t : TermForm) (n : ℕ) (p : PlaceValue) → t.limit ≡ None → decimal n ≡ t.weight.now → spelled_place p ≡ place_seen t.place → term_of (record { weight = n; measure = Down p }) ≡ term_seen t
term_down t n p e f g = rw (e, f, g) refl

-- the limit's digits, again
limit_again : (t : TermForm) (limit : Bor (List ℕ)) (m : ℕ) → t.limit ≡ Some limit → m ≡ min (number limit.now) (2 ^ 64) → is_measure (measure_seen t.limit t.place) ≡ true → is_plain_measure (measure_seen t.limit t.place) ≡ true
    → is_limited_measure (measure_seen t.limit t.place) ≡ true → decimal m ≡ limit.now
limit_again t limit m e f form plain limited =
    let form_too = rw e at form in let plain_too = rw e at plain in let limited_too = rw e at limited in
    let parts = both_true (is_numeral limit.now) (is_place (place_seen t.place)) form_too in
    let plains = both_true (is_plain limit.now) (is_plain_place (place_seen t.place)) plain_too in
    let limits = both_true (ltb (number limit.now) (2 ^ 64)) (is_limited_place (place_seen t.place)) limited_too in
    let small : number limit.now < 2 ^ 64 = ltb-true (number limit.now) (2 ^ 64) limits.0 in
    plain_value limit.now m parts.0 plains.0 f (omega arith)

pub term_up : (t : TermForm) (n m : ℕ) (p : PlaceValue) (limit : Bor (List ℕ)) → t.limit ≡ Some limit → decimal n ≡ t.weight.now → spelled_place p ≡ place_seen t.place → m ≡ min (number limit.now) (2 ^ 64)
    → is_term (term_seen t) ≡ true → is_plain_term (term_seen t) ≡ true → is_limited_term (term_seen t) ≡ true → term_of (record { weight = n; measure = Up p m }) ≡ term_seen t
term_up t n m p limit e f g h form plain limited =
    let parts = both_true (is_numeral t.weight.now) (is_measure (measure_seen t.limit t.place)) form in
    let plains = both_true (is_plain t.weight.now) (is_plain_measure (measure_seen t.limit t.place)) plain in
    let limits = both_true (is_from_to 1 (2 ^ 20) (number t.weight.now)) (is_limited_measure (measure_seen t.limit t.place)) limited in
    let digits = limit_again t limit m e h parts.1 plains.1 limits.1 in
    rw (e, f, g, digits) refl

rising_end : (ts : List Term) (t : Term) → is_rising term_before (ts ++ t ∷ []) ≡ (is_rising term_before ts && comes_after place_before (option_map line_place (last ts)) (line_place t))
rising_end [] t = refl
rising_end (u ∷ []) t = one (term_before u t)
  where
    one : (b : Bool) → (b && true) ≡ (true && b)
    one true = refl
    one false = refl
rising_end (u ∷ v ∷ vs) t = ap (λ b. term_before u v && b) (rising_end (v ∷ vs) t) ∙ grouped (term_before u v) (is_rising term_before (v ∷ vs)) (comes_after place_before (option_map line_place (last (v ∷ vs))) (line_place t))
  where
    grouped : (a b c : Bool) → (a && (b && c)) ≡ ((a && b) && c)
    grouped true b c = refl
    grouped false b c = refl

last_end : (ts : List Term) (t : Term) → last (ts ++ t ∷ []) ≡ Some t
last_end [] t = refl
last_end (u ∷ []) t = refl
last_end (u ∷ v ∷ vs) t = last_end (v ∷ vs) t

plain_measure : (m : Measure) (w : List ℕ) → is_plain_measure m ≡ true → is_plain_place (line_place (record { weight = w; measure = m })) ≡ true
plain_measure (Measure.down p) w e = e
plain_measure (Measure.up limit p) w e = (both_true (is_plain limit) (is_plain_place p) e).1

form_measure : (m : Measure) (w : List ℕ) → is_measure m ≡ true → is_place (line_place (record { weight = w; measure = m })) ≡ true
form_measure (Measure.down p) w e = e
form_measure (Measure.up limit p) w e = (both_true (is_numeral limit) (is_place p) e).1

-- the last of plain terms has a plain place
last_plain : (ts : List Term) → list_all is_term ts ≡ true → list_all is_plain_term ts ≡ true → IfSome (option_map line_place (last ts)) IsPlainPlace
last_plain [] form plain = tt
last_plain (t ∷ []) form plain =
    let f = both_true (is_numeral t.weight) (is_measure t.measure) (both_true (is_term t) true form).0 in
    let p = both_true (is_plain t.weight) (is_plain_measure t.measure) (both_true (is_plain_term t) true plain).0 in
    (form_measure t.measure t.weight f.1, plain_measure t.measure t.weight p.1)
last_plain (t ∷ u ∷ us) form plain = last_plain (u ∷ us) (both_true (is_term t) (list_all is_term (u ∷ us)) form).1 (both_true (is_plain_term t) (list_all is_plain_term (u ∷ us)) plain).1

canonical_end : (ts : List Term) (t : Term) (l : Option PlaceText) (next : Bool) → list_all is_term ts ≡ true → l ≡ option_map line_place (last ts)
    → (IfSome l IsPlainPlace → next ≡ (is_plain_term t && comes_after place_before l (line_place t))) → (are_canonical_terms ts && next) ≡ are_canonical_terms (ts ++ t ∷ [])
canonical_end ts t l next form e f = by_plain (list_all is_plain_term ts) refl
    ∙ sym (ap (λ b. b && is_rising term_before (ts ++ t ∷ [])) (list_all_end is_plain_term ts t) ∙ ap (λ b. (list_all is_plain_term ts && is_plain_term t) && b) (rising_end ts t))
  where
    by_plain : (b : Bool) → list_all is_plain_term ts ≡ b → ((list_all is_plain_term ts && is_rising term_before ts) && next)
        ≡ ((list_all is_plain_term ts && is_plain_term t) && (is_rising term_before ts && comes_after place_before (option_map line_place (last ts)) (line_place t)))
    by_plain true g = let known : next ≡ (is_plain_term t && comes_after place_before (option_map line_place (last ts)) (line_place t)) =
        f (subst (λ o. IfSome o IsPlainPlace) (sym e) (last_plain ts form g)) ∙ ap (λ o. is_plain_term t && comes_after place_before o (line_place t)) e in
        rw (g, known) (exchange true (is_rising term_before ts) (is_plain_term t) (comes_after place_before (option_map line_place (last ts)) (line_place t)))
    by_plain false g = rw g refl

room_left : (n : ℕ) → (leb n 4 && ltb 0 (4 - n)) ≡ leb (n + 1) 4
room_left n = by_test (leb (n + 1) 4) refl
  where
    not_both : (t : Bool) → ltb 0 (4 - n) ≡ t → leb (n + 1) 4 ≡ false → (leb n 4 && ltb 0 (4 - n)) ≡ false
    not_both true g e = let some : 0 < 4 - n = ltb-true 0 (4 - n) g in let fits : leb (n + 1) 4 ≡ true = le-leb (n + 1) 4 (omega arith) in cc
    not_both false g e = rw g (and_false (leb n 4))
      where
        and_false : (b : Bool) → (b && false) ≡ false
        and_false true = refl
        and_false false = refl

    by_test : (t : Bool) → leb (n + 1) 4 ≡ t → (leb n 4 && ltb 0 (4 - n)) ≡ leb (n + 1) 4
    by_test true e = let h : n + 1 ≤ 4 = leb-true (n + 1) 4 e in let some : ltb 0 (4 - n) ≡ true = lt-ltb 0 (4 - n) (omega arith) in let low : leb n 4 ≡ true = le-leb n 4 (omega arith) in rw (some, low, e) refl
    by_test false e = not_both (ltb 0 (4 - n)) refl e ∙ sym e

length_end : (ts : List Term) (t : Term) → length (ts ++ t ∷ []) ≡ length ts + 1
length_end ts t = length-append ts (t ∷ [])

limited_end : (ts : List Term) (t : Term) (room : ℕ) → room ≡ 4 - length ts → (are_limited_terms ts && (ltb 0 room && is_limited_term t)) ≡ are_limited_terms (ts ++ t ∷ [])
limited_end ts t room e = ap (λ r. are_limited_terms ts && (ltb 0 r && is_limited_term t)) e ∙ exchange (leb (length ts) 4) (list_all is_limited_term ts) (ltb 0 (4 - length ts)) (is_limited_term t)
    ∙ ap (λ b. b && (list_all is_limited_term ts && is_limited_term t)) (room_left (length ts)) ∙ ap (λ n. leb n 4 && (list_all is_limited_term ts && is_limited_term t)) (sym (length_end ts t))
    ∙ ap (λ b. leb (length (ts ++ t ∷ [])) 4 && b) (sym (list_all_end is_limited_term ts t))

pub sum_more : (done : List Term) (t : Term) (old new : Terms) (canonical limited : Bool) (next : Result (Unit {0}) PartFault) → IsTermSum done old → is_term t ≡ true
    → (IfSome (option_map place_seen old.last) IsPlainPlace → canonical ≡ (is_plain_term t && comes_after place_before (option_map place_seen old.last) (line_place t)))
    → limited ≡ (ltb 0 old.room && is_limited_term t) → next ≡ tested canonical limited → new.found ≡ joined old.found next → option_map place_seen new.last ≡ Some (line_place t) → new.room ≡ old.room - 1
    → list_all limits.is_limited_term new.terms.items ≡ true → (new.found ≡ Ok tt → map term_of new.terms.items ≡ map term_of old.terms.items ++ t ∷ []) → IsTermSum (done ++ t ∷ []) new
sum_more done t old new canonical limited next sum form c l n all last_is room few pushed = record {
  flaws = all ∙ ap (λ x. joined x next) sum.flaws ∙ ap (joined (tested (are_canonical_terms done) (are_limited_terms done))) n ∙ joined_tested (are_canonical_terms done) (are_limited_terms done) canonical limited
      ∙ ap (λ b. tested b (are_limited_terms done && limited)) (canonical_end done t (option_map place_seen old.last) canonical sum.forms sum.last c)
      ∙ ap (λ b. tested (are_canonical_terms (done ++ t ∷ [])) (are_limited_terms done && b)) l ∙ ap (tested (are_canonical_terms (done ++ t ∷ []))) (limited_end done t old.room sum.room);
  last = last_is ∙ ap (option_map line_place) (sym (last_end done t));
  forms = list_all_end is_term done t ∙ rw (sum.forms, form) refl;
  room = let n : length (done ++ t ∷ []) ≡ length done + 1 = length_end done t in let r : old.room ≡ 4 - length done = sum.room in omega arith;
  limited = few;
  says = λ fine. let before = joined_ok old.found next tt (sym all ∙ fine) in pushed fine ∙ ap (λ xs. xs ++ t ∷ []) (sum.says before.0);
}

-- what is known where a term is taken
pub record IsFine (done : List Term) (t : Term) (canonical limited : Bool) : Type 0 where
  pub plain : is_plain_term t ≡ true
  pub limit : is_limited_term t ≡ true
  pub few : length done < 4

pub fine : (done : List Term) (t : Term) (old : Terms) (canonical limited : Bool) (next all : Result (Unit {0}) PartFault) → IsTermSum done old
    → (IfSome (option_map place_seen old.last) IsPlainPlace → canonical ≡ (is_plain_term t && comes_after place_before (option_map place_seen old.last) (line_place t)))
    → limited ≡ (ltb 0 old.room && is_limited_term t) → next ≡ tested canonical limited → all ≡ joined old.found next → all ≡ Ok tt → IsFine done t canonical limited
fine done t old canonical limited next all sum c l n a ok =
    let both = joined_ok old.found next tt (sym a ∙ ok) in
    let tests = tested_true canonical limited tt (sym n ∙ both.1) in
    let before = tested_true (are_canonical_terms done) (are_limited_terms done) tt (sym sum.flaws ∙ both.0) in
    let plains = both_true (list_all is_plain_term done) (is_rising term_before done) before.0 in
    let known = c (subst (λ o. IfSome o IsPlainPlace) (sym sum.last) (last_plain done sum.forms plains.0)) in
    let limits = both_true (ltb 0 old.room) (is_limited_term t) (sym l ∙ tests.1) in
    let some : 0 < old.room = ltb-true 0 old.room limits.0 in
    let room : old.room ≡ 4 - length done = sum.room in
    record {
      plain = (both_true (is_plain_term t) (comes_after place_before (option_map place_seen old.last) (line_place t)) (sym known ∙ tests.0)).0;
      limit = limits.1;
      few = omega arith;
    }

pub sum_found : (done : List Term) (s : Terms) → IsTermSum done s → found are_canonical_terms are_limited_terms (Some done) ≡ valued (λ (u : Unit {0}). done) s.found
sum_found done s sum = found_tested (are_canonical_terms done) (are_limited_terms done) done ∙ ap (valued (λ (u : Unit {0}). done)) (sym sum.flaws)

pub empty_text : (xs : List ℕ) (b : Bool) → b ≡ true → b ≡ eqb (length xs) 0 → bytes_eq xs [] ≡ true
empty_text [] b e f = refl
empty_text (x ∷ xs) b e f = let none : eqb (length (x ∷ xs)) 0 ≡ true = sym f ∙ e in let same : length (x ∷ xs) ≡ 0 = eqb-true (length (x ∷ xs)) 0 none in absurd (omega arith)

pub follows : (t : TermForm) (before : PlaceForm) (o : Option PlaceForm) (r p : Bool) → o ≡ Some before → p ≡ true → p ≡ is_plain_term (term_seen t)
    → (is_place (place_seen before) ≡ true → is_plain_place (place_seen before) ≡ true → is_place (place_seen t.place) ≡ true → is_plain_place (place_seen t.place) ≡ true → r ≡ place_before (place_seen before) (place_seen t.place))
    → is_term (term_seen t) ≡ true → IfSome (option_map place_seen o) IsPlainPlace → r ≡ (is_plain_term (term_seen t) && comes_after place_before (option_map place_seen o) (line_place (term_seen t)))
follows t before o r p e f g answer form plain =
    let is_plain_too : is_plain_term (term_seen t) ≡ true = sym g ∙ f in
    let parts = both_true (is_plain t.weight.now) (is_plain_measure (measure_seen t.limit t.place)) is_plain_too in
    let same = place_of_seen t.limit t.place t.weight.now in
    let known : IsPlainPlace (place_seen before) = subst (λ x. IfSome (option_map place_seen x) IsPlainPlace) e plain in
    let here : is_plain_place (place_seen t.place) ≡ true = subst (λ x. is_plain_place x ≡ true) same (plain_measure (measure_seen t.limit t.place) t.weight.now parts.1) in
    rw (is_plain_too, e, same) (answer known.0 known.1 (term_place t form) here)

pub found_last : (t : TermForm) → option_map place_seen (Some t.place) ≡ Some (line_place (term_seen t))
found_last t = ap Some (sym (place_of_seen t.limit t.place t.weight.now))

pub pushed : (old new : List TermValue) (v : TermValue) (t : Term) → new ≡ old ++ v ∷ [] → term_of v ≡ t → map term_of new ≡ map term_of old ++ t ∷ []
pushed old new v t e f = ap (map term_of) e ∙ map-append term_of old (v ∷ []) ∙ ap (λ x. map term_of old ++ x ∷ []) f

-- all terms are within the limits, and one more is
pub limited_more : (old new : List TermValue) (v : TermValue) → new ≡ old ++ v ∷ [] → list_all limits.is_limited_term old ≡ true → limits.is_limited_term v ≡ true → list_all limits.is_limited_term new ≡ true
limited_more old new v e all one = ap (list_all limits.is_limited_term) e ∙ list_all_end limits.is_limited_term old v ∙ rw (all, one) refl

-- the value's limits are the text's
limited_weight : (t : TermForm) (n : ℕ) → n ≡ min (number t.weight.now) (2 ^ 64) → is_limited_term (term_seen t) ≡ true → is_from_to 1 (2 ^ 20) n ≡ true
limited_weight t n e limited =
    let limits = both_true (is_from_to 1 (2 ^ 20) (number t.weight.now)) (is_limited_measure (measure_seen t.limit t.place)) limited in
    let ends = both_true (leb 1 (number t.weight.now)) (leb (number t.weight.now) (2 ^ 20)) limits.0 in
    let some : 1 ≤ number t.weight.now = leb-true 1 (number t.weight.now) ends.0 in
    let few : number t.weight.now ≤ 2 ^ 20 = leb-true (number t.weight.now) (2 ^ 20) ends.1 in
    let same : n ≡ number t.weight.now = omega arith in
    ap (is_from_to 1 (2 ^ 20)) same ∙ limits.0

pub limited_down : (t : TermForm) (n : ℕ) (p : PlaceValue) → n ≡ min (number t.weight.now) (2 ^ 64) → is_limited_term (term_seen t) ≡ true → limits.is_limited_place p ≡ true → limits.is_limited_term (record { weight = n; measure = Down p }) ≡ true
limited_down t n p e limited f = rw (limited_weight t n e limited, f) refl

pub limited_up : (t : TermForm) (n m : ℕ) (p : PlaceValue) (limit : Bor (List ℕ)) → t.limit ≡ Some limit → n ≡ min (number t.weight.now) (2 ^ 64) → m ≡ min (number limit.now) (2 ^ 64) → is_limited_term (term_seen t) ≡ true
    → limits.is_limited_place p ≡ true → limits.is_limited_term (record { weight = n; measure = Up p m }) ≡ true
limited_up t n m p limit g e h limited f =
    let both = both_true (is_from_to 1 (2 ^ 20) (number t.weight.now)) (is_limited_measure (measure_seen t.limit t.place)) limited in
    let measure = rw g at both.1 in
    let parts = both_true (ltb (number limit.now) (2 ^ 64)) (is_limited_place (place_seen t.place)) measure in
    let small : number limit.now < 2 ^ 64 = ltb-true (number limit.now) (2 ^ 64) parts.0 in
    let fits : ltb m (2 ^ 64) ≡ true = lt-ltb m (2 ^ 64) (omega arith) in
    rw (limited_weight t n e limited, fits, f) refl
