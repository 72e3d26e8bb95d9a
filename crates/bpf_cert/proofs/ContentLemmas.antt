-- What a text says of a place, by its forms.
use Rattle.std.proofs.Common.{◌≡◌, ℕ, ◌^◌, ◌≤◌, Bool, true, false, cond, not, eqb, leb, List, [], Option, Some, None, Ok, Err, refl, sym, ap, subst, ◌∙◌, arith, min, ℤ, pos, neg_ℤ}
use Rattle.std.specs.Prelude.{◌&&◌, decimal, option_map, codes}
use Rattle.std.specs.Str.{bytes_eq}
use Rattle.std.proofs.lemmas.Bool.{leb-true}
use Rattle.std.proofs.lemmas.Int.{ints}
use Rattle.bpf_cert.specs.Numeral.{SignedDigits, is_numeral, is_plain, number, is_plain_signed}
use Rattle.bpf_cert.specs.Line.{PlaceText, Content, Number, is_content}
use Rattle.bpf_cert.specs.Faults.{is_canonical_content, is_limited_content}
use Rattle.bpf_cert.specs.Limits.{is_int_range}
use Rattle.bpf_cert.specs.code.Findings.{tested, found, valued}
use Rattle.bpf_cert.specs.Reading.{◌>>=◌, or_else, pointer_in, bytes_in, number_in, content_in}
use Rattle.bpf_cert.specs.code.Seen.{capped_signed}
use Rattle.bpf_cert.specs.Spelling.{bounds_in}
use Rattle.bpf_cert.specs.code.Contents.{digits_of_bounds, are_plain_bounds, are_limited_bounds}
use Rattle.bpf_cert.proofs.NumeralLaws.{plain_decimal}
use Rattle.bpf_cert.proofs.Bools.{both_true}
use Rattle.bpf_cert.proofs.NumLemmas.{not_true, tested_ok, AreBounds, capped_range, in_range, signed_again}
use Rattle.bpf_cert.proofs.FindingLemmas.{found_tested, found_valued}
use Rattle.bpf_cert.proofs.lines.LineForms.{pointer_is, bytes_is, content_is}
use Rattle.bpf_state.specs.declared.known.Area.{Area}
use Rattle.bpf_state.specs.declared.known.Area.TheVariants as area
use Rattle.bpf_cert.specs.declared.finding.PartFault.{PartFault}
use Rattle.bpf_cert.specs.declared.finding.PartFault.TheVariants.{NotCanonical, Limit}

pub mask_ok : (ds : List ℕ) (m : ℕ) (plain some : Bool) (u : Unit {0}) → is_numeral ds ≡ true → m ≡ min (number ds) (2 ^ 64) → plain ≡ is_plain ds → some ≡ (plain && not (eqb m 0))
    → tested some (leb m 254) ≡ Ok u → Ok (Content.bytes (decimal m)) ≡ found is_canonical_content is_limited_content (Some (Content.bytes ds))
mask_ok ds m plain some u digits e p s ok =
    let t = tested_ok some (leb m 254) u ok in
    let parts = both_true plain (not (eqb m 0)) (sym s ∙ t.0) in
    let is_plain_too : is_plain ds ≡ true = sym p ∙ parts.0 in
    let zero : eqb m 0 ≡ false = not_true (eqb m 0) parts.1 in
    let few : m ≤ 254 = leb-true m 254 t.1 in
    let same : number ds ≡ m = omega arith in
    let spelled : decimal m ≡ ds = subst (λ n. decimal n ≡ ds) same (plain_decimal ds digits is_plain_too (omega arith)) in
    rw (same, is_plain_too, zero, t.1, spelled) refl

pointer_bounds : AreBounds (neg_ℤ (pos (2 ^ 31))) (pos (2 ^ 31))
pointer_bounds = record { low = omega (arith, ints); high = omega (arith, ints) }

pub bounds_ok : (s t : SignedDigits) (lo hi : ℤ) (plain limited : Bool) (u : Unit {0}) → is_numeral s.digits ≡ true → is_numeral t.digits ≡ true → lo ≡ capped_signed s → hi ≡ capped_signed t
    → plain ≡ (is_plain_signed s && is_plain_signed t) → limited ≡ is_int_range (neg_ℤ (pos (2 ^ 31))) (pos (2 ^ 31)) lo hi → tested plain limited ≡ Ok u
    → Ok (digits_of_bounds (lo, hi)) ≡ found are_plain_bounds are_limited_bounds (Some (s, t))
bounds_ok s t lo hi plain limited u digits_s digits_t e f p l ok =
    let done = tested_ok plain limited u ok in
    let plains = both_true (is_plain_signed s) (is_plain_signed t) (sym p ∙ done.0) in
    let range : is_int_range (neg_ℤ (pos (2 ^ 31))) (pos (2 ^ 31)) lo hi ≡ true = sym l ∙ done.1 in
    let r = in_range (neg_ℤ (pos (2 ^ 31))) (pos (2 ^ 31)) lo hi range in
    let a = r.low in let b = r.high in let c = r.low_high in let d = r.high_low in
    let low = signed_again s lo e (omega (arith, ints)) (omega (arith, ints)) digits_s plains.0 in
    let high = signed_again t hi f (omega (arith, ints)) (omega (arith, ints)) digits_t plains.1 in
    rw (low.0, high.0, plains.0, plains.1, range, low.1, high.1) refl

pub bounds_err : (s t : SignedDigits) (lo hi : ℤ) (plain limited : Bool) (flaw : PartFault) → lo ≡ capped_signed s → hi ≡ capped_signed t
    → plain ≡ (is_plain_signed s && is_plain_signed t) → limited ≡ is_int_range (neg_ℤ (pos (2 ^ 31))) (pos (2 ^ 31)) lo hi → tested plain limited ≡ Err flaw
    → Err flaw ≡ found are_plain_bounds are_limited_bounds (Some (s, t))
bounds_err s t lo hi plain limited flaw e f p l bad =
    let keeps : limited ≡ are_limited_bounds (s, t) = l ∙ ap (λ z. is_int_range (neg_ℤ (pos (2 ^ 31))) (pos (2 ^ 31)) z hi) e ∙ ap (λ z. is_int_range (neg_ℤ (pos (2 ^ 31))) (pos (2 ^ 31)) (capped_signed s) z) f ∙ capped_range (neg_ℤ (pos (2 ^ 31))) (pos (2 ^ 31)) pointer_bounds s t in
    ap (valued (λ (u : Unit {0}). (s, t))) (sym bad ∙ ap (λ b. tested b limited) p ∙ ap (λ b. tested (are_plain_bounds (s, t)) b) keeps) ∙ sym (found_tested (are_plain_bounds (s, t)) (are_limited_bounds (s, t)) (s, t))

pub content_any : (p : PlaceText) (text : List ℕ) → bytes_eq text (codes "any") ≡ true → content_in p text ≡ Some Content.any
unfolding content_in
content_any p text e = rw e refl

pub content_pointer : (p : PlaceText) (text : List ℕ) (c : Content) → bytes_eq text (codes "any") ≡ false → pointer_in text ≡ Some c → content_in p text ≡ Some c
unfolding content_in or_else
content_pointer p text c e f = rw (e, f) refl

pub content_bytes : (p : PlaceText) (text : List ℕ) (c : Content) → bytes_eq text (codes "any") ≡ false → pointer_in text ≡ None → bytes_in p text ≡ Some c → content_in p text ≡ Some c
unfolding content_in or_else
content_bytes p text c e f g = rw (e, f, g) refl

number_found : (o : Option Number) → (o >>= (λ n. Some (Content.number n))) ≡ option_map Content.number o
unfolding ◌>>=◌
number_found None = refl
number_found (Some n) = refl

pub content_number : (p : PlaceText) (text : List ℕ) → bytes_eq text (codes "any") ≡ false → pointer_in text ≡ None → bytes_in p text ≡ None → content_in p text ≡ option_map Content.number (number_in text)
unfolding content_in or_else
content_number p text e f g = rw (e, f, g) (number_found (number_in text))

pub no_bytes : (i text : List ℕ) → bytes_in (PlaceText.register i) text ≡ None
unfolding bytes_in
no_bytes i text = refl

pub pointer_form : (text : List ℕ) (c : Content) → pointer_in text ≡ Some c → is_content (PlaceText.slot []) c ≡ true
pointer_form text c e = (pointer_is (PlaceText.slot []) text).holds c e

pub bytes_form : (text ds : List ℕ) → bytes_in (PlaceText.slot []) text ≡ Some (Content.bytes ds) → is_numeral ds ≡ true
bytes_form text ds e = (bytes_is (PlaceText.slot []) text).holds (Content.bytes ds) e

-- a pointer's form, and what is found of it, by its bounds
pub bounds_form : (a : Area) (lo hi : SignedDigits) → is_content (PlaceText.slot []) (bounds_in a lo hi) ≡ true → (is_numeral lo.digits ≡ true) × (is_numeral hi.digits ≡ true)
bounds_form area.Context lo hi e = both_true (is_numeral lo.digits) (is_numeral hi.digits) e
bounds_form area.Frame lo hi e = both_true (is_numeral lo.digits) (is_numeral hi.digits) e

pub bounds_found : (a : Area) (lo hi : SignedDigits) → found is_canonical_content is_limited_content (Some (bounds_in a lo hi)) ≡ valued (λ b. bounds_in a b.0 b.1) (found are_plain_bounds are_limited_bounds (Some (lo, hi)))
bounds_found area.Context lo hi = found_valued (λ b. Content.context b.0 b.1) (are_plain_bounds (lo, hi)) (are_limited_bounds (lo, hi)) (lo, hi)
bounds_found area.Frame lo hi = found_valued (λ b. Content.frame b.0 b.1) (are_plain_bounds (lo, hi)) (are_limited_bounds (lo, hi)) (lo, hi)

found_some : {A : Type 0} (c l : A → Bool) (o : Option A) (x : A) → found c l o ≡ Ok x → o ≡ Some x
found_some c l None x e = cc
found_some c l (Some y) x e = by_tests (c y) (l y) e
  where
    by_tests : (a b : Bool) → cond (not a) (Err NotCanonical) (cond (not b) (Err Limit) (Ok y)) ≡ Ok x → Some y ≡ Some x
    by_tests true true e = cc
    by_tests true false e = cc
    by_tests false b e = cc

pub content_form : (p : PlaceText) (text : List ℕ) (c : Content) → found is_canonical_content is_limited_content (content_in p text) ≡ Ok c → is_content p c ≡ true
content_form p text c e = (content_is p text).holds c (found_some is_canonical_content is_limited_content (content_in p text) c e)
