-- What first lines say, and the first lines of certificates.
use Rattle.std.proofs.Common.{◌≡◌, ℕ, ◌-◌, ◌^◌, ◌≤◌, ◌⊎◌, inl, inr, ⊎_elim, Bool, true, false, cond, eqb, leb, List, [], Some, Ok, refl, sym, ap, subst, ◌∙◌, arith, min}
use Rattle.std.specs.Prelude.{◌&&◌, decimal}
use Rattle.std.proofs.lemmas.Bool.{leb-true, le-leb, eqb-true, eq-eqb}
use Rattle.bpf_cert.specs.Numeral.{is_numeral, is_plain, number, is_from_to}
use Rattle.bpf_cert.specs.Line.{Line, Lengths, is_line}
use Rattle.bpf_cert.specs.Faults.{is_canonical, is_limited}
use Rattle.bpf_cert.specs.Limits.{is_version, is_limited_header}
use Rattle.bpf_cert.specs.code.Findings.{tested, found}
use Rattle.bpf_cert.specs.Spelling.{lengths_of, header_line}
use Rattle.bpf_cert.specs.declared.header.Header.{Header}
use Rattle.bpf_cert.proofs.Bools.{both_true}
use Rattle.bpf_cert.proofs.NumLemmas.{tested_ok}
use Rattle.bpf_cert.proofs.NumeralLaws.{plain_decimal}
use Rattle.bpf_cert.proofs.fine.FineParts.{decimal_writes}
use Rattle.bpf_cert.proofs.AfterLemmas.{IsFine}
use Rattle.bpf_cert.proofs.StandingLemmas.{capped_most, capped_between, spelled_again}

-- the steps, where what goes past 2^64 is cut off
steps_within : (ds : List ℕ) (n : ℕ) (b : Bool) → n ≡ min (number ds) (2 ^ 64) → b ≡ is_from_to 1 4294967295 n → b ≡ is_from_to 1 4294967295 (number ds)
steps_within ds n b e f = f ∙ ap (is_from_to 1 4294967295) e ∙ capped_between 1 4294967295 (number ds) (omega arith)

-- one length

pub one_ok : (bytes most : List ℕ) (len steps : ℕ) (plain mid limited : Bool) (u : Unit {0}) → is_numeral bytes ≡ true → is_numeral most ≡ true → len ≡ min (number bytes) (2 ^ 64) → steps ≡ min (number most) (2 ^ 64)
    → plain ≡ (is_plain bytes && is_plain most) → mid ≡ is_from_to 1 4294967295 steps → limited ≡ (leb len 4096 && mid) → tested plain limited ≡ Ok u
    → Ok (header_line (record { version = 1; least = len; most = len; steps = steps })) ≡ found is_canonical is_limited (Some (Line.header (Lengths.one bytes) most))
one_ok bytes most len steps plain mid limited u digits_b digits_m e f p m l ok =
    let t = tested_ok plain limited u ok in
    let plains = both_true (is_plain bytes) (is_plain most) (sym p ∙ t.0) in
    let limits = both_true (leb len 4096) mid (sym l ∙ t.1) in
    let low : leb (number bytes) 4096 ≡ true = sym (capped_most (number bytes) 4096 (omega arith)) ∙ ap (λ n. leb n 4096) (sym e) ∙ limits.0 in
    let range : is_from_to 1 4294967295 (number most) ≡ true = sym (steps_within most steps mid f m) ∙ limits.1 in
    let ends = both_true (leb 1 (number most)) (leb (number most) 4294967295) range in
    let len_again : decimal len ≡ bytes = spelled_again bytes len 4096 digits_b plains.0 e low (omega arith) in
    let steps_again : decimal steps ≡ most = spelled_again most steps 4294967295 digits_m plains.1 f ends.1 (omega arith) in
    rw (plains.0, plains.1, low, range, len_again, steps_again) refl

-- two lengths

and_false : (b : Bool) → (b && false) ≡ false
and_false true = refl
and_false false = refl

capped_range : (a b : ℕ) → (leb (min a (2 ^ 64)) (min b (2 ^ 64)) && leb (min b (2 ^ 64)) 4096) ≡ (leb a b && leb b 4096)
capped_range a b = by_test (leb b 4096) refl
  where
    by_test : (c : Bool) → leb b 4096 ≡ c → (leb (min a (2 ^ 64)) (min b (2 ^ 64)) && leb (min b (2 ^ 64)) 4096) ≡ (leb a b && leb b 4096)
    by_test true e = let small : b ≤ 4096 = leb-true b 4096 e in let same : min b (2 ^ 64) ≡ b = omega arith in rw same (ap (λ x. x && leb b 4096) (capped_most a b (omega arith)))
    by_test false e = ap (λ z. leb (min a (2 ^ 64)) (min b (2 ^ 64)) && z) (capped_most b 4096 (omega arith) ∙ e) ∙ and_false (leb (min a (2 ^ 64)) (min b (2 ^ 64)))
        ∙ sym (and_false (leb a b)) ∙ ap (λ z. leb a b && z) (sym e)

range_within : (least most : List ℕ) (low high : ℕ) (b : Bool) → low ≡ min (number least) (2 ^ 64) → high ≡ min (number most) (2 ^ 64) → b ≡ (leb low high && leb high 4096) → b ≡ (leb (number least) (number most) && leb (number most) 4096)
range_within least most low high b e f g = g ∙ ap (λ n. leb n high && leb high 4096) e ∙ ap (λ n. leb (min (number least) (2 ^ 64)) n && leb n 4096) f ∙ capped_range (number least) (number most)

pub range_ok : (least most count : List ℕ) (low high steps : ℕ) (plains canonical lengths mid limited : Bool) (u : Unit {0}) → is_numeral least ≡ true → is_numeral most ≡ true → is_numeral count ≡ true
    → low ≡ min (number least) (2 ^ 64) → high ≡ min (number most) (2 ^ 64) → steps ≡ min (number count) (2 ^ 64)
    → plains ≡ (is_plain least && is_plain most) → canonical ≡ (plains && is_plain count) → lengths ≡ (leb low high && leb high 4096) → mid ≡ is_from_to 1 4294967295 steps → limited ≡ (lengths && mid) → tested canonical limited ≡ Ok u
    → Ok (header_line (record { version = 2; least = low; most = high; steps = steps })) ≡ found is_canonical is_limited (Some (Line.header (Lengths.range least most) count))
range_ok least most count low high steps plains canonical lengths mid limited u digits_l digits_m digits_c e f g p c n m l ok =
    let t = tested_ok canonical limited u ok in
    let plain = both_true plains (is_plain count) (sym c ∙ t.0) in
    let ends_plain = both_true (is_plain least) (is_plain most) (sym p ∙ plain.0) in
    let limits = both_true lengths mid (sym l ∙ t.1) in
    let bounds = both_true (leb (number least) (number most)) (leb (number most) 4096) (sym (range_within least most low high lengths e f n) ∙ limits.0) in
    let order : number least ≤ number most = leb-true (number least) (number most) bounds.0 in
    let short : number most ≤ 4096 = leb-true (number most) 4096 bounds.1 in
    let least_short : leb (number least) 4096 ≡ true = le-leb (number least) 4096 (omega arith) in
    let range : is_from_to 1 4294967295 (number count) ≡ true = sym (steps_within count steps mid g m) ∙ limits.1 in
    let ends = both_true (leb 1 (number count)) (leb (number count) 4294967295) range in
    let least_again : decimal low ≡ least = spelled_again least low 4096 digits_l ends_plain.0 e least_short (omega arith) in
    let most_again : decimal high ≡ most = spelled_again most high 4096 digits_m ends_plain.1 f bounds.1 (omega arith) in
    let steps_again : decimal steps ≡ count = spelled_again count steps 4294967295 digits_c plain.1 g ends.1 (omega arith) in
    rw (ends_plain.0, ends_plain.1, plain.1, bounds.0, bounds.1, range, least_again, most_again, steps_again) refl

-- a certificate's first line

pub record HeaderFacts (h : Header) : Type 0 where
  pub version : is_version h.version h.least h.most ≡ true
  pub order : h.least ≤ h.most
  pub short : h.most ≤ 4096
  pub steps : is_from_to 1 (2 ^ 32 - 1) h.steps ≡ true
  pub few : h.steps ≤ 2 ^ 32 - 1

pub header_facts : (h : Header) → is_limited_header h ≡ true → HeaderFacts h
header_facts h e =
    let a = both_true (is_version h.version h.least h.most && leb h.least h.most && leb h.most 4096) (is_from_to 1 (2 ^ 32 - 1) h.steps) e in
    let b = both_true (is_version h.version h.least h.most && leb h.least h.most) (leb h.most 4096) a.0 in
    let c = both_true (is_version h.version h.least h.most) (leb h.least h.most) b.0 in
    let ends = both_true (leb 1 h.steps) (leb h.steps (2 ^ 32 - 1)) a.1 in
    record { version = c.0; order = leb-true h.least h.most c.1; short = leb-true h.most 4096 b.1; steps = a.1; few = leb-true h.steps (2 ^ 32 - 1) ends.1 }

pub versions : (v l m : ℕ) → is_version v l m ≡ true → ((v ≡ 1) × (l ≡ m)) ⊎ (v ≡ 2)
versions v l m e = by_test (eqb v 1) refl e
  where
    by_test : (b : Bool) → eqb v 1 ≡ b → cond b (eqb l m) (eqb v 2) ≡ true → ((v ≡ 1) × (l ≡ m)) ⊎ (v ≡ 2)
    by_test true f e = inl (eqb-true v 1 f, eqb-true l m e)
    by_test false f e = inr (eqb-true v 2 e)

pub lengths_one : (v l m : ℕ) → v ≡ 1 → lengths_of v l m ≡ Lengths.one (decimal l)
lengths_one v l m e = rw e refl

pub lengths_two : (v l m : ℕ) → v ≡ 2 → lengths_of v l m ≡ Lengths.range (decimal l) (decimal m)
lengths_two v l m e = rw e refl

pub header_fine : (h : Header) → is_limited_header h ≡ true → IsFine [] (header_line h)
header_fine h e = ⊎_elim one two (versions h.version h.least h.most facts.version)
  where
    facts : HeaderFacts h
    facts = header_facts h e

    one : (h.version ≡ 1) × (h.least ≡ h.most) → IsFine [] (header_line h)
    one p =
        let order = facts.order in let short = facts.short in let few = facts.few in
        let x = decimal_writes h.least (omega arith) in
        let y = decimal_writes h.steps (omega arith) in
        let low : leb h.least 4096 ≡ true = le-leb h.least 4096 (omega arith) in
        subst (λ z. IsFine [] (Line.header z (decimal h.steps))) (sym (lengths_one h.version h.least h.most p.0))
        (record { stands = refl; canonical = rw (x.plain, y.plain) refl; order = refl; limited = rw (x.same, y.same, low, facts.steps) refl; room = refl })

    two : h.version ≡ 2 → IsFine [] (header_line h)
    two p =
        let order = facts.order in let short = facts.short in let few = facts.few in
        let x = decimal_writes h.least (omega arith) in
        let y = decimal_writes h.most (omega arith) in
        let z = decimal_writes h.steps (omega arith) in
        let low : leb h.least h.most ≡ true = le-leb h.least h.most order in
        let high : leb h.most 4096 ≡ true = le-leb h.most 4096 short in
        subst (λ l. IsFine [] (Line.header l (decimal h.steps))) (sym (lengths_two h.version h.least h.most p))
        (record { stands = refl; canonical = rw (x.plain, y.plain, z.plain) refl; order = refl; limited = rw (x.same, y.same, z.same, low, high, facts.steps) refl; room = refl })

-- what a first line says
abbrev pub header_said : Lengths → List ℕ → Header
header_said (Lengths.one len) steps = record { version = 1; least = number len; most = number len; steps = number steps }
header_said (Lengths.range least most) steps = record { version = 2; least = number least; most = number most; steps = number steps }

abbrev header_with : ℕ → ℕ → ℕ → ℕ → Header
header_with version least most steps = record { version = version; least = least; most = most; steps = steps }

pub header_again : (h : Header) → is_limited_header h ≡ true → header_said (lengths_of h.version h.least h.most) (decimal h.steps) ≡ h
header_again h e = ⊎_elim one two (versions h.version h.least h.most facts.version)
  where
    facts : HeaderFacts h
    facts = header_facts h e

    one : (h.version ≡ 1) × (h.least ≡ h.most) → header_said (lengths_of h.version h.least h.most) (decimal h.steps) ≡ h
    one p =
        let order = facts.order in let short = facts.short in let few = facts.few in
        let x = decimal_writes h.least (omega arith) in
        let y = decimal_writes h.steps (omega arith) in
        ap (λ l. header_said l (decimal h.steps)) (lengths_one h.version h.least h.most p.0)
        ∙ ap (λ n. header_with 1 n n (number (decimal h.steps))) x.same ∙ ap (header_with 1 h.least h.least) y.same
        ∙ ap (λ v. header_with v h.least h.least h.steps) (sym p.0) ∙ ap (λ m. header_with h.version h.least m h.steps) p.1

    two : h.version ≡ 2 → header_said (lengths_of h.version h.least h.most) (decimal h.steps) ≡ h
    two p =
        let order = facts.order in let short = facts.short in let few = facts.few in
        let x = decimal_writes h.least (omega arith) in
        let y = decimal_writes h.most (omega arith) in
        let z = decimal_writes h.steps (omega arith) in
        ap (λ l. header_said l (decimal h.steps)) (lengths_two h.version h.least h.most p)
        ∙ ap (λ n. header_with 2 n (number (decimal h.most)) (number (decimal h.steps))) x.same ∙ ap (λ n. header_with 2 h.least n (number (decimal h.steps))) y.same
        ∙ ap (header_with 2 h.least h.most) z.same ∙ ap (λ v. header_with v h.least h.most h.steps) (sym p)

-- a fine first line is that of what it says
pub header_back : (lengths : Lengths) (steps : List ℕ) → IsFine [] (Line.header lengths steps) → is_line (Line.header lengths steps) ≡ true
    → (is_limited_header (header_said lengths steps) ≡ true) × (header_line (header_said lengths steps) ≡ Line.header lengths steps)
header_back (Lengths.one len) steps fine is =
    let form = both_true (is_numeral len) (is_numeral steps) is in
    let plain = both_true (is_plain len) (is_plain steps) fine.canonical in
    let limited = both_true (leb (number len) 4096) (is_from_to 1 (2 ^ 32 - 1) (number steps)) fine.limited in
    let short : number len ≤ 4096 = leb-true (number len) 4096 limited.0 in
    let few : number steps ≤ 2 ^ 32 - 1 = leb-true (number steps) (2 ^ 32 - 1) (both_true (leb 1 (number steps)) (leb (number steps) (2 ^ 32 - 1)) limited.1).1 in (
      rw (eq-eqb (number len) (number len) refl, le-leb (number len) (number len) (omega arith), limited.0, limited.1) refl,
      rw (plain_decimal len form.0 plain.0 (omega arith), plain_decimal steps form.1 plain.1 (omega arith)) refl,
    )
header_back (Lengths.range least most) steps fine is =
    let form = both_true (is_numeral least && is_numeral most) (is_numeral steps) is in
    let forms = both_true (is_numeral least) (is_numeral most) form.0 in
    let plain = both_true (is_plain least && is_plain most) (is_plain steps) fine.canonical in
    let plains = both_true (is_plain least) (is_plain most) plain.0 in
    let limited = both_true (leb (number least) (number most) && leb (number most) 4096) (is_from_to 1 (2 ^ 32 - 1) (number steps)) fine.limited in
    let bounds = both_true (leb (number least) (number most)) (leb (number most) 4096) limited.0 in
    let order : number least ≤ number most = leb-true (number least) (number most) bounds.0 in
    let short : number most ≤ 4096 = leb-true (number most) 4096 bounds.1 in
    let few : number steps ≤ 2 ^ 32 - 1 = leb-true (number steps) (2 ^ 32 - 1) (both_true (leb 1 (number steps)) (leb (number steps) (2 ^ 32 - 1)) limited.1).1 in (
      rw (bounds.0, bounds.1, limited.1) refl,
      rw (plain_decimal least forms.0 plains.0 (omega arith), plain_decimal most forms.1 plains.1 (omega arith), plain_decimal steps form.1 plain.1 (omega arith)) refl,
    )
