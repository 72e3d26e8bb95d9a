-- What the parts of a number say together, one part more.
use Rattle.std.proofs.Common.{◌≡◌, ℕ, ◌+◌, ◌≤◌, ◌<◌, Bool, true, false, not, leb, ltb, List, [], ◌∷◌, ◌++◌, Some, None, Result, Ok, Err, refl, sym, ap, subst, ◌∙◌, arith, append-nil}
use Rattle.std.specs.Prelude.{◌&&◌, OnOk}
use Rattle.std.specs.List.{list_all}
use Rattle.std.proofs.lemmas.Bool.{leb-true, le-leb, ltb-true, ltb-false}
use Rattle.bpf_cert.specs.Line.{Part, Number, is_part}
use Rattle.bpf_cert.specs.Faults.{part_before, part_rank, is_limited_part, is_plain_part, is_top, is_canonical_number, is_limited_number}
use Rattle.bpf_cert.specs.Limits.{is_rising}
use Rattle.bpf_cert.specs.code.Findings.{tested, found, joined, valued}
use Rattle.bpf_cert.specs.Spelling.{unsigned_parts, signed_parts, bits_parts, number_of, of_parts}
use Rattle.bpf_cert.specs.code.Seen.{is_canonical_part}
use Rattle.bpf_cert.specs.code.PartSums.{are_canonical, next_rank, SaysParts, IsSum, IsKept}
use Rattle.bpf_cert.specs.declared.num.Parts.{Parts}
use Rattle.bpf_cert.specs.declared.finding.PartFault.{PartFault}
use Rattle.bpf_cert.proofs.FindingLemmas.{found_tested, joined_tested, joined_ok, tested_true, list_all_both, list_all_end}
use Rattle.bpf_num.specs.Number.{number, top, Number as Num}
use Rattle.bpf_cert.proofs.lines.LineForms.{part_is}
use Rattle.std.specs.Prelude.{codes}
use Rattle.std.specs.Str.{bytes_eq}
use Rattle.bpf_cert.specs.Reading.{◌>>=◌, part_in, number_in}
use Rattle.bpf_cert.proofs.PieceLemmas.{Taken, all_read}
use Rattle.bpf_cert.specs.declared.finding.PartFault.TheVariants.{Syntax}

ltb_leb : (a b : ℕ) → ltb a b ≡ leb (a + 1) b
ltb_leb a b = by_test (ltb a b) refl
  where
    not_le : b ≤ a → (t : Bool) → leb (a + 1) b ≡ t → leb (a + 1) b ≡ false
    not_le h true f = let k : a + 1 ≤ b = leb-true (a + 1) b f in absurd (omega arith)
    not_le h false f = f

    by_test : (t : Bool) → ltb a b ≡ t → ltb a b ≡ leb (a + 1) b
    by_test true e = let h : a < b = ltb-true a b e in e ∙ sym (le-leb (a + 1) b (omega arith))
    by_test false e = e ∙ sym (not_le (ltb-false a b e) (leb (a + 1) b) refl)

rising_end : (ps : List Part) (p : Part) → is_rising part_before (ps ++ p ∷ []) ≡ (is_rising part_before ps && leb (next_rank ps) (part_rank p))
rising_end [] p = sym (le-leb 0 (part_rank p) (omega arith))
rising_end (q ∷ []) p = ap (λ b. b && true) (ltb_leb (part_rank q) (part_rank p)) ∙ one (leb (part_rank q + 1) (part_rank p))
  where
    one : (b : Bool) → (b && true) ≡ (true && b)
    one true = refl
    one false = refl
rising_end (q ∷ r ∷ rs) p = ap (λ b. part_before q r && b) (rising_end (r ∷ rs) p) ∙ grouped (part_before q r) (is_rising part_before (r ∷ rs)) (leb (next_rank (r ∷ rs)) (part_rank p))
  where
    grouped : (a b c : Bool) → (a && (b && c)) ≡ ((a && b) && c)
    grouped true b c = refl
    grouped false b c = refl

next_end : (ps : List Part) (p : Part) → next_rank (ps ++ p ∷ []) ≡ part_rank p + 1
next_end [] p = refl
next_end (q ∷ []) p = refl
next_end (q ∷ r ∷ rs) p = next_end (r ∷ rs) p

canonical_end : (ps : List Part) (p : Part) → are_canonical (ps ++ p ∷ []) ≡ ((are_canonical ps && leb (next_rank ps) (part_rank p)) && is_canonical_part p)
canonical_end ps p = ap (λ b. b && is_rising part_before (ps ++ p ∷ [])) (list_all_end is_canonical_part ps p)
    ∙ ap (λ b. (list_all is_canonical_part ps && is_canonical_part p) && b) (rising_end ps p)
    ∙ exchange (list_all is_canonical_part ps) (is_canonical_part p) (is_rising part_before ps) (leb (next_rank ps) (part_rank p))
  where
    exchange : (a b c d : Bool) → ((a && b) && (c && d)) ≡ (((a && c) && d) && b)
    exchange true true true true = refl
    exchange true true true false = refl
    exchange true true false d = refl
    exchange true false true true = refl
    exchange true false true false = refl
    exchange true false false d = refl
    exchange false b c d = refl

-- a part more, of the lowest rank that may follow or above
says_more : (done : List Part) (p : Part) (old kept : Parts) → SaysParts old.next (unsigned_parts old.unsigned) (signed_parts old.signed) (bits_parts old.bits) done
    → old.next ≤ part_rank p → IsKept p old kept → SaysParts (part_rank p + 1) (unsigned_parts kept.unsigned) (signed_parts kept.signed) (bits_parts kept.bits) (done ++ p ∷ [])
says_more done (Part.unsigned lo hi) old kept says room k =
    let us = says.no_unsigned room in let ss = says.no_signed (omega (arith, room)) in let ks = says.no_bits (omega (arith, room)) in
    let empty : [] ≡ done = rw (us, ss, ks) at says.same in
    let new_ss : signed_parts kept.signed ≡ [] = ap signed_parts k.1 ∙ ss in
    let new_ks : bits_parts kept.bits ≡ [] = ap bits_parts k.2 ∙ ks in
    record {
      same = rw (k.0, new_ss, new_ks, ← empty) refl;
      no_unsigned = λ h. absurd (omega (arith, h));
      no_signed = λ h. new_ss;
      no_bits = λ h. new_ks;
    }
says_more done (Part.signed lo hi) old kept says room k =
    let ss = says.no_signed room in let ks = says.no_bits (omega (arith, room)) in
    let all : unsigned_parts old.unsigned ≡ done = sym (append-nil (unsigned_parts old.unsigned)) ∙ sym (append-nil (unsigned_parts old.unsigned ++ [])) ∙ ap (λ x. (unsigned_parts old.unsigned ++ []) ++ x) (sym ks) ∙ ap (λ x. (unsigned_parts old.unsigned ++ x) ++ bits_parts old.bits) (sym ss) ∙ says.same in
    let new_ks : bits_parts kept.bits ≡ [] = ap bits_parts k.2 ∙ ks in
    record {
      same = rw (k.0, new_ks, k.1, all) (append-nil (done ++ Part.signed lo hi ∷ []));
      no_unsigned = λ h. absurd (omega (arith, h));
      no_signed = λ h. absurd (omega (arith, h));
      no_bits = λ h. new_ks;
    }
says_more done (Part.bits v m) old kept says room k =
    let ks = says.no_bits room in
    let all : unsigned_parts old.unsigned ++ signed_parts old.signed ≡ done = sym (append-nil (unsigned_parts old.unsigned ++ signed_parts old.signed)) ∙ ap (λ x. (unsigned_parts old.unsigned ++ signed_parts old.signed) ++ x) (sym ks) ∙ says.same in
    record {
      same = rw (k.0, k.1, k.2, all) refl;
      no_unsigned = λ h. absurd (omega (arith, h));
      no_signed = λ h. absurd (omega (arith, h));
      no_bits = λ h. absurd (omega (arith, h));
    }

pub sum_more : (done : List Part) (p : Part) (old kept : Parts) (in_order found joint all : Result (Unit {0}) PartFault) (rank : ℕ) → IsSum done old → rank ≡ part_rank p → in_order ≡ tested (leb old.next rank) true
    → found ≡ tested (is_canonical_part p) (is_limited_part p) → (kept.found ≡ old.found) × (kept.next ≡ old.next) → OnOk found (IsKept p old kept) → joint ≡ joined kept.found in_order → all ≡ joined joint found
    → IsSum (done ++ p ∷ []) (record { found = all; next = rank + 1; unsigned = kept.unsigned; signed = kept.signed; bits = kept.bits })
sum_more done p old kept in_order found joint all rank sum r o f k keeps j a =
    let inner : joint ≡ joined old.found in_order = j ∙ ap (λ x. joined x in_order) k.0 in
    let order : in_order ≡ tested (leb (next_rank done) (part_rank p)) true = o ∙ ap (λ n. tested (leb n rank) true) sum.next ∙ ap (λ n. tested (leb (next_rank done) n) true) r in
    record {
      flaws = a ∙ ap (λ x. joined x found) inner ∙ ap (λ x. joined (joined x in_order) found) sum.flaws ∙ ap (λ x. joined (joined (tested (are_canonical done) (list_all is_limited_part done)) x) found) order
          ∙ ap (λ x. joined (joined (tested (are_canonical done) (list_all is_limited_part done)) (tested (leb (next_rank done) (part_rank p)) true)) x) f
          ∙ ap (λ x. joined x (tested (is_canonical_part p) (is_limited_part p))) (joined_tested (are_canonical done) (list_all is_limited_part done) (leb (next_rank done) (part_rank p)) true)
          ∙ joined_tested (are_canonical done && leb (next_rank done) (part_rank p)) (list_all is_limited_part done && true) (is_canonical_part p) (is_limited_part p)
          ∙ ap (λ x. tested ((are_canonical done && leb (next_rank done) (part_rank p)) && is_canonical_part p) (x && is_limited_part p)) (and_true (list_all is_limited_part done))
          ∙ ap (λ x. tested ((are_canonical done && leb (next_rank done) (part_rank p)) && is_canonical_part p) x) (sym (list_all_end is_limited_part done p))
          ∙ ap (λ x. tested x (list_all is_limited_part (done ++ p ∷ []))) (sym (canonical_end done p));
      next = ap (λ n. n + 1) r ∙ sym (next_end done p);
      says = λ fine.
          let outer = joined_ok joint found tt (sym a ∙ fine) in
          let deeper = joined_ok old.found in_order tt (sym inner ∙ outer.0) in
          let fits = tested_true (leb old.next rank) true tt (sym o ∙ deeper.1) in
          let room : old.next ≤ part_rank p = subst (λ n. old.next ≤ n) r (leb-true old.next rank fits.0) in
          let is_kept : IsKept p old kept = subst (λ x. OnOk x (IsKept p old kept)) outer.1 keeps in
          subst (λ n. SaysParts (n + 1) (unsigned_parts kept.unsigned) (signed_parts kept.signed) (bits_parts kept.bits) (done ++ p ∷ [])) (sym r) (says_more done p old kept (sum.says deeper.0) room is_kept);
    }
  where
    and_true : (b : Bool) → (b && true) ≡ b
    and_true true = refl
    and_true false = refl

canonical_same : (ps : List Part) → is_canonical_number (Number.parts ps) ≡ are_canonical ps
canonical_same ps = exchange (list_all is_plain_part ps) (is_rising part_before ps) (list_all (λ p. not (is_top p)) ps) ∙ ap (λ b. b && is_rising part_before ps) (sym (list_all_both is_plain_part (λ p. not (is_top p)) ps))
  where
    exchange : (a b c : Bool) → ((a && b) && c) ≡ ((a && c) && b)
    exchange true true true = refl
    exchange true true false = refl
    exchange true false true = refl
    exchange true false false = refl
    exchange false b c = refl

-- what the parts of a number say, at least one
pub sum_found : (p : Part) (ps : List Part) (s : Parts) → IsSum (p ∷ ps) s → found is_canonical_number is_limited_number (Some (Number.parts (p ∷ ps))) ≡ valued (λ (u : Unit {0}). Number.parts (p ∷ ps)) s.found
sum_found p ps s sum = found_tested (is_canonical_number (Number.parts (p ∷ ps))) (list_all is_limited_part (p ∷ ps)) (Number.parts (p ∷ ps))
    ∙ ap (λ b. valued (λ (u : Unit {0}). Number.parts (p ∷ ps)) (tested b (list_all is_limited_part (p ∷ ps)))) (canonical_same (p ∷ ps)) ∙ ap (valued (λ (u : Unit {0}). Number.parts (p ∷ ps))) (sym sum.flaws)

pub sum_value : (p : Part) (ps : List Part) (s : Parts) (u : Unit {0}) → IsSum (p ∷ ps) s → s.found ≡ Ok u → number_of (number s.bits s.unsigned s.signed) ≡ Number.parts (p ∷ ps)
sum_value p ps s u sum ok = ap of_parts (sum.says ok).same

-- some parts were taken from the text, and the rest of it is left
pub record AreTaken (text rest : List ℕ) (s : Parts) : Type 0 where
  pub done : List Part
  pub sum : IsSum done s
  pub taken : Taken 44 part_in text rest done

-- what is found in a text of parts
pub found_none : (text : List ℕ) → bytes_eq text (codes "*") ≡ false → all_read 44 part_in text ≡ None → found is_canonical_number is_limited_number (number_in text) ≡ Err Syntax
unfolding number_in ◌>>=◌
found_none text star e = rw (star, e) refl

pub found_all : (text : List ℕ) (ps : List Part) (r : Result Num PartFault) → bytes_eq text (codes "*") ≡ false → all_read 44 part_in text ≡ Some ps
    → number_in text ≡ Some (Number.parts ps)
unfolding number_in ◌>>=◌
found_all text ps r star e = rw (star, e) refl

pub found_parts : (text : List ℕ) (done : List Part) (p : Part) (s : Parts) (r : Result Num PartFault) → bytes_eq text (codes "*") ≡ false → all_read 44 part_in text ≡ Some (done ++ p ∷ [])
    → IsSum (done ++ p ∷ []) s → ((q : Part) (qs : List Part) → IsSum (q ∷ qs) s → valued number_of r ≡ found is_canonical_number is_limited_number (Some (Number.parts (q ∷ qs))))
    → valued number_of r ≡ found is_canonical_number is_limited_number (number_in text)
found_parts text done p s r star e sum value = rw (found_all text (done ++ p ∷ []) r star e) (by_first done sum)
  where
    by_first : (ds : List Part) → IsSum (ds ++ p ∷ []) s → valued number_of r ≡ found is_canonical_number is_limited_number (Some (Number.parts (ds ++ p ∷ [])))
    by_first [] sum = value p [] sum
    by_first (d ∷ ds) sum = value d (ds ++ p ∷ []) sum

pub found_star : (text : List ℕ) → bytes_eq text (codes "*") ≡ true → valued number_of (Ok top) ≡ found is_canonical_number is_limited_number (number_in text)
unfolding number_in
found_star text e = rw e refl

pub part_form : (text : List ℕ) (p : Part) → part_in text ≡ Some p → is_part p ≡ true
part_form text p e = (part_is text).holds p e
