-- What is kept of the lines, one line later.
use Rattle.std.proofs.Common.{◌≡◌, ℕ, ◌+◌, ◌^◌, ◌<◌, ◌≤◌, Bool, true, false, cond, not, leb, ltb, List, ◌∷◌, Some, None, Ok, Err, refl, sym, ap, subst, ◌∙◌, arith}
use Rattle.std.specs.Prelude.{◌&&◌, decimal, count_by}
use Rattle.std.proofs.lemmas.Bool.{leb-true, ltb-true}
use Rattle.std.proofs.lemmas.List.Sums.{sum_by-cons}
use Rattle.bpf_cert.specs.Numeral.{number, is_from_to}
use Rattle.bpf_cert.specs.Line.{Line, Number, Term}
use Rattle.bpf_cert.specs.Faults.{is_canonical, is_limited, may_stand, is_in_order, has_room, is_function, is_label, ends_bare}
use Rattle.bpf_cert.specs.code.Standing.{Stands, ruled}
use Rattle.bpf_cert.specs.declared.finding.PartFault.TheVariants.{Syntax, NotCanonical, Limit}
use Rattle.bpf_cert.specs.declared.standing.Stage.TheVariants as stage
use Rattle.bpf_cert.specs.declared.standing.Standing.{Standing}
use Rattle.bpf_cert.proofs.Bools.{both_true}
use Rattle.bpf_cert.proofs.NumeralLaws.{numeral-decimal}

-- what is known of a line that is refused for nothing
pub record IsFine (before : List Line) (l : Line) : Type 0 where
  pub stands : may_stand before l ≡ true
  pub canonical : is_canonical l ≡ true
  pub order : is_in_order before l ≡ true
  pub limited : is_limited l ≡ true
  pub room : has_room before l ≡ true

pub ruled_fine : (before : List Line) (l m : Line) → ruled before (Some l) ≡ Ok m → IsFine before l
ruled_fine before l m e = by_tests (may_stand before l) (is_canonical l && is_in_order before l) (is_limited l && has_room before l) refl refl refl e
  where
    by_tests : (a b c : Bool) → may_stand before l ≡ a → (is_canonical l && is_in_order before l) ≡ b → (is_limited l && has_room before l) ≡ c
        → cond (not a) (Err Syntax) (cond (not b) (Err NotCanonical) (cond (not c) (Err Limit) (Ok l))) ≡ Ok m → IsFine before l
    by_tests true true true f g h e = let x = both_true (is_canonical l) (is_in_order before l) g in let y = both_true (is_limited l) (has_room before l) h in record { stands = f; canonical = x.0; order = x.1; limited = y.0; room = y.1 }
    by_tests true true false f g h e = cc
    by_tests true false c f g h e = cc
    by_tests false b c f g h e = cc

pub few_functions : (before : List Line) (s : Standing) (f d : List ℕ) (r : Number) (m : Line) → Stands before s → ruled before (Some (Line.function f d r)) ≡ Ok m → s.functions < 256
few_functions before s f d r m st e = let fine = ruled_fine before (Line.function f d r) m e in
    let room = both_true (ltb (count_by is_function before) 256) (not (ends_bare before)) fine.room in
    subst (λ n. n < 256) (sym st.functions) (ltb-true (count_by is_function before) 256 room.0)

pub few_labels : (before : List Line) (s : Standing) (a b : List ℕ) (ts : List Term) (m : Line) → Stands before s → ruled before (Some (Line.label a b ts)) ≡ Ok m → s.labels < 65536
few_labels before s a b ts m st e = let fine = ruled_fine before (Line.label a b ts) m e in subst (λ n. n < 65536) (sym st.labels) (ltb-true (count_by is_label before) 65536 fine.room)

plus_one : (k : ℕ) → k + 1 ≡ 1 + k
plus_one k = omega arith

pub stands_function : (before : List Line) (s : Standing) (first : ℕ) (d : List ℕ) (r : Number) (m : Line) (n : ℕ) → first < 2 ^ 32 → Stands before s → ruled before (Some (Line.function (decimal first) d r)) ≡ Ok m → n ≡ s.functions + 1
    → Stands (Line.function (decimal first) d r ∷ before) (record { stage = stage.Function; first = Some first; slot = None; place = None; functions = n; labels = s.labels })
stands_function before s first d r m n small st e more =
    let fine = ruled_fine before (Line.function (decimal first) d r) m e in
    let same = (numeral-decimal first (omega arith)).1 in
    let limits = both_true (leb (number (decimal first)) 65535 && is_from_to 1 8 (number d)) _ fine.limited in
    let low = both_true (leb (number (decimal first)) 65535) (is_from_to 1 8 (number d)) limits.0 in
    record {
      stage = refl;
      first = ap Some (sym same);
      slot = refl;
      place = refl;
      functions = more ∙ ap (λ k. k + 1) st.functions ∙ plus_one (count_by is_function before) ∙ sym (sum_by-cons (λ x. cond (is_function x) 1 0) (Line.function (decimal first) d r) before);
      labels = st.labels;
      low_first = subst (λ k. k ≤ 65535) same (leb-true (number (decimal first)) 65535 low.0);
      low_slot = tt;
      low_place = tt;
    }

pub stands_label : (before : List Line) (s : Standing) (slot : ℕ) (b : List ℕ) (ts : List Term) (m : Line) (n : ℕ) → slot < 2 ^ 32 → Stands before s → ruled before (Some (Line.label (decimal slot) b ts)) ≡ Ok m → n ≡ s.labels + 1
    → Stands (Line.label (decimal slot) b ts ∷ before) (record { stage = stage.Label; first = s.first; slot = Some slot; place = None; functions = s.functions; labels = n })
stands_label before s slot b ts m n small st e more =
    let fine = ruled_fine before (Line.label (decimal slot) b ts) m e in
    let same = (numeral-decimal slot (omega arith)).1 in
    let outer = both_true _ _ fine.limited in
    let inner = both_true _ _ outer.0 in
    let low = both_true (leb (number (decimal slot)) 65535) (leb (number b) (2 ^ 40)) inner.0 in
    record {
      stage = refl;
      first = st.first;
      slot = ap Some (sym same);
      place = refl;
      functions = st.functions;
      labels = more ∙ ap (λ k. k + 1) st.labels ∙ plus_one (count_by is_label before) ∙ sym (sum_by-cons (λ x. cond (is_label x) 1 0) (Line.label (decimal slot) b ts) before);
      low_first = st.low_first;
      low_slot = subst (λ k. k ≤ 65535) same (leb-true (number (decimal slot)) 65535 low.0);
      low_place = tt;
    }
