-- Certificates that differ in their first line alone: the version isn't looked at, and a range may be narrowed.
use Rattle.std.proofs.Common.{◌≡◌, ℕ, suc, ◌+◌, ◌≤◌, refl, sym, ap, ap₂, ◌∙◌, subst, arith, pos, neg_ℤ, int_le, int_lt, Bool, true, false, cond, not, ◌&&◌, ◌||◌, List, [], ◌∷◌, ◌++◌, Option, Some, None, is_some, is_none, option_and_then, Contains, flat_map, ⊎_elim, true≢false}
use Rattle.std.specs.Option.{option_to_list}
use Rattle.std.proofs.lemmas.Bool.{or_parts, and_parts}
use Rattle.std.proofs.lemmas.Int.{ints}
use Rattle.std.proofs.lemmas.List.Elements.{Contains-append_left, Contains-append_right, Contains-append_cases}
use Rattle.bpf_insn.specs.declared.instruction.Insn.{Insn}
use Rattle.bpf_insn.specs.declared.instruction.Insn.TheVariants.{CallLocal}
use Rattle.bpf_insn.specs.Instruction.{Instructions, slot_count}
use Rattle.bpf_state.specs.State.{AbstractState, first_state}
use Rattle.bpf_state.specs.Entails.{state_entails}
use Rattle.bpf_state.specs.Access.{Span, span_of, span_end, is_inside}
use Rattle.bpf_state.specs.Fault.{fault_of, some_passes, reads_any, has_wrong_kinds, makes_far_pointer, is_out_of_bounds, on_span, reads_unknown_byte, writes_protected}
use Rattle.bpf_cert.specs.View.{LabelView, CertificateView}
use Rattle.bpf_safety.specs.Labels.{label_at}
use Rattle.bpf_safety.specs.Budget.{budget, greatest_budget}
use Rattle.bpf_safety.specs.Flow.{Arrival, Visit, visits, visits_from, arrives, sound_arrival, passed_on}
use Rattle.bpf_safety.specs.Flaw.{number_if, at, lacks_label, numbers_of_arrival, numbers_of_visit, calls_no_deeper, is_never_reached, leaves_function, begins_elsewhere, begins_wrongly, starts_over_budget, function_flaws}
use Rattle.bpf_safety.specs.Certified.{Certified}
use Rattle.bpf_safety.specs.Theorems.{VersionIsFree, RangesInside}
use Rattle.bpf_safety.proofs.Facts.{is_right, begins_right, Contains-flat, Contains-from_flat}
use Rattle.bpf_safety.proofs.Visits.{goes_on_with}
use Rattle.bpf_safety.proofs.WellFormedLaw.{well_formed}
use Rattle.bpf_safety.proofs.StartRanges.{start_narrower, budget_narrower}

-- ---- a longer context has the bytes of a shorter one

not_true : (b : Bool) → not b ≡ false → b ≡ true
not_true true e = refl
not_true false e = absurd (true≢false e)

-- the lowest of five numbers
abbrev lowest_of : Bool → Bool → Bool → Bool → Bool → Option ℕ
lowest_of a b c d e = cond a (Some 3) (cond b (Some 4) (cond c (Some 5) (cond d (Some 6) (cond e (Some 7) None))))

later_none : (a b c c' d e : Bool) → (c ≡ false → c' ≡ false) → lowest_of a b c d e ≡ None → lowest_of a b c' d e ≡ None
later_none true b c c' d e h n = absurd (true≢false (ap is_some n))
later_none false true c c' d e h n = absurd (true≢false (ap is_some n))
later_none false false true c' d e h n = absurd (true≢false (ap is_some n))
later_none false false false c' d e h n = ap (λ t. lowest_of false false t d e) (h refl) ∙ n

inside_longer : (least least' : ℕ) (s : Span) → least ≤ least' → is_inside least s ≡ true → is_inside least' s ≡ true
inside_longer least least' s le h = by_frame s.in_frame h
  where
    frame : Bool
    frame = int_le (neg_ℤ (pos 512)) s.lowest && int_le (span_end s) (pos 0)

    by_frame : (b : Bool) → cond b frame (int_le (pos 0) s.lowest && int_le (span_end s) (pos least)) ≡ true → cond b frame (int_le (pos 0) s.lowest && int_le (span_end s) (pos least')) ≡ true
    by_frame true e = e
    by_frame false e =
        let t = and_parts (int_le (pos 0) s.lowest) (int_le (span_end s) (pos least)) e in
        let low = t.0 in
        let high = t.1 in
        let high' : int_le (span_end s) (pos least') ≡ true = grind (arith, ints) in
        ap (λ b. b && int_le (span_end s) (pos least')) low ∙ high'

fault_longer : (least least' : ℕ) (s : AbstractState) (i : Insn) → least ≤ least' → fault_of least s i ≡ None → fault_of least' s i ≡ None
fault_longer least least' s i le none =
    later_none (reads_any s i) (has_wrong_kinds s i) (is_out_of_bounds least s i) (is_out_of_bounds least' s i) (reads_unknown_byte s i) (writes_protected s i)
    (λ e. let t = or_parts (makes_far_pointer s i) (on_span s i (λ p. not (is_inside least p))) e in ap (λ b. b || on_span s i (λ p. not (is_inside least' p))) t.0 ∙ by_span (span_of s i) t.1)
    none
  where
    by_span : (o : Option Span) → some_passes (λ p. not (is_inside least p)) o ≡ false → some_passes (λ p. not (is_inside least' p)) o ≡ false
    by_span None e = refl
    by_span (Some p) e = ap not (inside_longer least least' p le (not_true (is_inside least p) e))

-- ---- another first line

module _ (p : Instructions) (c : CertificateView) (version least most : ℕ) (longer : c.least ≤ least) where
  abbrev other : CertificateView
  other = record c { version = version; least = least; most = most }

  abbrev at_slot : ℕ → Insn → Option Arrival → Visit
  at_slot slot i o = record { slot = slot; insn = i; arrival = o }

  same_passed : (slot : ℕ) (i : Insn) (a : Arrival) → passed_on p other slot i a ≡ passed_on p c slot i a
  same_passed slot (CallLocal off) a = refl
  same_passed slot i a = refl

  abbrev NoFault : Insn → Option Arrival → Type 0
  NoFault i o = (a : Arrival) → o ≡ Some a → fault_of c.least a.state i ≡ None

  same_next : (slot : ℕ) (i : Insn) (o : Option Arrival) → NoFault i o → option_and_then (passed_on p other slot i) (sound_arrival other i o) ≡ option_and_then (passed_on p c slot i) (sound_arrival c i o)
  same_next slot i None none = refl
  same_next slot i (Some a) none =
      let e = none a refl in
      let e' = fault_longer c.least least a.state i longer e in
      ap (λ o. option_and_then (passed_on p other slot i) (cond (is_none o) (Some a) None)) e' ∙ same_passed slot i a
      ∙ sym (ap (λ o. option_and_then (passed_on p c slot i) (cond (is_none o) (Some a) None)) e)

  -- ---- the same visits, with the same numbers

  behind : (v w : Visit) (vs : List Visit) → Contains vs v → Contains (w ∷ vs) v
  behind v w vs h = let lt = h.1 in (suc h.0, omega arith, h.2)

  same_from : (slot : ℕ) (passed : Option Arrival) (is : List Insn) → ((v : Visit) → Contains (visits_from p c slot passed is) v → NoFault v.insn v.arrival) → visits_from p other slot passed is ≡ visits_from p c slot passed is
  same_from slot passed [] none = refl
  same_from slot passed (i ∷ is) none =
      let v = at_slot slot i (arrives c slot passed) in
      let next = goes_on_with p c slot passed i in
      ap (λ vs. v ∷ vs)
      (ap (λ o. visits_from p other (slot + slot_count i) o is) (same_next slot i (arrives c slot passed) (none v (0, omega arith, refl)))
      ∙ same_from (slot + slot_count i) next is (λ w h. none w (behind w v (visits_from p c (slot + slot_count i) next is) h)))

  abbrev numbers_with : CertificateView → List ℕ → Visit → Option Arrival → List ℕ
  numbers_with k faults v o =
      number_if 1 (lacks_label k v) ++ faults ++ numbers_of_arrival p k v o
      ++ number_if 10 (calls_no_deeper k v) ++ number_if 11 (is_never_reached k v) ++ number_if 12 (leaves_function p k v)

  same_with : (faults : List ℕ) (slot : ℕ) (i : Insn) (o o' : Option Arrival) → numbers_with other faults (at_slot slot i o) o' ≡ numbers_with c faults (at_slot slot i o) o'
  same_with faults slot (CallLocal off) o None = refl
  same_with faults slot (CallLocal off) o (Some a) = refl
  same_with faults slot i o None = refl
  same_with faults slot i o (Some a) = refl

  same_numbers : (slot : ℕ) (i : Insn) (o : Option Arrival) → NoFault i o → numbers_of_visit p other (at_slot slot i o) ≡ numbers_of_visit p c (at_slot slot i o)
  same_numbers slot i None none = same_with [] slot i None None
  same_numbers slot i (Some a) none =
      let e = none a refl in
      let e' = fault_longer c.least least a.state i longer e in
      ap (λ o. numbers_with other (option_to_list o) (at_slot slot i (Some a)) (cond (is_none o) (Some a) None)) e' ∙ same_with [] slot i (Some a) (Some a)
      ∙ sym (ap (λ o. numbers_with c (option_to_list o) (at_slot slot i (Some a)) (cond (is_none o) (Some a) None)) e)

  -- ---- certified, where the start fits

  abbrev of_start : CertificateView → List (ℕ × ℕ)
  of_start k = at 0 (number_if 13 (begins_wrongly k) ++ number_if 9 (starts_over_budget k))

  abbrev of_visits : CertificateView → List (ℕ × ℕ)
  of_visits k = flat_map (λ v. at v.slot (numbers_of_visit p k v)) (visits p k)

  abbrev of_functions : CertificateView → List (ℕ × ℕ)
  of_functions k = flat_map (function_flaws p k) k.functions

  pub certified_other : Certified p c → begins_wrongly other ≡ false → starts_over_budget other ≡ false → Certified p other
  certified_other certified begins budget slot n flaw =
      ⊎_elim
      (λ h. ⊎_elim by_start by_visit (Contains-append_cases (of_start other) (of_visits other) (slot, n) h))
      (λ h. certified slot n (Contains-append_right (of_start c ++ of_visits c) (of_functions c) (slot, n) h))
      (Contains-append_cases (of_start other ++ of_visits other) (of_functions other) (slot, n) flaw)
    where
      by_start : Contains (of_start other) (slot, n) → ⊥
      by_start h =
          let none : of_start other ≡ [] = ap (λ b. at 0 (number_if 13 b ++ number_if 9 (starts_over_budget other))) begins ∙ ap (λ b. at 0 (number_if 9 b)) budget in
          let g = subst (λ xs. Contains xs (slot, n)) none h in
          let lt = g.1 in
          omega arith

      no_faults : (v : Visit) → Contains (visits p c) v → NoFault v.insn v.arrival
      no_faults v h = (is_right p c certified v h).no_fault

      by_visit : Contains (of_visits other) (slot, n) → ⊥
      by_visit h =
          let same = same_from 0 None p.list no_faults in
          let r = Contains-from_flat (λ v. at v.slot (numbers_of_visit p other v)) (visits p c) (slot, n) (subst (λ vs. Contains (flat_map (λ v. at v.slot (numbers_of_visit p other v)) vs) (slot, n)) same h) in
          let v = r.from in
          let has = subst (λ ns. Contains (at v.slot ns) (slot, n)) (same_numbers v.slot v.insn v.arrival (no_faults v r.is_element)) r.has in
          certified slot n
          (Contains-append_left (of_start c ++ of_visits c) (of_functions c) (slot, n)
          (Contains-append_right (of_start c) (of_visits c) (slot, n)
          (Contains-flat (λ v. at v.slot (numbers_of_visit p c v)) (visits p c) v (slot, n) r.is_element has)))

pub version_is_free : VersionIsFree
version_is_free p c version = (
  λ certified. let begins = begins_right p c certified in certified_other p c version c.least c.most (omega arith) certified begins.0 begins.1,
  λ certified. let begins = begins_right p (record c { version = version }) certified in certified_other p (record c { version = version }) c.version c.least c.most (omega arith) certified begins.0 begins.1,
)

pub ranges_inside : RangesInside
ranges_inside p c least most certificate certified low ordered high =
    let fits = (well_formed c certificate).short_context in
    let begins = begins_right p c certified in
    let first = or_parts (begins_elsewhere c.functions) (some_passes (λ l. not (state_entails (first_state c.least c.most) l.state)) (label_at c 0)) begins.0 in
    certified_other p c c.version least most low certified
    (ap₂ (λ x y. x || y) first.0 (entailed fits (label_at c 0) first.1))
    (paid fits (label_at c 0) begins.1)
  where
    entailed : c.most ≤ 4096 → (o : Option LabelView) → some_passes (λ l. not (state_entails (first_state c.least c.most) l.state)) o ≡ false → some_passes (λ l. not (state_entails (first_state least most) l.state)) o ≡ false
    entailed fits None e = refl
    entailed fits (Some l) e = ap not (start_narrower c.least least most c.most low ordered high fits l.state (not_true (state_entails (first_state c.least c.most) l.state) e))

    paid : c.most ≤ 4096 → (o : Option LabelView) → some_passes (λ l. some_passes (λ z. int_lt (pos c.steps) z) (greatest_budget (budget l) (first_state c.least c.most))) o ≡ false → some_passes (λ l. some_passes (λ z. int_lt (pos c.steps) z) (greatest_budget (budget l) (first_state least most))) o ≡ false
    paid fits None e = refl
    paid fits (Some l) e = budget_narrower c.least least most c.most low ordered high fits (budget l) c.steps e
