-- The work of a certified program is what its visits make, and comparisons are few.
use Rattle.std.proofs.Common.{◌≡◌, ℕ, suc, ◌+◌, ◌*◌, ◌≤◌, refl, ap, ◌∙◌, arith, Bool, true, false, not, ◌&&◌, List, [], ◌∷◌, length, Option, Some, None, is_some, is_none, Contains, flat_map, option_and_then, cond, sum_by, count_by, nat_le, length-append, true≢false}
use Rattle.std.proofs.lemmas.Bool.{false≢true, or_parts}
use Rattle.std.proofs.lemmas.Bool.Decides.{nat_tests}
use Rattle.std.proofs.lemmas.List.Sums.{sum_by-cons, sum_by-append}
use Rattle.bpf_insn.specs.declared.instruction.Insn.{Insn}
use Rattle.bpf_insn.specs.declared.instruction.Insn.TheVariants.{CallLocal, Exit}
use Rattle.bpf_insn.specs.Instruction.{Instructions, slot_count, target}
use Rattle.bpf_state.specs.State.{AbstractState, tightened}
use Rattle.bpf_state.specs.Fault.{some_passes}
use Rattle.bpf_cert.specs.View.{LabelView, FunctionView, CertificateView}
use Rattle.bpf_safety.specs.Labels.{label_at, function_at, function_from, last_from}
use Rattle.bpf_safety.specs.Flow.{Arrival, Visit, visits, visits_from, arrives, callee, sound_arrival, jump_target, jump_state, next_state}
use Rattle.bpf_safety.specs.Flaw.{Edge, edge_to, edges, begins_elsewhere, has_refused_label, calls_nowhere}
use Rattle.bpf_safety.specs.Certified.{Certified}
use Rattle.bpf_safety.specs.Work.{leads_into_label, edges_from, live_edges, is_call, is_exit, one_if, compared_at_start, enters_label, returns_result, compared_at, transferred_at}
use Rattle.bpf_safety.specs.Theorems.{WorkIs, CertifiedWork, ComparisonsAreFew}
use Rattle.bpf_safety.proofs.Here.{IsWellFormed, Reaches}
use Rattle.bpf_safety.proofs.Facts.{is_right, is_right_label, begins_right, first_label, from_function, label_at_first}
use Rattle.bpf_safety.proofs.Visits.{begins, is_visited, goes_on, goes_on_with}
use Rattle.bpf_safety.proofs.WellFormedLaw.{well_formed}

-- ---- counts

counted : {X : Type 0} (test : X → Bool) (xs : List X) → count_by test xs ≤ length xs
counted test [] = omega arith
counted test (x ∷ xs) =
    let all = sum_by-cons (λ x. one_if (test x)) x xs in
    let rest = counted test xs in
    by_test (test x) all rest
  where
    by_test : (b : Bool) → count_by test (x ∷ xs) ≡ one_if b + count_by test xs → count_by test xs ≤ length xs → count_by test (x ∷ xs) ≤ suc (length xs)
    by_test true all rest = omega arith
    by_test false all rest = omega arith

one_edge : (to : Option ℕ) (s : Option AbstractState) → length (edge_to to s) ≤ 1
one_edge (Some slot) (Some s) = omega arith
one_edge None s = omega arith
one_edge (Some slot) None = omega arith

module _ (p : Instructions) (c : CertificateView) where
  abbrev at_slot : ℕ → Insn → Option Arrival → Visit
  at_slot slot i o = record { slot = slot; insn = i; arrival = o }

  abbrev into_labels : List Edge → ℕ
  into_labels es = count_by (leads_into_label c) es

  -- ---- at most two at an instruction

  two_edges : (slot : ℕ) (i : Insn) (o : Option Arrival) (a : Arrival) → length (edges p c (at_slot slot i o) a) + one_if (is_call i) + one_if (is_exit i) ≤ 2
  two_edges slot (CallLocal off) o a = let e = one_edge (Some (slot + slot_count (CallLocal off))) (next_state p c slot (CallLocal off) a.state) in omega arith
  two_edges slot Exit o a = omega arith
  two_edges slot i o a =
      let jump = edge_to (jump_target slot i) (jump_state slot i a.state) in
      let next = edge_to (Some (slot + slot_count i)) (next_state p c slot i a.state) in
      let e = one_edge (jump_target slot i) (jump_state slot i a.state) in
      let f = one_edge (Some (slot + slot_count i)) (next_state p c slot i a.state) in
      let g = length-append jump next in
      omega arith

  call_or_exit : (i : Insn) → one_if (is_call i) + one_if (is_exit i) ≤ 1
  call_or_exit (CallLocal off) = omega arith
  call_or_exit Exit = omega arith
  call_or_exit i = omega arith

  few_at : (slot : ℕ) (i : Insn) (o o' : Option Arrival) → into_labels (edges_from p c (at_slot slot i o) o') + one_if (is_call i) + one_if (is_exit i) ≤ 2
  few_at slot i o None = let e = call_or_exit i in omega arith
  few_at slot i o (Some a) =
      let e = counted (leads_into_label c) (edges p c (at_slot slot i o) a) in
      let f = two_edges slot i o a in
      omega arith

  few_from : (slot : ℕ) (passed : Option Arrival) (is : List Insn) → into_labels (flat_map (live_edges p c) (visits_from p c slot passed is)) + count_by is_call is + count_by is_exit is ≤ 2 * length is
  few_from slot passed [] = omega arith
  few_from slot passed (i ∷ is) =
      let here = arrives c slot passed in
      let next = goes_on_with p c slot passed i in
      let later = few_from (slot + slot_count i) next is in
      let now = few_at slot i here (sound_arrival c i here) in
      let all = sum_by-append (λ e. one_if (leads_into_label c e)) (live_edges p c (at_slot slot i here)) (flat_map (live_edges p c) (visits_from p c (slot + slot_count i) next is)) in
      let calls = sum_by-cons (λ i. one_if (is_call i)) i is in
      let exits = sum_by-cons (λ i. one_if (is_exit i)) i is in
      omega arith

  -- ---- what a certified program's visits make

  module _ (certified : Certified p c) (well : IsWellFormed c) where
    is_reached : (v : Visit) → Contains (visits p c) v → is_some v.arrival ≡ true
    is_reached v h = by_arrival v.arrival (has_refused_label c v) (is_right p c certified v h).reached (not_refused (label_at c v.slot) refl)
      where
        not_refused : (o : Option LabelView) → label_at c v.slot ≡ o → some_passes (λ l. is_none (tightened l.state)) o ≡ false
        not_refused None e = refl
        not_refused (Some l) e = (is_right_label p c certified v.slot l e).tightens

        by_arrival : (o : Option Arrival) (refused : Bool) → is_none o && not refused ≡ false → refused ≡ false → is_some o ≡ true
        by_arrival (Some a) refused e f = refl
        by_arrival None true e f = absurd (true≢false f)
        by_arrival None false e f = absurd (true≢false e)

    -- a CALL's callee has a label at its first
    enters : (slot : ℕ) (i : Insn) (o : Option Arrival) → Contains (visits p c) (at_slot slot i o) → enters_label c (at_slot slot i o) ≡ is_call i
    enters slot (CallLocal off) o h = by_callee (callee c slot (CallLocal off)) refl (or_parts _ (calls_nowhere c (at_slot slot (CallLocal off) o) (CallLocal off)) (is_right p c certified (at_slot slot (CallLocal off) o) h).stays).1
      where
        by_callee : (f : Option FunctionView) → callee c slot (CallLocal off) ≡ f → is_none f ≡ false → is_some (option_and_then (λ g. label_at c g.first) f) ≡ true
        by_callee None e there = absurd (true≢false there)
        by_callee (Some g) e there = ap is_some (label_at_first p c certified well.one_each g (called (target slot off) g e)).1
          where
            called : (t : Option ℕ) (g : FunctionView) → option_and_then (function_from c) t ≡ Some g → Contains c.functions g
            called None g e = absurd (false≢true (ap is_some e))
            called (Some to) g e = (from_function p c certified to g e).0
    enters slot i o h = refl

    -- each slot has a function
    has_function : (slot : ℕ) → is_some (function_at c slot) ≡ true
    has_function slot = by_functions c.functions (or_parts (begins_elsewhere c.functions) _ (begins_right p c certified).0).0
      where
        some_last : (f : FunctionView) (fs : List FunctionView) → is_some (last_from (Some f) slot fs) ≡ true
        some_last f [] = refl
        some_last f (g ∷ gs) = by_test (nat_le g.first slot) (some_last g gs)
          where
            by_test : (b : Bool) → is_some (last_from (Some g) slot gs) ≡ true → is_some (cond b (last_from (Some g) slot gs) (Some f)) ≡ true
            by_test true h = h
            by_test false h = refl

        by_functions : (fs : List FunctionView) → begins_elsewhere fs ≡ false → is_some (last_from None slot fs) ≡ true
        by_functions [] e = absurd (true≢false e)
        by_functions (f ∷ fs) e =
            let low : nat_le f.first slot ≡ true = grind (arith, nat_tests) in
            ap (λ b. is_some (cond b (last_from (Some f) slot fs) None)) low ∙ some_last f fs

    returns : (slot : ℕ) (i : Insn) (o : Option Arrival) → returns_result c (at_slot slot i o) i ≡ is_exit i
    returns slot Exit o = has_function slot
    returns slot i o = refl

    made : (slot : ℕ) (i : Insn) (o : Option Arrival) → Contains (visits p c) (at_slot slot i o) → compared_at p c (at_slot slot i o) ≡ into_labels (live_edges p c (at_slot slot i o)) + one_if (is_call i) + one_if (is_exit i)
    made slot i None h = absurd (false≢true (is_reached (at_slot slot i None) h))
    made slot i (Some a) h =
        let calls = ap one_if (enters slot i (Some a) h) in
        let exits = ap one_if (returns slot i (Some a)) in
        omega arith

    abbrev Made : List Insn → List Visit → Type 0
    Made is vs = (sum_by transferred_at vs ≡ length is) × (sum_by (compared_at p c) vs ≡ into_labels (flat_map (live_edges p c) vs) + count_by is_call is + count_by is_exit is)

    made_from : (slot : ℕ) (passed : Option Arrival) (is : List Insn) → Reaches p c slot passed is → Made is (visits_from p c slot passed is)
    made_from slot passed [] r = (refl, refl)
    made_from slot passed (i ∷ is) r =
        let here = arrives c slot passed in
        let v = at_slot slot i here in
        let next = goes_on_with p c slot passed i in
        let vs = visits_from p c (slot + slot_count i) next is in
        let later = made_from (slot + slot_count i) next is (goes_on p c slot passed i is r) in
        let sums = later.0 in
        let sums' = later.1 in
        let there = is_visited p c slot passed i is r in
        let one = ap one_if (is_reached v there) in
        let now = made slot i here there in
        let transfers = sum_by-cons transferred_at v vs in
        let all = sum_by-cons (compared_at p c) v vs in
        let edges' = sum_by-append (λ e. one_if (leads_into_label c e)) (live_edges p c v) (flat_map (live_edges p c) vs) in
        let calls = sum_by-cons (λ i. one_if (is_call i)) i is in
        let exits = sum_by-cons (λ i. one_if (is_exit i)) i is in
        (omega arith, omega arith)

    work_is : WorkIs p c
    work_is =
        let all = made_from 0 None p.list (begins p c) in
        let sums = all.1 in
        let l = first_label p c certified in
        let begun : compared_at_start c ≡ 1 = ap (λ o. one_if (is_some o)) l.1 in
        record { transferred = all.0; compared = omega arith }

pub certified_work : CertifiedWork
certified_work p c certificate certified = work_is p c certified (well_formed c certificate)

pub comparisons_are_few : ComparisonsAreFew
comparisons_are_few p c = let few = few_from p c 0 None p.list in omega arith
