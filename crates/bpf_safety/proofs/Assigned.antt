-- The visits, made one after another, are each what its label or the visit before gives.
use Rattle.std.proofs.Common.{◌≡◌, ℕ, zero, suc, ◌+◌, refl, ap, ◌∙◌, subst, arith, List, [], ◌∷◌, length, take, slice_get, Option, Some, None, is_some, option_and_then}
use Rattle.std.proofs.lemmas.Bool.{false≢true}
use Rattle.bpf_insn.specs.declared.instruction.Insn.{Insn}
use Rattle.bpf_insn.specs.Instruction.{Instructions, slots, slot_count}
use Rattle.bpf_cert.specs.View.{CertificateView}
use Rattle.bpf_safety.specs.Flow.{Arrival, Visit, visits_from, arrives}
use Rattle.bpf_safety.specs.Theorems.{passes, passed_before, VisitsAreAssigned}
use Rattle.bpf_safety.proofs.Basics.{some_is}
use Rattle.bpf_safety.proofs.Visits.{goes_on_with, slots-cons}

module _ (p : Instructions) (c : CertificateView) where
  -- what goes on to the visit k
  abbrev before : Option Arrival → List Visit → ℕ → Option Arrival
  before passed vs zero = passed
  before passed vs (suc k) = option_and_then (passes p c) (slice_get vs k)

  record IsFrom (slot : ℕ) (passed : Option Arrival) (is : List Insn) (vs : List Visit) (k : ℕ) (v : Visit) : Type 0 where
    pub insn_is : slice_get is k ≡ Some v.insn
    pub slot_is : v.slot ≡ slot + slots (take k is)
    pub arrival_is : v.arrival ≡ arrives c v.slot (before passed vs k)

  length_from : (slot : ℕ) (passed : Option Arrival) (is : List Insn) → length (visits_from p c slot passed is) ≡ length is
  length_from slot passed [] = refl
  length_from slot passed (i ∷ is) = ap suc (length_from (slot + slot_count i) (goes_on_with p c slot passed i) is)

  visit_from : (slot : ℕ) (passed : Option Arrival) (is : List Insn) (k : ℕ) (v : Visit) → slice_get (visits_from p c slot passed is) k ≡ Some v → IsFrom slot passed is (visits_from p c slot passed is) k v
  visit_from slot passed [] k v e = absurd (false≢true (ap is_some e))
  visit_from slot passed (i ∷ is) zero v e =
      let head : Visit = record { slot = slot; insn = i; arrival = arrives c slot passed } in
      subst (λ w. IsFrom slot passed (i ∷ is) (visits_from p c slot passed (i ∷ is)) zero w) (some_is head v e)
      (record { insn_is = refl; slot_is = omega arith; arrival_is = refl })
  visit_from slot passed (i ∷ is) (suc k) v e =
      let next = goes_on_with p c slot passed i in
      let later = visit_from (slot + slot_count i) next is k v e in
      let more = slots-cons i (take k is) in
      let at = later.slot_is in
      record { insn_is = later.insn_is; slot_is = omega arith; arrival_is = later.arrival_is ∙ ap (arrives c v.slot) (same k) }
    where
      same : (j : ℕ) → before (goes_on_with p c slot passed i) (visits_from p c (slot + slot_count i) (goes_on_with p c slot passed i) is) j ≡ before passed (visits_from p c slot passed (i ∷ is)) (suc j)
      same zero = refl
      same (suc j) = refl

pub visits_are_assigned : VisitsAreAssigned
visits_are_assigned p c = (
  length_from p c 0 None p.list,
  λ k v e. let r = visit_from p c 0 None p.list k v e in record { insn_is = r.insn_is; slot_is = r.slot_is ∙ omega arith; arrival_is = r.arrival_is ∙ ap (arrives c v.slot) (same k) },
)
  where
    same : (k : ℕ) → before p c None (visits_from p c 0 None p.list) k ≡ passed_before p c k
    same zero = refl
    same (suc k) = refl
