-- The pass over the visits: what is still to be visited, and the flaws there.
use Rattle.std.proofs.Common.{◌≡◌, ℕ, zero, suc, ◌+◌, ◌<◌, ◌≤◌, List, [], ◌∷◌, ◌++◌, length, get_or, Option, Some, None, refl, sym, ap, subst, ◌∙◌, arith, lit≤, append_assoc, length-append}
use mathlib.Core.Logic.{inl, ⊎_elim}
use Rattle.std.specs.List.{Contains, flat_map}
use Rattle.std.proofs.lemmas.Option.{none-some, same_Some}
use Rattle.std.proofs.lemmas.List.Elements.{Contains-append_left, Contains-append_cases}
use Rattle.bpf_insn.specs.declared.instruction.Insn.{Insn}
use Rattle.bpf_insn.specs.declared.instruction.Insn.TheVariants.{Alu, Neg, MovSx, End, LoadImm64, Load, LoadSx, Store, StoreImm, Atomic, Ja, JaLong, JumpIf, CallLocal, Exit}
use Rattle.bpf_insn.specs.Instruction.{Instructions, slots, slots_of, slot_count, layout, insn_at}
use Rattle.bpf_cert.specs.View.{CertificateView}
use Rattle.bpf_safety.specs.Flow.{Arrival, visits, visits_from}
use Rattle.bpf_safety.specs.Flaw.{at, numbers_of_visit}
use Rattle.std.proofs.lemmas.Grind.{flat_map-append}
use Rattle.std.proofs.lemmas.List.{append-nil}
use Rattle.bpf_check.specs.code.Least.{IsLeastIn}
use Rattle.bpf_check.specs.code.Visits.{passed_after, visit_of, visit_flaws}
use Rattle.bpf_check.specs.code.Counting.{if_faultless, worked_at, worked_through, worked_in_pass}
use Rattle.bpf_state.specs.Work.{Counts}
use Rattle.bpf_check.proofs.LeastLemmas.{least_right}

-- the flaws of the visits that are still to come
abbrev pub flaws_from : Instructions → CertificateView → ℕ → Option Arrival → List Insn → List (ℕ × ℕ)
flaws_from p c slot o is = flat_map (visit_flaws p c) (visits_from p c slot o is)

at_slot : (slot : ℕ) (ns : List ℕ) (a : ℕ × ℕ) (k : ℕ) → k < length (at slot ns) → get_or (at slot ns) k a ≡ a → a.0 ≡ slot
at_slot slot [] a k h e = absurd (omega arith)
at_slot slot (n ∷ ns) a zero h e = ap (λ x. x.0) (sym e)
at_slot slot (n ∷ ns) a (suc k) h e = at_slot slot ns a k (omega arith) e

slot_of_flaw : (slot : ℕ) (ns : List ℕ) (a : ℕ × ℕ) → Contains (at slot ns) a → a.0 ≡ slot
slot_of_flaw slot ns a m = at_slot slot ns a m.0 m.1 m.2

none_in_nil : (a : ℕ × ℕ) → Contains [] a → ⊥
none_in_nil a m = let h = m.1 in omega arith

from_slot : (p : Instructions) (c : CertificateView) (slot : ℕ) (o : Option Arrival) (is : List Insn) (a : ℕ × ℕ) → Contains (flaws_from p c slot o is) a → slot ≤ a.0
from_slot p c slot o [] a m = absurd (none_in_nil a m)
from_slot p c slot o (i ∷ is) a m =
    ⊎_elim (λ l. let e = slot_of_flaw slot (numbers_of_visit p c (visit_of c slot i o)) a l in omega arith)
    (λ r. let h = from_slot p c (slot + slot_count i) (passed_after p c slot i o) is a r in omega arith)
    (Contains-append_cases (visit_flaws p c (visit_of c slot i o)) (flaws_from p c (slot + slot_count i) (passed_after p c slot i o) is) a m)

pub one_slot : (i : Insn) → 1 ≤ slot_count i
one_slot (Alu op width dst src) = lit≤ tt
one_slot (Neg width dst) = lit≤ tt
one_slot (MovSx width bits dst src) = lit≤ tt
one_slot (End kind bits dst) = lit≤ tt
one_slot (LoadImm64 dst value) = lit≤ tt
one_slot (Load size dst src off) = lit≤ tt
one_slot (LoadSx size dst src off) = lit≤ tt
one_slot (Store size dst off src) = lit≤ tt
one_slot (StoreImm size dst off imm) = lit≤ tt
one_slot (Atomic wide op dst off src) = lit≤ tt
one_slot (Ja off) = lit≤ tt
one_slot (JaLong off) = lit≤ tt
one_slot (JumpIf cond width dst src off) = lit≤ tt
one_slot (CallLocal off) = lit≤ tt
one_slot Exit = lit≤ tt

-- the least flaw of an instruction is the least from there on
least_first : (p : Instructions) (c : CertificateView) (slot : ℕ) (o : Option Arrival) (i : Insn) (is : List Insn) (a : ℕ × ℕ) → IsLeastIn (visit_flaws p c (visit_of c slot i o)) (Some a) → IsLeastIn (flaws_from p c slot o (i ∷ is)) (Some a)
least_first p c slot o i is a h = (
  Contains-append_left (visit_flaws p c (visit_of c slot i o)) (flaws_from p c (slot + slot_count i) (passed_after p c slot i o) is) a h.0,
  λ b m. ⊎_elim (λ l. h.1 b l) (λ r. inl (later b r)) (Contains-append_cases (visit_flaws p c (visit_of c slot i o)) (flaws_from p c (slot + slot_count i) (passed_after p c slot i o) is) b m),
)
  where
    later : (b : ℕ × ℕ) → Contains (flaws_from p c (slot + slot_count i) (passed_after p c slot i o) is) b → a.0 < b.0
    later b m =
        let e = slot_of_flaw slot (numbers_of_visit p c (visit_of c slot i o)) a h.0 in
        let f = from_slot p c (slot + slot_count i) (passed_after p c slot i o) is b m in
        let one = one_slot i in
        omega arith

-- ---- where an instruction stands

at_end : {A : Type 0} (xs ys : List A) (d : A) → get_or (xs ++ ys) (length xs) d ≡ get_or ys 0 d
at_end [] ys d = refl
at_end (x ∷ xs) ys d = at_end xs ys d

first_insn : (i : Insn) (is : List Insn) → get_or (layout (i ∷ is)) 0 None ≡ Some i
first_insn (Alu op width dst src) is = refl
first_insn (Neg width dst) is = refl
first_insn (MovSx width bits dst src) is = refl
first_insn (End kind bits dst) is = refl
first_insn (LoadImm64 dst value) is = refl
first_insn (Load size dst src off) is = refl
first_insn (LoadSx size dst src off) is = refl
first_insn (Store size dst off src) is = refl
first_insn (StoreImm size dst off imm) is = refl
first_insn (Atomic wide op dst off src) is = refl
first_insn (Ja off) is = refl
first_insn (JaLong off) is = refl
first_insn (JumpIf cond width dst src off) is = refl
first_insn (CallLocal off) is = refl
first_insn Exit is = refl

insn_after : (done rest : List Insn) → insn_at (done ++ rest) (slots done) ≡ get_or (layout rest) 0 None
insn_after done rest = ap (λ l. get_or l (slots done) None) (flat_map-append slots_of done rest) ∙ at_end (layout done) (layout rest) None

slots_after : (done : List Insn) (i : Insn) → slots (done ++ i ∷ []) ≡ slots done + slot_count i
slots_after done i = ap length (flat_map-append slots_of done (i ∷ []) ∙ ap (λ l. layout done ++ l) (append-nil (slots_of i))) ∙ length-append (layout done) (slots_of i)

-- ---- the work of the visits that are still to come

no_numbers : (slot : ℕ) (ns : List ℕ) → IsLeastIn (at slot ns) None → ns ≡ []
no_numbers slot [] none = refl
no_numbers slot (n ∷ ns) none = absurd (none (slot, n) (0, omega arith, refl))

some_number : (slot : ℕ) (ns : List ℕ) (a : ℕ × ℕ) (onward here : Counts) → IsLeastIn (at slot ns) (Some a) → if_faultless ns onward here ≡ here
some_number slot [] a onward here h = absurd (none_in_nil a h.0)
some_number slot (n ∷ ns) a onward here h = refl

abbrev worked_from : Instructions → CertificateView → ℕ → Option Arrival → List Insn → Counts → Counts
worked_from p c slot o is work = worked_through p c (visits_from p c slot o is) work

goes_on : (p : Instructions) (c : CertificateView) (slot : ℕ) (o : Option Arrival) (i : Insn) (is : List Insn) (work : Counts) → IsLeastIn (visit_flaws p c (visit_of c slot i o)) None → worked_from p c slot o (i ∷ is) work ≡ worked_from p c (slot + slot_count i) (passed_after p c slot i o) is (worked_at p c (visit_of c slot i o) work)
goes_on p c slot o i is work none =
    ap (λ ns. if_faultless ns (worked_from p c (slot + slot_count i) (passed_after p c slot i o) is (worked_at p c (visit_of c slot i o) work)) (worked_at p c (visit_of c slot i o) work)) (no_numbers slot (numbers_of_visit p c (visit_of c slot i o)) none)

stops : (p : Instructions) (c : CertificateView) (slot : ℕ) (o : Option Arrival) (i : Insn) (is : List Insn) (work : Counts) (a : ℕ × ℕ) → IsLeastIn (visit_flaws p c (visit_of c slot i o)) (Some a) → worked_from p c slot o (i ∷ is) work ≡ worked_at p c (visit_of c slot i o) work
stops p c slot o i is work a h = some_number slot (numbers_of_visit p c (visit_of c slot i o)) a (worked_from p c (slot + slot_count i) (passed_after p c slot i o) is (worked_at p c (visit_of c slot i o) work)) (worked_at p c (visit_of c slot i o) work) h

-- ---- the pass at a slot: what was done, what is still to be visited, and that all flaws are there, and all work

pub record IsAt (p : Instructions) (c : CertificateView) (first : Counts) (slot : ℕ) (o : Option Arrival) (work : Counts) : Type 0 where
  pub done : List Insn
  pub rest : List Insn
  pub split : p.list ≡ done ++ rest
  pub here : slot ≡ slots done
  pub flaws : (r : Option (ℕ × ℕ)) → IsLeastIn (flaws_from p c slot o rest) r → IsLeastIn (flat_map (visit_flaws p c) (visits p c)) r
  pub worked : worked_in_pass p c first ≡ worked_from p c slot o rest work

pub at_start : (p : Instructions) (c : CertificateView) (first : Counts) → IsAt p c first 0 None first
at_start p c first = record { done = []; rest = p.list; split = refl; here = refl; flaws = λ r h. h; worked = refl }

stands : (p : Instructions) (c : CertificateView) (first : Counts) (slot : ℕ) (o : Option Arrival) (work : Counts) (w : IsAt p c first slot o work) → insn_at p.list slot ≡ get_or (layout w.rest) 0 None
stands p c first slot o work w = ap (λ l. insn_at l slot) w.split ∙ ap (insn_at (w.done ++ w.rest)) w.here ∙ insn_after w.done w.rest

abbrev with_rest : (p : Instructions) (c : CertificateView) (slot : ℕ) (o : Option Arrival) → List Insn → Type 0
with_rest p c slot o rest = (r : Option (ℕ × ℕ)) → IsLeastIn (flaws_from p c slot o rest) r → IsLeastIn (flat_map (visit_flaws p c) (visits p c)) r

step_rest : (p : Instructions) (c : CertificateView) (first : Counts) (slot : ℕ) (o o' : Option Arrival) (work work' : Counts) (i : Insn) (done rest : List Insn) → Some i ≡ get_or (layout rest) 0 None → p.list ≡ done ++ rest → slot ≡ slots done → with_rest p c slot o rest → worked_in_pass p c first ≡ worked_from p c slot o rest work → IsLeastIn (visit_flaws p c (visit_of c slot i o)) None → o' ≡ passed_after p c slot i o → work' ≡ worked_at p c (visit_of c slot i o) work → IsAt p c first (slot + slot_count i) o' work'
step_rest p c first slot o o' work work' i done [] stand split here flaws worked none passes counts = absurd (none-some i (sym stand))
step_rest p c first slot o o' work work' i done (j ∷ js) stand split here flaws worked none passes counts =
    let same : i ≡ j = same_Some i j (stand ∙ first_insn j js) in
    record {
      done = done ++ i ∷ [];
      rest = js;
      split = split ∙ ap (λ k. done ++ k ∷ js) (sym same) ∙ sym (append_assoc done (i ∷ []) js);
      here = ap (λ n. n + slot_count i) here ∙ sym (slots_after done i);
      flaws = λ r h. flaws r (subst (λ k. IsLeastIn (flaws_from p c slot o (k ∷ js)) r) same (least_right (visit_flaws p c (visit_of c slot i o)) (flaws_from p c (slot + slot_count i) (passed_after p c slot i o) js) r none (subst (λ q. IsLeastIn (flaws_from p c (slot + slot_count i) q js) r) passes h)));
      worked = worked ∙ ap (λ k. worked_from p c slot o (k ∷ js) work) (sym same) ∙ goes_on p c slot o i js work none ∙ ap (λ q. worked_from p c (slot + slot_count i) q js (worked_at p c (visit_of c slot i o) work)) (sym passes) ∙ ap (worked_from p c (slot + slot_count i) o' js) (sym counts);
    }

pub at_next : (p : Instructions) (c : CertificateView) (first : Counts) (slot : ℕ) (o o' : Option Arrival) (work work' : Counts) (i : Insn) → IsAt p c first slot o work → Some i ≡ insn_at p.list slot → IsLeastIn (visit_flaws p c (visit_of c slot i o)) None → o' ≡ passed_after p c slot i o → work' ≡ worked_at p c (visit_of c slot i o) work → IsAt p c first (slot + slot_count i) o' work'
at_next p c first slot o o' work work' i w stand none passes counts = step_rest p c first slot o o' work work' i w.done w.rest (stand ∙ stands p c first slot o work w) w.split w.here w.flaws w.worked none passes counts

-- ---- a flaw is found

stop_rest : (p : Instructions) (c : CertificateView) (slot : ℕ) (o : Option Arrival) (i : Insn) (rest : List Insn) (a : ℕ × ℕ) → Some i ≡ get_or (layout rest) 0 None → with_rest p c slot o rest → IsLeastIn (visit_flaws p c (visit_of c slot i o)) (Some a) → IsLeastIn (flat_map (visit_flaws p c) (visits p c)) (Some a)
stop_rest p c slot o i [] a stand flaws h = absurd (none-some i (sym stand))
stop_rest p c slot o i (j ∷ js) a stand flaws h =
    let same : i ≡ j = same_Some i j (stand ∙ first_insn j js) in
    flaws (Some a) (subst (λ k. IsLeastIn (flaws_from p c slot o (k ∷ js)) (Some a)) same (least_first p c slot o i js a h))

pub at_flaw : (p : Instructions) (c : CertificateView) (first : Counts) (slot : ℕ) (o : Option Arrival) (work : Counts) (i : Insn) (a : ℕ × ℕ) → IsAt p c first slot o work → Some i ≡ insn_at p.list slot → IsLeastIn (visit_flaws p c (visit_of c slot i o)) (Some a) → IsLeastIn (flat_map (visit_flaws p c) (visits p c)) (Some a)
at_flaw p c first slot o work i a w stand h = stop_rest p c slot o i w.rest a (stand ∙ stands p c first slot o work w) w.flaws h

stop_work : (p : Instructions) (c : CertificateView) (slot : ℕ) (o : Option Arrival) (work : Counts) (i : Insn) (rest : List Insn) (a : ℕ × ℕ) → Some i ≡ get_or (layout rest) 0 None → IsLeastIn (visit_flaws p c (visit_of c slot i o)) (Some a) → worked_from p c slot o rest work ≡ worked_at p c (visit_of c slot i o) work
stop_work p c slot o work i [] a stand h = absurd (none-some i (sym stand))
stop_work p c slot o work i (j ∷ js) a stand h = ap (λ k. worked_from p c slot o (k ∷ js) work) (sym (same_Some i j (stand ∙ first_insn j js))) ∙ stops p c slot o i js work a h

pub work_at_flaw : (p : Instructions) (c : CertificateView) (first : Counts) (slot : ℕ) (o : Option Arrival) (work work' : Counts) (i : Insn) (a : ℕ × ℕ) → IsAt p c first slot o work → Some i ≡ insn_at p.list slot → IsLeastIn (visit_flaws p c (visit_of c slot i o)) (Some a) → work' ≡ worked_at p c (visit_of c slot i o) work → work' ≡ worked_in_pass p c first
work_at_flaw p c first slot o work work' i a w stand h counts = counts ∙ sym (w.worked ∙ stop_work p c slot o work i w.rest a (stand ∙ stands p c first slot o work w) h)

-- ---- the end

end_rest : (p : Instructions) (c : CertificateView) (slot : ℕ) (o : Option Arrival) (rest : List Insn) → None ≡ get_or (layout rest) 0 None → with_rest p c slot o rest → IsLeastIn (flat_map (visit_flaws p c) (visits p c)) None
end_rest p c slot o [] stand flaws = flaws None (λ a m. none_in_nil a m)
end_rest p c slot o (j ∷ js) stand flaws = absurd (none-some j (stand ∙ first_insn j js))

pub at_last : (p : Instructions) (c : CertificateView) (first : Counts) (slot : ℕ) (o : Option Arrival) (work : Counts) → IsAt p c first slot o work → None ≡ insn_at p.list slot → IsLeastIn (flat_map (visit_flaws p c) (visits p c)) None
at_last p c first slot o work w stand = end_rest p c slot o w.rest (stand ∙ stands p c first slot o work w) w.flaws

end_work : (p : Instructions) (c : CertificateView) (slot : ℕ) (o : Option Arrival) (work : Counts) (rest : List Insn) → None ≡ get_or (layout rest) 0 None → worked_from p c slot o rest work ≡ work
end_work p c slot o work [] stand = refl
end_work p c slot o work (j ∷ js) stand = absurd (none-some j (stand ∙ first_insn j js))

pub work_at_last : (p : Instructions) (c : CertificateView) (first : Counts) (slot : ℕ) (o : Option Arrival) (work : Counts) → IsAt p c first slot o work → None ≡ insn_at p.list slot → work ≡ worked_in_pass p c first
work_at_last p c first slot o work w stand = sym (w.worked ∙ end_work p c slot o work w.rest (stand ∙ stands p c first slot o work w))

-- what holds of a certificate, a slot and an instruction holds of those that they are
pub along : (P : CertificateView → ℕ → Insn → Type 0) (c' c : CertificateView) (slot' slot : ℕ) (i' i : Insn) → c' ≡ c → slot' ≡ slot → i' ≡ i → P c' slot' i' → P c slot i
along P c' c slot' slot i' i ec es ei x = subst (λ k. P k slot i) ec (subst (λ n. P c' n i) es (subst (λ k. P c' slot' k) ei x))
