-- What the least of all flaws says of a certificate, and what work was counted where there is none.
use Rattle.std.proofs.Common.{◌≡◌, ℕ, ◌+◌, ◌^◌, ◌-◌, ◌≤◌, ◌∙◌, List, [], ◌∷◌, ◌++◌, length, sum_by, Contains, refl, sym, ap, ap₂, arith, Some, None, length-append}
use Rattle.std.specs.List.{flat_map}
use Rattle.std.proofs.lemmas.List.Sums.{sum_by-cons}
use Rattle.std.proofs.lemmas.List.Elements.{Contains-append_left, Contains-append_right}
use Rattle.bpf_insn.specs.declared.instruction.Insn.{Insn}
use Rattle.bpf_insn.specs.Instruction.{Instructions, slots, slots_of, slot_count, layout}
use Rattle.bpf_insn.specs.Image.{IsProgram}
use Rattle.bpf_insn.specs.Limits.{max_slots}
use Rattle.bpf_state.specs.Work.{Counts, no_work}
use Rattle.bpf_cert.specs.View.{CertificateView}
use Rattle.bpf_cert.specs.Limits.{IsCertificate}
use Rattle.bpf_safety.specs.Flow.{Visit, visits}
use Rattle.bpf_safety.specs.Flaw.{at, flaws, number_if, begins_wrongly, starts_over_budget, function_flaws, numbers_of_visit}
use Rattle.bpf_safety.specs.Certified.{Certified, IsLeastFlaw}
use Rattle.bpf_safety.specs.Work.{transfers, comparisons, transferred_at, compared_at, compared_at_start}
use Rattle.bpf_safety.specs.Theorems.{CertifiedWork, ComparisonsAreFew}
use Rattle.bpf_check.specs.code.Least.{IsLeastIn}
use Rattle.bpf_check.specs.CheckedProgram.{work_of}
use Rattle.bpf_check.specs.code.Counting.{counted_times, compared, if_faultless, worked_at, worked_through, worked_in_pass}
use Rattle.bpf_check.specs.code.Visits.{visit_flaws}
use Rattle.bpf_check.proofs.PassLemmas.{one_slot}
use Rattle.bpf_check.proofs.CountLemmas.{times_more, counts_all}

pub least_is_flaw : (p : Instructions) (c : CertificateView) (slot number : ℕ) → IsLeastIn (flaws p c) (Some (slot, number)) → IsLeastFlaw p c slot number
least_is_flaw p c slot number least = record { is_flaw = least.0; is_least = λ s n flaw. least.1 (s, n) flaw }

pub none_certifies : (p : Instructions) (c : CertificateView) → IsLeastIn (flaws p c) None → Certified p c
none_certifies p c none slot number flaw = none (slot, number) flaw

-- ---- the work where there is no flaw

no_number : (slot : ℕ) (ns : List ℕ) → ((a : ℕ × ℕ) → Contains (at slot ns) a → ⊥) → ns ≡ []
no_number slot [] none = refl
no_number slot (n ∷ ns) none = absurd (none (slot, n) (0, omega arith, refl))

-- the work of visits, all of them
abbrev worked_by : Instructions → CertificateView → List Visit → Counts → Counts
worked_by p c vs work = record {
  transfers = counted_times (sum_by transferred_at vs) work.transfers;
  comparisons = counted_times (sum_by (compared_at p c) vs) work.comparisons;
}

faultless_work : (p : Instructions) (c : CertificateView) (vs : List Visit) (work : Counts) → ((a : ℕ × ℕ) → Contains (flat_map (visit_flaws p c) vs) a → ⊥) → worked_through p c vs work ≡ worked_by p c vs work
faultless_work p c [] work none = refl
faultless_work p c (v ∷ vs) work none =
    let empty : numbers_of_visit p c v ≡ [] = no_number v.slot (numbers_of_visit p c v) (λ a m. none a (Contains-append_left (visit_flaws p c v) (flat_map (visit_flaws p c) vs) a m)) in
    let later = faultless_work p c vs (worked_at p c v work) (λ a m. none a (Contains-append_right (visit_flaws p c v) (flat_map (visit_flaws p c) vs) a m)) in
    let transferred : counted_times (sum_by transferred_at vs) (counted_times (transferred_at v) work.transfers) ≡ counted_times (sum_by transferred_at (v ∷ vs)) work.transfers = times_more (transferred_at v) (sum_by transferred_at vs) work.transfers ∙ ap (λ k. counted_times k work.transfers) (sym (sum_by-cons transferred_at v vs)) in
    let are_compared : counted_times (sum_by (compared_at p c) vs) (counted_times (compared_at p c v) work.comparisons) ≡ counted_times (sum_by (compared_at p c) (v ∷ vs)) work.comparisons = times_more (compared_at p c v) (sum_by (compared_at p c) vs) work.comparisons ∙ ap (λ k. counted_times k work.comparisons) (sym (sum_by-cons (compared_at p c) v vs)) in
    ap (λ ns. if_faultless ns (worked_through p c vs (worked_at p c v work)) (worked_at p c v work)) empty
    ∙ later
    ∙ ap₂ (λ m n. record { transfers = m; comparisons = n }) transferred are_compared

pub visits_faultless : (p : Instructions) (c : CertificateView) → Certified p c → (a : ℕ × ℕ) → Contains (flat_map (visit_flaws p c) (visits p c)) a → ⊥
visits_faultless p c certified a m =
    certified a.0 a.1 (Contains-append_left (of_start ++ flat_map (visit_flaws p c) (visits p c)) (flat_map (function_flaws p c) c.functions) a (Contains-append_right of_start (flat_map (visit_flaws p c) (visits p c)) a m))
  where
    of_start : List (ℕ × ℕ)
    of_start = at 0 (number_if 13 (begins_wrongly c) ++ number_if 9 (starts_over_budget c))

-- ---- few instructions

slots_of_next : (i : Insn) (is : List Insn) → slots (i ∷ is) ≡ slot_count i + slots is
slots_of_next i is = length-append (slots_of i) (layout is)

few_instructions : (is : List Insn) → length is ≤ slots is
few_instructions [] = omega arith
few_instructions (i ∷ is) =
    let rest = few_instructions is in
    let one = one_slot i in
    let sum = slots_of_next i is in
    omega arith

pub check_work : CertifiedWork → ComparisonsAreFew → (p : Instructions) (c : CertificateView) → IsProgram p.list → IsCertificate c → Certified p c → ((a : ℕ × ℕ) → Contains (flat_map (visit_flaws p c) (visits p c)) a → ⊥) → (new started done : Counts) → new ≡ no_work → started ≡ compared (compared_at_start c) new → done ≡ worked_in_pass p c started → done ≡ work_of p c
check_work work few p c program certificate certified none new started done e1 e2 e3 =
    let w = work p c certificate certified in
    let begins : started ≡ compared (compared_at_start c) no_work = e2 ∙ ap (compared (compared_at_start c)) e1 in
    let short : length p.list ≤ max_slots = let n = few_instructions p.list in let m = program.few_slots in omega arith in
    let small : comparisons p c ≤ 2 ^ 32 - 1 = let n = few p c in omega arith in
    let few_moves : transfers p ≤ 2 ^ 32 - 1 = omega arith in
    let moved : counted_times (sum_by transferred_at (visits p c)) 0 ≡ transfers p = ap (λ k. counted_times k 0) w.transferred ∙ counts_all (transfers p) few_moves in
    let are_compared : counted_times (sum_by (compared_at p c) (visits p c)) (counted_times (compared_at_start c) 0) ≡ comparisons p c = times_more (compared_at_start c) (sum_by (compared_at p c) (visits p c)) 0 ∙ ap (λ k. counted_times k 0) w.compared ∙ counts_all (comparisons p c) small in
    e3 ∙ ap (worked_in_pass p c) begins ∙ faultless_work p c (visits p c) (compared (compared_at_start c) no_work) none
    ∙ ap₂ (λ m n. record { transfers = m; comparisons = n }) moved are_compared
