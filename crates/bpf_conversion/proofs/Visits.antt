-- No flaw of the visits, instruction by instruction.
use Rattle.std.proofs.Common.{◌≡◌, ℕ, ◌+◌, List, [], ◌∷◌, ◌++◌, Bool, false, cond, Option, Some, None, refl, ap, ap₂, ◌∙◌, arith}
use Rattle.std.specs.Prelude.{nat_le, not, ◌||◌, ◌==◌, flat_map, is_none, option_map, option_and_then}
use Rattle.std.proofs.lemmas.Bool.{cond-false, or_from}
use Rattle.bpf_insn.specs.Instruction.{Instructions, slot_count}
use Rattle.bpf_insn.specs.declared.instruction.Insn.{Insn}
use Rattle.bpf_state.specs.Fault.{fault_of}
use Rattle.bpf_cert.specs.View.{FunctionView, CertificateView}
use Rattle.bpf_safety.specs.Labels.{function_at}
use Rattle.bpf_safety.specs.Flow.{Arrival, Visit, callee, arrives, sound_arrival, passed_on, visits_from, jump_target}
use Rattle.std.specs.Option.{option_to_list}
use Rattle.bpf_state.specs.Condition.{condition_number}
use Rattle.bpf_state.specs.Fault.{some_passes}
use Rattle.bpf_state.specs.declared.condition.Condition.{Condition}
use Rattle.bpf_state.specs.declared.condition.Condition.TheVariants.{NoLabel, NotEntailed, OverBudget, NoDeeper, FallsOff, LeavesFunction}
use Rattle.bpf_safety.specs.Flaw.{at, fails, calls_nowhere, is_not, lacks_label, fault_at, is_not_entailed, is_over_budget, falls_past_end, is_never_reached, calls_no_deeper, leaves_for, next_slot, leaves_function, numbers_of_visit, numbers_of_arrival}

-- the visits from a slot on have no flaw
abbrev pub Clean : Instructions → CertificateView → ℕ → Option Arrival → List Insn → Type 0
Clean p c slot passed is = flat_map (λ v. at v.slot (numbers_of_visit p c v)) (visits_from p c slot passed is) ≡ []

abbrev pub visit : ℕ → Insn → Option Arrival → Visit
visit slot i a = record { slot = slot; insn = i; arrival = a }

-- an instruction in a state is in order
pub record IsFine (p : Instructions) (c : CertificateView) (slot : ℕ) (i : Insn) (a : Arrival) : Type 0 where
  pub fault : fault_of c.least a.state i ≡ None
  pub label : lacks_label c (visit slot i (Some a)) ≡ false
  pub entailed : is_not_entailed p c (visit slot i (Some a)) a ≡ false
  pub paid : is_over_budget p c (visit slot i (Some a)) a ≡ false
  pub inside : falls_past_end p c (visit slot i (Some a)) a ≡ false
  pub not_call : callee c slot i ≡ None
  pub stays_in : calls_nowhere c (visit slot i (Some a)) i ≡ false

-- all slots lie in one function
abbrev pub OneFunction : CertificateView → FunctionView → Type 0
OneFunction c f = (slot : ℕ) → function_at c slot ≡ Some f

sound : (c : CertificateView) (i : Insn) (a : Arrival) → fault_of c.least a.state i ≡ None → sound_arrival c i (Some a) ≡ Some a
sound c i a e = ap (λ o. cond (is_none o) (Some a) None) e

stays : (c : CertificateView) (f : FunctionView) → OneFunction c f → (to : Option ℕ) → leaves_for c f to ≡ false
stays c f one None = refl
stays c f one (Some t) = ap (λ o. is_not (option_map (λ (g : FunctionView). g.first) o) f.first) (one t) ∙ same f.first
  where
    same : (n : ℕ) → not (n == n) ≡ false
    same n = grind arith

no_number : (condition : Condition) (b : Bool) → b ≡ false → fails condition b ≡ []
no_number condition b e = cond-false b (condition_number condition ∷ []) [] e

six : (a b c d e f : List ℕ) → a ≡ [] → b ≡ [] → c ≡ [] → d ≡ [] → e ≡ [] → f ≡ [] → a ++ b ++ c ++ d ++ e ++ f ≡ []
six a b c d e f p q r s t u = ap₂ (λ x y. x ++ y ++ c ++ d ++ e ++ f) p q ∙ ap₂ (λ x y. x ++ y ++ e ++ f) r s ∙ ap₂ (λ x y. x ++ y) t u

fine_numbers : (p : Instructions) (c : CertificateView) (f : FunctionView) (slot : ℕ) (i : Insn) (a : Arrival) → OneFunction c f → IsFine p c slot i a → numbers_of_visit p c (visit slot i (Some a)) ≡ []
fine_numbers p c f slot i a one h =
    let v : Visit = visit slot i (Some a) in
    let arrived : numbers_of_arrival p c v (sound_arrival c i (Some a)) ≡ [] =
    ap (numbers_of_arrival p c v) (sound c i a h.fault)
    ∙ ap₂ (λ x y. x ++ y ++ fails FallsOff (falls_past_end p c v a)) (no_number NotEntailed (is_not_entailed p c v a) h.entailed) (no_number OverBudget (is_over_budget p c v a) h.paid)
    ∙ no_number FallsOff (falls_past_end p c v a) h.inside in
    let deeper : calls_no_deeper c v ≡ false =
    ap₂ (λ g o. some_passes (λ (f : FunctionView). some_passes (λ (g : FunctionView). nat_le f.depth g.depth) g) o) h.not_call (one slot) in
    let leaves : leaves_function p c v ≡ false =
    or_from (some_passes (λ (f : FunctionView). leaves_for c f (jump_target slot i) || leaves_for c f (next_slot p v)) (function_at c slot)) (calls_nowhere c v i)
    (ap (some_passes (λ (f : FunctionView). leaves_for c f (jump_target slot i) || leaves_for c f (next_slot p v))) (one slot)
    ∙ or_from (leaves_for c f (jump_target slot i)) (leaves_for c f (next_slot p v)) (stays c f one (jump_target slot i)) (stays c f one (next_slot p v)))
    h.stays_in in
    six (fails NoLabel (lacks_label c v)) (fault_at c v) (numbers_of_arrival p c v (sound_arrival c i (Some a))) (fails NoDeeper (calls_no_deeper c v)) (fails FallsOff (is_never_reached c v)) (fails LeavesFunction (leaves_function p c v))
    (no_number NoLabel (lacks_label c v) h.label) (ap option_to_list h.fault) arrived (no_number NoDeeper (calls_no_deeper c v) deeper) refl (no_number LeavesFunction (leaves_function p c v) leaves)

-- one visit more
pub clean_more : (p : Instructions) (c : CertificateView) (f : FunctionView) (slot : ℕ) (passed : Option Arrival) (i : Insn) (is : List Insn) (a : Arrival) → OneFunction c f → arrives c slot passed ≡ Some a → IsFine p c slot i a
    → Clean p c (slot + slot_count i) (passed_on p c slot i a) is → Clean p c slot passed (i ∷ is)
clean_more p c f slot passed i is a one here fine rest =
    let next : option_and_then (passed_on p c slot i) (sound_arrival c i (arrives c slot passed)) ≡ passed_on p c slot i a = ap (λ o. option_and_then (passed_on p c slot i) (sound_arrival c i o)) here ∙ ap (option_and_then (passed_on p c slot i)) (sound c i a fine.fault) in
    let first : at slot (numbers_of_visit p c (visit slot i (arrives c slot passed))) ≡ [] = ap (λ o. at slot (numbers_of_visit p c (visit slot i o))) here ∙ ap (at slot) (fine_numbers p c f slot i a one fine) in
    ap₂ (λ x o. x ++ flat_map (λ v. at v.slot (numbers_of_visit p c v)) (visits_from p c (slot + slot_count i) o is)) first next ∙ rest
