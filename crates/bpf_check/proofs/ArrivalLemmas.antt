-- The numbers of a visit that need a state.
use Rattle.std.proofs.Common.{◌≡◌, ℕ, Bool, true, false, not, ◌&&◌, append_assoc, List, [], ◌∷◌, ◌++◌, Option, Some, None, refl, sym, ap, subst, ◌∙◌}
use Rattle.std.specs.Prelude.{option_map, option_and_then, is_none, if◌then◌else◌}
use Rattle.std.specs.Option.{option_to_list}
use Rattle.bpf_insn.specs.declared.instruction.Insn.{Insn}
use Rattle.bpf_insn.specs.Instruction.{Instructions}
use Rattle.bpf_state.specs.Fault.{fault_of}
use Rattle.bpf_cert.specs.View.{CertificateView}
use Rattle.bpf_safety.specs.Flow.{Arrival, arrives, sound_arrival}
use Rattle.bpf_safety.specs.Flaw.{at, number_if, numbers_of_arrival, lacks_label, calls_no_deeper, leaves_function, is_not_entailed, is_over_budget, falls_past_end}
use Rattle.bpf_check.specs.code.Least.{IsLeastIn}
use Rattle.bpf_check.specs.code.Edges.{visit}
use Rattle.bpf_check.specs.code.Visits.{numbers_with, flaws_with, never_reached, visit_of, visit_flaws}
use Rattle.bpf_check.proofs.LeastLemmas.{least_three, at-append}

fault_numbers : (p : Instructions) (c : CertificateView) (slot : ℕ) (i : Insn) (a : Arrival) (n : ℕ) → fault_of c.least a.state i ≡ Some n → numbers_with p c slot i (Some a) ≡ n ∷ []
fault_numbers p c slot i a n e = ap (λ o. option_to_list o ++ numbers_of_arrival p c (visit slot i) (if is_none o then Some a else None)) e

pub faulty_least : (p : Instructions) (c : CertificateView) (slot : ℕ) (i : Insn) (a : Arrival) (n m : ℕ) (r : Option (ℕ × ℕ)) → fault_of c.least a.state i ≡ Some n → m ≡ n → IsLeastIn (at slot (number_if m true)) r → IsLeastIn (flaws_with p c slot i (Some a)) r
faulty_least p c slot i a n m r e same h = subst (λ ns. IsLeastIn (at slot ns) r) (sym (fault_numbers p c slot i a n e)) (subst (λ k. IsLeastIn (at slot (number_if k true)) r) same h)

sound_numbers : (p : Instructions) (c : CertificateView) (slot : ℕ) (i : Insn) (a : Arrival) → fault_of c.least a.state i ≡ None → numbers_with p c slot i (Some a) ≡ number_if 8 (is_not_entailed p c (visit slot i) a) ++ number_if 9 (is_over_budget p c (visit slot i) a) ++ number_if 11 (falls_past_end p c (visit slot i) a)
sound_numbers p c slot i a e = ap (λ o. option_to_list o ++ numbers_of_arrival p c (visit slot i) (if is_none o then Some a else None)) e

pub sound_least : (p : Instructions) (c : CertificateView) (slot : ℕ) (i : Insn) (a : Arrival) (x y z : Bool) (r : Option (ℕ × ℕ)) → fault_of c.least a.state i ≡ None → x ≡ is_not_entailed p c (visit slot i) a → y ≡ is_over_budget p c (visit slot i) a → z ≡ falls_past_end p c (visit slot i) a → IsLeastIn (at slot (number_if 8 x) ++ at slot (number_if 9 y) ++ at slot (number_if 11 z)) r → IsLeastIn (flaws_with p c slot i (Some a)) r
sound_least p c slot i a x y z r e ex ey ez h = subst (λ ns. IsLeastIn (at slot ns) r) (sym (sound_numbers p c slot i a e)) (least_three slot 8 9 11 _ _ _ x y z r ex ey ez h)

-- ---- a label's own state

none_of : {A B : Type 0} (f : A → B) (o : Option A) → is_none (option_map f o) ≡ is_none o
none_of f None = refl
none_of f (Some x) = refl

not_both : (b : Bool) → false ≡ (b && not b)
not_both true = refl
not_both false = refl

-- ---- the numbers of a visit

pub visit_least : (slot : ℕ) (a f n b d e : List ℕ) (r : Option (ℕ × ℕ)) → IsLeastIn (at slot a ++ at slot (f ++ n) ++ at slot b ++ at slot d ++ at slot e) r → IsLeastIn (at slot (a ++ f ++ n ++ b ++ d ++ e)) r
visit_least slot a f n b d e r h =
    let first : at slot (a ++ f ++ n) ≡ at slot a ++ at slot (f ++ n) = ap (at slot) (append_assoc a f n) ∙ at-append slot a (f ++ n) in
    let whole : at slot (a ++ f ++ n ++ b ++ d ++ e) ≡ at slot a ++ at slot (f ++ n) ++ at slot b ++ at slot d ++ at slot e = at-append slot (a ++ f ++ n ++ b ++ d) e ∙ ap (λ l. l ++ at slot e) (at-append slot (a ++ f ++ n ++ b) d ∙ ap (λ l. l ++ at slot d) (at-append slot (a ++ f ++ n) b ∙ ap (λ l. l ++ at slot b) first)) in
    subst (λ l. IsLeastIn l r) (sym whole) h

abbrev parts : (p : Instructions) (c : CertificateView) (slot : ℕ) (i : Insn) (here : Option Arrival) (x y z w : Bool) → List (ℕ × ℕ)
parts p c slot i here x y z w = at slot (number_if 1 x) ++ flaws_with p c slot i here ++ at slot (number_if 10 y) ++ at slot (number_if 11 z) ++ at slot (number_if 12 w)

pub visit_refused : (p : Instructions) (c : CertificateView) (slot : ℕ) (i : Insn) (o here : Option Arrival) (x y z w : Bool) (r : Option (ℕ × ℕ)) → x ≡ lacks_label c (visit slot i) → here ≡ arrives c slot o → y ≡ calls_no_deeper c (visit slot i) → z ≡ never_reached c slot o → w ≡ leaves_function p c (visit slot i) → IsLeastIn (parts p c slot i here x y z w) r → IsLeastIn (visit_flaws p c (visit_of c slot i o)) r
visit_refused p c slot i o here x y z w r ex eh ey ez ew h =
    let same : parts p c slot i here x y z w ≡ parts p c slot i (arrives c slot o) (lacks_label c (visit slot i)) (calls_no_deeper c (visit slot i)) (never_reached c slot o) (leaves_function p c (visit slot i)) = ap (λ k. parts p c slot i here k y z w) ex ∙ ap (λ k. parts p c slot i k (lacks_label c (visit slot i)) y z w) eh ∙ ap (λ k. parts p c slot i (arrives c slot o) (lacks_label c (visit slot i)) k z w) ey ∙ ap (λ k. parts p c slot i (arrives c slot o) (lacks_label c (visit slot i)) (calls_no_deeper c (visit slot i)) k w) ez ∙ ap (λ k. parts p c slot i (arrives c slot o) (lacks_label c (visit slot i)) (calls_no_deeper c (visit slot i)) (never_reached c slot o) k) ew in
    visit_least slot (number_if 1 (lacks_label c (visit slot i))) (option_to_list (option_and_then (λ a. fault_of c.least a.state i) (arrives c slot o))) (numbers_of_arrival p c (visit slot i) (sound_arrival c i (arrives c slot o))) (number_if 10 (calls_no_deeper c (visit slot i))) (number_if 11 (never_reached c slot o)) (number_if 12 (leaves_function p c (visit slot i))) r (subst (λ l. IsLeastIn l r) same h)
