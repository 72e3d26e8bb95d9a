-- Which functions are told of at a slot.
use Rattle.std.proofs.Common.{◌≡◌, ℕ, ◌<◌, ◌≤◌, arith, Bool, true, false, cond, ◌||◌, List, [], ◌∷◌, Option, Some, None, refl, sym, ap, subst, ◌∙◌}
use Rattle.std.specs.Prelude.{option_to_list, slice_get, filter, is_some, ◌==◌}
use Rattle.std.specs.List.{list_all}
use Rattle.std.proofs.lemmas.Bool.{true≢false, and_parts, eq-eqb, ne_eqb, cond-true, cond-false}
use Rattle.std.proofs.lemmas.Bool.Decides.{Decides-eqb}
use Rattle.std.proofs.lemmas.Option.{none-some, same_Some}
use Rattle.bpf_cert.specs.View.{FunctionView, CertificateView}
use Rattle.bpf_cert.specs.Limits.{IsCertificate}
use Rattle.bpf_safety.specs.Labels.{function_at, function_from, first_with}
use Rattle.bpf_check.specs.code.Search.{rises}
use Rattle.bpf_check.specs.code.Standing.{stands_at, told_at}
use Rattle.bpf_check.specs.LabelIndex.{holds_labels, are_in_place}
use Rattle.bpf_check.proofs.SearchLemmas.{rises_tail, rises_head}
use Rattle.bpf_check.proofs.CertificateFacts.{functions_rise, function_from_is}
use Rattle.bpf_check.proofs.PlaceLemmas.{first_of_last, none_elsewhere, none_outside}

-- where not each label lies in its function, all
pub told_all : (c : CertificateView) (slot n : ℕ) (b : Bool) → b ≡ are_in_place c → b ≡ false → slice_get (told_at c slot) n ≡ slice_get c.functions n
told_all c slot n b same other = ap (λ fs. slice_get fs n) (cond-false _ _ _ (sym same ∙ other))

-- ---- none is left out

-- a function that begins elsewhere, and has no label there
stands_not : (slot : ℕ) (g : FunctionView) → (g.first ≡ slot → ⊥) → first_with (λ l. l.slot == slot) g.labels ≡ None → stands_at slot g ≡ false
stands_not slot g differs none =
    ap (λ b. b || is_some (first_with (λ l. l.slot == slot) g.labels)) (ne_eqb g.first slot differs)
    ∙ ap is_some none

-- one begins there only if f does
abbrev BeginsOnlyAs : ℕ → FunctionView → List FunctionView → Type 0
BeginsOnlyAs slot f gs = (first_with (λ g. g.first == slot) gs ≡ None → ⊥) → f.first ≡ slot

none_later : (slot : ℕ) (g : FunctionView) (gs : List FunctionView) → first_with (λ h. h.first == slot) (g ∷ gs) ≡ None → first_with (λ h. h.first == slot) gs ≡ None
none_later slot g gs = here (g.first == slot)
  where
    here : (b : Bool) → cond b (Some g) (first_with (λ h. h.first == slot) gs) ≡ None → first_with (λ h. h.first == slot) gs ≡ None
    here true e = absurd (none-some g (sym e))
    here false e = e

not_none : (slot : ℕ) (g : FunctionView) (gs : List FunctionView) → g.first ≡ slot → first_with (λ h. h.first == slot) (g ∷ gs) ≡ None → ⊥
not_none slot g gs same e = none-some g (sym e ∙ cond-true _ _ _ (eq-eqb g.first slot same))

as_first : (c : CertificateView) (slot : ℕ) (f : FunctionView) → IsCertificate c → function_at c slot ≡ Some f → BeginsOnlyAs slot f c.functions
as_first c slot f valid at = here (f.first == slot) refl (function_from_is c slot (Some f) valid (sym at))
  where
    here : (b : Bool) → f.first == slot ≡ b → cond b (Some f) None ≡ function_from c slot → BeginsOnlyAs slot f c.functions
    here true e same some = (Decides-eqb f.first slot).0 e
    here false e same some = absurd (some (sym same))

none_stand : (c : CertificateView) (slot : ℕ) (f g : FunctionView) (gs : List FunctionView) → function_at c slot ≡ Some f → rises (λ h. h.first) (g ∷ gs) ≡ true → f.first ≤ g.first → list_all (holds_labels c) gs ≡ true → BeginsOnlyAs slot f gs → [] ≡ filter (stands_at slot) gs
none_stand c slot f g [] at r le holds begins = refl
none_stand c slot f g (h ∷ hs) at r le holds begins =
    let up = rises_head (λ k. k.first) g h hs r in
    let parts = and_parts _ _ holds in
    let over : f.first < h.first = omega (arith, up, le) in
    let elsewhere : h.first ≡ slot → ⊥ = λ same. let own = begins (not_none slot h hs same) in absurd (omega (arith, over, same, own)) in
    none_stand c slot f h hs at (rises_tail (λ k. k.first) g (h ∷ hs) r) (omega (arith, over)) parts.1 (λ some. begins (λ e. some (none_later slot h hs e)))
    ∙ sym (cond-false _ _ _ (stands_not slot h elsewhere (none_elsewhere c slot f h at parts.0 (λ same. absurd (omega (arith, over, same))))))

one_stands : (c : CertificateView) (slot : ℕ) (f : FunctionView) (gs : List FunctionView) → function_at c slot ≡ Some f → rises (λ h. h.first) gs ≡ true → list_all (holds_labels c) gs ≡ true → BeginsOnlyAs slot f gs → first_with (λ g. g.first == f.first) gs ≡ Some f → filter (stands_at slot) (f ∷ []) ≡ filter (stands_at slot) gs
one_stands c slot f [] at r holds begins found = absurd (none-some f found)
one_stands c slot f (g ∷ gs) at r holds begins found =
    here (g.first == f.first) refl found (one_stands c slot f gs at (rises_tail (λ h. h.first) g gs r) parts.1 later)
  where
    parts : (holds_labels c g ≡ true) × (list_all (holds_labels c) gs ≡ true)
    parts = and_parts _ _ holds

    later : BeginsOnlyAs slot f gs
    later = λ some. begins (λ e. some (none_later slot g gs e))

    here : (b : Bool) → g.first == f.first ≡ b → cond b (Some g) (first_with (λ h. h.first == f.first) gs) ≡ Some f → (first_with (λ h. h.first == f.first) gs ≡ Some f → filter (stands_at slot) (f ∷ []) ≡ filter (stands_at slot) gs) → filter (stands_at slot) (f ∷ []) ≡ filter (stands_at slot) (g ∷ gs)
    here true e q rest =
        let same = (Decides-eqb g.first f.first).0 e in
        let none = none_stand c slot f g gs at r (omega (arith, same)) parts.1 later in
        subst (λ h. filter (stands_at slot) (h ∷ []) ≡ filter (stands_at slot) (g ∷ gs)) (same_Some g f q) (ap (λ hs. cond (stands_at slot g) (g ∷ hs) hs) none)
    here false e q rest =
        let differs : g.first ≡ f.first → ⊥ = λ same. true≢false (sym (eq-eqb g.first f.first same) ∙ e) in
        let elsewhere : g.first ≡ slot → ⊥ = λ same. differs (same ∙ sym (begins (not_none slot g gs same))) in
        rest q ∙ sym (cond-false _ _ _ (stands_not slot g elsewhere (none_elsewhere c slot f g at parts.0 (λ same. differs (sym same)))))

none_outside_all : (c : CertificateView) (slot : ℕ) (gs : List FunctionView) → function_at c slot ≡ None → list_all (holds_labels c) gs ≡ true → first_with (λ g. g.first == slot) gs ≡ None → [] ≡ filter (stands_at slot) gs
none_outside_all c slot [] at holds none = refl
none_outside_all c slot (g ∷ gs) at holds none =
    none_outside_all c slot gs at (and_parts _ _ holds).1 (none_later slot g gs none)
    ∙ sym (cond-false _ _ _ (stands_not slot g (λ same. not_none slot g gs same none) (none_outside c slot g at (and_parts _ _ holds).0)))

-- those that are told of and those that aren't: with something there, they are the same
pub all_told : (c : CertificateView) (slot : ℕ) → IsCertificate c → filter (stands_at slot) (told_at c slot) ≡ filter (stands_at slot) c.functions
all_told c slot valid = here (are_in_place c) refl
  where
    of_function : are_in_place c ≡ true → (o : Option FunctionView) → function_at c slot ≡ o → filter (stands_at slot) (option_to_list o) ≡ filter (stands_at slot) c.functions
    of_function placed None at = none_outside_all c slot c.functions at placed (sym (function_from_is c slot None valid (sym at)))
    of_function placed (Some f) at = one_stands c slot f c.functions at (functions_rise c valid) placed (as_first c slot f valid at) (first_of_last c slot f valid at)

    here : (b : Bool) → are_in_place c ≡ b → filter (stands_at slot) (cond b (option_to_list (function_at c slot)) c.functions) ≡ filter (stands_at slot) c.functions
    here true e = of_function e (function_at c slot) refl
    here false e = refl
