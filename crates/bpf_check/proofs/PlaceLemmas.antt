-- Where each label lies in its function, the label at a slot is one of the function there.
use Rattle.std.proofs.Common.{◌≡◌, ℕ, ◌<◌, ◌≤◌, Bool, true, false, cond, not, List, [], ◌∷◌, ◌++◌, Option, Some, None, refl, sym, ap, subst, ◌∙◌, arith}
use Rattle.std.specs.Prelude.{option_map, nat_le, ◌==◌}
use Rattle.std.specs.List.{list_all, flat_map}
use Rattle.std.proofs.lemmas.Bool.{true≢false, and_parts, le-leb, lt-leb, eq-eqb, ne_eqb, cond-true, cond-false}
use Rattle.std.proofs.lemmas.Bool.Decides.{Decides-eqb}
use Rattle.std.proofs.lemmas.Option.{none-some, same_Some}
use Rattle.bpf_cert.specs.View.{LabelView, FunctionView, CertificateView}
use Rattle.bpf_cert.specs.Limits.{IsCertificate, is_canonical_function}
use Rattle.bpf_safety.specs.Labels.{label_at, function_at, first_with}
use Rattle.bpf_safety.specs.Flaw.{is_not, is_outside}
use Rattle.bpf_check.specs.code.Search.{rises, last_up_to, with_key}
use Rattle.bpf_check.specs.LabelIndex.{holds_labels, are_in_place}
use Rattle.bpf_check.specs.code.Sites.{IsSpot}
use Rattle.bpf_check.specs.declared.site.Spot.{Spot}
use Rattle.bpf_check.proofs.SearchLemmas.{rises_tail, rises_head, first_is_last, first_with-append, first_with-append_some, first_with_passes}
use Rattle.bpf_check.proofs.CertificateFacts.{functions_rise, functions_canonical, last_from_is, last_from_passes}

-- what is found passes
first_with_test : {A : Type 0} (test : A → Bool) (xs : List A) (x : A) → first_with test xs ≡ Some x → test x ≡ true
first_with_test test [] x e = absurd (none-some x e)
first_with_test test (y ∷ xs) x e = here (test y) refl e (first_with_test test xs x)
  where
    here : (b : Bool) → test y ≡ b → cond b (Some y) (first_with test xs) ≡ Some x → (first_with test xs ≡ Some x → test x ≡ true) → test x ≡ true
    here true p q later = subst (λ z. test z ≡ true) (same_Some y x q) p
    here false p q later = later q

-- ---- the last element up to a number is the one with its own key

record Again {A : Type 0} (key : A → ℕ) (x : A) (xs : List A) (y : A) : Type 0 where
  above : key x ≤ key y
  found : last_up_to key (Some x) (key y) xs ≡ Some y

again : {A : Type 0} (key : A → ℕ) (x : A) (xs : List A) (n : ℕ) (y : A) → rises key (x ∷ xs) ≡ true → last_up_to key (Some x) n xs ≡ Some y → Again key x xs y
again key x [] n y r e = let same : key x ≡ key y = ap key (same_Some x y e) in record { above = omega arith; found = e }
again key x (z ∷ zs) n y r e = here (nat_le (key z) n) e (again key z zs n y (rises_tail key x (z ∷ zs) r))
  where
    here : (b : Bool) → cond b (last_up_to key (Some z) n zs) (Some x) ≡ Some y → (last_up_to key (Some z) n zs ≡ Some y → Again key z zs y) → Again key x (z ∷ zs) y
    here true q more =
        let rest = more q in
        let up = rises_head key x z zs r in
        let high = rest.above in
        record { above = omega (arith, up, high); found = cond-true _ _ _ (le-leb (key z) (key y) high) ∙ rest.found }
    here false q more =
        let same : key x ≡ key y = ap key (same_Some x y q) in
        let up = rises_head key x z zs r in
        let over : key y < key z = omega (arith, up, same) in
        record { above = omega arith; found = cond-false _ _ _ (lt-leb (key z) (key y) over) ∙ q }

last_again : {A : Type 0} (key : A → ℕ) (xs : List A) (n : ℕ) (y : A) → rises key xs ≡ true → last_up_to key None n xs ≡ Some y → last_up_to key None (key y) xs ≡ Some y
last_again key [] n y r e = absurd (none-some y e)
last_again key (x ∷ xs) n y r e = here (nat_le (key x) n) e
  where
    here : (b : Bool) → cond b (last_up_to key (Some x) n xs) None ≡ Some y → last_up_to key None (key y) (x ∷ xs) ≡ Some y
    here true q = let k = again key x xs n y r q in cond-true _ _ _ (le-leb (key x) (key y) k.above) ∙ k.found
    here false q = absurd (none-some y q)

-- the function at a slot is the one that begins where it does
pub first_of_last : (c : CertificateView) (slot : ℕ) (f : FunctionView) → IsCertificate c → function_at c slot ≡ Some f → first_with (λ g. g.first == f.first) c.functions ≡ Some f
first_of_last c slot f valid e =
    let rise = functions_rise c valid in
    first_is_last (λ g. g.first) f.first c.functions rise
    ∙ ap (with_key (λ g. g.first) f.first) (last_again (λ g. g.first) c.functions slot f rise (sym (last_from_is None slot c.functions) ∙ e))
    ∙ cond-true _ _ _ (eq-eqb f.first f.first refl)

-- ---- labels of one function

inside : (c : CertificateView) (slot : ℕ) (f : FunctionView) (l : LabelView) → holds_labels c f ≡ true → first_with (λ x. x.slot == slot) f.labels ≡ Some l → is_not (option_map (λ g. g.first) (function_at c slot)) f.first ≡ false
inside c slot f l holds e =
    let here : l.slot ≡ slot = (Decides-eqb l.slot slot).0 (first_with_test (λ x. x.slot == slot) f.labels l e) in
    let lies : not (is_outside c f l) ≡ true = first_with_passes (λ x. not (is_outside c f x)) (λ x. x.slot == slot) f.labels l holds e in
    ap (λ n. is_not (option_map (λ g. g.first) (function_at c n)) f.first) (sym here) ∙ not_true (is_outside c f l) lies
  where
    not_true : (b : Bool) → not b ≡ true → b ≡ false
    not_true true q = absurd (true≢false (sym q))
    not_true false q = refl

-- a function that begins elsewhere has no label there
pub none_elsewhere : (c : CertificateView) (slot : ℕ) (f g : FunctionView) → function_at c slot ≡ Some f → holds_labels c g ≡ true → (f.first ≡ g.first → ⊥) → first_with (λ x. x.slot == slot) g.labels ≡ None
none_elsewhere c slot f g at holds differs = here (first_with (λ x. x.slot == slot) g.labels) refl
  where
    here : (o : Option LabelView) → first_with (λ x. x.slot == slot) g.labels ≡ o → o ≡ None
    here None e = refl
    here (Some l) e =
        let within : is_not (Some f.first) g.first ≡ false = ap (λ o. is_not (option_map (λ h. h.first) o) g.first) (sym at) ∙ inside c slot g l holds e in
        absurd (true≢false (sym (ap not (ne_eqb f.first g.first differs)) ∙ within))

-- nor have those behind
none_behind : (c : CertificateView) (slot : ℕ) (f g : FunctionView) (gs : List FunctionView) → function_at c slot ≡ Some f → rises (λ h. h.first) (g ∷ gs) ≡ true → f.first ≤ g.first → list_all (holds_labels c) gs ≡ true → first_with (λ x. x.slot == slot) (flat_map (λ h. h.labels) gs) ≡ None
none_behind c slot f g [] at r le holds = refl
none_behind c slot f g (h ∷ hs) at r le holds =
    let up = rises_head (λ k. k.first) g h hs r in
    let parts = and_parts _ _ holds in
    let over : f.first < h.first = omega (arith, up, le) in
    first_with-append (λ x. x.slot == slot) h.labels _ (none_elsewhere c slot f h at parts.0 (λ same. absurd (omega (arith, over, same))))
    ∙ none_behind c slot f h hs at (rises_tail (λ k. k.first) g (h ∷ hs) r) (omega (arith, over)) parts.1

among_functions : (c : CertificateView) (slot : ℕ) (f : FunctionView) (gs : List FunctionView) → function_at c slot ≡ Some f → rises (λ h. h.first) gs ≡ true → list_all (holds_labels c) gs ≡ true → first_with (λ g. g.first == f.first) gs ≡ Some f → first_with (λ x. x.slot == slot) (flat_map (λ h. h.labels) gs) ≡ first_with (λ x. x.slot == slot) f.labels
among_functions c slot f [] at r holds found = absurd (none-some f found)
among_functions c slot f (g ∷ gs) at r holds found =
    here (g.first == f.first) refl found (among_functions c slot f gs at (rises_tail (λ h. h.first) g gs r) (and_parts _ _ holds).1)
  where
    rest : (o : Option LabelView) → first_with (λ x. x.slot == slot) g.labels ≡ o → g.first ≡ f.first → first_with (λ x. x.slot == slot) (g.labels ++ flat_map (λ h. h.labels) gs) ≡ o
    rest (Some l) e same = first_with-append_some (λ x. x.slot == slot) g.labels _ l e
    rest None e same = first_with-append (λ x. x.slot == slot) g.labels _ e ∙ none_behind c slot f g gs at r (omega (arith, same)) (and_parts _ _ holds).1

    here : (b : Bool) → g.first == f.first ≡ b → cond b (Some g) (first_with (λ h. h.first == f.first) gs) ≡ Some f → (first_with (λ h. h.first == f.first) gs ≡ Some f → first_with (λ x. x.slot == slot) (flat_map (λ h. h.labels) gs) ≡ first_with (λ x. x.slot == slot) f.labels) → first_with (λ x. x.slot == slot) (g.labels ++ flat_map (λ h. h.labels) gs) ≡ first_with (λ x. x.slot == slot) f.labels
    here true e q later = rest (first_with (λ x. x.slot == slot) g.labels) refl ((Decides-eqb g.first f.first).0 e) ∙ ap (λ (h : FunctionView). first_with (λ x. x.slot == slot) h.labels) (same_Some g f q)
    here false e q later =
        first_with-append (λ x. x.slot == slot) g.labels _ (none_elsewhere c slot f g at (and_parts _ _ holds).0 (λ same. absurd (true≢false (sym (eq-eqb g.first f.first (sym same)) ∙ e))))
        ∙ later q

pub label_there : (c : CertificateView) (slot : ℕ) (f : FunctionView) → IsCertificate c → are_in_place c ≡ true → function_at c slot ≡ Some f → label_at c slot ≡ first_with (λ x. x.slot == slot) f.labels
label_there c slot f valid placed at = among_functions c slot f c.functions at (functions_rise c valid) placed (first_of_last c slot f valid at)

-- where no function lies, none has a label
pub none_outside : (c : CertificateView) (slot : ℕ) (g : FunctionView) → function_at c slot ≡ None → holds_labels c g ≡ true → first_with (λ x. x.slot == slot) g.labels ≡ None
none_outside c slot g at holds = here (first_with (λ x. x.slot == slot) g.labels) refl
  where
    here : (o : Option LabelView) → first_with (λ x. x.slot == slot) g.labels ≡ o → o ≡ None
    here None e = refl
    here (Some l) e = absurd (true≢false (ap (λ o. is_not (option_map (λ h. h.first) o) g.first) (sym at) ∙ inside c slot g l holds e))

none_at_all : (c : CertificateView) (slot : ℕ) (gs : List FunctionView) → function_at c slot ≡ None → list_all (holds_labels c) gs ≡ true → first_with (λ x. x.slot == slot) (flat_map (λ h. h.labels) gs) ≡ None
none_at_all c slot [] at holds = refl
none_at_all c slot (g ∷ gs) at holds =
    first_with-append (λ x. x.slot == slot) g.labels _ (none_outside c slot g at (and_parts _ _ holds).0) ∙ none_at_all c slot gs at (and_parts _ _ holds).1

pub no_label_there : (c : CertificateView) (slot : ℕ) → are_in_place c ≡ true → function_at c slot ≡ None → label_at c slot ≡ None
no_label_there c slot placed at = none_at_all c slot c.functions at placed

-- a function that is found has its labels in their order
pub labels_rise_there : (c : CertificateView) (slot : ℕ) (f : FunctionView) → IsCertificate c → function_at c slot ≡ Some f → rises (λ l. l.slot) f.labels ≡ true
labels_rise_there c slot f valid e = (and_parts _ _ (last_from_passes is_canonical_function None slot c.functions f (functions_canonical c valid) (λ q. absurd (none-some f q)) e)).0

-- ---- a spot behind another, below the next label

pub spot_behind : (c : CertificateView) (here : Spot) (n : ℕ) → IsSpot c here → here.slot < n → n < here.until → IsSpot c (record here { slot = n; label = None })
spot_behind c here n spot above inside =
    let quiet = spot.quiet n above inside in
    record {
      function = spot.function ∙ sym quiet.1;
      label = sym quiet.0;
      limited = tt;
      quiet = λ m later high. let h = spot.quiet m (omega (arith, above, later)) high in (h.0, h.1 ∙ sym quiet.1);
    }
