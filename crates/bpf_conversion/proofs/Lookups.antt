-- Which labels stand where, and that there is one function.
use Rattle.std.proofs.Common.{◌≡◌, ℕ, zero, suc, ◌+◌, ◌<◌, ◌≤◌, List, [], ◌∷◌, ◌++◌, length, Bool, true, false, cond, Some, None, refl, ap, ◌∙◌, subst, ⊎_elim, arith}
use Rattle.std.specs.Prelude.{nat_le, ◌==◌, flat_map, slice_get}
use Rattle.std.specs.List.{range_with_len}
use Rattle.std.proofs.lemmas.Bool.{cond_both, cond-true, cond-false, eq-eqb, ne_eqb, le-leb, or_left, or_right, cases_eq, cases_lt}
use Rattle.bpf_insn.specs.declared.instruction.Insn.{Insn}
use Rattle.bpf_num.specs.Number.{top}
use Rattle.bpf_cert.specs.View.{LabelView, FunctionView}
use Rattle.bpf_safety.specs.Labels.{first_with, label_at, function_at}
use Rattle.bpf_classic.specs.declared.layout.Layout.{Layout}
use Rattle.bpf_classic.specs.declared.layout.Annotated.{Annotated}
use Rattle.bpf_conversion.specs.Leaders.{jump_to, behind_end, is_slot, makes_leader, is_led_to, is_leader}
use Rattle.bpf_conversion.specs.Claim.{label_of, wants_label, label_if, labels_of, claim_of}

-- ---- the one function

abbrev pub function_of : Layout → List Annotated → List Insn → FunctionView
function_of l marked list = record { first = 0; depth = 1; ret = top; labels = labels_of l marked list }

pub function_is : (l : Layout) (marked : List Annotated) (list : List Insn) (slot : ℕ) → function_at (claim_of l marked list) slot ≡ Some (function_of l marked list)
function_is l marked list slot = cond-true (nat_le 0 slot) (Some (function_of l marked list)) None (le-leb 0 slot (omega arith))

-- ---- labels

module _ (l : Layout) (marked : List Annotated) (list : List Insn) where
  abbrev stands : ℕ → LabelView → Bool
  stands slot x = x.slot == slot

  -- none stands in front of the slots that are looked at
  none_before : (a k slot : ℕ) → slot < a → first_with (stands slot) (flat_map (label_if l marked list) (range_with_len a k)) ≡ None
  none_before a zero slot lt = refl
  none_before a (suc k) slot lt =
      let rest : List LabelView = flat_map (label_if l marked list) (range_with_len (a + 1) k) in
      let more : first_with (stands slot) rest ≡ None = none_before (a + 1) k slot (omega arith) in
      cond_both (wants_label l marked list a) (label_of l marked list a ∷ []) [] (λ xs. first_with (stands slot) (xs ++ rest) ≡ None)
      (λ _. cond-false (a == slot) (Some (label_of l marked list a)) (first_with (stands slot) rest) (ne_eqb a slot (λ e. omega (arith, e))) ∙ more)
      (λ _. more)

  label_found : (a k slot : ℕ) → a ≤ slot → slot < a + k → first_with (stands slot) (flat_map (label_if l marked list) (range_with_len a k)) ≡ cond (wants_label l marked list slot) (Some (label_of l marked list slot)) None
  label_found a zero slot low high = absurd (omega arith)
  label_found a (suc k) slot low high =
      let rest : List LabelView = flat_map (label_if l marked list) (range_with_len (a + 1) k) in
      ⊎_elim
      (λ (same : a ≡ slot).
      let none : first_with (stands slot) rest ≡ None = none_before (a + 1) k slot (omega (arith, same)) in
      subst (λ n. first_with (stands slot) (cond (wants_label l marked list a) (label_of l marked list a ∷ []) [] ++ rest) ≡ cond (wants_label l marked list n) (Some (label_of l marked list n)) None) same
      (here (wants_label l marked list a) a slot rest same none))
      (λ (other : a ≡ slot → ⊥).
      let more = label_found (a + 1) k slot (above a slot low other) (omega arith) in
      cond_both (wants_label l marked list a) (label_of l marked list a ∷ []) [] (λ xs. first_with (stands slot) (xs ++ rest) ≡ cond (wants_label l marked list slot) (Some (label_of l marked list slot)) None)
      (λ _. cond-false (a == slot) (Some (label_of l marked list a)) (first_with (stands slot) rest) (ne_eqb a slot other) ∙ more)
      (λ _. more))
      (cases_eq a slot)
    where
      above : (a slot : ℕ) → a ≤ slot → (a ≡ slot → ⊥) → a + 1 ≤ slot
      above a slot le other = ⊎_elim (λ (lt : a < slot). omega arith) (λ (ge : slot ≤ a). absurd (other (omega arith))) (cases_lt a slot)

      here : (b : Bool) (a slot : ℕ) (rest : List LabelView) → a ≡ slot → first_with (stands slot) rest ≡ None → first_with (stands slot) (cond b (label_of l marked list a ∷ []) [] ++ rest) ≡ cond b (Some (label_of l marked list a)) None
      here true a slot rest same none = cond-true (a == slot) (Some (label_of l marked list a)) (first_with (stands slot) rest) (eq-eqb a slot same)
      here false a slot rest same none = none

  append_none : (xs : List LabelView) → xs ++ [] ≡ xs
  append_none [] = refl
  append_none (x ∷ xs) = ap (λ ys. x ∷ ys) (append_none xs)

  -- the label at a slot of the program
  pub label_is : (slot : ℕ) → slot < length list → label_at (claim_of l marked list) slot ≡ cond (wants_label l marked list slot) (Some (label_of l marked list slot)) None
  label_is slot lt = ap (first_with (stands slot)) (append_none (labels_of l marked list)) ∙ label_found 0 (length list) slot (omega arith) (omega arith)

  -- ---- leaders

  led_more : (n m to : ℕ) → n ≤ m → is_led_to list n to ≡ true → is_led_to list m to ≡ true
  led_more n zero to le h = (let e : n ≡ 0 = omega arith in subst (λ k. is_led_to list k to ≡ true) e h)
  led_more n (suc m) to le h =
      ⊎_elim
      (λ (less : n < suc m). or_right (makes_leader m (slice_get list m) to) (is_led_to list m to) (led_more n m to (omega arith) h))
      (λ (past : suc m ≤ n). (let e : n ≡ suc m = omega arith in subst (λ k. is_led_to list k to ≡ true) e h))
      (cases_lt n (suc m))

  pub makes : (slot to : ℕ) (i : Insn) → slot < length list → slice_get list slot ≡ Some i → makes_leader slot (Some i) to ≡ true → is_leader list to ≡ true
  makes slot to i lt at h =
      led_more (suc slot) (length list) to (omega arith)
      (or_left (makes_leader slot (slice_get list slot) to) (is_led_to list slot to) (ap (λ o. makes_leader slot o to) at ∙ h))

  pub first_leads : is_leader list 0 ≡ true
  first_leads = led_more 0 (length list) 0 (omega arith) refl

  -- where a jump leads, and behind the end of a block
  pub jumps_lead : (slot to : ℕ) (i : Insn) → slot < length list → slice_get list slot ≡ Some i → jump_to slot i ≡ Some to → is_leader list to ≡ true
  jumps_lead slot to i lt at e =
      makes slot to i lt at (or_left (is_slot (jump_to slot i) to) (is_slot (behind_end slot i) to) (ap (λ o. is_slot o to) e ∙ eq-eqb to to refl))

  pub ends_lead : (slot : ℕ) (i : Insn) → slot < length list → slice_get list slot ≡ Some i → behind_end slot i ≡ Some (slot + 1) → is_leader list (slot + 1) ≡ true
  ends_lead slot i lt at e =
      makes slot (slot + 1) i lt at (or_right (is_slot (jump_to slot i) (slot + 1)) (is_slot (behind_end slot i) (slot + 1)) (ap (λ o. is_slot o (slot + 1)) e ∙ eq-eqb (slot + 1) (slot + 1) refl))
