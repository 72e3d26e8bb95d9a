-- The leaders by one more instruction.
use Rattle.std.proofs.Common.{◌≡◌, ℕ, zero, suc, ◌+◌, ◌<◌, ◌≤◌, List, length, get_or, Bool, true, false, Option, Some, refl, sym, ap, ◌∙◌, subst, ⊎_elim, arith}
use Rattle.std.specs.Prelude.{◌||◌, ◌==◌, slice_get, slice_set, replicate}
use Rattle.std.proofs.lemmas.Bool.{cases_eq, eq-eqb, ne_eqb}
use Rattle.std.proofs.lemmas.List.{get_or-set_same, get_or-set_other}
use Rattle.bpf_insn.specs.declared.instruction.Insn.{Insn}
use Rattle.bpf_conversion.specs.Leaders.{jump_to, behind_end, is_slot, makes_leader}
use Rattle.bpf_conversion.specs.Outline.{AreLed}

-- a slot is marked
pub marked_at : (wanted : List Bool) (slot to : ℕ) → to < length wanted → get_or (slice_set wanted slot true) to false ≡ ((slot == to) || get_or wanted to false)
marked_at wanted slot to lt =
    ⊎_elim
    (λ (same : slot ≡ to).
    let here : get_or (slice_set wanted slot true) to false ≡ true = subst (λ n. get_or (slice_set wanted n true) to false ≡ true) (sym same) (get_or-set_same wanted to true false lt) in
    here ∙ sym (ap (λ b. b || get_or wanted to false) (eq-eqb slot to same)))
    (λ other.
    get_or-set_other wanted slot to true false (λ e. other (sym e)) ∙ sym (ap (λ b. b || get_or wanted to false) (ne_eqb slot to other)))
    (cases_eq slot to)

-- one that lies outside isn't looked at
pub marked_past : (wanted : List Bool) (slot to : ℕ) → length wanted ≤ slot → to < length wanted → get_or wanted to false ≡ ((slot == to) || get_or wanted to false)
marked_past wanted slot to past lt = sym (ap (λ b. b || get_or wanted to false) (ne_eqb slot to (λ e. omega (arith, e))))

or_both : (a b c x y : Bool) → x ≡ (a || c) → y ≡ (b || x) → y ≡ ((b || a) || c)
or_both true true c x y e f = f
or_both true false c x y e f = f ∙ e
or_both false true c x y e f = f
or_both false false c x y e f = f ∙ e

pub marked_both : (slot : ℕ) (i : Insn) (old mid new : List Bool) (to : ℕ) → get_or mid to false ≡ (is_slot (behind_end slot i) to || get_or old to false) → get_or new to false ≡ (is_slot (jump_to slot i) to || get_or mid to false)
    → get_or new to false ≡ (makes_leader slot (Some i) to || get_or old to false)
marked_both slot i old mid new to e f = or_both (is_slot (behind_end slot i) to) (is_slot (jump_to slot i) to) (get_or old to false) (get_or mid to false) (get_or new to false) e f

-- ---- from the first instruction on

none_marked : (n at : ℕ) → get_or (replicate n false) at false ≡ false
none_marked zero at = refl
none_marked (suc n) zero = refl
none_marked (suc n) (suc at) = none_marked n at

or_false : (b : Bool) → (b || false) ≡ b
or_false true = refl
or_false false = refl

zero_is : (to : ℕ) → (0 == to) ≡ (to == 0)
zero_is zero = refl
zero_is (suc to) = ne_eqb 0 (suc to) (λ e. omega (arith, e)) ∙ sym (ne_eqb (suc to) 0 (λ e. omega (arith, e)))

pub led_first : (list : List Insn) (blank wanted : List Bool) → length blank ≡ length list → ((at : ℕ) → get_or blank at false ≡ false) → length wanted ≡ length blank
    → ((to : ℕ) → to < length blank → get_or wanted to false ≡ (is_slot (Some 0) to || get_or blank to false)) → AreLed list 0 wanted
led_first list blank wanted size none long each = record {
  long = long ∙ size;
  each = λ to lt. each to (omega (arith, size)) ∙ ap (λ b. (0 == to) || b) (none to) ∙ or_false (0 == to) ∙ zero_is to;
}

pub led_more : (list : List Insn) (n : ℕ) (old new : List Bool) (o : Option Insn) → o ≡ slice_get list n → AreLed list n old → length new ≡ length old
    → ((to : ℕ) → to < length old → get_or new to false ≡ (makes_leader n o to || get_or old to false)) → AreLed list (n + 1) new
led_more list n old new o is h long each =
    let e : suc n ≡ n + 1 = omega arith in
    let next : AreLed list (suc n) new = record {
      long = long ∙ h.long;
      each = λ to lt. each to (omega (arith, h.long)) ∙ ap (λ o. makes_leader n o to || get_or old to false) is ∙ ap (λ b. makes_leader n (slice_get list n) to || b) (h.each to lt);
    } in
    subst (λ m. AreLed list m new) e next
