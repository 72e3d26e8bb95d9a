-- The places of a state one after the other.
use Rattle.std.proofs.Common.{◌≡◌, ℕ, zero, suc, ◌-◌, ◌<◌, List, [], ◌∷◌, length, get_or, refl, sym, ◌∙◌, ap, subst, arith, Bool, true, false, Option, Some, None}
use Rattle.std.specs.Prelude.{not, is_some, is_none, option_map, option_and_then}
use Rattle.std.proofs.lemmas.Bool.{and_from, and_parts, false_from_ne_true, false≢true}
use Rattle.bpf_insn.specs.declared.instruction.Reg.{Reg}
use Rattle.bpf_insn.specs.declared.instruction.Reg.TheVariants.{R0, R1, R2, R3, R4, R5, R6, R7, R8, R9, R10}
use Rattle.bpf_insn.specs.Instruction.{register_number}
use Rattle.bpf_insn.proofs.RegisterLemmas.{reg_below}
use Rattle.bpf_state.specs.declared.known.Place.{Place}
use Rattle.bpf_state.specs.declared.known.Place.TheVariants.{Register, Slot}
use Rattle.bpf_state.specs.declared.known.RegState.{RegState}
use Rattle.bpf_state.specs.declared.known.RegState.TheVariants.{Any}
use Rattle.bpf_state.specs.declared.known.SlotState.{SlotState}
use Rattle.bpf_state.specs.declared.known.SlotState.TheVariants.{Bytes}
use Rattle.bpf_state.specs.State.{AbstractState, IsAbstractState, IsPlace, tightened, tightened_register, tightened_slot, each_if}
use Rattle.bpf_state.specs.Entails.{register_entails, slot_entails, all_pairs, state_entails}
use Rattle.bpf_state.specs.Places.{place_number, entails_at, is_empty_at}
use Rattle.bpf_state.proofs.EntryEntailment.{pair_at}

-- no place up to a number passes a test
abbrev pub NoneTo : (Place → Bool) → ℕ → Type 0
NoneTo test n = (p : Place) → IsPlace p → place_number p < n → test p ≡ false

-- ---- all registers and all slots

reg_at : (i : ℕ) → i < 11 → (r : Reg) × (register_number r ≡ i)
reg_at zero h = (R0, refl)
reg_at (suc zero) h = (R1, refl)
reg_at (suc (suc zero)) h = (R2, refl)
reg_at (suc (suc (suc zero))) h = (R3, refl)
reg_at (suc (suc (suc (suc zero)))) h = (R4, refl)
reg_at (suc (suc (suc (suc (suc zero))))) h = (R5, refl)
reg_at (suc (suc (suc (suc (suc (suc zero)))))) h = (R6, refl)
reg_at (suc (suc (suc (suc (suc (suc (suc zero))))))) h = (R7, refl)
reg_at (suc (suc (suc (suc (suc (suc (suc (suc zero)))))))) h = (R8, refl)
reg_at (suc (suc (suc (suc (suc (suc (suc (suc (suc zero))))))))) h = (R9, refl)
reg_at (suc (suc (suc (suc (suc (suc (suc (suc (suc (suc zero)))))))))) h = (R10, refl)
reg_at (suc (suc (suc (suc (suc (suc (suc (suc (suc (suc (suc i))))))))))) h = absurd (omega arith)

unmarked : (b : Bool) → not b ≡ false → b ≡ true
unmarked true e = refl
unmarked false e = absurd (false≢true (sym e))

each_register : (test : Place → Bool) → NoneTo test 75 → (f : ℕ → Bool) → ((r : Reg) → test (Register r) ≡ f (register_number r)) → (i : ℕ) → i < 11 → f i ≡ false
each_register test none f same i h =
    let at = reg_at i h in
    let few = reg_below at.0 in
    subst (λ n. f n ≡ false) at.1 (sym (same at.0) ∙ none (Register at.0) tt (omega arith))

each_slot : (test : Place → Bool) → NoneTo test 75 → (f : ℕ → Bool) → ((k : ℕ) → test (Slot k) ≡ f (k - 1)) → (i : ℕ) → i < 64 → f i ≡ false
each_slot test none f same i h =
    let e : suc i - 1 ≡ i = omega arith in
    subst (λ n. f n ≡ false) e (sym (same (suc i)) ∙ none (Slot (suc i)) (omega arith, omega arith) (omega arith))

-- ---- a state lies in another

pub lost : (s t : AbstractState) (p : Place) → IsAbstractState s → IsAbstractState t → IsPlace p → entails_at s t p ≡ false → false ≡ state_entails s t
lost s t p is it placed e = sym (false_from_ne_true _ (λ all. false≢true (sym e ∙ entailed p placed (and_parts _ _ all))))
  where
    entailed : (p : Place) → IsPlace p → (all_pairs register_entails s.registers t.registers ≡ true) × (all_pairs slot_entails s.slots t.slots ≡ true) → entails_at s t p ≡ true
    entailed (Register r) placed parts =
        let few = reg_below r in let long = is.register_count in let long' = it.register_count in
        pair_at register_entails s.registers t.registers (register_number r) Any (omega arith) (omega arith) parts.0
    entailed (Slot k) placed parts =
        let low = placed.0 in let high = placed.1 in let long = is.slot_count in let long' = it.slot_count in
        pair_at slot_entails s.slots t.slots (k - 1) (Bytes 0) (omega arith) (omega arith) parts.1

pairs_from : {A : Type 0} (test : A → A → Bool) (xs ys : List A) (d : A) → ((i : ℕ) → i < length xs → test (get_or xs i d) (get_or ys i d) ≡ true) → all_pairs test xs ys ≡ true
pairs_from test [] ys d each = refl
pairs_from test (x ∷ xs) [] d each = refl
pairs_from test (x ∷ xs) (y ∷ ys) d each = and_from _ _ (each 0 (omega arith)) (pairs_from test xs ys d (λ i h. each (suc i) (omega arith)))

pub none_lost : (s t : AbstractState) → IsAbstractState s → NoneTo (λ p. not (entails_at s t p)) 75 → true ≡ state_entails s t
none_lost s t is none =
    let long = is.register_count in let long' = is.slot_count in
    sym (and_from _ _
    (pairs_from register_entails s.registers t.registers Any (λ i h. unmarked _ (each_register (λ p. not (entails_at s t p)) none (λ n. not (register_entails (get_or s.registers n Any) (get_or t.registers n Any))) (λ r. refl) i (omega arith))))
    (pairs_from slot_entails s.slots t.slots (Bytes 0) (λ i h. unmarked _ (each_slot (λ p. not (entails_at s t p)) none (λ n. not (slot_entails (get_or s.slots n (Bytes 0)) (get_or t.slots n (Bytes 0)))) (λ k. refl) i (omega arith)))))

-- ---- each number of a state has a member

if_each : {A : Type 0} (f : A → Option A) (xs : List A) (i : ℕ) (d : A) → i < length xs → is_none (f (get_or xs i d)) ≡ true → each_if f xs ≡ None
if_each f [] i d h e = absurd (omega arith)
if_each {A = A} f (x ∷ xs) zero d h e = here (f x) e
  where
    here : (o : Option A) → is_none o ≡ true → option_and_then (λ y. option_map (λ ys. y ∷ ys) (each_if f xs)) o ≡ None
    here None e = refl
    here (Some y) e = absurd (false≢true e)
if_each {A = A} f (x ∷ xs) (suc i) d h e = later (f x) (if_each f xs i d (omega arith) e)
  where
    later : (o : Option A) → each_if f xs ≡ None → option_and_then (λ y. option_map (λ ys. y ∷ ys) (each_if f xs)) o ≡ None
    later None e = refl
    later (Some y) e = ap (option_map (λ ys. y ∷ ys)) e

some_each : {A : Type 0} (f : A → Option A) (xs : List A) (d : A) → ((i : ℕ) → i < length xs → is_none (f (get_or xs i d)) ≡ false) → is_some (each_if f xs) ≡ true
some_each f [] d each = refl
some_each {A = A} f (x ∷ xs) d each = go (f x) (each_if f xs) (each 0 (omega arith)) (some_each f xs d (λ i h. each (suc i) (omega arith)))
  where
    go : (o : Option A) (q : Option (List A)) → is_none o ≡ false → is_some q ≡ true → is_some (option_and_then (λ y. option_map (λ ys. y ∷ ys) q) o) ≡ true
    go (Some y) (Some ys) e g = refl
    go None q e g = absurd (false≢true (sym e))
    go o None e g = absurd (false≢true g)

pub empty : (s : AbstractState) (p : Place) → IsAbstractState s → IsPlace p → is_empty_at s p ≡ true → false ≡ is_some (tightened s)
empty s (Register r) is placed e =
    let few = reg_below r in let long = is.register_count in
    sym (ap (λ o. is_some (option_and_then (λ registers. option_map (λ slots. record s { registers = registers; slots = slots }) (each_if tightened_slot s.slots)) o))
    (if_each tightened_register s.registers (register_number r) Any (omega arith) e))
empty s (Slot k) is placed e =
    let low = placed.0 in let high = placed.1 in let long = is.slot_count in
    no_slots (each_if tightened_register s.registers) (if_each tightened_slot s.slots (k - 1) (Bytes 0) (omega arith) e)
  where
    no_slots : (o : Option (List RegState)) → each_if tightened_slot s.slots ≡ None → false ≡ is_some (option_and_then (λ registers. option_map (λ slots. record s { registers = registers; slots = slots }) (each_if tightened_slot s.slots)) o)
    no_slots None e = refl
    no_slots (Some registers) e = sym (ap (λ q. is_some (option_map (λ slots. record s { registers = registers; slots = slots }) q)) e)

pub none_empty : (s : AbstractState) → IsAbstractState s → NoneTo (is_empty_at s) 75 → true ≡ is_some (tightened s)
none_empty s is none =
    let long = is.register_count in let long' = is.slot_count in
    both (each_if tightened_register s.registers) (each_if tightened_slot s.slots)
    (some_each tightened_register s.registers Any (λ i h. each_register (is_empty_at s) none (λ n. is_none (tightened_register (get_or s.registers n Any))) (λ r. refl) i (omega arith)))
    (some_each tightened_slot s.slots (Bytes 0) (λ i h. each_slot (is_empty_at s) none (λ n. is_none (tightened_slot (get_or s.slots n (Bytes 0)))) (λ k. refl) i (omega arith)))
  where
    both : (o : Option (List RegState)) (q : Option (List SlotState)) → is_some o ≡ true → is_some q ≡ true → true ≡ is_some (option_and_then (λ registers. option_map (λ slots. record s { registers = registers; slots = slots }) q) o)
    both (Some registers) (Some slots) e f = refl
    both None q e f = absurd (false≢true e)
    both o None e f = absurd (false≢true f)
