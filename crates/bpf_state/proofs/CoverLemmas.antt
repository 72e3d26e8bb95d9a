-- What the masks of slots decide on whether one lies in another.
use Rattle.std.proofs.Common.{◌≡◌, ℕ, zero, suc, ◌+◌, ◌-◌, ◌<◌, ◌≤◌, Bool, true, false, List, [], ◌∷◌, map, length, get_or, refl, sym, ◌∙◌, ap, ap₂, subst, inl, inr, arith}
use Rattle.std.specs.Prelude.{◌&&◌, ◌⊎◌, ◌↔◌, IsTrue, All, bit_and}
use Rattle.std.specs.Int.Bits.{and_zero_l, and_zero_r}
use Rattle.std.proofs.lemmas.Bool.{eqb-true, eq-eqb, false≢true}
use Rattle.std.proofs.lemmas.Nat.{and-not, and_comm}
use Rattle.std.proofs.lemmas.List.{get_or-map}
use Rattle.std.proofs.lemmas.List.Elements.{All-head, All-tail}
use Rattle.bpf_state.specs.declared.known.SlotState.{SlotState}
use Rattle.bpf_state.specs.declared.known.SlotState.TheVariants.{Bytes, Word, Spilled}
use Rattle.bpf_state.specs.declared.masked.Whole.{Whole}
use Rattle.bpf_state.specs.State.{IsSlot}
use Rattle.std.specs.Prelude.{replicate}
use Rattle.bpf_state.specs.code.Masked.{held_slots, mask_of, AreSlots}
use Rattle.bpf_state.specs.Entails.{slot_entails, all_pairs}
use Rattle.bpf_state.specs.Covers.{Covers}
use Rattle.bpf_state.proofs.MaskedLemmas.{full_keeps, mask_held, held-blank}

-- ---- two bytes

-- the bits of n that m lacks and those that it has are all
split_byte : (m n : ℕ) → m < 256 → n < 256 → bit_and n (255 - m) + bit_and m n ≡ n
split_byte m n few few' = ap (λ k. k + bit_and m n) (and_comm n (255 - m)) ∙ and-not 8 m n few few'

none_lacks : (m n : ℕ) → m < 256 → n < 256 → bit_and m n ≡ n → bit_and n (255 - m) ≡ 0
none_lacks m n few few' has = let e = split_byte m n few few' in omega arith

has_all : (m n : ℕ) → m < 256 → n < 256 → bit_and n (255 - m) ≡ 0 → bit_and m n ≡ n
has_all m n few few' none = let e = split_byte m n few few' in omega arith

-- ---- one slot

pub covered_if_entailed : (a b : SlotState) → IsSlot a → IsSlot b → slot_entails a b ≡ true → bit_and (mask_of b) (255 - mask_of a) ≡ 0
covered_if_entailed (Bytes m) (Bytes n) few few' e = none_lacks m n (omega (arith, few)) (omega (arith, few')) (eqb-true (bit_and m n) n e)
covered_if_entailed (Bytes m) (Word b) few few' e = absurd (false≢true e)
covered_if_entailed (Bytes m) (Spilled q) few few' e = absurd (false≢true e)
covered_if_entailed (Word a) b few few' e = and_zero_r (mask_of b)
covered_if_entailed (Spilled p) b few few' e = and_zero_r (mask_of b)

-- a full mask lies in no other
full_in_none : (m : ℕ) → m < 256 → (m ≡ 255 → ⊥) → bit_and 255 (255 - m) ≡ 0 → ⊥
full_in_none m few part none =
    let e = and_comm 255 (255 - m) ∙ full_keeps (255 - m) (omega arith) in
    part (omega arith)

-- masks decide where not all bytes are initialised, or none has to be
pub entailed_by_masks : (a b : SlotState) → mask_of a < 256 → mask_of b < 256 → bit_and (mask_of b) (255 - mask_of a) ≡ 0 → (mask_of a ≡ 255 → ⊥) ⊎ (mask_of b ≡ 0) → slot_entails a b ≡ true
entailed_by_masks (Bytes m) (Bytes n) few few' none known = eq-eqb (bit_and m n) n (has_all m n few few' none)
entailed_by_masks (Bytes m) (Word b) few few' none (inl part) = absurd (full_in_none m few part none)
entailed_by_masks (Bytes m) (Spilled q) few few' none (inl part) = absurd (full_in_none m few part none)
entailed_by_masks (Word a) (Bytes n) few few' none known = refl
entailed_by_masks (Spilled p) (Bytes n) few few' none (inl part) = absurd (part refl)
entailed_by_masks (Spilled p) (Bytes n) few few' none (inr nothing) = eq-eqb n 0 nothing
entailed_by_masks (Word a) b few few' none (inl part) = absurd (part refl)
entailed_by_masks (Spilled p) b few few' none (inl part) = absurd (part refl)
entailed_by_masks a (Word b) few few' none (inr nothing) = absurd (omega (arith, nothing))
entailed_by_masks a (Spilled q) few few' none (inr nothing) = absurd (omega (arith, nothing))

-- ---- all slots

both : (b c : Bool) → (b && c) ≡ true → (b ≡ true) × (c ≡ true)
both true c e = (refl, e)
both false c e = absurd (false≢true e)

pub masks_held : (masks : List ℕ) (wholes : List Whole) → length wholes ≡ length masks → map mask_of (held_slots masks wholes) ≡ masks
masks_held [] wholes long = refl
masks_held (m ∷ ms) [] long = absurd (omega (arith, long))
masks_held (m ∷ ms) (w ∷ ws) long = ap₂ (λ x l. x ∷ l) (mask_held m w) (masks_held ms ws (omega (arith, long)))

pub covers_at : (have want : List SlotState) (i : ℕ) → length have ≡ 64 → length want ≡ 64 → i < 64 → Covers (map mask_of have) (map mask_of want) → bit_and (mask_of (get_or want i (Bytes 0))) (255 - mask_of (get_or have i (Bytes 0))) ≡ 0
covers_at have want i long long' h covered =
    ap₂ (λ w k. bit_and w (255 - k)) (sym (get_or-map mask_of want i (Bytes 0) 0 (omega arith))) (sym (get_or-map mask_of have i (Bytes 0) 0 (omega arith)))
    ∙ covered i h

pub entailed_covers : (have want : List SlotState) → length want ≤ length have → All IsSlot have → All IsSlot want → all_pairs slot_entails have want ≡ true → (i : ℕ) → bit_and (get_or (map mask_of want) i 0) (255 - get_or (map mask_of have) i 0) ≡ 0
entailed_covers have [] long are are' e i = and_zero_l (255 - get_or (map mask_of have) i 0)
entailed_covers [] (y ∷ ys) long are are' e i = absurd (omega (arith, long))
entailed_covers (x ∷ xs) (y ∷ ys) long are are' e zero = covered_if_entailed x y (All-head IsSlot x xs are) (All-head IsSlot y ys are') (both (slot_entails x y) _ e).0
entailed_covers (x ∷ xs) (y ∷ ys) long are are' e (suc i) =
    entailed_covers xs ys (omega (arith, long)) (All-tail IsSlot x xs are) (All-tail IsSlot y ys are') (both (slot_entails x y) _ e).1 i

-- what is held has the masks that it is held by
pub same_masks : (masks : List ℕ) (wholes : List Whole) (slots : List SlotState) → held_slots masks wholes ≡ slots → AreSlots masks wholes → masks ≡ map mask_of slots
same_masks masks wholes slots e are =
    let m = are.mask_count in
    let n = are.whole_count in
    sym (masks_held masks wholes (omega arith)) ∙ ap (map mask_of) e

pub same_covers : (answer : Bool) (have want have' want' : List ℕ) → have ≡ have' → want ≡ want' → IsTrue answer ↔ Covers have want → IsTrue answer ↔ Covers have' want'
same_covers answer have want have' want' e f told = subst (λ w. IsTrue answer ↔ Covers have' w) f (subst (λ h. IsTrue answer ↔ Covers h want) e told)

-- where nothing is known of the others, their masks alone are copied
pub blank_copied : (masks masks' : List ℕ) (wholes others : List Whole) (slots : List SlotState) → masks ≡ masks' → length wholes ≡ 64 → held_slots masks' others ≡ slots → AreSlots masks' others → slots ≡ replicate 64 (Bytes 0) → held_slots masks wholes ≡ slots
blank_copied masks masks' wholes others slots same long e are blank =
    ap (λ l. held_slots l wholes) (same ∙ same_masks masks' others slots e are ∙ ap (map mask_of) blank)
    ∙ held-blank 64 wholes long
    ∙ sym blank
