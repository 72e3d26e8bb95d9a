-- The slots as their masks and what they hold as a whole.
use Rattle.std.proofs.Common.{◌≡◌, ℕ, zero, suc, ◌<◌, ◌≤◌, List, [], ◌∷◌, length, get_or, refl, sym, ◌∙◌, ap, ap₂, subst, arith, Some, inl, inr}
use Rattle.std.specs.Prelude.{◌==◌, set, replicate, bit_and, ◌%◌}
use Rattle.std.proofs.lemmas.Bool.{cases_eq, cases_lt, eq-eqb, ne_eqb, cond-true, cond-false}
use Rattle.std.proofs.lemmas.Grind.{and_numeral}
use Rattle.std.proofs.lemmas.List.{get_or_past}
use Rattle.bpf_state.specs.Access.{are_known_bytes}
use Rattle.bpf_state.specs.declared.known.SlotState.{SlotState}
use Rattle.bpf_state.specs.declared.known.SlotState.TheVariants.{Bytes, Word, Spilled}
use Rattle.bpf_state.specs.declared.masked.Whole.{Whole}
use Rattle.bpf_state.specs.declared.masked.Whole.TheVariants.{Word as Number, Ptr as Pointer}
use Rattle.bpf_state.specs.declared.known.Area.TheVariants.{Context}
use Rattle.bpf_state.specs.State.{start_of}
use Rattle.bpf_state.specs.State.{IsSlot, tightened_slot}
use Rattle.bpf_state.specs.code.Masked.{whole_slot, held, held_slots, mask_of, AreSlots}

-- ---- one slot

-- what an empty place would hold
abbrev pub any_whole : Whole
any_whole = Pointer (start_of Context)

pub held_whole : (mask : ℕ) (w : Whole) → mask ≡ 255 → held mask w ≡ whole_slot w
held_whole mask w full = cond-true (mask == 255) (whole_slot w) (Bytes mask) (eq-eqb mask 255 full)

pub held_bytes : (mask : ℕ) (w : Whole) → (mask ≡ 255 → ⊥) → held mask w ≡ Bytes mask
held_bytes mask w part = cond-false (mask == 255) (whole_slot w) (Bytes mask) (ne_eqb mask 255 part)

mask_whole : (w : Whole) → mask_of (whole_slot w) ≡ 255
mask_whole (Number n) = refl
mask_whole (Pointer p) = refl

pub mask_held : (mask : ℕ) (w : Whole) → mask_of (held mask w) ≡ mask
mask_held mask w = elim (cases_eq mask 255) [
  | inl full ↦ ap mask_of (held_whole mask w full) ∙ mask_whole w ∙ sym full
  | inr part ↦ ap mask_of (held_bytes mask w part)
]

-- ---- all of them

pub length-held : (masks : List ℕ) (wholes : List Whole) → length wholes ≡ length masks → length (held_slots masks wholes) ≡ length masks
length-held [] wholes long = refl
length-held (m ∷ ms) [] long = absurd (omega (arith, long))
length-held (m ∷ ms) (w ∷ ws) long = ap suc (length-held ms ws (omega (arith, long)))

pub get-held : (masks : List ℕ) (wholes : List Whole) (i : ℕ) (d : Whole) → length wholes ≡ length masks → i < length masks → get_or (held_slots masks wholes) i (Bytes 0) ≡ held (get_or masks i 0) (get_or wholes i d)
get-held [] wholes i d long h = absurd (omega arith)
get-held (m ∷ ms) [] i d long h = absurd (omega (arith, long))
get-held (m ∷ ms) (w ∷ ws) zero d long h = refl
get-held (m ∷ ms) (w ∷ ws) (suc i) d long h = get-held ms ws i d (omega (arith, long)) (omega (arith, h))

pub set-bytes : (masks : List ℕ) (wholes : List Whole) (i mask : ℕ) → length wholes ≡ length masks → i < length masks → (mask ≡ 255 → ⊥) → held_slots (set masks i mask) wholes ≡ set (held_slots masks wholes) i (Bytes mask)
set-bytes [] wholes i mask long h part = absurd (omega arith)
set-bytes (m ∷ ms) [] i mask long h part = absurd (omega (arith, long))
set-bytes (m ∷ ms) (w ∷ ws) zero mask long h part = ap (λ s. s ∷ held_slots ms ws) (held_bytes mask w part)
set-bytes (m ∷ ms) (w ∷ ws) (suc i) mask long h part = ap (λ s. held m w ∷ s) (set-bytes ms ws i mask (omega (arith, long)) (omega (arith, h)) part)

pub set-whole : (masks : List ℕ) (wholes : List Whole) (i : ℕ) (x : Whole) → length wholes ≡ length masks → i < length masks → held_slots (set masks i 255) (set wholes i x) ≡ set (held_slots masks wholes) i (whole_slot x)
set-whole [] wholes i x long h = absurd (omega arith)
set-whole (m ∷ ms) [] i x long h = absurd (omega (arith, long))
set-whole (m ∷ ms) (w ∷ ws) zero x long h = refl
set-whole (m ∷ ms) (w ∷ ws) (suc i) x long h = ap (λ s. held m w ∷ s) (set-whole ms ws i x (omega (arith, long)) (omega (arith, h)))

-- empty masks say that nothing is known
pub held-blank : (n : ℕ) (wholes : List Whole) → length wholes ≡ n → held_slots (replicate n 0) wholes ≡ replicate n (Bytes 0)
held-blank zero wholes long = refl
held-blank (suc n) [] long = absurd (omega (arith, long))
held-blank (suc n) (w ∷ ws) long = ap (λ s. Bytes 0 ∷ s) (held-blank n ws (omega (arith, long)))

-- ---- reads

pub got_whole : (masks : List ℕ) (wholes : List Whole) (slots : List SlotState) (i : ℕ) (d w : Whole) → held_slots masks wholes ≡ slots → AreSlots masks wholes → i < 64 → get_or masks i 0 ≡ 255 → get_or wholes i d ≡ w → whole_slot w ≡ get_or slots i (Bytes 0)
got_whole masks wholes slots i d w e are h full here =
    let m = are.mask_count in
    let n = are.whole_count in
    ap whole_slot (sym here)
    ∙ sym (held_whole (get_or masks i 0) (get_or wholes i d) full)
    ∙ sym (get-held masks wholes i d (omega arith) (omega arith))
    ∙ ap (λ l. get_or l i (Bytes 0)) e

pub got_bytes : (masks : List ℕ) (wholes : List Whole) (slots : List SlotState) (i : ℕ) → held_slots masks wholes ≡ slots → AreSlots masks wholes → i < 64 → (get_or masks i 0 ≡ 255 → ⊥) → Bytes (get_or masks i 0) ≡ get_or slots i (Bytes 0)
got_bytes masks wholes slots i e are h part =
    let m = are.mask_count in
    let n = are.whole_count in
    sym (held_bytes (get_or masks i 0) (get_or wholes i any_whole) part)
    ∙ sym (get-held masks wholes i any_whole (omega arith) (omega arith))
    ∙ ap (λ l. get_or l i (Bytes 0)) e

pub got_mask : (masks : List ℕ) (wholes : List Whole) (slots : List SlotState) (i : ℕ) → held_slots masks wholes ≡ slots → AreSlots masks wholes → i < 64 → get_or masks i 0 ≡ mask_of (get_or slots i (Bytes 0))
got_mask masks wholes slots i e are h =
    let m = are.mask_count in
    let n = are.whole_count in
    sym (mask_held (get_or masks i 0) (get_or wholes i any_whole))
    ∙ ap mask_of (sym (get-held masks wholes i any_whole (omega arith) (omega arith)) ∙ ap (λ l. get_or l i (Bytes 0)) e)

pub count_slots : (masks : List ℕ) (wholes : List Whole) (slots : List SlotState) → held_slots masks wholes ≡ slots → AreSlots masks wholes → length slots ≡ 64
count_slots masks wholes slots e are =
    let m = are.mask_count in
    let n = are.whole_count in
    sym (ap length e) ∙ length-held masks wholes (omega arith) ∙ m

-- ---- writes

pub put_bytes : (masks : List ℕ) (wholes : List Whole) (slots : List SlotState) (i mask : ℕ) (s : SlotState) → held_slots masks wholes ≡ slots → AreSlots masks wholes → i < 64 → s ≡ Bytes mask → IsSlot s → held_slots (set masks i mask) wholes ≡ set slots i s
put_bytes masks wholes slots i mask s e are h is ok =
    let m = are.mask_count in
    let n = are.whole_count in
    let few : mask ≤ 254 = subst IsSlot is ok in
    set-bytes masks wholes i mask (omega arith) (omega arith) (λ full. omega (arith, full)) ∙ ap₂ (λ l x. set l i x) e (sym is)

pub put_whole : (masks : List ℕ) (wholes : List Whole) (slots : List SlotState) (i : ℕ) (w : Whole) (s : SlotState) → held_slots masks wholes ≡ slots → AreSlots masks wholes → i < 64 → s ≡ whole_slot w → held_slots (set masks i 255) (set wholes i w) ≡ set slots i s
put_whole masks wholes slots i w s e are h is =
    let m = are.mask_count in
    let n = are.whole_count in
    set-whole masks wholes i w (omega arith) (omega arith) ∙ ap₂ (λ l x. set l i x) e (sym is)

-- ---- copies

-- the wholes beside full masks below a place are the others
abbrev pub SameTo : ℕ → List ℕ → List Whole → List Whole → Type 0
SameTo i masks wholes others = (j : ℕ) → j < i → get_or masks j 0 ≡ 255 → get_or wholes j any_whole ≡ get_or others j any_whole

same_held : (m : ℕ) (w v : Whole) → (m ≡ 255 → w ≡ v) → held m w ≡ held m v
same_held m w v same = elim (cases_eq m 255) [
  | inl full ↦ ap (held m) (same full)
  | inr part ↦ held_bytes m w part ∙ sym (held_bytes m v part)
]

pub same_slots : (masks : List ℕ) (wholes others : List Whole) → length wholes ≡ length masks → length others ≡ length masks → SameTo (length masks) masks wholes others → held_slots masks wholes ≡ held_slots masks others
same_slots [] wholes others long long' same = refl
same_slots (m ∷ ms) [] others long long' same = absurd (omega (arith, long))
same_slots (m ∷ ms) (w ∷ ws) [] long long' same = absurd (omega (arith, long'))
same_slots (m ∷ ms) (w ∷ ws) (v ∷ vs) long long' same =
    ap₂ (λ x l. x ∷ l) (same_held m w v (same 0 (omega arith)))
    (same_slots ms ws vs (omega (arith, long)) (omega (arith, long')) (λ j h. same (suc j) (omega arith)))

pub all_copied : (i : ℕ) (masks masks' : List ℕ) (wholes others : List Whole) (slots : List SlotState) → masks ≡ masks' → length wholes ≡ 64 → 64 ≤ i → SameTo i masks' wholes others → held_slots masks' others ≡ slots → AreSlots masks' others → held_slots masks wholes ≡ slots
all_copied i masks masks' wholes others slots same long past copied e are =
    let m = are.mask_count in
    let n = are.whole_count in
    ap (λ l. held_slots l wholes) same
    ∙ same_slots masks' wholes others (omega arith) (omega arith) (λ j h full. copied j (omega arith) full)
    ∙ e

-- ---- what masks decide

pub full_keeps : (n : ℕ) → n < 256 → bit_and n 255 ≡ n
full_keeps n few = and_numeral n 254 refl ∙ small n few
  where
    small : (n : ℕ) → n < 256 → n % 256 ≡ n
    small n few = omega arith

pub known_by_mask : (bytes : ℕ) (s : SlotState) → bytes < 256 → (bit_and bytes (mask_of s) == bytes) ≡ are_known_bytes bytes s
known_by_mask bytes (Bytes m) few = refl
known_by_mask bytes (Word n) few = eq-eqb (bit_and bytes 255) bytes (full_keeps bytes few)
known_by_mask bytes (Spilled p) few = eq-eqb (bit_and bytes 255) bytes (full_keeps bytes few)

-- only words are tightened
pub tight_by_mask : (s : SlotState) → (mask_of s ≡ 255 → ⊥) → tightened_slot s ≡ Some s
tight_by_mask (Bytes m) part = refl
tight_by_mask (Word n) part = absurd (part refl)
tight_by_mask (Spilled p) part = refl

-- masks of zeros say nothing of any byte
held_zeros : (masks : List ℕ) (wholes : List Whole) → length masks ≡ length wholes → ((i : ℕ) → get_or masks i 0 ≡ 0) → held_slots masks wholes ≡ replicate (length masks) (Bytes 0)
held_zeros [] [] e z = refl
held_zeros [] (w ∷ ws) e z = absurd (omega (arith, e))
held_zeros (m ∷ ms) [] e z = absurd (omega (arith, e))
held_zeros (m ∷ ms) (w ∷ ws) e z = ap₂ (λ s ss. s ∷ ss) (ap (λ n. held n w) (z 0)) (held_zeros ms ws (omega (arith, e)) (λ i. z (suc i)))

pub blank_by_masks : (masks : List ℕ) (wholes : List Whole) (slots : List SlotState) → held_slots masks wholes ≡ slots → AreSlots masks wholes → ((i : ℕ) → i < 64 → get_or masks i 0 ≡ 0) → slots ≡ replicate 64 (Bytes 0)
blank_by_masks masks wholes slots e are none =
    sym e
    ∙ held_zeros masks wholes (are.mask_count ∙ sym are.whole_count) (λ i. elim (cases_lt i 64) [ inl lt ↦ none i lt | inr past ↦ get_or_past masks i 0 (omega (arith, are.mask_count)) ])
    ∙ ap (λ n. replicate n (Bytes 0)) are.mask_count
