-- The slots that an access may touch: a test of some of them, and a change of each.
use Rattle.std.proofs.Common.{◌≡◌, ℕ, zero, suc, ◌+◌, ◌-◌, ◌<◌, ◌≤◌, List, [], ◌∷◌, length, get_or, refl, sym, ◌∙◌, ap, subst, arith, true, false, Bool, Option, None, inl, inr, ◌⊎◌, negsuc, min, ◌*◌, ◌%◌}
use Rattle.std.specs.Prelude.{◌&&◌, set, unsigned_abs, ℤ, pos, neg_ℤ, ◌-ℤ◌, ◌≤ℤ◌, if◌then◌else◌}
use Rattle.std.proofs.lemmas.Bool.{and_from, and_left, and_right, or_left, or_right, or_from, le-leb, lt-leb, lt-ltb, le-ltb, cases_lt, cases_eq, cond-true, cond-false, eq-eqb, false≢true}
use Rattle.std.proofs.lemmas.Bool.Decides.{nat_tests, Decides-int_eq}
use Rattle.std.proofs.Math.Pow.{pow_mono}
use Rattle.std.specs.Int.{int_min, int_max}
use Rattle.bpf_state.proofs.AccessLemmas.{place_small}
use Rattle.std.proofs.lemmas.Int.{ints}
use Rattle.std.proofs.lemmas.List.{get_or-set_same, get_or-set_other, length-set, ext_get_or}
use Rattle.bpf_state.specs.declared.known.SlotState.{SlotState}
use Rattle.bpf_state.specs.declared.known.SlotState.TheVariants.{Bytes}
use Rattle.bpf_state.specs.declared.known.Tag.{Tag}
use Rattle.bpf_state.specs.Access.{Span, touches, touched_bytes, any_slot, IsFirstSlot, is_known, is_slot, offset_in_slot, first_byte, span_end}
use Rattle.bpf_state.specs.Transfer.{each_slot, each_slot_tag}
use Rattle.bpf_state.specs.code.Parts.{IsSpan, AreTouched}

-- ---- a test of some slot

any_at : (test : ℕ → SlotState → Bool) (k : ℕ) (xs : List SlotState) (i m : ℕ) → i < length xs → m ≡ k + i → test m (get_or xs i (Bytes 0)) ≡ true → any_slot test k xs ≡ true
any_at test k [] i m h e t = absurd (omega arith)
any_at test k (x ∷ xs) zero m h e t = or_left _ _ (subst (λ n. test n x ≡ true) (let f : m ≡ k = omega arith in f) t)
any_at test k (x ∷ xs) (suc i) m h e t = or_right _ _ (any_at test (suc k) xs i m (omega arith) (omega arith) t)

any_none : (test : ℕ → SlotState → Bool) (k : ℕ) (xs : List SlotState) → ((i m : ℕ) → i < length xs → m ≡ k + i → test m (get_or xs i (Bytes 0)) ≡ false) → any_slot test k xs ≡ false
any_none test k [] none = refl
any_none test k (x ∷ xs) none = or_from _ _ (none 0 k (omega arith) (omega arith)) (any_none test (suc k) xs (λ i m h e. none (suc i) m (omega arith) (omega arith)))

inside : (p : Span) (first end i : ℕ) → AreTouched p first end → first ≤ i → i < end → touches p (suc i) ≡ true
inside p first end i are low high = let within = are.within in are.exact i (omega arith) ∙ and_from _ _ (lt-ltb i end high) (le-leb first i low)

outside : (p : Span) (first end i : ℕ) → AreTouched p first end → i < 64 → (i < first) ⊎ (end ≤ i) → touches p (suc i) ≡ false
outside p first end i are lt (inl low) = are.exact i lt ∙ and_right _ _ (lt-leb first i low)
outside p first end i are lt (inr high) = are.exact i lt ∙ and_left _ _ (le-ltb i end high)

pub touched_any : (p : Span) (first end : ℕ) (test : ℕ → SlotState → Bool) (xs : List SlotState) (i : ℕ) → AreTouched p first end → length xs ≡ 64 → first ≤ i → i < end → test (suc i) (get_or xs i (Bytes 0)) ≡ true → any_slot (λ k held. touches p k && test k held) 1 xs ≡ true
touched_any p first end test xs i are long low high t =
    let within = are.within in
    any_at (λ k held. touches p k && test k held) 1 xs i (suc i) (omega arith) (omega arith) (and_from _ _ (inside p first end i are low high) t)

-- no touched slot up to a place passes
abbrev pub NoneTo : (ℕ → SlotState → Bool) → ℕ → ℕ → List SlotState → Type 0
NoneTo test first i xs = (j : ℕ) → first ≤ j → j < i → test (suc j) (get_or xs j (Bytes 0)) ≡ false

pub none_more : (test : ℕ → SlotState → Bool) (first i : ℕ) (xs : List SlotState) → NoneTo test first i xs → test (suc i) (get_or xs i (Bytes 0)) ≡ false → NoneTo test first (i + 1) xs
none_more test first i xs none t j low high = elim (cases_lt j i) [
  | inl lt ↦ none j low lt
  | inr ge ↦ (let e : j ≡ i = omega arith in rw e t)
]

pub touched_none : (p : Span) (first end i : ℕ) (test : ℕ → SlotState → Bool) (xs : List SlotState) → AreTouched p first end → length xs ≡ 64 → end ≤ i → NoneTo test first i xs → any_slot (λ k held. touches p k && test k held) 1 xs ≡ false
touched_none p first end i test xs are long past none =
    any_none (λ k held. touches p k && test k held) 1 xs (λ j m lt e.
    let f : m ≡ suc j = omega arith in
    rw f (elim (cases_lt j first) [
      | inl low ↦ and_left _ _ (outside p first end j are (omega arith) (inl low))
      | inr from ↦ elim (cases_lt j end) [
        | inl high ↦ and_right _ _ (none j from (omega arith))
        | inr over ↦ and_left _ _ (outside p first end j are (omega arith) (inr over))
      ]
    ]))

-- the first touched slot that passes
pub touched_first : (p : Span) (first end : ℕ) (test : ℕ → SlotState → Bool) (xs : List SlotState) (i k : ℕ) → AreTouched p first end → first ≤ i → i < end → k ≡ i + 1 → NoneTo test first i xs → test (suc i) (get_or xs i (Bytes 0)) ≡ true → IsFirstSlot (λ k held. touches p k && test k held) xs k
touched_first p first end test xs i k are from below e none t =
    let within = are.within in
    let last : suc i - 1 ≡ i = omega arith in
    let same : k ≡ suc i = omega arith in
    rw same (record {
      low = omega arith;
      high = omega arith;
      passes = rw last (and_from _ _ (inside p first end i are from below) t);
      first = before;
    })
  where
    before : (j : ℕ) → 1 ≤ j → j < suc i → (touches p j && test j (get_or xs (j - 1) (Bytes 0))) ≡ false
    before zero low lt = absurd (omega arith)
    before (suc j) low lt =
        let within = are.within in
        let one : suc j - 1 ≡ j = omega arith in
        rw one (elim (cases_lt j first) [
          | inl less ↦ and_left _ _ (outside p first end j are (omega arith) (inl less))
          | inr more ↦ and_right _ _ (none j more (omega arith))
        ])

-- ---- a change of each slot

length-each : (f : ℕ → SlotState → SlotState) (k : ℕ) (xs : List SlotState) → length (each_slot f k xs) ≡ length xs
length-each f k [] = refl
length-each f k (x ∷ xs) = ap suc (length-each f (suc k) xs)

get-each : (f : ℕ → SlotState → SlotState) (k : ℕ) (xs : List SlotState) (i m : ℕ) → i < length xs → m ≡ k + i → get_or (each_slot f k xs) i (Bytes 0) ≡ f m (get_or xs i (Bytes 0))
get-each f k [] i m h e = absurd (omega arith)
get-each f k (x ∷ xs) zero m h e = ap (λ n. f n x) (let g : k ≡ m = omega arith in g)
get-each f k (x ∷ xs) (suc i) m h e = get-each f (suc k) xs i m (omega arith) (omega arith)

length-each_tag : (f : ℕ → Option Tag → Option Tag) (k : ℕ) (xs : List (Option Tag)) → length (each_slot_tag f k xs) ≡ length xs
length-each_tag f k [] = refl
length-each_tag f k (x ∷ xs) = ap suc (length-each_tag f (suc k) xs)

get-each_tag : (f : ℕ → Option Tag → Option Tag) (k : ℕ) (xs : List (Option Tag)) (i m : ℕ) → i < length xs → m ≡ k + i → get_or (each_slot_tag f k xs) i None ≡ f m (get_or xs i None)
get-each_tag f k [] i m h e = absurd (omega arith)
get-each_tag f k (x ∷ xs) zero m h e = ap (λ n. f n x) (let g : k ≡ m = omega arith in g)
get-each_tag f k (x ∷ xs) (suc i) m h e = get-each_tag f (suc k) xs i m (omega arith) (omega arith)

-- the touched elements below a place are changed, and no others
pub record ChangedTo {A : Type 0} (d : A) (change : ℕ → A → A) (first i : ℕ) (old new : List A) : Type 0 where
  pub long : length new ≡ length old
  pub changed : (j : ℕ) → first ≤ j → j < i → get_or new j d ≡ change (suc j) (get_or old j d)
  pub before : (j : ℕ) → j < first → get_or new j d ≡ get_or old j d
  pub after : (j : ℕ) → i ≤ j → get_or new j d ≡ get_or old j d

pub change_more : {A : Type 0} (d : A) (change : ℕ → A → A) (first i : ℕ) (old new : List A) (y : A) → ChangedTo d change first i old new → first ≤ i → i < length old → y ≡ change (suc i) (get_or new i d) → ChangedTo d change first (i + 1) old (set new i y)
change_more d change first i old new y so_far low lt e =
    let long = so_far.long in
    record {
      long = length-set new i y ∙ long;
      changed =
          λ j from below. elim (cases_eq j i) [
            | inl same ↦ rw same (get_or-set_same new i y d (omega arith) ∙ e ∙ ap (change (suc i)) (so_far.after i (omega arith)))
            | inr other ↦ get_or-set_other new i j y d other ∙ so_far.changed j from (below_other j i below other)
          ];
      before = λ j h. get_or-set_other new i j y d (λ same. omega (arith, same)) ∙ so_far.before j h;
      after = λ j h. get_or-set_other new i j y d (λ same. omega (arith, same)) ∙ so_far.after j (omega arith);
    }
  where
    below_other : (j i : ℕ) → j < i + 1 → (j ≡ i → ⊥) → j < i
    below_other j i h other = elim (cases_lt j i) [ inl lt ↦ lt | inr ge ↦ absurd (other (omega arith)) ]

-- at the end each slot is what the definition says
each_is : {A : Type 0} (d : A) (change : ℕ → A → A) (p : Span) (first end i : ℕ) (old new : List A) (j : ℕ) → AreTouched p first end → ChangedTo d change first i old new → i ≡ end → j < 64 → get_or new j d ≡ (if touches p (suc j) then change (suc j) (get_or old j d) else get_or old j d)
each_is d change p first end i old new j are so_far stop lt = elim (cases_lt j first) [
  | inl low ↦ so_far.before j low ∙ sym (cond-false _ _ _ (outside p first end j are lt (inl low)))
  | inr from ↦ elim (cases_lt j end) [
    | inl high ↦ so_far.changed j from (omega arith) ∙ sym (cond-true _ _ _ (inside p first end j are from high))
    | inr over ↦ so_far.after j (omega arith) ∙ sym (cond-false _ _ _ (outside p first end j are lt (inr over)))
  ]
]

pub slots_changed : (change : ℕ → SlotState → SlotState) (p : Span) (first end i : ℕ) (old new : List SlotState) → AreTouched p first end → ChangedTo (Bytes 0) change first i old new → i ≡ end → length old ≡ 64 → new ≡ each_slot (λ k held. if touches p k then change k held else held) 1 old
slots_changed change p first end i old new are so_far stop long =
    let same = so_far.long in
    let f : ℕ → SlotState → SlotState = λ k held. if touches p k then change k held else held in
    ext_get_or (Bytes 0) new (each_slot f 1 old) (same ∙ sym (length-each f 1 old))
    (λ j h. each_is (Bytes 0) change p first end i old new j are so_far stop (omega arith) ∙ sym (get-each f 1 old j (suc j) (omega arith) (omega arith)))

pub tags_changed : (p : Span) (first end i : ℕ) (old new : List (Option Tag)) → AreTouched p first end → ChangedTo None (λ k t. None) first i old new → i ≡ end → length old ≡ 64 → new ≡ each_slot_tag (λ k t. if touches p k then None else t) 1 old
tags_changed p first end i old new are so_far stop long =
    let same = so_far.long in
    let f : ℕ → Option Tag → Option Tag = λ k t. if touches p k then None else t in
    ext_get_or None new (each_slot_tag f 1 old) (same ∙ sym (length-each_tag f 1 old))
    (λ j h. each_is None (λ k t. None) p first end i old new j are so_far stop (omega arith) ∙ sym (get-each_tag f 1 old j (suc j) (omega arith) (omega arith)))

-- ---- the mask of bytes that are no whole slot

abbrev clamped : ℤ → ℕ
clamped d = unsigned_abs (int_max (pos 0) (int_min (pos 8) d))

clamped_pos : (n : ℕ) → clamped (pos n) ≡ min 8 n
clamped_pos n = grind (arith, nat_tests)

full : (d : ℤ) → 8 ≤ clamped d → pos 8 ≤ℤ d
full (pos n) h = let e = clamped_pos n in omega (arith, ints)
full (negsuc n) h = absurd (omega arith)

empty : (d : ℤ) → clamped d ≡ 0 → d ≤ℤ pos 0
empty (pos n) h = let e = clamped_pos n in omega (arith, ints)
empty (negsuc n) h = omega (arith, ints)

abs_down : (n : ℕ) → unsigned_abs (neg_ℤ (pos n)) ≡ n
abs_down zero = refl
abs_down (suc n) = refl

at_slot : (p : Span) (k : ℕ) → is_known p ≡ true → p.count ≡ 8 → p.lowest ≡ first_byte k → is_slot p ≡ true
at_slot p k known eight at =
    and_from _ _ (and_from _ _ known (eq-eqb p.count 8 eight)) (eq-eqb (unsigned_abs p.lowest % 8) 0 (ap (λ z. unsigned_abs z % 8) at ∙ ap (λ n. n % 8) (abs_down (8 * k)) ∙ omega arith))

-- eight bytes from the slot's first are the slot
whole : (p : Span) (k : ℕ) → IsSpan p → is_known p ≡ true → 8 ≤ offset_in_slot k (span_end p) → offset_in_slot k p.lowest ≡ 0 → is_slot p ≡ true
whole p k ok known up down =
    let same = (Decides-int_eq p.lowest p.highest).0 known in
    let few = ok.few in
    let high = full (span_end p -ℤ first_byte k) up in
    let low = empty (p.lowest -ℤ first_byte k) down in
    at_slot p k known (omega (arith, ints)) (omega (arith, ints))

pub partial_mask : (p : Span) (k : ℕ) → IsSpan p → is_known p ≡ true → is_slot p ≡ false → touched_bytes p k ≤ 254
partial_mask p k ok known partial = elim (cases_lt (offset_in_slot k (span_end p)) 8) [
  | inl lt ↦ (let top = pow_mono {i = offset_in_slot k (span_end p)} {j = 7} (omega arith) in omega arith)
  | inr ge ↦ elim (cases_eq (offset_in_slot k p.lowest) 0) [
    | inl none ↦ absurd (false≢true (sym partial ∙ whole p k ok known ge none))
    | inr some ↦ (let top = pow_mono {i = offset_in_slot k (span_end p)} {j = 8} (place_small k (span_end p)) in
        let bottom = pow_mono {i = 1} {j = offset_in_slot k p.lowest} (positive (offset_in_slot k p.lowest) some) in omega arith)
  ]
]
  where
    positive : (n : ℕ) → (n ≡ 0 → ⊥) → 1 ≤ n
    positive zero some = absurd (some refl)
    positive (suc n) some = omega arith
