-- Lists of facts that are handed on, or wait, and counters that do.
use Rattle.std.proofs.Common.{◌≡◌, ℕ, zero, suc, ◌+◌, ◌<◌, ◌≤◌, Bool, true, false, List, [], ◌∷◌, ◌++◌, cond, map, length, take, refl, sym, ap, ap₂, ◌∙◌, arith}
use Rattle.std.specs.Prelude.{filter, not, drop, get_or, set}
use Rattle.bpf_kept.specs.declared.notes.Fact.{Fact}
use Rattle.bpf_kept.specs.declared.notes.Note.{Note}
use Rattle.bpf_kept.specs.Terms.{is_noted, frame_slots}
use Rattle.bpf_kept.specs.Slots.{slot_facts}
use Rattle.bpf_kept.specs.Behind.{is_zero_slot, same_slot}
use Rattle.bpf_kept.specs.Calls.{is_handed}
use Rattle.bpf_kept.specs.Matching.{facts_at}

one_or_none : {A : Type 0} (b : Bool) (x : A) (xs ys zs : List A) → xs ≡ ys ++ zs → cond b (x ∷ xs) xs ≡ cond b (x ∷ ys) ys ++ zs
one_or_none true x xs ys zs e = ap (λ ws. x ∷ ws) e
one_or_none false x xs ys zs e = e

filter_both : {A : Type 0} (test : A → Bool) (xs ys : List A) → filter test (xs ++ ys) ≡ filter test xs ++ filter test ys
filter_both test [] ys = refl
filter_both test (x ∷ xs) ys = one_or_none (test x) x (filter test (xs ++ ys)) (filter test xs) (filter test ys) (filter_both test xs ys)

-- facts of slots aren't handed
not_handed : (b : Bool) (fact : Fact) (rest : List Fact) → is_handed fact ≡ false → filter is_handed rest ≡ [] → filter is_handed (cond b (fact ∷ rest) rest) ≡ []
not_handed true fact rest none e = ap (λ c. cond c (fact ∷ filter is_handed rest) (filter is_handed rest)) none ∙ e
not_handed false fact rest none e = e

slots_not_handed : (fact : ℕ → Fact) (noted : ℕ → Bool) (n : ℕ) → ((k : ℕ) → is_handed (fact k) ≡ false) → filter is_handed (slot_facts fact noted n) ≡ []
slots_not_handed fact noted zero none = refl
slots_not_handed fact noted (suc n) none = not_handed (noted n) (fact n) (slot_facts fact noted n) (none n) (slots_not_handed fact noted n none)

append_nothing : (xs : List Fact) → xs ++ [] ≡ xs
append_nothing [] = refl
append_nothing (x ∷ xs) = ap (λ ys. x ∷ ys) (append_nothing xs)

-- so of a note its own facts alone are
pub note_handed : (note : Note) → filter is_handed (facts_at note) ≡ filter is_handed note.facts
unfolding facts_at
note_handed note =
    let zeros : List Fact = slot_facts is_zero_slot (is_noted note.zeros) frame_slots in
    let same : List Fact = slot_facts same_slot (λ n. not (is_noted note.apart n)) frame_slots in
    filter_both is_handed (note.facts ++ zeros) _ ∙ ap₂ (λ xs ys. xs ++ ys) (filter_both is_handed note.facts zeros ∙ ap (λ xs. filter is_handed note.facts ++ xs) (slots_not_handed is_zero_slot (is_noted note.zeros) frame_slots (λ k. refl)) ∙ append_nothing (filter is_handed note.facts)) (slots_not_handed same_slot (λ n. not (is_noted note.apart n)) frame_slots (λ k. refl))
    ∙ append_nothing (filter is_handed note.facts)

-- one more
one_filtered : (test : Fact → Bool) (d : Fact) (xs : List Fact) (i : ℕ) → i < length xs → filter test (take i xs) ++ cond (test (get_or xs i d)) (get_or xs i d ∷ []) [] ≡ filter test (take (suc i) xs)
one_filtered test d [] i lt = absurd (omega arith)
one_filtered test d (x ∷ xs) zero lt = refl
one_filtered test d (x ∷ xs) (suc i) lt =
    sym (one_or_none (test x) x (filter test (take (suc i) xs)) (filter test (take i xs)) (cond (test (get_or xs i d)) (get_or xs i d ∷ []) []) (sym (one_filtered test d xs i (omega arith))))

pub filter_step : (test : Fact → Bool) (xs : List Fact) (i : ℕ) (d : Fact) {ys : List Fact} → i < length xs → ys ≡ filter test (take i xs) → ys ++ cond (test (get_or xs i d)) (get_or xs i d ∷ []) [] ≡ filter test (take (i + 1) xs)
filter_step test xs i d lt e =
    let more : suc i ≡ i + 1 = omega arith in
    ap (λ zs. zs ++ cond (test (get_or xs i d)) (get_or xs i d ∷ []) []) e ∙ one_filtered test d xs i lt ∙ ap (λ n. filter test (take n xs)) more

-- one more of a list is mapped
one_mapped : {A : Type 0} (f : A → A) (d : A) (xs : List A) (i : ℕ) → i < length xs → set (take i (map f xs) ++ drop i xs) i (f (get_or (take i (map f xs) ++ drop i xs) i d)) ≡ take (suc i) (map f xs) ++ drop (suc i) xs
one_mapped f d [] i lt = absurd (omega arith)
one_mapped f d (x ∷ xs) zero lt = refl
one_mapped f d (x ∷ xs) (suc i) lt = ap (λ zs. f x ∷ zs) (one_mapped f d xs i (omega arith))

pub mapped_step : {A : Type 0} (f : A → A) (xs : List A) (i : ℕ) (d : A) {ys : List A} → i < length xs → ys ≡ take i (map f xs) ++ drop i xs → set ys i (f (get_or ys i d)) ≡ take (i + 1) (map f xs) ++ drop (i + 1) xs
mapped_step f xs i d lt e =
    let more : suc i ≡ i + 1 = omega arith in
    ap (λ ys. set ys i (f (get_or ys i d))) e ∙ one_mapped f d xs i lt ∙ ap (λ n. take n (map f xs) ++ drop n xs) more

-- in the end all are
pub all_mapped : {A : Type 0} (f : A → A) (xs : List A) (i : ℕ) → length xs ≤ i → take i (map f xs) ++ drop i xs ≡ map f xs
all_mapped f [] zero le = refl
all_mapped f [] (suc i) le = refl
all_mapped f (x ∷ xs) zero le = absurd (omega arith)
all_mapped f (x ∷ xs) (suc i) le = ap (λ zs. f x ∷ zs) (all_mapped f xs i (omega arith))
