-- A packet lies in its block, behind the head: as many bytes as that tells, or all that there is room for.
use Rattle.std.proofs.Common.{◌≡◌, ℕ, zero, suc, ◌+◌, ◌-◌, ◌<◌, ◌≤◌, refl, sym, ap, ◌∙◌, subst, arith, Bool, true, false, List, [], ◌∷◌, length}
use Rattle.std.specs.Prelude.{take, drop, slice_index}
use Rattle.bpf_insn.specs.Laws.{AreBytes}
use Rattle.bpf_insn.specs.declared.order.Order.{Order}
use Rattle.bpf_semantics.specs.Blocks.{head_bytes, told_length, IsBlock}
use Rattle.bpf_kept.specs.Far.{bytes_before}
use Rattle.bpf_kept.specs.Meaning.{AreGiven}

-- ---- lists

taken_bytes : (n : ℕ) (xs : List ℕ) → AreBytes xs → AreBytes (take n xs)
taken_bytes zero xs h i = omega arith
taken_bytes (suc n) [] h i = omega arith
taken_bytes (suc n) (x ∷ xs) h zero = h zero
taken_bytes (suc n) (x ∷ xs) h (suc i) = taken_bytes n xs (λ k. h (suc k)) i

dropped_bytes : (n : ℕ) (xs : List ℕ) → AreBytes xs → AreBytes (drop n xs)
dropped_bytes zero xs h i = h i
dropped_bytes (suc n) [] h i = omega arith
dropped_bytes (suc n) (x ∷ xs) h i = dropped_bytes n xs (λ k. h (suc k)) i

pub taken_at : (n : ℕ) (xs : List ℕ) (i : ℕ) → i < length (take n xs) → slice_index (take n xs) i ≡ slice_index xs i
taken_at zero xs i lt = absurd (omega arith)
taken_at (suc n) [] i lt = absurd (omega arith)
taken_at (suc n) (x ∷ xs) zero lt = refl
taken_at (suc n) (x ∷ xs) (suc i) lt = taken_at n xs i (omega arith)

dropped_at : (n : ℕ) (xs : List ℕ) (i : ℕ) → slice_index (drop n xs) i ≡ slice_index xs (n + i)
dropped_at zero xs i = ap (slice_index xs) (omega arith)
dropped_at (suc n) [] i = refl
dropped_at (suc n) (x ∷ xs) i = let later : suc (n + i) ≡ suc n + i = omega arith in dropped_at n xs i ∙ ap (slice_index (x ∷ xs)) later

pub taken_exactly : (n : ℕ) (xs : List ℕ) → n ≤ length xs → length (take n xs) ≡ n
taken_exactly zero xs le = refl
taken_exactly (suc n) [] le = absurd (omega arith)
taken_exactly (suc n) (x ∷ xs) le = let h = taken_exactly n xs (omega arith) in omega arith

-- as many as are told, or all
taken_few : (n : ℕ) (xs : List ℕ) → length xs ≤ n → length (take n xs) ≡ length xs
taken_few zero [] le = refl
taken_few zero (x ∷ xs) le = absurd (omega arith)
taken_few (suc n) [] le = refl
taken_few (suc n) (x ∷ xs) le = let h = taken_few n xs (omega arith) in omega arith

dropped_exactly : (n : ℕ) (xs : List ℕ) → n ≤ length xs → n + length (drop n xs) ≡ length xs
dropped_exactly zero xs le = omega arith
dropped_exactly (suc n) [] le = absurd (omega arith)
dropped_exactly (suc n) (x ∷ xs) le = let h = dropped_exactly n xs (omega arith) in omega arith

taken_length : (n : ℕ) (xs : List ℕ) → length (take n xs) ≤ length xs
taken_length zero xs = omega arith
taken_length (suc n) [] = omega arith
taken_length (suc n) (x ∷ xs) = let h = taken_length n xs in omega arith

-- ---- what the old program is given

pub own_fits : (padded : Bool) (order : Order) (own context : List ℕ) → AreGiven padded order own context → bytes_before padded + length own ≤ length context
own_fits false order own context given = let same : length own ≡ length context = ap length given in omega arith
own_fits true order own context given =
    let a = taken_length (told_length order context) (drop head_bytes context) in
    let b = dropped_exactly head_bytes context given.has_head in
    let e : length own ≡ length (take (told_length order context) (drop head_bytes context)) = ap length given.packet_is in
    omega arith

-- it is bytes, no more than the new one's
pub given_is : (padded : Bool) (order : Order) (own context : List ℕ) → AreBytes context → AreGiven padded order own context → AreBytes own × (length own ≤ length context)
given_is false order own context bytes given = let fits = own_fits false order own context given in (subst AreBytes (sym given) bytes, omega arith)
given_is true order own context bytes given =
    let fits = own_fits true order own context given in
    (subst AreBytes (sym given.packet_is) (taken_bytes (told_length order context) (drop head_bytes context) (dropped_bytes head_bytes context bytes)), omega arith)

pub byte_inside : (padded : Bool) (order : Order) (own context : List ℕ) → AreGiven padded order own context → (i : ℕ) → i < length own → slice_index context (bytes_before padded + i) ≡ slice_index own i
byte_inside false order own context given i lt = ap (λ xs. slice_index xs (0 + i)) (sym given) ∙ ap (slice_index own) (omega arith)
byte_inside true order own context given i lt =
    let n : ℕ = told_length order context in
    let small : i < length (take n (drop head_bytes context)) = subst (λ xs. i < length xs) given.packet_is lt in
    sym (dropped_at head_bytes context i) ∙ sym (taken_at n (drop head_bytes context) i small) ∙ ap (λ xs. slice_index xs i) (sym given.packet_is)

-- ---- how long it is

-- what is told, or all that there is room for
pub length_told : (order : Order) (own context : List ℕ) → IsBlock order own context → told_length order context ≤ length context - 8 → length own ≡ told_length order context
length_told order own context block le =
    let d = dropped_exactly head_bytes context block.has_head in
    ap length block.packet_is ∙ taken_exactly (told_length order context) (drop head_bytes context) (omega arith)

pub length_cut : (order : Order) (own context : List ℕ) → IsBlock order own context → length context - 8 ≤ told_length order context → length own ≡ length context - 8
length_cut order own context block le =
    let d = dropped_exactly head_bytes context block.has_head in
    ap length block.packet_is ∙ taken_few (told_length order context) (drop head_bytes context) (omega arith) ∙ (omega arith)
