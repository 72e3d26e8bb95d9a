-- Lists that are spelled are read again.
use Rattle.std.proofs.Common.{◌≡◌, ℕ, zero, suc, ◌+◌, ◌<◌, ◌≤◌, List, [], ◌∷◌, ◌++◌, length, refl, sym, ap, subst, ◌∙◌, append_assoc, length-append, arith}
use Rattle.std.specs.Prelude.{set}
use Rattle.std.specs.List.{AllByRecursion}
use Rattle.std.proofs.Math.Seq.{set-append_seam}
use Rattle.std.proofs.lemmas.List.{length-set}
use Rattle.bpf_follows.specs.NotesText.{listed}
use Rattle.bpf_follows.specs.code.Reading.{listed_in}

-- ---- what the loops do

module _ {S A : Type 0} (look : S → ℕ → List ℕ → A × List ℕ) (next : A → S) where
  pub listed_long : (k : ℕ) (s : S) (i : ℕ) (xs : List A) (text : List ℕ) → length (listed_in look next k s i xs text).0 ≡ length xs
  unfolding listed_in
  listed_long zero s i xs text = refl
  listed_long (suc k) s i xs text = listed_long k (next (look s i text).0) (i + 1) (set xs i (look s i text).0) (look s i text).1 ∙ length-set xs i (look s i text).0

  pub listed_step : (k : ℕ) (s : S) (i : ℕ) (xs : List A) (text : List ℕ) (x : A) (more : List ℕ) → look s i text ≡ (x, more)
      → listed_in look next (suc k) s i xs text ≡ listed_in look next k (next x) (i + 1) (set xs i x) more
  unfolding listed_in
  listed_step k s i xs text x more e = rw e refl

  pub listed_full : (s : S) (i : ℕ) (xs : List A) (text : List ℕ) → listed_in look next 0 s i xs text ≡ (xs, text)
  unfolding listed_in
  listed_full s i xs text = refl

-- ---- reading

module _ {S A : Type 0} (spelled : S → ℕ → A → List ℕ) (next : A → S) (bound : ℕ) (Fits : A → Type 0) (Fronts : S → ℕ → List ℕ → Type 0)
    (step : (s : S) (i : ℕ) (x : A) (tail : List ℕ) → i < bound → Fits x → Fronts (next x) (i + 1) tail → Fronts s i (spelled s i x ++ tail)) where
  -- what holds of what stands behind a list holds in front of each of its elements
  pub listed_front : (s : S) (i : ℕ) (xs : List A) (rest : List ℕ) → i + length xs ≤ bound → AllByRecursion Fits xs → ((t : S) → Fronts t (i + length xs) rest) → Fronts s i (listed spelled next s i xs ++ rest)
  unfolding listed
  listed_front s i [] rest few fits last = let here : i + 0 ≡ i = omega arith in subst (λ n. Fronts s n rest) here (last s)
  listed_front s i (x ∷ xs) rest few fits last =
      let count : i + suc (length xs) ≡ i + 1 + length xs = omega arith in
      subst (Fronts s i) (sym (append_assoc (spelled s i x) (listed spelled next (next x) (i + 1) xs) rest))
      (step s i x (listed spelled next (next x) (i + 1) xs ++ rest) (omega (arith, few)) fits.0
      (listed_front (next x) (i + 1) xs rest (omega (arith, few)) fits.1 (λ t. subst (λ n. Fronts t n rest) count (last t))))

  module _ (look : S → ℕ → List ℕ → A × List ℕ)
      (again : (s : S) (i : ℕ) (x : A) (tail : List ℕ) → i < bound → Fits x → Fronts (next x) (i + 1) tail → look s i (spelled s i x ++ tail) ≡ (x, tail)) where
    Reads : S → List A → List A → List A → List ℕ → Type 0
    Reads s done init xs rest = listed_in look next (length xs) s (length done) (done ++ init) (listed spelled next s (length done) xs ++ rest) ≡ (done ++ xs, rest)

    one_more : (s : S) (done : List A) (d : A) (init : List A) (x : A) (xs : List A) (rest : List ℕ)
        → look s (length done) (spelled s (length done) x ++ (listed spelled next (next x) (length done + 1) xs ++ rest)) ≡ (x, listed spelled next (next x) (length done + 1) xs ++ rest)
        → Reads (next x) (done ++ x ∷ []) init xs rest → Reads s done (d ∷ init) (x ∷ xs) rest
    unfolding Reads listed
    one_more s done d init x xs rest read more =
        let size : length (done ++ x ∷ []) ≡ length done + 1 = length-append done (x ∷ []) in
        let tail = listed spelled next (next x) (length done + 1) xs ++ rest in
        ap (listed_in look next (suc (length xs)) s (length done) (done ++ d ∷ init)) (append_assoc (spelled s (length done) x) (listed spelled next (next x) (length done + 1) xs) rest)
        ∙ listed_step look next (length xs) s (length done) (done ++ d ∷ init) (spelled s (length done) x ++ tail) x tail read
        ∙ ap (λ l. listed_in look next (length xs) (next x) (length done + 1) l tail) (set-append_seam done d init x ∙ sym (append_assoc done (x ∷ []) init))
        ∙ subst (λ n. listed_in look next (length xs) (next x) n ((done ++ x ∷ []) ++ init) (listed spelled next (next x) n xs ++ rest) ≡ ((done ++ x ∷ []) ++ xs, rest)) size more
        ∙ ap (λ (l : List A). (l, rest)) (append_assoc done (x ∷ []) xs)

    reads_none : (s : S) (done : List A) (rest : List ℕ) → Reads s done [] [] rest
    unfolding Reads listed listed_in
    reads_none s done rest = refl

    reads : (s : S) (done init xs : List A) (rest : List ℕ) → length init ≡ length xs → length done + length xs ≤ bound → AllByRecursion Fits xs
        → ((t : S) → Fronts t (length done + length xs) rest) → Reads s done init xs rest
    reads s done [] [] rest same few fits last = reads_none s done rest
    reads s done [] (x ∷ xs) rest same few fits last = absurd (omega (arith, same))
    reads s done (d ∷ init) [] rest same few fits last = absurd (omega (arith, same))
    reads s done (d ∷ init) (x ∷ xs) rest same few fits last =
        let size : length (done ++ x ∷ []) ≡ length done + 1 = length-append done (x ∷ []) in
        let here : length done + suc (length xs) ≡ length done + 1 + length xs = omega arith in
        let there : length done + suc (length xs) ≡ length (done ++ x ∷ []) + length xs = omega (arith, size) in
        let front = listed_front (next x) (length done + 1) xs rest (omega (arith, few)) fits.1 (λ t. subst (λ n. Fronts t n rest) here (last t)) in
        one_more s done d init x xs rest (again s (length done) x (listed spelled next (next x) (length done + 1) xs ++ rest) (omega (arith, few)) fits.0 front)
        (reads (next x) (done ++ x ∷ []) init xs rest (omega (arith, same)) (omega (arith, few, size)) fits.1 (λ t. subst (λ n. Fronts t n rest) there (last t)))

    pub listed_again : (s : S) (init xs : List A) (rest : List ℕ) → length init ≡ length xs → length xs ≤ bound → AllByRecursion Fits xs → ((t : S) → Fronts t (length xs) rest)
        → listed_in look next (length xs) s 0 init (listed spelled next s 0 xs ++ rest) ≡ (xs, rest)
    unfolding Reads
    listed_again s init xs rest same few fits last =
        let here : length xs ≡ 0 + length xs = omega arith in reads s [] init xs rest same (omega (arith, few)) fits (λ t. subst (λ n. Fronts t n rest) here (last t))
