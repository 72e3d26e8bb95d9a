-- Blanks behind a text.
use Rattle.std.proofs.Common.{◌≡◌, ℕ, suc, ◌+◌, ◌-◌, ◌<◌, List, [], ◌∷◌, ◌++◌, length, Result, Ok, Err, OnOk, sym, ap, ◌∙◌, append_assoc, arith}
use Rattle.std.specs.Prelude.{replicate}
use Rattle.std.proofs.lemmas.Grind.{common_steps}
use Rattle.bpf_classic.specs.Listing.{padded}

-- one more is one less to come
pub blanks_more : (before after goal : List ℕ) (width at : ℕ) → at < width → after ≡ before ++ 32 ∷ [] → before ++ replicate (width - at) 32 ≡ goal
    → after ++ replicate (width - (at + 1)) 32 ≡ goal
blanks_more before after goal width at low here known =
    let left : ℕ = width - (at + 1) in
    let more : width - at ≡ suc left = omega (arith, low) in
    ap (λ z. z ++ replicate left 32) here ∙ append_assoc before (32 ∷ []) (replicate left 32) ∙ ap (λ k. before ++ replicate k 32) (sym more) ∙ known

-- what was put from a place on is padded
pub padded_from : (old text after : List ℕ) (width : ℕ) → after ≡ (old ++ text) ++ replicate (width - (length (old ++ text) - length old)) 32 → after ≡ old ++ padded width text
unfolding padded
padded_from old text after width is =
    let n : length (old ++ text) - length old ≡ length text = grind (arith, common_steps) in
    is ∙ ap (λ k. (old ++ text) ++ replicate (width - k) 32) n ∙ append_assoc old text (replicate (width - length text) 32)

-- so where it was put
pub padded_if : {A E : Type 0} (result : Result A E) (old text middle after : List ℕ) (width start : ℕ) → start ≡ length old → middle ≡ old ++ text
    → OnOk result (after ≡ middle ++ replicate (width - (length middle - start)) 32) → OnOk result (after ≡ old ++ padded width text)
padded_if (Err e) old text middle after width start from is put = tt
padded_if (Ok x) old text middle after width start from is put =
    padded_from old text after width (put ∙ ap (λ m. m ++ replicate (width - (length m - start)) 32) is ∙ ap (λ s. (old ++ text) ++ replicate (width - (length (old ++ text) - s)) 32) from)
