-- What is put at a name.
use Rattle.std.specs.Prelude.{◌≡◌, ◌⊎◌, ℕ, Bool, true, false, List, [], Option, Some, None, IfSome}
use Rattle.std.specs.Io.KnownBytes.{Appends}
use Rattle.bpf_insn.specs.Written.{AppendsBeginning}

-- From places, a name and bytes lead to the places in which the bytes stand at the name, or to those in which they could not be put
-- there.
abbrev pub Making : Type 0 → Type 1
Making S = S → List ℕ → List ℕ → Bool → S → Type 0

-- A writer was made for the name, all bytes were written, and they came to stand there.
pub record Makes {S W : Type 0}
    (creates : S → List ℕ → Option W → S → Type 0) (ends : S → W → Bool → S → Type 0) (contents : W → Option (List ℕ))
    (old : S) (name bytes : List ℕ) (new : S) : Type 0 where
  pub made : W
  pub written : W
  pub between : S
  pub created : creates old name (Some made) between
  pub empty : IfSome (contents made) (λ b. b ≡ [])
  pub all : Appends (contents made) (contents written) bytes
  pub ended : ends between written true new

-- A writer was made for the name, a beginning was written, and nothing of it came to stand there.
pub record LeavesOff {S W : Type 0}
    (creates : S → List ℕ → Option W → S → Type 0) (ends : S → W → Bool → S → Type 0) (contents : W → Option (List ℕ))
    (old : S) (name bytes : List ℕ) (new : S) : Type 0 where
  pub made : W
  pub written : W
  pub between : S
  pub created : creates old name (Some made) between
  pub begun : AppendsBeginning (contents made) (contents written) bytes
  pub ended : ends between written false new

abbrev pub making : {S W : Type 0} → (S → List ℕ → Option W → S → Type 0) → (S → W → Bool → S → Type 0) → (W → Option (List ℕ)) → S → List ℕ → List ℕ → Bool → S → Type 0
making creates ends contents old name bytes true new = Makes creates ends contents old name bytes new
making creates ends contents old name bytes false new = creates old name None new ⊎ LeavesOff creates ends contents old name bytes new
