-- What is put at a name, or at two.
use Rattle.std.specs.Prelude.{◌≡◌, ◌⊎◌, ℕ, Bool, List, [], Option, Some, None, IfSome, true, false}
use Rattle.std.specs.Borrow.{Bor}
use Rattle.std.specs.Io.KnownBytes.{Appends}
use Rattle.bpf_insn.specs.Written.{AppendsBeginning}
use Rattle.bpf_answers.specs.Made.{Making, making}
use Rattle.bpf_answers.specs.declared.failure.Failure.{Failure}
use Rattle.bpf_answers.specs.declared.failure.Failure.TheVariants.{CannotWrite, NoMemory}

-- which of two contents came to stand at their names
pub data Put : Type 0 where
  Both : Put
  Neither : Put
  FirstAlone : Put

-- From places, two names with their bytes lead to the places in which these stand, or don't, as it is told.
abbrev pub Pairing : Type 0 → Type 1
Pairing S = S → (first bytes second other : List ℕ) → Put → S → Type 0

-- Writers were made for both names and all bytes were written, before either came to stand at its name.
pub record Writes {S W : Type 0}
    (creates : S → List ℕ → Option W → S → Type 0) (contents : W → Option (List ℕ))
    (old : S) (first bytes second other : List ℕ) (written also : W) (new : S) : Type 0 where
  pub made : W
  pub beside : W
  pub between : S
  pub created : creates old first (Some made) between
  pub empty : IfSome (contents made) (λ b. b ≡ [])
  pub created_also : creates between second (Some beside) new
  pub empty_also : IfSome (contents beside) (λ b. b ≡ [])
  pub all : Appends (contents made) (contents written) bytes
  pub all_also : Appends (contents beside) (contents also) other

-- With both written, the first is finished and then the second: both came to stand at their names, or the first alone.
pub record Finishes {S W : Type 0}
    (creates : S → List ℕ → Option W → S → Type 0) (ends : S → W → Bool → S → Type 0) (contents : W → Option (List ℕ))
    (old : S) (first bytes second other : List ℕ) (is_second : Bool) (new : S) : Type 0 where
  pub written : W
  pub also : W
  pub begun : S
  pub between : S
  pub writes : Writes creates contents old first bytes second other written also begun
  pub ended : ends begun written true between
  pub ended_also : ends between also is_second new

-- A writer was made for the first name and none for the second, and nothing came to stand at the first.
pub record LacksSecond {S W : Type 0}
    (creates : S → List ℕ → Option W → S → Type 0) (ends : S → W → Bool → S → Type 0)
    (old : S) (first second : List ℕ) (new : S) : Type 0 where
  pub made : W
  pub one : S
  pub two : S
  pub created : creates old first (Some made) one
  pub refused : creates one second None two
  pub ended : ends two made false new

-- Writers were made for both names, a beginning was written to each, and nothing came to stand at either.
pub record LeavesBoth {S W : Type 0}
    (creates : S → List ℕ → Option W → S → Type 0) (ends : S → W → Bool → S → Type 0) (contents : W → Option (List ℕ))
    (old : S) (first bytes second other : List ℕ) (new : S) : Type 0 where
  pub made : W
  pub beside : W
  pub written : W
  pub also : W
  pub one : S
  pub two : S
  pub three : S
  pub created : creates old first (Some made) one
  pub created_also : creates one second (Some beside) two
  pub begun : AppendsBeginning (contents made) (contents written) bytes
  pub begun_also : AppendsBeginning (contents beside) (contents also) other
  pub ended : ends two written false three
  pub ended_also : ends three also false new

-- Both stand at their names; or neither does; or the second couldn't be finished when the first stood already.
abbrev pub pairing : {S W : Type 0} → (S → List ℕ → Option W → S → Type 0) → (S → W → Bool → S → Type 0) → (W → Option (List ℕ)) → Pairing S
pairing creates ends contents old first bytes second other Both new = Finishes creates ends contents old first bytes second other true new
pairing creates ends contents old first bytes second other FirstAlone new = Finishes creates ends contents old first bytes second other false new
pairing creates ends contents old first bytes second other Neither new =
    creates old first None new ⊎ LacksSecond creates ends old first second new ⊎ LeavesBoth creates ends contents old first bytes second other new

-- What may be put: one content at a name, or two at two names.
pub record Putting (S : Type 0) : Type 1 where
  pub makes : Making S
  pub pairs : Pairing S

abbrev pub putting : {S W : Type 0} → (S → List ℕ → Option W → S → Type 0) → (S → W → Bool → S → Type 0) → (W → Option (List ℕ)) → Putting S
putting creates ends contents = record { makes = making creates ends contents; pairs = pairing creates ends contents }

-- ---- at one name, and at two

-- content can't be put at a name, and doesn't stand there
abbrev pub NotPut : {S : Type 0} → Making S → S → Bor (List ℕ) → List ℕ → S → Failure → Type 0
NotPut makes old name bytes new failure = ((failure ≡ CannotWrite name) ⊎ (failure ≡ NoMemory)) × makes old name.now bytes false new

-- both contents stand at their names, with this status
abbrev pub PutBoth : {S : Type 0} → Pairing S → S → Bor (List ℕ) → List ℕ → Bor (List ℕ) → List ℕ → S → ℕ → Type 0
PutBoth pairs old first bytes second other new status = (status ≡ 0) × pairs old first.now bytes second.now other Both new

-- they can't both be put: neither stands; or the second couldn't be finished when the first stood already
abbrev pub NotPutBoth : {S : Type 0} → Pairing S → S → Bor (List ℕ) → List ℕ → Bor (List ℕ) → List ℕ → S → Failure → Type 0
NotPutBoth pairs old first bytes second other new failure =
    (((failure ≡ CannotWrite first) ⊎ ((failure ≡ CannotWrite second) ⊎ (failure ≡ NoMemory))) × pairs old first.now bytes second.now other Neither new)
    ⊎ ((failure ≡ CannotWrite second) × pairs old first.now bytes second.now other FirstAlone new)
