-- What comes to stand at the names of a conversion: the image and its certificate, and a listing where one is asked for.
use Rattle.std.specs.Prelude.{◌≡◌, ◌⊎◌, ℕ, Bool, true, false, List, [], Option, Some, None, IfSome}
use Rattle.std.specs.Io.KnownBytes.{Appends}
use Rattle.std.specs.Borrow.{Bor}
use Rattle.bpf_answers.specs.Made.{making}
use Rattle.bpf_command.specs.declared.request.converting.Converting.{Converting}
use Rattle.bpf_answers.specs.Both.{Put, pairing}
use Rattle.bpf_answers.specs.Both.Put.{Both, Neither, FirstAlone}

-- whatever is asked for; nothing; the image alone; or image and certificate, and not the listing
pub data Standing : Type 0 where
  Whole : Standing
  Nothing : Standing
  ImageAlone : Standing
  Unlisted : Standing

-- From places, the bytes of an image, of a certificate and of a listing lead to the places in which these stand at the names of a conversion, or
-- don't, as it is told.
abbrev pub Placing : Type 0 → Type 1
Placing S = S → Converting → (image certificate listing : List ℕ) → Standing → S → Type 0

-- The bytes were written whole for a name before the others were put. Then they came to stand there, or didn't.
pub record Beside {S W : Type 0}
    (creates : S → List ℕ → Option W → S → Type 0) (ends : S → W → Bool → S → Type 0) (contents : W → Option (List ℕ))
    (old : S) (name bytes : List ℕ) (others : S → S → Type 0) (stands : Bool) (new : S) : Type 0 where
  pub made : W
  pub written : W
  pub begun : S
  pub between : S
  pub created : creates old name (Some made) begun
  pub empty : IfSome (contents made) (λ b. b ≡ [])
  pub all : Appends (contents made) (contents written) bytes
  pub put : others begun between
  pub ended : ends between written stands new

-- a pair, with no listing
abbrev pub alone : {S : Type 0} → (Put → S → S → Type 0) → S → Standing → S → Type 0
alone pair old Whole new = pair Both old new
alone pair old Nothing new = pair Neither old new
alone pair old ImageAlone new = pair FirstAlone old new
alone pair old Unlisted new = ⊥

-- a pair with the listing at a name
abbrev pub beside : {S W : Type 0} → (S → List ℕ → Option W → S → Type 0) → (S → W → Bool → S → Type 0) → (W → Option (List ℕ))
    → (Put → S → S → Type 0) → List ℕ → List ℕ → S → Standing → S → Type 0
beside creates ends contents pair name bytes old Whole new = Beside creates ends contents old name bytes (pair Both) true new
beside creates ends contents pair name bytes old Nothing new =
    making creates ends contents old name bytes false new ⊎ Beside creates ends contents old name bytes (pair Neither) false new
beside creates ends contents pair name bytes old ImageAlone new = Beside creates ends contents old name bytes (pair FirstAlone) false new
beside creates ends contents pair name bytes old Unlisted new = Beside creates ends contents old name bytes (pair Both) false new

abbrev pub placed : {S W : Type 0} → (S → List ℕ → Option W → S → Type 0) → (S → W → Bool → S → Type 0) → (W → Option (List ℕ))
    → (Put → S → S → Type 0) → Option (Bor (List ℕ)) → List ℕ → S → Standing → S → Type 0
placed creates ends contents pair None bytes old which new = alone pair old which new
placed creates ends contents pair (Some name) bytes old which new = beside creates ends contents pair name.now bytes old which new

-- image and certificate at the names of a conversion
abbrev pub paired : {S W : Type 0} → (S → List ℕ → Option W → S → Type 0) → (S → W → Bool → S → Type 0) → (W → Option (List ℕ))
    → Converting → List ℕ → List ℕ → Put → S → S → Type 0
paired creates ends contents c image certificate put old new = pairing creates ends contents old c.output.now image c.certificate.now certificate put new

abbrev pub placing : {S W : Type 0} → (S → List ℕ → Option W → S → Type 0) → (S → W → Bool → S → Type 0) → (W → Option (List ℕ)) → Placing S
placing creates ends contents old c image certificate listing which new =
    placed creates ends contents (paired creates ends contents c image certificate) c.listing listing old which new
