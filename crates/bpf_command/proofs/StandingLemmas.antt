-- What comes to stand at the names of a conversion, with a listing and without.
use Rattle.std.proofs.Common.{◌≡◌, ℕ, Bool, false, List, Option, Some, None, Result, Ok, Err, IfErr, sym, subst, inl, inr}
use Rattle.std.specs.Borrow.{Bor}
use Rattle.bpf_insn.specs.Instruction.{Instructions}
use Rattle.bpf_insn.specs.Image.{image}
use Rattle.bpf_cert.specs.Spelling.{certificate_text}
use Rattle.bpf_classic.specs.declared.raw.Raw.{Raw}
use Rattle.bpf_conversion.specs.Listed.{listed}
use Rattle.bpf_conversion.specs.declared.made.Made.{Made}
use Rattle.bpf_command.specs.declared.request.converting.Converting.{Converting}
use Rattle.bpf_answers.specs.Both.{Put}
use Rattle.bpf_answers.specs.Both.Put.{Neither, FirstAlone}
use Rattle.bpf_answers.specs.declared.failure.Failure.{Failure}
use Rattle.bpf_answers.specs.declared.failure.Failure.TheVariants.{CannotWrite}
use Rattle.bpf_command.specs.Converted.{BesideFails, IsOfListing, ListedPairFails, NotAll, PairFails, Stand, pair_of}
use Rattle.bpf_command.specs.Standing.{Standing, Beside, alone, beside, paired, placed, placing}
use Rattle.bpf_command.specs.Standing.Standing.{Nothing, ImageAlone, Unlisted}

-- ---- without a listing

pub alone_stands : {S W : Type 0} (creates : S → List ℕ → Option W → S → Type 0) (ends : S → W → Bool → S → Type 0) (contents : W → Option (List ℕ))
    (old : S) (c : Converting) (raws : List Raw) (made : Made) (which : Standing) (new : S) → c.listing ≡ None
    → alone (pair_of creates ends contents c made) old which new → Stand (placing creates ends contents) old c raws made which new
alone_stands creates ends contents old c raws made which new none stands =
    subst (λ l. placed creates ends contents (pair_of creates ends contents c made) l (listed made.converted raws) old which new) (sym none) stands

pub alone_fails : {S W : Type 0} (creates : S → List ℕ → Option W → S → Type 0) (ends : S → W → Bool → S → Type 0) (contents : W → Option (List ℕ))
    (old : S) (c : Converting) (raws : List Raw) (made : Made) (new : S) (f : Failure) → c.listing ≡ None
    → PairFails c (λ put. pair_of creates ends contents c made put old new) f → NotAll (placing creates ends contents) old c raws made new f
alone_fails creates ends contents old c raws made new f none (inl (inl is, stands)) =
    inr (inl (inl is, alone_stands creates ends contents old c raws made Nothing new none stands))
alone_fails creates ends contents old c raws made new f none (inl (inr (inl is), stands)) =
    inr (inl (inr (inl is), alone_stands creates ends contents old c raws made Nothing new none stands))
alone_fails creates ends contents old c raws made new f none (inl (inr (inr is), stands)) =
    inr (inl (inr (inr (inl is)), alone_stands creates ends contents old c raws made Nothing new none stands))
alone_fails creates ends contents old c raws made new f none (inr (is, stands)) =
    inr (inr (inl (is, alone_stands creates ends contents old c raws made ImageAlone new none stands)))

-- ---- with one

pub beside_stands : {S W : Type 0} (creates : S → List ℕ → Option W → S → Type 0) (ends : S → W → Bool → S → Type 0) (contents : W → Option (List ℕ))
    (old : S) (c : Converting) (raws : List Raw) (made : Made) (name : Bor (List ℕ)) (lines : List ℕ) (which : Standing) (new : S) → c.listing ≡ Some name
    → lines ≡ listed made.converted raws → beside creates ends contents (pair_of creates ends contents c made) name.now lines old which new
    → Stand (placing creates ends contents) old c raws made which new
beside_stands creates ends contents old c raws made name lines which new some same stands =
    subst (λ l. placed creates ends contents (pair_of creates ends contents c made) l (listed made.converted raws) old which new) (sym some)
    (subst (λ text. beside creates ends contents (pair_of creates ends contents c made) name.now text old which new) same stands)

is_listing : (listing : Option (Bor (List ℕ))) (name : Bor (List ℕ)) (f : Failure) → listing ≡ Some name → f ≡ CannotWrite name → IsOfListing listing f
is_listing listing name f some is = subst (λ l. IsOfListing l f) (sym some) is

beside_fails : {S W : Type 0} (creates : S → List ℕ → Option W → S → Type 0) (ends : S → W → Bool → S → Type 0) (contents : W → Option (List ℕ))
    (old : S) (c : Converting) (raws : List Raw) (made : Made) (name : Bor (List ℕ)) (lines : List ℕ) (new : S) (f : Failure) → c.listing ≡ Some name
    → lines ≡ listed made.converted raws
    → ListedPairFails creates ends contents c made name lines old new f
    → NotAll (placing creates ends contents) old c raws made new f
beside_fails creates ends contents old c raws made name lines new f some same (inl (inl is, stands)) =
    inr (inl (inl is, beside_stands creates ends contents old c raws made name lines Nothing new some same stands))
beside_fails creates ends contents old c raws made name lines new f some same (inl (inr (inl is), stands)) =
    inr (inl (inr (inl is), beside_stands creates ends contents old c raws made name lines Nothing new some same stands))
beside_fails creates ends contents old c raws made name lines new f some same (inl (inr (inr (inl is)), stands)) =
    inr (inl (inr (inr (inl is)), beside_stands creates ends contents old c raws made name lines Nothing new some same stands))
beside_fails creates ends contents old c raws made name lines new f some same (inl (inr (inr (inr is)), stands)) =
    inr (inl (inr (inr (inr (is_listing c.listing name f some is))), beside_stands creates ends contents old c raws made name lines Nothing new some same stands))
beside_fails creates ends contents old c raws made name lines new f some same (inr (inl (is, stands))) =
    inr (inr (inl (is, beside_stands creates ends contents old c raws made name lines ImageAlone new some same stands)))
beside_fails creates ends contents old c raws made name lines new f some same (inr (inr (is, stands))) =
    inr (inr (inr (is_listing c.listing name f some is, beside_stands creates ends contents old c raws made name lines Unlisted new some same stands)))

pub beside_unput : {S W A : Type 0} (result : Result A Failure) (creates : S → List ℕ → Option W → S → Type 0) (ends : S → W → Bool → S → Type 0) (contents : W → Option (List ℕ))
    (old : S) (c : Converting) (raws : List Raw) (made : Made) (name : Bor (List ℕ)) (lines : List ℕ) (new : S) → c.listing ≡ Some name
    → lines ≡ listed made.converted raws → IfErr result (ListedPairFails creates ends contents c made name lines old new)
    → IfErr result (NotAll (placing creates ends contents) old c raws made new)
beside_unput (Ok x) creates ends contents old c raws made name lines new some same fails = tt
beside_unput (Err f) creates ends contents old c raws made name lines new some same fails =
    beside_fails creates ends contents old c raws made name lines new f some same fails

-- ---- a pair within

-- what is put there is the program's image
pub pair_is : {S W : Type 0} (creates : S → List ℕ → Option W → S → Type 0) (ends : S → W → Bool → S → Type 0) (contents : W → Option (List ℕ))
    (c : Converting) (made : Made) (p : Instructions) (put : Put) (old new : S) → p ≡ made.converted.program
    → paired creates ends contents c (image p.order p.list) (certificate_text made.certificate) put old new → pair_of creates ends contents c made put old new
pair_is creates ends contents c made p put old new same stands =
    subst (λ q. paired creates ends contents c (image q.order q.list) (certificate_text made.certificate) put old new) same stands

pub pair_fails : {S W : Type 0} (creates : S → List ℕ → Option W → S → Type 0) (ends : S → W → Bool → S → Type 0) (contents : W → Option (List ℕ))
    (c : Converting) (made : Made) (p : Instructions) (old new : S) (f : Failure) → p ≡ made.converted.program
    → PairFails c (λ put. paired creates ends contents c (image p.order p.list) (certificate_text made.certificate) put old new) f
    → PairFails c (λ put. pair_of creates ends contents c made put old new) f
pair_fails creates ends contents c made p old new f same fails =
    subst (λ q. PairFails c (λ put. paired creates ends contents c (image q.order q.list) (certificate_text made.certificate) put old new) f) same fails

-- a pair fails when a listing is written, which is then thrown away
pub within_fails : {S W : Type 0} (creates : S → List ℕ → Option W → S → Type 0) (ends : S → W → Bool → S → Type 0) (contents : W → Option (List ℕ))
    (old : S) (c : Converting) (name : Bor (List ℕ)) (lines : List ℕ) (pair : Put → S → S → Type 0) (begun between new : S) (f : Failure)
    → ((others : S → S → Type 0) → others begun between → Beside creates ends contents old name.now lines others false new)
    → PairFails c (λ put. pair put begun between) f → BesideFails c name (λ which. beside creates ends contents pair name.now lines old which new) f
within_fails creates ends contents old c name lines pair begun between new f thrown (inl (inl is, stands)) = inl (inl is, inr (thrown (pair Neither) stands))
within_fails creates ends contents old c name lines pair begun between new f thrown (inl (inr (inl is), stands)) = inl (inr (inl is), inr (thrown (pair Neither) stands))
within_fails creates ends contents old c name lines pair begun between new f thrown (inl (inr (inr is), stands)) =
    inl (inr (inr (inl is)), inr (thrown (pair Neither) stands))
within_fails creates ends contents old c name lines pair begun between new f thrown (inr (is, stands)) = inr (inl (is, thrown (pair FirstAlone) stands))
