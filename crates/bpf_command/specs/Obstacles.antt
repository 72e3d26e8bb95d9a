-- Which names of a request lead to one file where they may not.
use Rattle.std.specs.Prelude.{◌≡◌, ◌||◌, Bool, false, List, ℕ, Option, Some, None}
use Rattle.std.specs.Borrow.{Bor}
use Rattle.bpf_command.specs.CommandLine.{hardening_of}
use Rattle.bpf_command.specs.declared.request.certifying.Certifying.{Certifying}
use Rattle.bpf_command.specs.declared.request.converting.Converting.{Converting}
use Rattle.bpf_command.specs.declared.request.hardening.Hardening.{Hardening}
use Rattle.bpf_command.specs.declared.request.words.Request.{Request}
use Rattle.bpf_command.specs.declared.request.words.Request.TheVariants.{Groups, Asm, List as ListOf, Run, Check, RunChecked, Replay, Infer, Harden, Certify, Convert, ToC, Follows, Migrate, Explain}

-- From places and two names to whether what is written for the one comes to stand in the place of what is written for the other.
abbrev pub Meeting : Type 0 → Type 1
Meeting S = S → List ℕ → List ℕ → Bool → Type 0

-- the same of a name that may be left out
abbrev pub MeetsOne : {S : Type 0} → Meeting S → S → List ℕ → Option (Bor (List ℕ)) → Bool → Type 0
MeetsOne meets s first None one = one ≡ false
MeetsOne meets s first (Some second) one = meets s first second.now one

abbrev pub MeetEither : {S : Type 0} → Meeting S → S → (first second : Option (Bor (List ℕ))) → Bool → Type 0
MeetEither meets s None second one = one ≡ false
MeetEither meets s (Some first) second one = MeetsOne meets s first.now second one

-- The notes and the changes of a hardening don't come in the place of other things that are written, or of the image that is hardened; or some of
-- this isn't so.
abbrev pub IsInTheWay : {S : Type 0} → Meeting S → S → Hardening → Bool → Type 0
IsInTheWay meets s h one =
    (notes changes both image source : Bool)
    × MeetsOne meets s h.output.now h.notes notes × MeetsOne meets s h.output.now h.changes changes × MeetEither meets s h.notes h.changes both
    × MeetsOne meets s h.input.now h.notes image × MeetsOne meets s h.input.now h.changes source × (one ≡ (notes || changes || both || image || source))

-- a certificate doesn't, if a name for it is given; or some of this isn't so
abbrev pub IsCertificateInTheWay : {S : Type 0} → Meeting S → S → Option (Bor (List ℕ)) → Hardening → Bool → Type 0
IsCertificateInTheWay meets s certificate h one =
    (output notes changes image : Bool)
    × MeetEither meets s certificate (Some h.output) output × MeetEither meets s certificate h.notes notes × MeetEither meets s certificate h.changes changes
    × MeetsOne meets s h.input.now certificate image × (one ≡ (output || notes || changes || image))

-- what a hardening writes has places of its own; or some of this isn't so
abbrev pub IsHardeningInTheWay : {S : Type 0} → Meeting S → S → Hardening → Bool → Type 0
IsHardeningInTheWay meets s h one =
    (texts certificate : Bool) × IsInTheWay meets s h texts × IsCertificateInTheWay meets s h.certificate h certificate × (one ≡ (texts || certificate))

-- nothing that is written comes in the place of the lines of the source; or something does
abbrev pub AreLinesInTheWay : {S : Type 0} → Meeting S → S → Certifying → Bool → Type 0
AreLinesInTheWay meets s c one =
    (output certificate notes changes : Bool)
    × MeetsOne meets s c.output.now c.lines output × MeetsOne meets s c.certificate.now c.lines certificate
    × MeetEither meets s c.notes c.lines notes × MeetEither meets s c.changes c.lines changes × (one ≡ (output || certificate || notes || changes))

-- what a certification writes has places of its own, as what a hardening writes has
abbrev pub IsAnyInTheWay : {S : Type 0} → Meeting S → S → Certifying → Bool → Type 0
IsAnyInTheWay meets s c one =
    (hardened certificate lines : Bool)
    × IsInTheWay meets s (hardening_of c) hardened × IsCertificateInTheWay meets s (Some c.certificate) (hardening_of c) certificate × AreLinesInTheWay meets s c lines
    × (one ≡ (hardened || certificate || lines))

-- what a conversion writes has places of its own, and doesn't come in the place of the filter; or some of this isn't so
abbrev pub IsConversionInTheWay : {S : Type 0} → Meeting S → S → Converting → Bool → Type 0
IsConversionInTheWay meets s c one =
    (both image certificate output beside filter : Bool)
    × meets s c.certificate.now c.output.now both × meets s c.input.now c.output.now image × meets s c.input.now c.certificate.now certificate
    × MeetsOne meets s c.output.now c.listing output × MeetsOne meets s c.certificate.now c.listing beside × MeetsOne meets s c.input.now c.listing filter
    × (one ≡ (both || image || certificate || output || beside || filter))

abbrev pub Obstructs : {S : Type 0} → Meeting S → S → Request → Bool → Type 0
Obstructs meets s (Groups g) one = one ≡ false
Obstructs meets s (Asm a) one = one ≡ false
Obstructs meets s (ListOf l) one = one ≡ false
Obstructs meets s (Run r) one = one ≡ false
Obstructs meets s (Check c) one = one ≡ false
Obstructs meets s (RunChecked r) one = one ≡ false
Obstructs meets s (Replay r) one = one ≡ false
Obstructs meets s (Infer i) one = one ≡ false
Obstructs meets s (Explain e) one = one ≡ false
Obstructs meets s (Harden h) one = IsHardeningInTheWay meets s h one
Obstructs meets s (Certify c) one = IsAnyInTheWay meets s c one
Obstructs meets s (Convert c) one = IsConversionInTheWay meets s c one
Obstructs meets s (ToC e) one = one ≡ false
Obstructs meets s (Follows f) one = one ≡ false
Obstructs meets s (Migrate t) one = one ≡ false
