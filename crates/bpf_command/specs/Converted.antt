-- What comes of a filter, and what is put at the names of the answers.
use Rattle.std.specs.Prelude.{◌≡◌, ◌⊎◌, ◌<◌, ◌≤◌, ℕ, Bool, List, length, Option, Some, None, ⊤}
use Rattle.std.specs.Borrow.{Bor}
use Rattle.bpf_insn.specs.Image.{image}
use Rattle.bpf_insn.specs.Limits.{max_context}
use Rattle.bpf_cert.specs.Spelling.{certificate_text}
use Rattle.bpf_classic.specs.declared.raw.Raw.{Raw}
use Rattle.bpf_conversion.specs.Listed.{listed}
use Rattle.bpf_conversion.specs.declared.made.Made.{Made}
use Rattle.bpf_command.specs.declared.request.converting.Converting.{Converting}
use Rattle.bpf_answers.specs.Opened.{Opening, Unreadable}
use Rattle.bpf_answers.specs.declared.answer.Answer.{Answer}
use Rattle.bpf_answers.specs.declared.answer.Answer.TheVariants.{NotConverted as IsNotConverted, Certified}
use Rattle.bpf_answers.specs.Both.{Put}
use Rattle.bpf_answers.specs.Both.Put.{Neither, FirstAlone}
use Rattle.bpf_answers.specs.Loaded.{BytesAt, TextAt, Tried, max_text}
use Rattle.bpf_answers.specs.declared.certified.Certification.{Certification}
use Rattle.bpf_answers.specs.declared.failure.Failure.{Failure}
use Rattle.bpf_answers.specs.declared.failure.Failure.TheVariants.{CannotRead, CannotWrite, NoMemory}
use Rattle.bpf_command.specs.declared.commands.conversion.Conversion.{Conversion}
use Rattle.bpf_command.specs.declared.commands.conversion.Conversion.TheVariants.{Made as IsDone, Refused}
pub use Rattle.bpf_command.specs.Spelled.{IsMadeOf, IsUnconvertible, form_of, is_misfit, spelled, told_unconvertible}
pub use Rattle.bpf_command.specs.Standing.{Placing, Standing, placing}
use Rattle.bpf_command.specs.Standing.{beside, paired}
use Rattle.bpf_command.specs.Standing.Standing.{Whole, Nothing, ImageAlone, Unlisted}

-- the name can't be opened, its reader fails, or there are more bytes; or there is no memory for them
abbrev pub FilterUnread : {S : Type 0} → Opening S → S → List ℕ → S → Failure → Type 0
FilterUnread opening old input new (CannotRead name) = (name.now ≡ input) × (Unreadable opening old input new ⊎ TextAt opening old input new (λ text. max_text < length text))
FilterUnread opening old input new NoMemory = ⊤
FilterUnread opening old input new failure = ⊥

-- ---- what is made

abbrev pub told_of : ℕ → Made → Certification
told_of length made = record { length = length; bound = made.certificate.steps; rewriting = None }

-- The bytes at IN spell these instructions, which are a filter, and this was made of it: a program, and a certificate that certifies it for contexts
-- of the length that is told, which is the one that was asked for, with the bound that is told.
pub record Converts {S : Type 0} (opening : Opening S) (old : S) (c : Converting) (new : S) (raws : List Raw) (made : Made) (told : Certification) : Type 0 where
  pub bytes : List ℕ
  pub read : BytesAt max_text opening old c.input.now new bytes
  pub is_made : IsMadeOf c told.length bytes raws made
  pub length_is : c.length ≤ max_context → told.length ≡ c.length
  pub told_is : told ≡ told_of told.length made

-- ---- what stands at the names

-- the image and the certificate of what was made, at the names of a conversion
abbrev pub pair_of : {S W : Type 0} → (S → List ℕ → Option W → S → Type 0) → (S → W → Bool → S → Type 0) → (W → Option (List ℕ)) → Converting → Made → Put → S → S → Type 0
pair_of creates ends contents c made put old new =
    paired creates ends contents c (image made.converted.program.order made.converted.program.list) (certificate_text made.certificate) put old new

-- the same with these lines at a name
abbrev pub listed_pair : {S W : Type 0} → (S → List ℕ → Option W → S → Type 0) → (S → W → Bool → S → Type 0) → (W → Option (List ℕ)) → Converting → Made → Bor (List ℕ) → List ℕ → S → Standing → S → Type 0
listed_pair creates ends contents c made name lines old which new = beside creates ends contents (pair_of creates ends contents c made) name.now lines old which new

-- the image, the certificate's text, and the listing of the program with the filter's instructions
abbrev pub Stand : {S : Type 0} → Placing S → S → Converting → List Raw → Made → Standing → S → Type 0
Stand p old c raws made which new =
    p old c (image made.converted.program.order made.converted.program.list) (certificate_text made.certificate) (listed made.converted raws) which new

-- the listing couldn't be written
abbrev pub IsOfListing : Option (Bor (List ℕ)) → Failure → Type 0
IsOfListing None failure = ⊥
IsOfListing (Some name) failure = failure ≡ CannotWrite name

-- which failures leave what stood at all names; that there is no memory for the listing leaves the places, too
abbrev pub IsOfAny : Converting → Failure → Type 0
IsOfAny c failure = (failure ≡ CannotWrite c.output) ⊎ ((failure ≡ CannotWrite c.certificate) ⊎ ((failure ≡ NoMemory) ⊎ IsOfListing c.listing failure))

-- Of a pair neither stands; or its second couldn't be finished when the first stood already. `stands` says what stands.
abbrev pub PairFails : Converting → (Put → Type 0) → Failure → Type 0
PairFails c stands failure =
    (((failure ≡ CannotWrite c.output) ⊎ ((failure ≡ CannotWrite c.certificate) ⊎ (failure ≡ NoMemory))) × stands Neither)
    ⊎ ((failure ≡ CannotWrite c.certificate) × stands FirstAlone)

-- the same with a listing at a name
abbrev pub BesideFails : Converting → Bor (List ℕ) → (Standing → Type 0) → Failure → Type 0
BesideFails c name stands failure =
    (((failure ≡ CannotWrite c.output) ⊎ ((failure ≡ CannotWrite c.certificate) ⊎ ((failure ≡ NoMemory) ⊎ (failure ≡ CannotWrite name)))) × stands Nothing)
    ⊎ (((failure ≡ CannotWrite c.certificate) × stands ImageAlone) ⊎ ((failure ≡ CannotWrite name) × stands Unlisted))

-- so of what was made, with these lines at a name
abbrev pub ListedPairFails : {S W : Type 0} → (S → List ℕ → Option W → S → Type 0) → (S → W → Bool → S → Type 0) → (W → Option (List ℕ)) → Converting → Made → Bor (List ℕ) → List ℕ → S → S → Failure → Type 0
ListedPairFails creates ends contents c made name lines old new = BesideFails c name (λ which. listed_pair creates ends contents c made name lines old which new)

-- Nothing stands; or the image alone, and its certificate couldn't be finished; or both, and their listing couldn't.
abbrev pub NotAll : {S : Type 0} → Placing S → S → Converting → List Raw → Made → S → Failure → Type 0
NotAll p old c raws made new failure =
    ((failure ≡ NoMemory) × (new ≡ old))
    ⊎ ((IsOfAny c failure × Stand p old c raws made Nothing new)
    ⊎ (((failure ≡ CannotWrite c.certificate) × Stand p old c raws made ImageAlone new)
    ⊎ (IsOfListing c.listing failure × Stand p old c raws made Unlisted new)))

-- ---- the answers

-- something was made, of which this holds
abbrev pub Behind : {S : Type 0} → Opening S → S → Converting → (S → List Raw → Made → Type 0) → Type 0
Behind {S} o old c holds = (between : S) × (raws : List Raw) × (made : Made) × (told : Certification) × Converts o old c between raws made told × holds between raws made

-- whatever was asked for stands at its name; or no name but IN is opened, and this is what is wrong with the bytes there
abbrev pub ConvertSays : {S : Type 0} → Opening S → Placing S → S → Converting → S → Conversion → Type 0
ConvertSays {S} o p old c new (IsDone told) = (between : S) × (raws : List Raw) × (made : Made) × Converts o old c between raws made told × Stand p between c raws made Whole new
ConvertSays o p old c new (Refused error) = (bytes : List ℕ) × BytesAt max_text o old c.input.now new bytes × IsUnconvertible c bytes error

-- what is answered
abbrev pub conversion_answer : Conversion → Answer
conversion_answer (IsDone told) = Certified told
conversion_answer (Refused error) = IsNotConverted (told_unconvertible error)

abbrev pub ConvertFails : {S : Type 0} → Opening S → Placing S → S → Converting → S → Failure → Type 0
ConvertFails o p old c new (CannotRead name) = FilterUnread o old c.input.now new (CannotRead name)
ConvertFails o p old c new (CannotWrite name) = Behind o old c (λ between raws made. NotAll p between c raws made new (CannotWrite name))
ConvertFails o p old c new NoMemory = ⊤
ConvertFails o p old c new failure = ⊥

-- not all stands that was asked for, and nothing without what it needs
abbrev pub Missing : {S : Type 0} → Placing S → S → Converting → List Raw → Made → S → Type 0
Missing p old c raws made new =
    (new ≡ old) ⊎ (Stand p old c raws made Nothing new ⊎ (Stand p old c raws made ImageAlone new ⊎ Stand p old c raws made Unlisted new))

-- Where that fails, the input was opened, or couldn't be; or not all stands.
abbrev pub NotConverted : {S : Type 0} → Opening S → Placing S → S → Converting → S → Type 0
NotConverted o p old c new = Tried o old c.input.now new ⊎ Behind o old c (λ between raws made. Missing p between c raws made new)
