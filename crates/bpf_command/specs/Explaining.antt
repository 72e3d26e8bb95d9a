-- What the words of `explain` want explained, and which of them don't go together.
use Rattle.std.specs.Prelude.{◌≡◌, ◌&&◌, ℕ, Bool, true, false, List, Option, Some, None, is_some, is_none, option_map, unwrap_or}
use Rattle.bpf_command.specs.declared.request.subject.Aspect.{Aspect}
use Rattle.bpf_command.specs.declared.request.subject.Aspect.TheVariants.{Listing, Slot as OneSlot, Graph as Drawn}
use Rattle.bpf_command.specs.declared.request.subject.Clash.{Clash}
use Rattle.bpf_command.specs.declared.request.subject.Clash.TheVariants.{CertificateInfer, CertificateHarden, InferHarden, TextCertificate, TextInfer, TextHarden, TextSlot, TextDot, SlotDot, SlotAlone, MostAlone, DeepAlone, PaddedAlone}
use Rattle.bpf_command.specs.declared.request.subject.SubjectWords.{SubjectWords}
use Rattle.bpf_command.specs.declared.request.subject.Subject.{Subject}
use Rattle.bpf_command.specs.declared.request.subject.Subject.TheVariants.{Image, Text as TextAlone, Certified, Slot, Inferred, Hardened, Graph, GraphAlone, Misfit}

-- At most one of CERT, `--infer`, `--harden` and `--text` is given, `--most` and `--deep` with `--infer` alone, `--padded` with `--harden` alone, `--slot` with
-- one of the first three, and `--dot` with neither `--text` nor `--slot`: which of this isn't so.
abbrev pub Clashes : SubjectWords → Clash → Type 0
Clashes t CertificateInfer = (is_some t.certificate && is_some t.infer) ≡ true
Clashes t CertificateHarden = (is_some t.certificate && is_some t.harden) ≡ true
Clashes t InferHarden = (is_some t.infer && is_some t.harden) ≡ true
Clashes t TextCertificate = (t.text && is_some t.certificate) ≡ true
Clashes t TextInfer = (t.text && is_some t.infer) ≡ true
Clashes t TextHarden = (t.text && is_some t.harden) ≡ true
Clashes t TextSlot = (t.text && is_some t.slot) ≡ true
Clashes t TextDot = (t.text && t.dot) ≡ true
Clashes t SlotDot = (is_some t.slot && t.dot) ≡ true
Clashes t SlotAlone = (is_some t.slot && is_none t.certificate && is_none t.infer && is_none t.harden) ≡ true
Clashes t MostAlone = (is_some t.most && is_none t.infer) ≡ true
Clashes t DeepAlone = (t.deep && is_none t.infer) ≡ true
Clashes t PaddedAlone = (t.padded && is_none t.harden) ≡ true

-- by the slot, and whether a graph is wanted
abbrev pub GivesAspect : (slot : Option ℕ) → (dot : Bool) → Aspect → Type 0
GivesAspect slot dot Listing = (slot ≡ None) × (dot ≡ false)
GivesAspect slot dot (OneSlot s) = (slot ≡ Some s) × (dot ≡ false)
GivesAspect slot dot Drawn = (slot ≡ None) × (dot ≡ true)

-- the name of the certificate
abbrev pub certificate_of : SubjectWords → Option (List ℕ)
certificate_of t = option_map (λ s. s.now) t.certificate

-- neither a search nor a hardening is wanted
abbrev pub IsAlone : SubjectWords → Type 0
IsAlone t = (t.infer ≡ None) × (t.most ≡ None) × (t.deep ≡ false) × (t.harden ≡ None) × (t.padded ≡ false)

-- what the words want explained, each of them given in one way alone
abbrev pub GivesSubject : SubjectWords → Subject → Type 0
GivesSubject t Image = IsAlone t × (certificate_of t ≡ None) × (t.slot ≡ None) × (t.text ≡ false) × (t.dot ≡ false)
GivesSubject t TextAlone = IsAlone t × (certificate_of t ≡ None) × (t.slot ≡ None) × (t.text ≡ true) × (t.dot ≡ false)
GivesSubject t (Certified c) = IsAlone t × (certificate_of t ≡ Some c.now) × (t.slot ≡ None) × (t.text ≡ false) × (t.dot ≡ false)
GivesSubject t (Slot c s) = IsAlone t × (certificate_of t ≡ Some c.now) × (t.slot ≡ Some s) × (t.text ≡ false) × (t.dot ≡ false)
GivesSubject t (Inferred least most deep aspect) =
    (certificate_of t ≡ None) × (t.infer ≡ Some least) × (most ≡ unwrap_or t.most least) × (t.deep ≡ deep) × (t.harden ≡ None) × (t.padded ≡ false)
    × GivesAspect t.slot t.dot aspect × (t.text ≡ false)
GivesSubject t (Hardened length padded aspect) =
    (certificate_of t ≡ None) × (t.infer ≡ None) × (t.most ≡ None) × (t.deep ≡ false) × (t.harden ≡ Some length) × (t.padded ≡ padded)
    × GivesAspect t.slot t.dot aspect × (t.text ≡ false)
GivesSubject t (Graph c) = IsAlone t × (certificate_of t ≡ Some c.now) × (t.slot ≡ None) × (t.text ≡ false) × (t.dot ≡ true)
GivesSubject t GraphAlone = IsAlone t × (certificate_of t ≡ None) × (t.slot ≡ None) × (t.text ≡ false) × (t.dot ≡ true)
GivesSubject t (Misfit clash) = Clashes t clash
