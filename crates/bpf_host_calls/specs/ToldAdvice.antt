-- What the numbers that C sees tell of searches and hardenings.
use Rattle.std.specs.Prelude.{◌≡◌, ◌≢◌}
use Rattle.bpf_infer_base.specs.declared.error.InferError.{InferError}
use Rattle.bpf_infer_base.specs.declared.error.InferError.TheVariants.{Memory}
use Rattle.bpf_infer_base.specs.declared.harden_error.HardenError.{HardenError}
use Rattle.bpf_infer_base.specs.declared.harden_error.HardenError.TheVariants.{Memory as NoRoomLeft}
use Rattle.bpf_certify.specs.Certified.{told_certifying}
use Rattle.bpf_certify.specs.declared.error.CertifyError.{CertifyError}
use Rattle.bpf_certify.specs.declared.error.CertifyError.TheVariants.{Unhardened}
use Rattle.bpf_cert.specs.ReadAnswers.{IsFromOutside}
use Rattle.bpf_cert.specs.declared.error.CertError.{CertError}
use Rattle.bpf_kept.specs.declared.mismatch.Mismatch.{Mismatch}
use Rattle.bpf_follows.specs.declared.error.NotesError.{NotesError}
use Rattle.bpf_follows.specs.declared.error.NotesError.TheVariants.{Form, Memory as NoNotesMemory}
use Rattle.bpf_insn.specs.declared.refusal.DecodeError.{DecodeError}
use Rattle.bpf_refusals.specs.Told.{told_hardening, told_image, told_inference, told_mismatch, told_not_shown, told_notes}
use Rattle.bpf_host_calls.specs.Told.{TellsCertificate, refusal_of}
use Rattle.bpf_host_calls.specs.declared.answers.BpfRefusal.{BpfRefusal}
use Rattle.bpf_host_calls.specs.declared.refusals.Unmade.{Unmade}
use Rattle.bpf_host_calls.specs.declared.refusals.Unmade.TheVariants.{Memory as NoMemory, Refused as RefusedAs}

-- a refusal tells so; where memory ran out there is nothing to tell
abbrev pub IsTold : (BpfRefusal → Type 0) → Unmade → Type 0
IsTold Tells NoMemory = Unit {0}
IsTold Tells (RefusedAs told) = Tells told

-- a refusal of an inference, of a hardening, of a hardened program that isn't shown to keep the meaning, and of a certification
abbrev pub TellsInference : InferError → BpfRefusal → Type 0
TellsInference e r = r ≡ refusal_of (told_inference e)

abbrev pub TellsHardening : HardenError → BpfRefusal → Type 0
TellsHardening e r = r ≡ refusal_of (told_hardening e)

abbrev pub TellsUnshown : Mismatch → BpfRefusal → Type 0
TellsUnshown m r = r ≡ refusal_of (told_not_shown m)

abbrev pub TellsCertifying : CertifyError → BpfRefusal → Type 0
TellsCertifying e r = r ≡ refusal_of (told_certifying e)

-- what is told of the refusal of a search, of a hardening and of a certification
abbrev pub TellsSearch : InferError → Unmade → Type 0
TellsSearch e NoMemory = e ≡ Memory
TellsSearch e (RefusedAs told) = (e ≢ Memory) × TellsInference e told

abbrev pub TellsHarden : HardenError → Unmade → Type 0
TellsHarden e NoMemory = e ≡ NoRoomLeft
TellsHarden e (RefusedAs told) = (e ≢ NoRoomLeft) × TellsHardening e told

abbrev pub TellsCertify : CertifyError → Unmade → Type 0
TellsCertify e NoMemory = e ≡ Unhardened NoRoomLeft
TellsCertify e (RefusedAs told) = (e ≢ Unhardened NoRoomLeft) × TellsCertifying e told

-- of two images: E of the new one, with 1 in the place of a condition
abbrev pub TellsNewImage : DecodeError → BpfRefusal → Type 0
TellsNewImage e r = r ≡ record (refusal_of (told_image e)) { condition = 1 }

-- of a text that is none of notes
abbrev pub TellsNotes : NotesError → Unmade → Type 0
TellsNotes (Form line) u = u ≡ RefusedAs (refusal_of (told_notes (Form line)))
TellsNotes NoNotesMemory u = u ≡ NoMemory

-- of a text that is no certificate; of one that wasn't read to its end nothing, since that is for want of memory
abbrev pub TellsText : CertError → Unmade → Type 0
TellsText e NoMemory = IsFromOutside e
TellsText e (RefusedAs told) = TellsCertificate e told × ¬ (IsFromOutside e)

-- of notes that don't show it
abbrev pub TellsMatch : Mismatch → BpfRefusal → Type 0
TellsMatch m r = r ≡ refusal_of (told_mismatch m)
