-- Whether a run of an image ends at a trap, by notes.
use Rattle.std.specs.Prelude.{◌≡◌, ◌⊎◌, ℕ, Bool, List}
use Rattle.bpf_insn.specs.Laws.{IsImageOfProgram}
use Rattle.bpf_insn.specs.declared.order.Order.{Order}
use Rattle.bpf_insn.specs.declared.instruction.Insn.{Insn}
use Rattle.bpf_check.specs.Verdicts.{program_in}
use Rattle.bpf_kept.specs.Matching.{Notes}
use Rattle.bpf_kept.specs.declared.bounds.Bounds.{Bounds}
use Rattle.bpf_follows.specs.NotesText.{notes_text}
use Rattle.bpf_follows.specs.Refused.{IsRefused as AreRefused}
use Rattle.bpf_follows.specs.declared.error.NotesError.{NotesError}
use Rattle.bpf_follows.specs.Traps.{RunsToTrap}
use Rattle.bpf_host_calls.specs.Told.{number_of}
use Rattle.bpf_host_calls.specs.ToldAdvice.{TellsNotes}
use Rattle.bpf_host_calls.specs.Explained.{IsSomeImage, IsRefusedImage}
use Rattle.bpf_host_calls.specs.declared.answers.BpfRefusal.{BpfRefusal}
use Rattle.bpf_host_calls.specs.declared.refusals.Unmade.TheVariants.{Refused}

-- The bytes are an image, and the text is that of notes, by which the image's run ends so.
pub record IsTrapped (order : Order) (image notes context : List ℕ) (most : ℕ) (at_trap : Bool) : Type 0 where
  pub program : List Insn
  pub is_image : IsImageOfProgram order image program
  pub runs : Bounds
  pub noted : Notes
  pub notes_are : notes ≡ notes_text runs noted
  pub ends : RunsToTrap (program_in order program) context noted most at_trap

-- as is told: 1 for a trap
abbrev pub TellsTrap : Order → (image notes context : List ℕ) → (most told : ℕ) → Type 0
TellsTrap order image notes context most told = (at_trap : Bool) × (told ≡ number_of at_trap) × IsTrapped order image notes context most at_trap

-- The image is refused, or it isn't, and the notes are, as is told.
abbrev pub IsNotJudged : Order → (image notes : List ℕ) → BpfRefusal → Type 0
IsNotJudged order image notes told =
    IsRefusedImage order image told ⊎ (IsSomeImage order image × ((e : NotesError) × AreRefused notes e × TellsNotes e (Refused told)))
