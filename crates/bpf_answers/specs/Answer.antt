-- The status of an answer, and its text on standard output.
use Rattle.std.specs.Prelude.{◌≡◌, ◌⊎◌, ◌++◌, ℕ, List, [], ◌∷◌, Option, Some, None, Bool, true, false, codes, decimal, nat_eq, if◌then◌else◌}
use Rattle.std.specs.Io.KnownBytes.{Appends, Keeps}
use Rattle.std.specs.List.{concat, join_with_byte}
use Rattle.bpf_semantics.specs.ReasonNumbers.{reason_number}
use Rattle.bpf_insn.specs.Written.{AppendsBeginning}
use Rattle.bpf_insn.specs.RefusalNumbers.{build_number, build_slot}
use Rattle.bpf_insn.specs.declared.instruction.Groups.{Groups}
use Rattle.bpf_state.specs.Work.{Counts}
use Rattle.bpf_text.specs.Listing.{listing}
use Rattle.bpf_text.specs.Annotated.{annotated}
use Rattle.bpf_text.specs.declared.error.TextError.{TextError}
use Rattle.bpf_text.specs.declared.error.TextError.TheVariants.{Form, Range, DefinedAgain, Undefined, TooFar, Program, Memory as TextMemory}
use Rattle.bpf_infer_base.specs.RefusalNumbers.{condition_number}
use Rattle.bpf_infer_base.specs.declared.error.InferError.{InferError}
use Rattle.bpf_infer_base.specs.declared.error.InferError.TheVariants.{Unstable, NoBudget, Recursion, Fault as NoState, Memory as InferMemory}
use Rattle.bpf_kept.specs.declared.bounds.Bounds.{Bounds}
use Rattle.bpf_kept.specs.declared.bounds.Turns.{Turns}
use Rattle.bpf_kept.specs.declared.bounds.Turns.TheVariants.{Any, Most}
use Rattle.bpf_refusals.specs.Letters.{code_of}
use Rattle.bpf_refusals.specs.Told.{at_number, told_at, told_certificate, told_check, told_hardening, told_image, told_mismatch, told_not_shown, told_notes}
use Rattle.bpf_refusals.specs.declared.letter.Letter.{Letter}
use Rattle.bpf_refusals.specs.declared.letter.Letter.TheVariants as letters
use Rattle.bpf_refusals.specs.declared.told.Told.{Told}
use Rattle.bpf_refusals.specs.declared.told.At.{At}
use Rattle.bpf_refusals.specs.declared.told.At.TheVariants.{Nowhere, Slot, Line, Instruction, Packet}
use Rattle.bpf_refusals.specs.declared.told.TheConstants.{TOO_DEAR, UNCERTIFIED}
pub use Rattle.bpf_answers.specs.declared.answer.Answer.{Answer}
use Rattle.bpf_answers.specs.declared.answer.Answer.TheVariants.{Yes, NoImage, NoText, NoCertificate, NotCertified, NotProposed, NotHardened, NotShown, Certified, TooDear, Uncertified, NotConverted, Follows, NoOld, NoNew, NoNotes, NotFollowed, NoContext, NoCapture, Ends, EndsAtTrap, Ran, RanToTrap, Occur, Lists, Annotates, Written, WrittenFor}
use Rattle.bpf_answers.specs.declared.certified.Rewriting.{Rewriting}
use Rattle.bpf_captures.specs.Refused.{refusal_number as capture_number}
use Rattle.bpf_captures.specs.declared.error.CaptureRefusal.{CaptureRefusal}
use Rattle.bpf_machine.specs.declared.outcome.Outcome.{Outcome}
use Rattle.bpf_machine.specs.declared.outcome.Outcome.TheVariants.{Done as DoneRun, Fault as FaultRun, OutOfFuel}

-- ---- the status: 0 done, yes or written; 1 a refusal, a fault of the program, out of fuel

abbrev pub status_of_run : Outcome → ℕ
status_of_run (DoneRun value steps) = 0
status_of_run (FaultRun slot reason steps) = 1
status_of_run OutOfFuel = 1

abbrev pub status_of : Answer → ℕ
status_of (Yes least most bound work) = 0
status_of (NoImage error) = 1
status_of (NoText error) = 1
status_of (NoCertificate error) = 1
status_of (NotCertified refusal) = 1
status_of (NotProposed error) = 1
status_of (NotHardened error) = 1
status_of (NotShown mismatch) = 1
status_of (Certified told) = 0
status_of TooDear = 1
status_of Uncertified = 1
status_of (NotConverted told) = 1
status_of (Follows bounds turns bound) = 0
status_of (NoOld error) = 1
status_of (NoNew error) = 1
status_of (NoNotes error) = 1
status_of (NotFollowed mismatch) = 1
status_of (NoContext count least most) = 1
status_of (NoCapture refusal) = 1
status_of (Ends value) = 0
status_of (EndsAtTrap value) = 0
status_of (Ran outcome) = status_of_run outcome
status_of (RanToTrap value steps) = 0
status_of (Occur groups) = 0
status_of (Lists program) = 0
status_of (Annotates a) = 0
status_of Written = 0
status_of (WrittenFor untouched) = 0

-- there is nothing to print
abbrev pub is_written : Answer → Bool
is_written Written = true
is_written answer = false

-- ---- the text

-- `no E4 at slot 0`: the kind of refusal, its number, the slot
abbrev pub refusal_line : List ℕ → ℕ → List ℕ → ℕ → List ℕ
refusal_line kind number place at = concat (codes "no " ∷ kind ∷ decimal number ∷ place ∷ decimal at ∷ codes "\n" ∷ [])

abbrev pub at_slot : List ℕ
at_slot = codes " at slot "

abbrev pub at_line : List ℕ
at_line = codes " at line "

abbrev pub at_instruction : List ℕ
at_instruction = codes " at instruction "

abbrev pub at_packet : List ℕ
at_packet = codes " at packet "

-- what a refusal names that names nothing, by its letter: it is the number 0 of that
abbrev pub at_whole : Letter → List ℕ
at_whole letters.Text = at_line
at_whole letters.Classic = at_instruction
at_whole letters.Check = at_slot
at_whole letters.Image = at_slot
at_whole letters.Fault = at_slot
at_whole letters.Hardening = at_slot
at_whole letters.Inference = at_slot
at_whole letters.Certificate = at_line
at_whole letters.Mismatch = at_slot
at_whole letters.Notes = at_line
at_whole letters.Capture = at_packet

abbrev pub at_words : Letter → At → List ℕ
at_words letter Nowhere = at_whole letter
at_words letter (Slot slot) = at_slot
at_words letter (Line line) = at_line
at_words letter (Instruction at) = at_instruction
at_words letter (Packet packet byte) = at_packet

-- `no E4 at slot 0`, `no K4 at line 0`, `no B5 at instruction 7`
abbrev pub line_at : List ℕ → Told → List ℕ
line_at place t = refusal_line (code_of t.letter ∷ []) t.number place (at_number t.at)

abbrev pub told_line : Told → List ℕ
told_line t = line_at (at_words t.letter t.at) t

-- `no E4 of NEW at slot 0`: of two images this one
abbrev pub at_slot_of_old : List ℕ
at_slot_of_old = codes " of OLD at slot "

abbrev pub at_slot_of_new : List ℕ
at_slot_of_new = codes " of NEW at slot "

-- `no A3 at line 2`, `no A6 at line 1 (E8 at slot 0)`
abbrev pub text_refusal_line : TextError → List ℕ
text_refusal_line (Form line) = concat (codes "no A1 at line " ∷ decimal line ∷ codes "\n" ∷ [])
text_refusal_line (Range line) = concat (codes "no A2 at line " ∷ decimal line ∷ codes "\n" ∷ [])
text_refusal_line (DefinedAgain line) = concat (codes "no A3 at line " ∷ decimal line ∷ codes "\n" ∷ [])
text_refusal_line (Undefined line) = concat (codes "no A4 at line " ∷ decimal line ∷ codes "\n" ∷ [])
text_refusal_line (TooFar line) = concat (codes "no A5 at line " ∷ decimal line ∷ codes "\n" ∷ [])
text_refusal_line (Program line error) =
    concat (codes "no A6 at line " ∷ decimal line ∷ codes " (E" ∷ decimal (build_number error) ∷ codes " at slot " ∷ decimal (build_slot error) ∷ codes ")\n" ∷ [])
text_refusal_line TextMemory = codes "no A7 at line 0\n"

-- `no I2 at slot 1`, `no I4 (C5) at slot 0`
abbrev pub infer_refusal_line : InferError → List ℕ
infer_refusal_line (Unstable slot) = concat (codes "no I1 at slot " ∷ decimal slot ∷ codes "\n" ∷ [])
infer_refusal_line (NoBudget slot) = concat (codes "no I2 at slot " ∷ decimal slot ∷ codes "\n" ∷ [])
infer_refusal_line (Recursion slot) = concat (codes "no I3 at slot " ∷ decimal slot ∷ codes "\n" ∷ [])
infer_refusal_line (NoState slot condition) = concat (codes "no I4 (C" ∷ decimal (condition_number condition) ∷ codes ") at slot " ∷ decimal slot ∷ codes "\n" ∷ [])
infer_refusal_line InferMemory = codes "no I5 at slot 0\n"

-- `done 0 steps 23`, `fault F1 at slot 2 steps 4`, `out of fuel`
abbrev pub run_line : Outcome → List ℕ
run_line (DoneRun value steps) = concat (codes "done " ∷ decimal value ∷ codes " steps " ∷ decimal steps ∷ codes "\n" ∷ [])
run_line (FaultRun slot reason steps) =
    concat (codes "fault F" ∷ decimal (reason_number reason) ∷ codes " at slot " ∷ decimal slot ∷ codes " steps " ∷ decimal steps ∷ codes "\n" ∷ [])
run_line OutOfFuel = codes "out of fuel\n"

-- `done 0 steps 23 trap`
abbrev pub run_to_trap_line : ℕ → ℕ → List ℕ
run_to_trap_line value steps = concat (codes "done " ∷ decimal value ∷ codes " steps " ∷ decimal steps ∷ codes " trap\n" ∷ [])

-- `done 0 trap`
abbrev pub end_at_trap_line : ℕ → List ℕ
end_at_trap_line value = concat (codes "done " ∷ decimal value ∷ codes " trap\n" ∷ [])

-- a word where it is true
abbrev pub word_if : Bool → List ℕ → List (List ℕ)
word_if true word = word ∷ []
word_if false word = []

-- `base divmul atomic`: those that occur, in this order
abbrev pub groups_line : Groups → List ℕ
groups_line g = join_with_byte 32 (word_if g.base (codes "base") ++ word_if g.divmul (codes "divmul") ++ word_if g.atomic (codes "atomic")) ++ codes "\n"

-- `16`, or `0..4096` where the two differ
abbrev pub range_pieces : ℕ → ℕ → List (List ℕ)
range_pieces least most = if nat_eq least most then decimal least ∷ [] else decimal least ∷ codes ".." ∷ decimal most ∷ []

-- `yes length 0..4096 bound 23`
abbrev pub yes_line : ℕ → ℕ → ℕ → List ℕ
yes_line least most bound = concat (codes "yes length " ∷ (range_pieces least most ++ (codes " bound " ∷ decimal bound ∷ codes "\n" ∷ [])))

-- ` untouched 32`, the word and the number; nothing where no byte is left alone
abbrev pub untouched_word : ℕ → List ℕ
untouched_word untouched = if nat_eq untouched 0 then [] else codes " untouched "

abbrev pub untouched_number : ℕ → List ℕ
untouched_number untouched = if nat_eq untouched 0 then [] else decimal untouched

-- where contexts are blocks
abbrev pub padded_word : Bool → List ℕ
padded_word padded = if padded then codes " padded" else []

-- a number of turns: any, or the greatest
abbrev pub turns_word : Turns → List ℕ
turns_word Any = codes "any"
turns_word (Most turns) = decimal turns

-- `yes length 16 turns 65536 bound 23`, or `yes length 16 turns any bound 23`, with ` padded` and ` untouched 32` behind it
abbrev pub follows_line : Bounds → Turns → ℕ → List ℕ
follows_line runs turns bound =
    concat (codes "yes length " ∷ decimal runs.length ∷ codes " turns " ∷ turns_word turns ∷ codes " bound " ∷ decimal bound ∷ padded_word runs.padded
    ∷ untouched_word runs.untouched ∷ untouched_number runs.untouched ∷ codes "\n" ∷ [])

-- what isn't shown to keep the meaning is named last
abbrev pub proved_end : Bool → List ℕ
proved_end is_shown = if is_shown then codes "\n" else codes " unproved\n"

-- `yes length 264 bound 13561`, or `yes length 264 bound 13561 hardened turns 264`, or `turns any`, with ` padded`, ` untouched 32` and ` unproved` behind it
abbrev pub certified_line : (length bound : ℕ) → Option Rewriting → List ℕ
certified_line length bound None = concat (codes "yes length " ∷ decimal length ∷ codes " bound " ∷ decimal bound ∷ codes "\n" ∷ [])
certified_line length bound (Some r) =
    concat (codes "yes length " ∷ decimal length ∷ codes " bound " ∷ decimal bound ∷ codes " hardened turns " ∷ turns_word r.told ∷ padded_word r.padded
    ∷ untouched_word r.untouched ∷ untouched_number r.untouched ∷ proved_end r.is_shown ∷ [])

-- `no context of 3 bytes, want 16`
abbrev pub no_context_line : ℕ → ℕ → ℕ → List ℕ
no_context_line count least most = concat (codes "no context of " ∷ decimal count ∷ codes " bytes, want " ∷ (range_pieces least most ++ (codes "\n" ∷ [])))

-- `no P4 at packet 3 byte 1060`: the file ends within the record of this packet, which begins at this byte; both are 0 where it has no header
abbrev pub capture_line : CaptureRefusal → List ℕ
capture_line r =
    concat (codes "no P" ∷ decimal (capture_number r.error) ∷ codes " at packet " ∷ decimal r.packet ∷ codes " byte " ∷ decimal r.byte ∷ codes "\n" ∷ [])

-- `transfers 5 comparisons 4`
abbrev pub work_line : Counts → List ℕ
work_line work = concat (codes "transfers " ∷ decimal work.transfers ∷ codes " comparisons " ∷ decimal work.comparisons ∷ codes "\n" ∷ [])

abbrev pub text_of : Answer → List ℕ
text_of (Yes least most bound None) = yes_line least most bound
text_of (Yes least most bound (Some work)) = yes_line least most bound ++ work_line work
text_of (NoImage error) = told_line (told_image error)
text_of (NoText error) = text_refusal_line error
text_of (NoCertificate error) = told_line (told_certificate error)
text_of (NotCertified refusal) = told_line (told_check refusal)
text_of (NotProposed error) = infer_refusal_line error
text_of (NotHardened error) = told_line (told_hardening error)
text_of (NotShown mismatch) = told_line (told_not_shown mismatch)
text_of (Certified told) = certified_line told.length told.bound told.rewriting
text_of TooDear = told_line (told_at letters.Hardening TOO_DEAR Nowhere)
text_of Uncertified = told_line (told_at letters.Hardening UNCERTIFIED Nowhere)
text_of (NotConverted told) = told_line told
text_of (Follows bounds turns bound) = follows_line bounds turns bound
text_of (NoOld error) = line_at at_slot_of_old (told_image error)
text_of (NoNew error) = line_at at_slot_of_new (told_image error)
text_of (NoNotes error) = told_line (told_notes error)
text_of (NotFollowed mismatch) = told_line (told_mismatch mismatch)
text_of (NoContext count least most) = no_context_line count least most
text_of (NoCapture refusal) = capture_line refusal
text_of (Ends value) = concat (codes "done " ∷ decimal value ∷ codes "\n" ∷ [])
text_of (EndsAtTrap value) = end_at_trap_line value
text_of (Ran outcome) = run_line outcome
text_of (RanToTrap value steps) = run_to_trap_line value steps
text_of (Occur groups) = groups_line groups
text_of (Lists program) = listing program.list
text_of (Annotates a) = annotated a.notes a.program.order a.program.list
text_of Written = []
text_of (WrittenFor untouched) = concat (codes "untouched " ∷ decimal untouched ∷ codes "\n" ∷ [])

-- ---- both

-- this is the answer's status, and its text was printed
pub record Says (answer : Answer) (status : ℕ) (old new : Option (List ℕ)) : Type 0 where
  pub status_is : status ≡ status_of answer
  pub printed : Appends old new (text_of answer)

-- standard output has what it had, or a beginning of an answer of which this holds
abbrev pub Unfinished : (Answer → Type 0) → Option (List ℕ) → Option (List ℕ) → Type 0
Unfinished says before after = Keeps before after ⊎ ((answer : Answer) × AppendsBeginning before after (text_of answer) × says answer)
