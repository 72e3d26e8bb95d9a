-- The line of a failure, and its status.
use Rattle.std.specs.Prelude.{◌≡◌, ◌⊎◌, ◌++◌, ◌&&◌, ℕ, List, [], Option, Bool, codes, decimal, true, false, ⊤, if◌then◌else◌}
use Rattle.std.specs.Io.KnownBytes.{Appends, Keeps}
use Rattle.bpf_insn.specs.Written.{AppendsBeginning}
use Rattle.bpf_streams.specs.Escaped.{escaped}
use Rattle.bpf_answers.specs.declared.fault.Cause.{Cause}
use Rattle.bpf_answers.specs.declared.fault.Cause.TheVariants.{Unknown, NotFound, Denied, Folder, NotFolder, Loop, LongName, Full, ReadOnly, Closed}
use Rattle.bpf_answers.specs.declared.context.ContextError.{ContextError}
use Rattle.bpf_answers.specs.declared.context.ContextError.TheVariants.{BadHex, TooLong, Memory}
use Rattle.bpf_answers.specs.declared.failure.Failure.{Failure}
use Rattle.bpf_answers.specs.declared.failure.Failure.TheVariants.{CannotRead, CannotWrite, NoMemory, BadContext, BadLine, NoContext, ContextTwice, MostBelowLeast, InputTwice, NotTogether, NotUtf8, NotText}

abbrev pub context_text : ContextError → List ℕ
context_text BadHex = codes "bad hex"
context_text TooLong = codes "context too long"
context_text Memory = codes "no memory"

-- before the number of a line
abbrev pub line_text : ContextError → List ℕ
line_text BadHex = codes "bad hex at line "
line_text TooLong = codes "context too long at line "
line_text Memory = codes "no memory at line "

-- what a failure is of: a name, whose control characters are told, or the number of a line
abbrev pub told_of : Failure → List ℕ → List ℕ
told_of (CannotRead name) what = escaped false what
told_of (CannotWrite name) what = escaped false what
told_of (NotText name) what = escaped false what
told_of failure what = what

abbrev pub failure_text : Failure → List ℕ
failure_text (CannotRead name) = codes "cannot read " ++ escaped false name.now
failure_text (CannotWrite name) = codes "cannot write " ++ escaped false name.now
failure_text NoMemory = codes "no memory"
failure_text (BadContext error) = context_text error
failure_text (BadLine error line) = line_text error ++ decimal line
failure_text NoContext = codes "no context"
failure_text ContextTwice = codes "context twice"
failure_text MostBelowLeast = codes "most below least"
failure_text InputTwice = codes "standard input twice"
failure_text NotTogether = codes "words that don't go together"
failure_text NotUtf8 = codes "words that aren't UTF-8"
failure_text (NotText name) = codes "not UTF-8: " ++ escaped false name.now

-- why the system refused a name
abbrev pub cause_text : Cause → List ℕ
cause_text Unknown = []
cause_text NotFound = codes ": No such file or directory"
cause_text Denied = codes ": Permission denied"
cause_text Folder = codes ": Is a directory"
cause_text NotFolder = codes ": Not a directory"
cause_text Loop = codes ": Too many levels of symbolic links"
cause_text LongName = codes ": File name too long"
cause_text Full = codes ": No space left"
cause_text ReadOnly = codes ": Read-only file system"
cause_text Closed = codes ": Broken pipe"

-- whether a failure is one for which the system may have a reason: of a name or of standard output
abbrev pub is_of_name : Failure → Bool
is_of_name (CannotRead name) = true
is_of_name (CannotWrite name) = true
is_of_name NoMemory = false
is_of_name (BadContext error) = false
is_of_name (BadLine error line) = false
is_of_name NoContext = false
is_of_name ContextTwice = false
is_of_name MostBelowLeast = false
is_of_name InputTwice = false
is_of_name NotTogether = false
is_of_name NotUtf8 = false
is_of_name (NotText name) = false

-- the reason that is told of a failure
abbrev pub reason_of : Failure → Cause → List ℕ
reason_of failure cause = if is_of_name failure then cause_text cause else []

abbrev pub failure_words : Failure → Cause → List ℕ
failure_words failure cause = failure_text failure ++ reason_of failure cause

abbrev pub failure_line : Failure → Cause → List ℕ
failure_line failure cause = failure_words failure cause ++ codes "\n"

-- 2 for words, 3 for what failed outside
abbrev pub status_of_context : ContextError → ℕ
status_of_context BadHex = 2
status_of_context TooLong = 2
status_of_context Memory = 3

abbrev pub status_of_failure : Failure → ℕ
status_of_failure (CannotRead name) = 3
status_of_failure (CannotWrite name) = 3
status_of_failure NoMemory = 3
status_of_failure (BadContext error) = status_of_context error
status_of_failure (BadLine error line) = status_of_context error
status_of_failure NoContext = 2
status_of_failure ContextTwice = 2
status_of_failure MostBelowLeast = 2
status_of_failure InputTwice = 2
status_of_failure NotTogether = 2
status_of_failure NotUtf8 = 2
status_of_failure (NotText name) = 3

-- whoever was to read what is written has gone
abbrev pub is_gone : Cause → Bool
is_gone Unknown = false
is_gone NotFound = false
is_gone Denied = false
is_gone Folder = false
is_gone NotFolder = false
is_gone Loop = false
is_gone LongName = false
is_gone Full = false
is_gone ReadOnly = false
is_gone Closed = true

abbrev pub is_of_writing : Failure → Bool
is_of_writing (CannotRead name) = false
is_of_writing (CannotWrite name) = true
is_of_writing NoMemory = false
is_of_writing (BadContext error) = false
is_of_writing (BadLine error line) = false
is_of_writing NoContext = false
is_of_writing ContextTwice = false
is_of_writing MostBelowLeast = false
is_of_writing InputTwice = false
is_of_writing NotTogether = false
is_of_writing NotUtf8 = false
is_of_writing (NotText name) = false

-- the pipe that is written to is closed, of which nothing is told
abbrev pub is_closed : Failure → Cause → Bool
is_closed failure cause = is_of_writing failure && is_gone cause

-- The failure's line went to standard error, with its status; 3 where standard error failed as well, and took a beginning of the line
-- without its end. Of a closed pipe nothing is told, and the status is the one that a shell tells of a tool which the pipe's signal ends.
abbrev pub Tells : Failure → Cause → ℕ → Option (List ℕ) → Option (List ℕ) → Type 0
Tells failure cause status old new =
    ((is_closed failure cause ≡ true) × (status ≡ 141) × Keeps old new)
    ⊎ ((is_closed failure cause ≡ false) × (status ≡ status_of_failure failure) × Appends old new (failure_line failure cause))
    ⊎ ((is_closed failure cause ≡ false) × (status ≡ 3) × AppendsBeginning old new (failure_words failure cause))

-- so for the cause that the system told
abbrev pub IsTold : Failure → ℕ → Option (List ℕ) → Option (List ℕ) → Type 0
IsTold failure status old new = (cause : Cause) × Tells failure cause status old new

-- what writes nothing says of no writing that it failed
abbrev pub IsQuiet : Failure → Type 0
IsQuiet (CannotWrite name) = ⊥
IsQuiet failure = ⊤

-- what a line on standard output can fail of
abbrev pub OutputFails : Failure → Type 0
OutputFails (CannotWrite name) = name.now ≡ codes "standard output"
OutputFails NoMemory = ⊤
OutputFails (CannotRead name) = ⊥
OutputFails (BadContext error) = ⊥
OutputFails (BadLine error line) = ⊥
OutputFails NoContext = ⊥
OutputFails ContextTwice = ⊥
OutputFails MostBelowLeast = ⊥
OutputFails InputTwice = ⊥
OutputFails NotTogether = ⊥
OutputFails NotUtf8 = ⊥
OutputFails (NotText name) = ⊥
