-- What a command found, and how it is printed.
use Rattle.std.specs.Prelude.{◌≡◌, List, [], ℕ, Option, Result, Ok, Err, false}
use Rattle.std.specs.Io.KnownBytes.{Keeps}
use Rattle.std.specs.String.{string_bytes}
use Rattle.bpf_insn.specs.Written.{AppendsBeginning}
use Rattle.bpf_answers.specs.Answer.{Says, is_written, text_of}
use Rattle.bpf_answers.specs.Told.{OutputFails}
use Rattle.bpf_answers.specs.declared.failure.Failure.{Failure}
use Rattle.bpf_answers.specs.declared.reply.Reply.{Reply}
use Rattle.bpf_answers.specs.declared.reply.Reply.TheVariants.{One, Each}
use Rattle.bpf_command.specs.Converted.{conversion_answer}
use Rattle.bpf_command.specs.declared.commands.conversion.Conversion.{Conversion}
use Rattle.bpf_command.specs.Certified.{assessment_answer}
use Rattle.bpf_command.specs.Hardened.{attempt_answer}
use Rattle.bpf_command.specs.Inferred.{inference_answer}
use Rattle.bpf_command.specs.declared.commands.certify.Assessed.{Assessed}
use Rattle.bpf_command.specs.declared.commands.harden.Attempt.{Attempt}
use Rattle.bpf_command.specs.declared.commands.infer.Inference.{Inference}
pub use Rattle.bpf_command.specs.declared.finding.Finding.{Finding}
use Rattle.bpf_command.specs.declared.finding.Finding.TheVariants.{Given, Inferred, Hardened, Certified, Converted}

-- ---- what is printed of it

abbrev pub reply_of : Finding → Reply
reply_of (Given reply) = reply
reply_of (Inferred found) = One (inference_answer found)
reply_of (Hardened found) = One (attempt_answer found)
reply_of (Certified found) = One (assessment_answer found.assessment)
reply_of (Converted found) = One (conversion_answer found)

-- the table of the lines of the program's source, where it was read
abbrev pub lines_of : Finding → List ℕ
lines_of (Certified found) = string_bytes found.lines
lines_of found = []

-- The answer was printed with its status, or printing it failed; of what was printed before, the status is given.
abbrev pub Prints : Reply → Option (List ℕ) → Option (List ℕ) → Result ℕ Failure → Type 0
Prints (One answer) before after (Ok status) = Says answer status before after
Prints (One answer) before after (Err failure) = OutputFails failure × AppendsBeginning before after (text_of answer) × (is_written answer ≡ false)
Prints (Each status) before after (Ok other) = (other ≡ status) × Keeps before after
Prints (Each status) before after (Err failure) = ⊥

-- ---- which command found it

-- a command that answers, or prints as it goes; this holds of what it gave back
abbrev pub Gives : (Reply → Type 0) → Finding → Type 0
Gives says (Given reply) = says reply
Gives says found = ⊥

-- the search for a certificate
abbrev pub Infers : (Inference → Type 0) → Finding → Type 0
Infers says (Inferred found) = says found
Infers says found = ⊥

-- the hardening of a program
abbrev pub HardensTo : (Attempt → Type 0) → Finding → Type 0
HardensTo says (Hardened found) = says found
HardensTo says found = ⊥

-- the certification of a program
abbrev pub Assesses : (Assessed → Type 0) → Finding → Type 0
Assesses says (Certified found) = says found
Assesses says found = ⊥

-- the conversion of a filter
abbrev pub Converts : (Conversion → Type 0) → Finding → Type 0
Converts says (Converted found) = says found
Converts says found = ⊥
