-- What is told beside the answer to a request.
use Rattle.std.specs.Prelude.{Option, Some, None, nat_eq, if◌then◌else◌}
use Rattle.bpf_command.specs.declared.request.asking.Inferring.{Inferring}
use Rattle.bpf_command.specs.declared.request.certifying.Certifying.{Certifying}
use Rattle.bpf_command.specs.declared.request.hardening.Hardening.{Hardening}
use Rattle.bpf_command.specs.declared.request.words.Request.{Request}
use Rattle.bpf_command.specs.declared.request.words.Request.TheVariants.{Groups, Asm, List as ListOf, Check, Infer, Harden, Certify, ToC}
use Rattle.bpf_answers.specs.Answer.{status_of}
use Rattle.bpf_answers.specs.declared.answer.Answer.{Answer}
use Rattle.bpf_answers.specs.declared.answer.Answer.TheVariants.{NoCapture}
use Rattle.bpf_answers.specs.declared.reply.Reply.TheVariants.{One}
use Rattle.bpf_command.specs.declared.commands.conversion.Conversion.TheVariants.{Refused}
use Rattle.bpf_kept.specs.declared.bounds.Bounds.{Bounds}
use Rattle.bpf_kept.specs.declared.bounds.Turns.{Turns}
use Rattle.bpf_kept.specs.declared.mismatch.Mismatch.{Mismatch}
use Rattle.bpf_command.specs.declared.commands.certify.Assessment.{Assessment}
use Rattle.bpf_command.specs.declared.commands.certify.Assessment.TheVariants.{NoImage as NoImageThere, Refused as IsRefused, Passed}
use Rattle.bpf_command.specs.declared.commands.harden.Attempt.{Attempt}
use Rattle.bpf_command.specs.declared.commands.harden.Attempt.TheVariants.{NoImage as NoImageHere, NotHardened, NotShown, Hardened as IsHardened}
use Rattle.bpf_command.specs.declared.commands.infer.Inference.{Inference}
use Rattle.bpf_command.specs.declared.commands.infer.Inference.TheVariants.{NoImage as NoImageFound, NotProposed, Proposed}
use Rattle.bpf_command.specs.declared.finding.Finding.{Finding}
use Rattle.bpf_command.specs.declared.finding.Finding.TheVariants.{Given, Inferred, Hardened, Certified, Converted}
use Rattle.bpf_command.specs.declared.remark.Remark.{Remark}
use Rattle.bpf_command.specs.declared.remark.Remark.TheVariants.{Nothing, Why, Image, Search, Unhardened, Unshown, Shown, Unproved, NoImage, Uncertified, Capture, Filter}

-- which command tells why, where one tells it of all refusals of the request
abbrev pub remark_of_refusal : Request → Remark
remark_of_refusal (Groups g) = Why (Groups g)
remark_of_refusal (Asm a) = Why (Asm a)
remark_of_refusal (ListOf l) = Why (ListOf l)
remark_of_refusal (Check c) = Why (Check c)
remark_of_refusal (ToC e) = Why (ToC e)
remark_of_refusal request = Nothing

-- of one answer
abbrev pub remark_of_answer : Request → Answer → Remark
remark_of_answer request (NoCapture refusal) = Capture refusal
remark_of_answer request answer = if nat_eq (status_of answer) 1 then remark_of_refusal request else Nothing

-- of a search
abbrev pub remark_of_search : Inferring → Inference → Remark
remark_of_search i (NoImageFound e) = Image i.input i.order
remark_of_search i (NotProposed e may_deepen) = Search i e may_deepen
remark_of_search i Proposed = Nothing

-- of a hardened program, by what fails of its notes
abbrev pub remark_of_runs : Bounds → Turns → Option Mismatch → Remark
remark_of_runs bounds turns None = Shown bounds turns
remark_of_runs bounds turns (Some m) = Unproved m

-- of a hardening
abbrev pub remark_of_attempt : Hardening → Attempt → Remark
remark_of_attempt h (NoImageHere e) = Image h.input h.order
remark_of_attempt h (NotHardened e) = Unhardened h e
remark_of_attempt h (NotShown m) = Unshown h m
remark_of_attempt h (IsHardened kept) = remark_of_runs kept.bounds kept.turns kept.mismatch

-- of a certification
abbrev pub remark_of_assessment : Certifying → Assessment → Remark
remark_of_assessment c (NoImageThere e) = NoImage e
remark_of_assessment c (IsRefused e) = Uncertified c e
remark_of_assessment c (Passed told) = Nothing

-- of what was found
abbrev pub remark_of : Request → Finding → Remark
remark_of request (Given (One answer)) = remark_of_answer request answer
remark_of (Infer i) (Inferred found) = remark_of_search i found
remark_of (Harden h) (Hardened found) = remark_of_attempt h found
remark_of (Certify c) (Certified found) = remark_of_assessment c found.assessment
remark_of request (Converted (Refused why)) = Filter why
remark_of request found = Nothing
