-- What words of a request can't stand together.
use Rattle.std.specs.Prelude.{◌&&◌, Bool, List, [], ℕ, Option, Some, None, nat_lt, codes, option_map, unwrap_or, if◌then◌else◌}
use Rattle.std.specs.Option.{option_or}
use Rattle.std.specs.Str.{bytes_eq}
use Rattle.std.specs.Borrow.{Bor}
use Rattle.bpf_command.specs.CommandLine.{name_of}
use Rattle.bpf_c.specs.Names.{is_name}
use Rattle.bpf_command.specs.declared.request.certifying.Certifying.{Certifying}
use Rattle.bpf_command.specs.declared.request.converting.Converting.{Converting}
use Rattle.bpf_command.specs.declared.request.emitting.Emitting.{Emitting}
use Rattle.bpf_command.specs.declared.request.hardening.Hardening.{Hardening}
use Rattle.bpf_command.specs.declared.request.words.Request.{Request}
use Rattle.bpf_command.specs.declared.request.words.Request.TheVariants.{Groups, Asm, List as ListOf, Run, Check, RunChecked, Replay, Infer, Harden, Certify, Convert, ToC, Follows, Migrate, Explain}
use Rattle.bpf_command.specs.declared.request.subject.Aspect.{Aspect}
use Rattle.bpf_command.specs.declared.request.subject.Aspect.TheVariants.{Listing, Slot as OneSlot, Graph as Drawn}
use Rattle.bpf_command.specs.declared.request.subject.Subject.{Subject}
use Rattle.bpf_command.specs.declared.request.subject.Subject.TheVariants.{Image, Text as TextAlone, Certified, Slot, Inferred, Hardened, Graph, GraphAlone, Misfit}
pub use Rattle.bpf_command.specs.Spelled.{is_misfit}
use Rattle.bpf_answers.specs.declared.failure.Failure.{Failure}
use Rattle.bpf_answers.specs.declared.failure.Failure.TheVariants.{MostBelowLeast, InputTwice, NotTogether}

-- standard input for both names
abbrev pub twice : List ℕ → List ℕ → Option Failure
twice first second = if bytes_eq first (codes "-") && bytes_eq second (codes "-") then Some InputTwice else None

-- standard input for two of three names
abbrev pub thrice : List ℕ → List ℕ → List ℕ → Option Failure
thrice first second third = option_or (option_or (twice first second) (twice first third)) (twice second third)

-- for two of four
abbrev pub twice_in_four : List ℕ → List ℕ → List ℕ → List ℕ → Option Failure
twice_in_four first second third fourth = option_or (option_or (option_or (thrice first second third) (twice first fourth)) (twice second fourth)) (twice third fourth)

-- the name that is given, if one is
abbrev pub name_given : Option (Bor (List ℕ)) → List ℕ
name_given name = unwrap_or (option_map (λ s. s.now) name) []

-- a name of what isn't wanted there: source lines where none are shown, notes where no trap is told
abbrev pub misplaced : Option (Bor (List ℕ)) → Option Failure
misplaced None = None
misplaced (Some lines) = Some NotTogether

-- source lines to a graph
abbrev pub misplaced_in : Option (Bor (List ℕ)) → Aspect → Option Failure
misplaced_in lines Listing = None
misplaced_in lines (OneSlot slot) = None
misplaced_in lines Drawn = misplaced lines

-- the greatest length below the least
abbrev pub out_of_order : ℕ → ℕ → Option Failure
out_of_order least most = if nat_lt most least then Some MostBelowLeast else None

-- one name for two things that are written
abbrev pub same_name : List ℕ → Option (Bor (List ℕ)) → Option Failure
same_name first None = None
same_name first (Some second) = if bytes_eq first second.now then Some NotTogether else None

abbrev pub same_names : (first second : Option (Bor (List ℕ))) → Option Failure
same_names None second = None
same_names (Some first) second = same_name first.now second

-- of OUT, the notes and the changes
abbrev pub written_twice : List ℕ → (notes changes : Option (Bor (List ℕ))) → Option Failure
written_twice output notes changes = option_or (option_or (same_name output notes) (same_name output changes)) (same_names notes changes)

-- of OUT, the certificate, the notes and the changes of a hardening
abbrev pub harden_conflict : Hardening → Option Failure
harden_conflict h =
    option_or (option_or (option_or (written_twice h.output.now h.notes h.changes) (same_name h.output.now h.certificate)) (same_names h.certificate h.notes))
    (same_names h.certificate h.changes)

-- standard output for a file, where it takes the line
abbrev pub dashed : List ℕ → Option Failure
dashed name = if bytes_eq name (codes "-") then Some NotTogether else None

abbrev pub dashed_if : Option (Bor (List ℕ)) → Option Failure
dashed_if None = None
dashed_if (Some name) = dashed name.now

-- of what is certified: standard output or one name for two things that are written, or standard input for two that are read
abbrev pub certify_conflict : Certifying → Option Failure
certify_conflict c =
    option_or
    (option_or (option_or (option_or (option_or (dashed c.output.now) (dashed c.certificate.now)) (dashed_if c.notes)) (dashed_if c.changes))
    (option_or (option_or (written_twice c.output.now c.notes c.changes) (written_twice c.certificate.now c.notes c.changes)) (same_name c.output.now (Some c.certificate))))
    (twice c.input.now (name_given c.lines))

-- of a conversion: such contexts; standard output for a file, where it takes the line; one name for two files
abbrev pub conversion_conflict : Converting → Option Failure
conversion_conflict c =
    if is_misfit c then Some NotTogether
    else option_or (option_or (option_or (dashed c.output.now) (dashed c.certificate.now)) (dashed_if c.listing))
    (written_twice c.output.now (Some c.certificate) c.listing)

-- standard input for both that are read; or a name that C can't have
abbrev pub emission_conflict : Emitting → Option Failure
emission_conflict e =
    if bytes_eq e.input.now (codes "-") && bytes_eq e.certificate.now (codes "-") then Some InputTwice else if is_name e.name.now then None
    else Some NotTogether

-- what can't be explained of this input
abbrev pub conflict_with : List ℕ → Option (Bor (List ℕ)) → Subject → Option Failure
conflict_with input lines Image = misplaced lines
conflict_with input lines TextAlone = misplaced lines
conflict_with input lines (Certified certificate) = thrice input certificate.now (name_given lines)
conflict_with input lines (Slot certificate slot) = thrice input certificate.now (name_given lines)
conflict_with input lines (Inferred least most deep aspect) = option_or (out_of_order least most) (option_or (misplaced_in lines aspect) (twice input (name_given lines)))
conflict_with input lines (Hardened length padded aspect) = option_or (misplaced_in lines aspect) (twice input (name_given lines))
conflict_with input lines (Graph certificate) = option_or (misplaced lines) (twice input certificate.now)
conflict_with input lines GraphAlone = misplaced lines
conflict_with input lines (Misfit clash) = Some NotTogether

abbrev pub conflict_of : Request → Option Failure
conflict_of (Groups g) = None
conflict_of (Asm a) = None
conflict_of (ListOf l) = None
conflict_of (Run r) = thrice r.input.now (name_of r.contexts) (name_given r.notes)
conflict_of (Check c) = twice c.input.now c.certificate.now
conflict_of (RunChecked r) = twice_in_four r.input.now r.certificate.now (name_of r.contexts) (name_given r.notes)
conflict_of (Replay r) = option_or (misplaced r.notes) (thrice r.input.now r.certificate.now (name_given r.packets))
conflict_of (Infer i) = out_of_order i.least i.most
conflict_of (Harden h) = harden_conflict h
conflict_of (Certify c) = certify_conflict c
conflict_of (Convert c) = conversion_conflict c
conflict_of (ToC e) = emission_conflict e
conflict_of (Follows f) = twice_in_four f.original.now f.rewritten.now f.notes.now f.certificate.now
conflict_of (Migrate t) = None
conflict_of (Explain e) = conflict_with e.input.now e.lines e.subject
