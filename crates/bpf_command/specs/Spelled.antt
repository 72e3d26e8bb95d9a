-- Which filter the bytes at a name spell, and what is made of it.
use Rattle.std.specs.Prelude.{◌≡◌, ◌==◌, ◌&&◌, ◌||◌, ◌⊎◌, ℕ, min, nat_lt, Bool, not, List, Option, Some, None, Result, Ok, Err, if◌then◌else◌}
use Rattle.bpf_classic.specs.declared.raw.Raw.{Raw}
use Rattle.bpf_classic.specs.Bytes.{raws_in}
use Rattle.bpf_classic.specs.Text.{raws_of}
use Rattle.bpf_classic.specs.declared.fault.TextFault.{TextFault}
use Rattle.bpf_classic.specs.declared.fault.TextFault.TheVariants as faults
use Rattle.bpf_classic.specs.Template.{usual_turns}
use Rattle.bpf_classic.specs.declared.layout.Form.{Form}
use Rattle.bpf_classic.specs.declared.layout.Form.TheVariants.{Blocks, Plain, Seccomp, Extended}
use Rattle.bpf_classic.specs.declared.layout.Wanted.{Wanted}
use Rattle.bpf_conversion.specs.Made.{IsMade, IsRefusedFor}
use Rattle.bpf_conversion.specs.declared.made.Made.{Made}
use Rattle.bpf_command.specs.Limits.{max_turns}
use Rattle.bpf_command.specs.declared.request.converting.Converting.{Converting}
use Rattle.bpf_refusals.specs.Told.{told_filter, told_spelling}
use Rattle.bpf_refusals.specs.declared.told.Told.{Told}
use Rattle.bpf_command.specs.declared.commands.unconvertible.Unconvertible.{Unconvertible}
use Rattle.bpf_command.specs.declared.commands.unconvertible.Unconvertible.TheVariants.{Text, Filter}

-- the instructions: those of `struct sock_filter`, or of a text
abbrev pub spelled : Converting → List ℕ → Result (List Raw) TextFault
spelled c bytes = if c.raw then raws_in c.order bytes else raws_of bytes

abbrev pub form_of : Converting → Form
form_of c = if c.seccomp then Seccomp else if c.extensions then Extended else if c.plain then Plain else Blocks

-- two forms of contexts, or a length that the form doesn't have: seccomp's is 64, and a block has at least its first eight bytes, or 72
-- with Linux's words
abbrev pub is_misfit : Converting → Bool
is_misfit c =
    if c.seccomp then c.plain || c.extensions || not (c.length == 64)
    else if c.extensions then c.plain || nat_lt c.length 72
    else not c.plain && nat_lt c.length 8

-- how often a run may jump back: as it is said, up to the greatest number, or for each eight bytes of a packet once, and once more
abbrev pub turns_or : Option ℕ → ℕ → ℕ
turns_or None usual = usual
turns_or (Some turns) usual = min turns max_turns

abbrev pub turns_of : Converting → ℕ → ℕ
turns_of c length = turns_or c.turns (usual_turns (form_of c) length)

abbrev pub wanted_of : Converting → ℕ → Wanted
wanted_of c length = record { form = form_of c; length = length; order = c.order; turns = turns_of c length }

-- The bytes spell these instructions, which are a filter, and this was made of it for contexts of this length.
abbrev pub IsMadeOf : Converting → ℕ → List ℕ → List Raw → Made → Type 0
IsMadeOf c length bytes raws made = (spelled c bytes ≡ Ok raws) × IsMade raws (wanted_of c length) made

-- ---- refusals

-- the bytes spell no instructions, or no filter; or memory ran out
abbrev pub IsUnconvertible : Converting → List ℕ → Unconvertible → Type 0
IsUnconvertible c bytes (Text fault) = (fault ≡ faults.Memory) ⊎ (spelled c bytes ≡ Err fault)
IsUnconvertible c bytes (Filter refusal) = (raws : List Raw) × (spelled c bytes ≡ Ok raws) × IsRefusedFor raws (form_of c) refusal

-- what is answered of that
abbrev pub told_unconvertible : Unconvertible → Told
told_unconvertible (Text fault) = told_spelling fault
told_unconvertible (Filter refusal) = told_filter refusal
