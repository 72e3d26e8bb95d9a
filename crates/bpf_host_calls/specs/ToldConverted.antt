-- What the numbers that C sees tell of filters.
use Rattle.std.specs.Prelude.{◌≡◌, ◌≢◌}
use Rattle.bpf_classic.specs.declared.refusal.FilterRefusal.{FilterRefusal}
use Rattle.bpf_refusals.specs.Told.{told_filter}
use Rattle.bpf_refusals.specs.declared.told.TheConstants.{FILTER_MEMORY}
use Rattle.bpf_host_calls.specs.Told.{refusal_of}
use Rattle.bpf_host_calls.specs.declared.refusals.Unmade.{Unmade}
use Rattle.bpf_host_calls.specs.declared.refusals.Unmade.TheVariants.{Memory as NoMemory, Refused as RefusedAs}

-- B9 is that memory ran out, which is told as such
abbrev pub TellsConversion : FilterRefusal → Unmade → Type 0
TellsConversion e NoMemory = (told_filter e).number ≡ FILTER_MEMORY
TellsConversion e (RefusedAs told) = ((told_filter e).number ≢ FILTER_MEMORY) × (told ≡ refusal_of (told_filter e))
