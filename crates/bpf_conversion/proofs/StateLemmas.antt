-- What is known at a slot has no counters, and r10 at the frame's end.
use Rattle.std.proofs.Common.{◌≡◌, ℕ, List, true, refl}
use Rattle.bpf_cert.specs.Limits.{is_canonical_state}
use Rattle.bpf_classic.specs.declared.layout.Layout.{Layout}
use Rattle.bpf_classic.specs.declared.layout.Annotated.{Annotated}
use Rattle.bpf_conversion.specs.Known.{known_at}
use Rattle.bpf_conversion.specs.declared.parts.Stretch.{Stretch}
use Rattle.bpf_conversion.specs.declared.parts.Stretch.TheVariants.{Entry, Template, Trap}

pub canonical : (l : Layout) (marked : List Annotated) (part : Stretch) (slot : ℕ) → is_canonical_state (known_at l marked part slot) ≡ true
canonical l marked Entry slot = refl
canonical l marked (Template a offset) slot = refl
canonical l marked (Trap offset) slot = refl
