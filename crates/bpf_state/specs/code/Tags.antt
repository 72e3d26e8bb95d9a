-- The counters of slots, kept where there is one.
use Rattle.std.specs.Prelude.{Bool, true, false, List, Option}
use Rattle.bpf_state.specs.declared.known.Tag.{Tag}
use Rattle.bpf_state.specs.State.{no_tags}

-- what is kept says nothing where no slot holds a counter
abbrev pub held_tags : Bool → List (Option Tag) → List (Option Tag)
held_tags true tags = tags
held_tags false tags = no_tags 64
