-- What a terminal is told of a hardened program.
use Rattle.std.specs.Prelude.{ℕ, List, [], ◌∷◌, codes, decimal, nat_eq, if◌then◌else◌}
use Rattle.std.specs.List.{concat}
use Rattle.bpf_kept.specs.declared.bounds.Turns.{Turns}
use Rattle.bpf_kept.specs.declared.bounds.Turns.TheVariants.{Any, Most}

-- the runs whose meaning it is shown to keep: of so many turns
abbrev pub within_text : (turns untouched : ℕ) → List ℕ
within_text turns untouched =
    if nat_eq untouched 0
    then concat (codes "shown to keep the meaning of runs that come to no instruction more than " ∷ decimal turns ∷ codes " times" ∷ [])
    else concat (codes "shown to keep the meaning of runs that come to no instruction more than " ∷ decimal turns ∷ codes " times, and to the lowest " ∷ decimal untouched
    ∷ codes " bytes of a frame by r10 alone" ∷ [])

-- or of any number
abbrev pub anyway_text : ℕ → List ℕ
anyway_text untouched =
    if nat_eq untouched 0
    then codes "shown to keep the meaning of each run"
    else concat (codes "shown to keep the meaning of runs that come to the lowest " ∷ decimal untouched ∷ codes " bytes of a frame by r10 alone" ∷ [])

abbrev pub kept_text : ℕ → Turns → List ℕ
kept_text untouched (Most turns) = within_text turns untouched
kept_text untouched Any = anyway_text untouched
