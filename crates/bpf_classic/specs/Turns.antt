-- Laws of what filters with loops answer, and filters without.
use Rattle.std.specs.Prelude.{◌≡◌, ℕ, ◌≤◌, Bool, true, false, ◌&&◌, not, List, [], ◌∷◌, Some, None}
use Rattle.bpf_classic.specs.Machine.{Given, answer, answer_or_0}
use Rattle.bpf_classic.specs.Valid.{IsFilter}
use Rattle.bpf_classic.specs.declared.instruction.Classic.{Classic}
use Rattle.bpf_classic.specs.declared.instruction.Classic.TheVariants.{Back}
use Rattle.bpf_classic.specs.declared.refusal.Kind.{Kind}

abbrev pub jumps_back : Classic → Bool
jumps_back (Back k) = true
jumps_back _ = false

-- none of its instructions jumps back
abbrev pub is_straight : List Classic → Bool
is_straight [] = true
is_straight (i ∷ rest) = not (jumps_back i) && is_straight rest

-- more turns keep an answer
abbrev pub MoreTurnsKeepAnswers : Type 0
MoreTurnsKeepAnswers = (turns more : ℕ) (g : Given) (filter : List Classic) (v : ℕ) → turns ≤ more → answer turns g filter ≡ Some v → answer more g filter ≡ Some v

-- where a filter answers, that is kept; where its run jumps back too often, it is 0
abbrev pub AnswersAreKept : Type 0
AnswersAreKept = (turns : ℕ) (g : Given) (filter : List Classic) (v : ℕ) → answer turns g filter ≡ Some v → answer_or_0 turns g filter ≡ Some v

abbrev pub NoAnswerIs0 : Type 0
NoAnswerIs0 = (kind : Kind) (turns : ℕ) (g : Given) (filter : List Classic) → IsFilter kind filter → answer turns g filter ≡ None → answer_or_0 turns g filter ≡ Some 0

-- a filter without loops answers, whatever the turns
abbrev pub StraightFiltersAnswer : Type 0
StraightFiltersAnswer = (kind : Kind) (g : Given) (filter : List Classic) → IsFilter kind filter → is_straight filter ≡ true → (v : ℕ) × ((turns : ℕ) → answer turns g filter ≡ Some v)
