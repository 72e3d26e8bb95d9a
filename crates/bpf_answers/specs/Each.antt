-- The answers to the contexts at a name, one a line.
use Rattle.std.specs.Prelude.{◌≡◌, ◌⊎◌, ◌++◌, ℕ, List, [], ◌∷◌, Option, Some, None, IfSome}
use Rattle.std.specs.Io.KnownBytes.{Appends, Keeps}
use Rattle.bpf_insn.specs.Written.{AppendsBeginning, Gathers}
use Rattle.bpf_answers.specs.Opened.{Opening}
use Rattle.bpf_answers.specs.Answer.{Answer, Unfinished, status_of, text_of}
use Rattle.bpf_answers.specs.Lines.{AllAnswered, BegunLines, RefusedLine, texts_of}
use Rattle.bpf_answers.specs.Told.{OutputFails}
use Rattle.bpf_answers.specs.declared.failure.Failure.{Failure}
use Rattle.bpf_answers.specs.declared.failure.Failure.TheVariants.{CannotRead, BadLine}

-- an answer of which this holds was put behind what waits, with its status
abbrev pub IsPut : (Answer → Type 0) → List ℕ → List ℕ → Option (List ℕ) → Option (List ℕ) → ℕ → Type 0
IsPut says waits rest before after status = (answer : Answer) × (status ≡ status_of answer) × Gathers before after waits rest (text_of answer) × says answer

-- of what waited and an answer of which this holds a beginning went out
abbrev pub PutInPart : (Answer → Type 0) → List ℕ → Option (List ℕ) → Option (List ℕ) → Type 0
PutInPart says waits before after = (answer : Answer) × AppendsBeginning before after (waits ++ text_of answer) × says answer

-- What fails of lines: the reader, a line, or the output. What was answered before stands.
abbrev pub LinesFail : (List ℕ → Answer → Type 0) → Option (List ℕ) → Option (List ℕ) → Option (List ℕ) → List ℕ → Failure → Type 0
LinesFail says known before after contexts (CannotRead name) =
    (name.now ≡ contexts) × ((answers : List Answer) × Appends before after (texts_of answers) × IfSome known (λ text. BegunLines says text answers))
LinesFail says known before after contexts (BadLine error number) =
    (answers : List Answer) × Appends before after (texts_of answers) × IfSome known (λ text. RefusedLine says text answers error number)
LinesFail says known before after contexts failure = OutputFails failure

-- the name is opened, and all its lines are answered
abbrev pub AnswersAt : {S : Type 0} → Opening S → S → List ℕ → S → (List ℕ → Answer → Type 0) → Option (List ℕ) → Option (List ℕ) → ℕ → Type 0
AnswersAt opening old contexts new says before after status =
    (known : Option (List ℕ)) × opening old contexts (Some known) new × AllAnswered says known before after status

-- the name can't be opened, or something fails of its lines
abbrev pub FailsAt : {S : Type 0} → Opening S → S → List ℕ → S → (List ℕ → Answer → Type 0) → Option (List ℕ) → Option (List ℕ) → Failure → Type 0
FailsAt opening old contexts new says before after (CannotRead name) =
    ((name.now ≡ contexts) × opening old contexts None new)
    ⊎ ((known : Option (List ℕ)) × opening old contexts (Some known) new × LinesFail says known before after contexts (CannotRead name))
FailsAt opening old contexts new says before after (BadLine error number) =
    (known : Option (List ℕ)) × opening old contexts (Some known) new × LinesFail says known before after contexts (BadLine error number)
FailsAt opening old contexts new says before after failure = OutputFails failure

-- the first lines of a text, as far as it is known, were answered, and perhaps a beginning was printed of the answer to the next one
pub record LinesLeft (says : List ℕ → Answer → Type 0) (known before after : Option (List ℕ)) : Type 0 where
  pub answers : List Answer
  pub between : Option (List ℕ)
  pub printed : Appends before between (texts_of answers)
  pub said : IfSome known (λ text. BegunLines says text answers)
  pub next : Unfinished (λ answer. IfSome known (λ text. BegunLines says text (answers ++ answer ∷ []))) between after

-- where that fails, the name couldn't be opened and nothing was printed, or the first of its lines were answered
abbrev pub LeftAt : {S : Type 0} → Opening S → S → List ℕ → S → (List ℕ → Answer → Type 0) → Option (List ℕ) → Option (List ℕ) → Type 0
LeftAt opening old contexts new says before after =
    (opening old contexts None new × Keeps before after)
    ⊎ ((known : Option (List ℕ)) × opening old contexts (Some known) new × LinesLeft says known before after)
