-- The contexts in the lines of a text, and the answers to them.
use Rattle.std.specs.Prelude.{◌≡◌, ℕ, ◌+◌, ◌*◌, ◌≤◌, ◌==◌, List, [], ◌∷◌, ◌++◌, length, take, max, flat_map, nat_lt, Option, Some, None, IfSome, Result, Ok, Err, ⊤, if◌then◌else◌}
use Rattle.std.specs.Io.KnownBytes.{Appends}
use Rattle.bpf_insn.specs.Limits.{max_context}
use Rattle.bpf_answers.specs.Context.{context_in}
use Rattle.bpf_answers.specs.Answer.{Answer, status_of, text_of}
use Rattle.bpf_answers.specs.declared.context.ContextError.{ContextError}
use Rattle.bpf_answers.specs.declared.context.ContextError.TheVariants.{TooLong}
use Rattle.bpf_answers.specs.declared.each.NextContext.{NextContext}
use Rattle.bpf_answers.specs.declared.each.NextContext.TheVariants.{Context, End, Refused, Failed}

-- ---- lines

-- a letter before the first line
unfoldable pub onto : ℕ → List (List ℕ) → List (List ℕ)
onto x [] = (x ∷ []) ∷ []
onto x (line ∷ lines) = (x ∷ line) ∷ lines

-- the lines of a text: an LF ends a line, and behind the last LF stands one only if there is something
unfoldable pub lines_in : List ℕ → List (List ℕ)
lines_in [] = []
lines_in (x ∷ xs) = if x == 10 then [] ∷ lines_in xs else onto x (lines_in xs)

-- a line was taken from a text, where that is known
abbrev pub NextLine : Option (List ℕ) → Option (List ℕ) → List ℕ → Type 0
NextLine None new line = ⊤
NextLine (Some text) None line = ⊥
NextLine (Some text) (Some rest) line = lines_in text ≡ line ∷ lines_in rest

-- ---- contexts

-- two letters for each byte of the longest context
abbrev pub max_line : ℕ
max_line = 2 * max_context

-- the context of a line; a line of more letters than that is too long, whatever they are
abbrev pub line_context : List ℕ → Result (List ℕ) ContextError
line_context line = if nat_lt max_line (length line) then Err TooLong else context_in line

-- the first line is refused
pub record FirstRefused (text : List ℕ) (error : ContextError) : Type 0 where
  pub line : List ℕ
  pub after : List (List ℕ)
  pub lines_are : lines_in text ≡ line ∷ after
  pub refused : line_context line ≡ Err error

-- the line's context stands at the front of the buffer, or why it has none
abbrev pub Spelled : List ℕ → List ℕ → NextContext → Type 0
Spelled line buffer (Context count) = (count ≤ max_context) × (line_context line ≡ Ok (take count buffer))
Spelled line buffer End = ⊥
Spelled line buffer (Refused error) = line_context line ≡ Err error
Spelled line buffer Failed = ⊥

-- what is found of the next context, which stands at the front of the buffer
abbrev pub Turns : Option (List ℕ) → Option (List ℕ) → List ℕ → NextContext → Type 0
Turns old new buffer (Context count) = (line : List ℕ) × NextLine old new line × Spelled line buffer (Context count)
Turns old new buffer End = IfSome old (λ text. lines_in text ≡ [])
Turns old new buffer (Refused error) = IfSome old (λ text. FirstRefused text error)
Turns old new buffer Failed = ⊤

-- ---- answers

-- the texts of answers, one behind the other
abbrev pub texts_of : List Answer → List ℕ
texts_of answers = flat_map text_of answers

-- the greatest status
unfoldable pub worst : List Answer → ℕ
worst [] = 0
worst (answer ∷ answers) = max (status_of answer) (worst answers)

-- what is said of a line's context is answered
pub record LineSays (says : List ℕ → Answer → Type 0) (line : List ℕ) (answer : Answer) : Type 0 where
  pub context : List ℕ
  pub spelled : line_context line ≡ Ok context
  pub said : says context answer

-- each line has its answer, in this order
abbrev pub LinesSay : (List ℕ → Answer → Type 0) → List (List ℕ) → List Answer → Type 0
LinesSay says [] [] = ⊤
LinesSay says (line ∷ lines) (answer ∷ answers) = LineSays says line answer × LinesSay says lines answers
LinesSay says [] (answer ∷ answers) = ⊥
LinesSay says (line ∷ lines) [] = ⊥

-- all lines of a text, as far as it is known, were answered, with the greatest of the answers' statuses
pub record AllAnswered (says : List ℕ → Answer → Type 0) (known before after : Option (List ℕ)) (status : ℕ) : Type 0 where
  pub answers : List Answer
  pub status_is : status ≡ worst answers
  pub printed : Appends before after (texts_of answers)
  pub said : IfSome known (λ text. LinesSay says (lines_in text) answers)

-- the first lines of a text were answered
pub record BegunLines (says : List ℕ → Answer → Type 0) (text : List ℕ) (answers : List Answer) : Type 0 where
  pub lines : List (List ℕ)
  pub after : List (List ℕ)
  pub lines_are : lines_in text ≡ lines ++ after
  pub said : LinesSay says lines answers

-- the lines before the one with this number were answered, and that one is refused
pub record RefusedLine (says : List ℕ → Answer → Type 0) (text : List ℕ) (answers : List Answer) (error : ContextError) (number : ℕ) : Type 0 where
  pub lines : List (List ℕ)
  pub line : List ℕ
  pub after : List (List ℕ)
  pub lines_are : lines_in text ≡ lines ++ line ∷ after
  pub said : LinesSay says lines answers
  pub refused : line_context line ≡ Err error
  pub number_is : number ≡ length lines + 1
