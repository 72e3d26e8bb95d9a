-- Where a line that is refused leaves the language: behind the longest front, in tokens, that a form begins with.
use Rattle.std.specs.Prelude.{ℕ, Bool, true, false, List, [], ◌∷◌, Option, Some, None, ◌≡◌, ◌++◌, is_some}
use Rattle.bpf_text.specs.declared.line.LineFault.{LineFault}
use Rattle.bpf_text.specs.declared.line.LineFault.TheVariants.{NoForm, OutOfRange}
use Rattle.bpf_text.specs.Statements.{Statement}
use Rattle.bpf_text.specs.Grammar.{Token, tokens, Name, Form, form_tokens, form_said, label_tokens}
use Rattle.bpf_text.specs.Grammar.Token.{word, mark}

-- what is read is a form (A1), and its numbers are in their ranges, too (A2)
abbrev pub passes : LineFault → Option (Option Statement) → Bool
passes fault None = false
passes NoForm (Some said) = true
passes OutOfRange (Some said) = is_some said

-- a form begins with these tokens; beside A2, one whose numbers are in their ranges
pub record IsBegun (fault : LineFault) (front : List Token) : Type 0 where
  pub form : Form
  pub passes : passes fault (Some (form_said form)) ≡ true
  pub rest : List Token
  pub begins : form_tokens form ≡ front ++ rest

-- A text is parted into the front that is read, and the rest of its bytes: a form begins with the front, and none with one token more.
pub record Stops (fault : LineFault) (text front rest : List ℕ) : Type 0 where
  pub parted : tokens text ≡ tokens front ++ tokens rest
  pub bytes : (before : List ℕ) × (text ≡ before ++ rest)
  pub begun : IsBegun fault (tokens front)
  pub longest : (next : Token) (more : List Token) → tokens rest ≡ next ∷ more → ¬ (IsBegun fault (tokens front ++ next ∷ []))

-- what stands behind the labels that a line begins with; 58 is the colon
pub record IsUnlabelled (line text : List ℕ) : Type 0 where
  pub names : List Name
  pub parted : tokens line ≡ label_tokens names ++ tokens text
  pub bytes : (before : List ℕ) × (line ≡ before ++ text)
  pub last : (name : Name) (more : List Token) → ¬ (tokens text ≡ word name.text ∷ mark 58 ∷ more)

-- Where a line stops that is refused: behind its labels.
pub record LineStops (fault : LineFault) (line front rest : List ℕ) : Type 0 where
  pub text : List ℕ
  pub unlabelled : IsUnlabelled line text
  pub stops : Stops fault text front rest
