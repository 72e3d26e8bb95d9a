-- What a text says, line by line: labels, and statements at slots.
use Rattle.std.specs.Prelude.{ℕ, ◌+◌, List, [], ◌∷◌, Option, Some, None, ◌==◌, if◌then◌else◌, ◌≡◌, ◌++◌, map}
use Rattle.std.specs.List.{slice_split}
use Rattle.bpf_insn.specs.Instruction.{slot_count}
use Rattle.bpf_text.specs.declared.error.TextError.{TextError}
use Rattle.bpf_text.specs.declared.error.TextError.TheVariants.{Range, Form as FormError}
use Rattle.bpf_text.specs.Statements.{Statement, plain, to_label}
use Rattle.bpf_text.specs.Grammar.{Name, Form, IsLine, line_said}

-- ---- lines

-- the text in front of the first such character
abbrev pub before : ℕ → List ℕ → List ℕ
before mark [] = []
before mark (c ∷ cs) = if c == mark then [] else c ∷ before mark cs

-- the lines between the line ends; behind the last stands one more, mostly empty
abbrev pub lines_of : List ℕ → List (List ℕ)
lines_of text = slice_split (λ c. c == 10) text

-- a line in front of its comment, which a semicolon begins
abbrev pub without_comment : List ℕ → List ℕ
without_comment line = before 59 line

-- ---- the lines of a text

pub record Label : Type 0 where
  pub name : List ℕ
  pub slot : ℕ
  pub line : ℕ

pub record Said : Type 0 where
  pub statement : Statement
  pub slot : ℕ
  pub line : ℕ

-- the labels and statements of the lines, up to the first line that has no form or a number out of its range
pub record Source : Type 0 where
  pub labels : List Label
  pub said : List Said
  pub fault : Option TextError

abbrev pub statement_slots : Option Statement → ℕ
statement_slots None = 0
statement_slots (Some (plain i)) = slot_count i
statement_slots (Some (to_label jump name)) = 1

-- the labels of a line
abbrev pub labels_of : ℕ → ℕ → List Name → List Label
labels_of line slot names = map (λ name. record { name = name.text; slot = slot; line = line }) names

abbrev pub said_at : ℕ → ℕ → Option Statement → List Said
said_at line slot None = []
said_at line slot (Some s) = record { statement = s; slot = slot; line = line } ∷ []

abbrev pub in_front : List Label → List Said → Source → Source
in_front labels said rest = record { labels = labels ++ rest.labels; said = said ++ rest.said; fault = rest.fault }

abbrev pub ends_with : Option TextError → Source
ends_with fault = record { labels = []; said = []; fault = fault }

-- What the lines say from this line and slot on. A line is taken without its comment. The first one that is spelled by no
-- labels and form, or has a number out of its range, is the last that counts.
pub data IsSource : ℕ → ℕ → List (List ℕ) → Source → Type 0 where
  nothing : {line slot : ℕ} → IsSource line slot [] (ends_with None)
  says :
      {line slot : ℕ} {text : List ℕ} {texts : List (List ℕ)} {names : List Name} {form : Option Form} {s : Option Statement} {rest : Source}
      → IsLine (without_comment text) names form → line_said form ≡ Some s
      → IsSource (line + 1) (slot + statement_slots s) texts rest → IsSource line slot (text ∷ texts) (in_front (labels_of line slot names) (said_at line slot s) rest)
  out_of_range :
      {line slot : ℕ} {text : List ℕ} {texts : List (List ℕ)} {names : List Name} {form : Option Form}
      → IsLine (without_comment text) names form → line_said form ≡ None → IsSource line slot (text ∷ texts) (ends_with (Some (Range line)))
  no_form :
      {line slot : ℕ} {text : List ℕ} {texts : List (List ℕ)} → ((names : List Name) (form : Option Form) → ¬ (IsLine (without_comment text) names form))
      → IsSource line slot (text ∷ texts) (ends_with (Some (FormError line)))

-- what a text says: its first line is line 1
abbrev pub TextSays : List ℕ → Source → Type 0
TextSays text source = IsSource 1 0 (lines_of text) source
