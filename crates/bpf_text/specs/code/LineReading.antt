-- The reader that computes, third part: lines and the source of a text. That this is what the text says is the law `ReadsText`.
use Rattle.std.specs.Prelude.{ℕ, ◌+◌, Bool, true, ◌||◌, ◌≡◌, length, List, [], ◌∷◌, Option, Some, None, ◌==◌, if◌then◌else◌, ◌++◌, map, option_to_list, is_some, Result, Ok, Err}
use Rattle.std.specs.List.{slice_split}
use Rattle.bpf_text.specs.declared.error.TextError.{TextError}
use Rattle.bpf_text.specs.declared.error.TextError.TheVariants.{Form, Range}
use Rattle.bpf_text.specs.declared.line.LineFault.{LineFault}
use Rattle.bpf_text.specs.declared.line.LineFault.TheVariants.{NoForm, OutOfRange}
use Rattle.bpf_text.specs.Characters.{is_name}
use Rattle.bpf_text.specs.Statements.{Statement, plain, to_label}
use Rattle.bpf_text.specs.code.WordReading.{skip_blanks, ◌>>=◌, word_in}
use Rattle.bpf_text.specs.code.StatementReading.{if_blank, whole_statement}
use Rattle.bpf_text.specs.Sources.{before, lines_of, without_comment, Label, Source, statement_slots, said_at, in_front, ends_with}

-- what stands behind the first such character, if it is there
abbrev pub behind_it : ℕ → List ℕ → Option (List ℕ)
behind_it mark [] = None
behind_it mark (c ∷ cs) = if c == mark then Some cs else behind_it mark cs

-- the parts of a line between its colons
abbrev pub parts_of : List ℕ → List (List ℕ)
parts_of line = slice_split (λ c. c == 58) line

-- a label: a name, and nothing but blanks about it
unfoldable pub label_in : List ℕ → Option (List ℕ)
label_in part = word_in part >>= λ w. if is_name w.0 then if_blank w.0 (skip_blanks w.1) else None

-- the labels are all parts but the last
abbrev pub labels_in : List (List ℕ) → List (List ℕ)
labels_in [] = []
labels_in (p ∷ []) = []
labels_in (p ∷ q ∷ ps) = option_to_list (label_in p) ++ labels_in (q ∷ ps)

-- the last part, where the others are labels
abbrev pub last_part : List (List ℕ) → Option (List ℕ)
last_part [] = None
last_part (p ∷ []) = Some p
last_part (p ∷ q ∷ ps) = if is_some (label_in p) then last_part (q ∷ ps) else None

-- what the last part says: nothing but blanks, or a statement
abbrev pub checked : Option (Option Statement) → Result (Option Statement) LineFault
checked None = Err NoForm
checked (Some None) = Err OutOfRange
checked (Some (Some s)) = Ok (Some s)

abbrev pub said_in : List ℕ → List ℕ → Result (Option Statement) LineFault
said_in part [] = Ok None
said_in part (c ∷ cs) = checked (whole_statement part)

abbrev pub part_said : Option (List ℕ) → Result (Option Statement) LineFault
part_said None = Err NoForm
part_said (Some part) = said_in part (skip_blanks part)

-- what a line without its comment says behind its labels
unfoldable pub line_in : List ℕ → Result (Option Statement) LineFault
line_in line = part_said (last_part (parts_of line))

-- the name of the label that what is said leads to
abbrev pub name_said : Result (Option Statement) LineFault → Option (List ℕ)
name_said (Err fault) = None
name_said (Ok None) = None
name_said (Ok (Some (plain i))) = None
name_said (Ok (Some (to_label jump name))) = Some name

-- ---- the parts of the first line of a text

-- the first line without its comment
abbrev pub code_of : List ℕ → List ℕ
code_of text = without_comment (before 10 text)

-- a colon, a semicolon or a line end ends a part of a line, or the end of the text
abbrev pub ends_part : List ℕ → Bool
ends_part [] = true
ends_part (c ∷ cs) = (c == 58) || (c == 59) || (c == 10)

-- The text is cut in front of the first of these.
pub record IsParted (text part rest : List ℕ) : Type 0 where
  pub front : part ≡ before 58 (code_of text)
  pub colon : behind_it 58 (code_of rest) ≡ behind_it 58 (code_of text)
  pub line : behind_it 10 rest ≡ behind_it 10 text
  pub end : ends_part rest ≡ true
  pub sizes : length part + length rest ≡ length text

-- a list with more behind it
pub record IsLonger {A : Type 0} (old new : List A) : Type 0 where
  pub more : List A
  pub is : new ≡ old ++ more

-- the refusal of a line with a fault
abbrev pub fault_at : ℕ → LineFault → TextError
fault_at line NoForm = Form line
fault_at line OutOfRange = Range line

-- ---- the lines of a text

abbrev pub labels_at : ℕ → ℕ → List ℕ → List Label
labels_at line slot text = map (λ name. record { name = name; slot = slot; line = line }) (labels_in (parts_of text))

-- one line, without its comment, in front of the source of the lines behind it
abbrev pub line_before : ℕ → ℕ → List ℕ → Result (Option Statement) LineFault → Source → Source
line_before line slot text (Err NoForm) rest = ends_with (Some (Form line))
line_before line slot text (Err OutOfRange) rest = ends_with (Some (Range line))
line_before line slot text (Ok s) rest = in_front (labels_at line slot text) (said_at line slot s) rest

abbrev pub slots_said : Result (Option Statement) LineFault → ℕ
slots_said (Err fault) = 0
slots_said (Ok s) = statement_slots s

abbrev pub source_from : ℕ → ℕ → List (List ℕ) → Source
source_from line slot [] = ends_with None
source_from line slot (t ∷ ts) = let text = without_comment t in line_before line slot text (line_in text) (source_from (line + 1) (slot + slots_said (line_in text)) ts)

unfoldable pub source_of : List ℕ → Source
source_of text = source_from 1 0 (lines_of text)
