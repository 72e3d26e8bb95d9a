-- The endings of the code, and the first token of a text. That each front of a form is completed by one of them is proved in proofs/.
use Rattle.std.specs.Prelude.{ℕ, Bool, List, [], ◌∷◌, ◌++◌, Some, None, map, codes, not, if◌then◌else◌}
use Rattle.std.specs.List.{list_any, filter}
use Rattle.std.specs.Borrow.{Bor}
use Rattle.std.specs.Str.{bytes_eq}
use Rattle.bpf_text.specs.declared.line.LineFault.{LineFault}
use Rattle.bpf_text.specs.declared.line.LineFault.TheVariants.{OutOfRange}
use Rattle.bpf_text.specs.declared.stop.Range.{Range}
use Rattle.bpf_text.specs.declared.stop.Range.TheVariants.{Bits16, Bits32, Bits64}
use Rattle.bpf_text.specs.declared.endings.Item.{Item}
use Rattle.bpf_text.specs.declared.endings.TheConstants.{ENDINGS}
use Rattle.bpf_text.specs.Stop.{passes}
use Rattle.bpf_text.specs.code.WordReading.{Read, skip_blanks, word_in, or_else}
use Rattle.bpf_text.specs.code.StatementReading.{whole_statement}

abbrev pub ending_seen : Item × Bor (List ℕ) → Item × List ℕ
ending_seen e = (e.0, e.1.now)

-- the endings with the items that they begin with
unfoldable pub item_endings : List (Item × List ℕ)
item_endings = map (λ e. (e.0, e.1.now)) ENDINGS

unfoldable pub endings : List (List ℕ)
endings = map (λ e. e.1.now) ENDINGS

abbrev pub is_ending : List ℕ → Bool
is_ending text = list_any (bytes_eq text) endings

-- the front is a statement with this ending behind a blank
unfoldable pub completes : LineFault → List ℕ → List ℕ → Bool
completes fault front ending = passes fault (whole_statement (front ++ 32 ∷ ending))

-- the endings that complete a front
abbrev pub completing : LineFault → List ℕ → List (Item × List ℕ)
completing fault front = filter (λ e. completes fault front e.1) item_endings

-- the first token of a text, a word or a mark
abbrev pub mark_in : List ℕ → Read (List ℕ)
mark_in [] = None
mark_in (c ∷ cs) = Some (c ∷ [], cs)

unfoldable pub token_in : List ℕ → Read (List ℕ)
token_in text = or_else (word_in text) (mark_in (skip_blanks text))

-- a statement with numbers in their ranges begins with the front and this number
abbrev pub is_number_behind : List ℕ → List ℕ → Bool
is_number_behind front number = list_any (completes OutOfRange (front ++ 32 ∷ number)) endings

-- the first of the ranges of 16, 32 and 64 bits with no such number above it
abbrev pub range_behind : List ℕ → Range
range_behind front =
    if not (is_number_behind front (codes "32769")) then Bits16
    else if is_number_behind front (codes "2147483649") then Bits64
    else Bits32
