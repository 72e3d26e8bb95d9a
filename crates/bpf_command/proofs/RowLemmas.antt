-- What stands in the rows of a parse is what its matches hold.
use Rattle.std.proofs.Common.{◌≡◌, ℕ, Bool, true, false, cond, List, [], ◌∷◌, map, Option, Some, None, Result, refl, ap, subst, ◌∙◌}
use Rattle.std.specs.Prelude.{find, option_map, option_and_then, slice_get, unwrap_or, codes, Box}
use Rattle.std.specs.Box.{box_value}
use Rattle.std.specs.Str.Parse.{ParsesUnsigned, ExplainsUnsignedError, HasUnsignedDigitsIfOk}
use Rattle.std.specs.declared.num.ParseIntError.{ParseIntError}
use Rattle.std.specs.Str.{bytes_eq}
use Rattle.std.specs.Borrow.{Bor}
use Rattle.clap.specs.Words.{ReadsOne, Row, Text, first_of, first_value, one_of, one_text, subcommand_rows}
use Rattle.clap.specs.declared.parser.matches.SubCommand.{SubCommand}
use Rattle.clap.specs.declared.parser.matches.ArgMatches.TheViews.{out-SubCommand}
use Rattle.bpf_command.specs.CommandLine.{GivenBy, IsCount, IsFlag, IsNumber}
use Rattle.bpf_command.specs.declared.request.contexts.Contexts.{Contexts}
use Rattle.clap.specs.Walk.{row_of, rows_of, row_text, texts}
use Rattle.clap.specs.declared.parser.matches.MatchedArg.{MatchedArg}
use Rattle.clap.specs.Values.{read_as}
use Rattle.clap.specs.declared.parser.matches.Found.{Found}

-- an id and what was found of it
abbrev Entry : Type 0
Entry = Bor (List ℕ) × MatchedArg

first_text : (vs : List (Bor (List ℕ))) → slice_get (texts vs) 0 ≡ option_map (λ s. s.now) (slice_get vs 0)
first_text [] = refl
first_text (v ∷ vs) = refl

pub first_row : (id : Text) (es : List Entry) → option_and_then (λ (r : Row). slice_get r.values 0) (find (λ r. bytes_eq r.id id) (map row_of es))
    ≡ option_and_then (λ a. option_map (λ s. s.now) (slice_get a.vals.items 0)) (option_map (λ (e : Entry). e.1) (find (λ e. bytes_eq e.0.now id) es))
first_row id [] = refl
first_row id (e ∷ es) = go (bytes_eq e.0.now id) (first_row id es)
  where
    go : (b : Bool) → option_and_then (λ (r : Row). slice_get r.values 0) (find (λ r. bytes_eq r.id id) (map row_of es))
        ≡ option_and_then (λ a. option_map (λ s. s.now) (slice_get a.vals.items 0)) (option_map (λ (e : Entry). e.1) (find (λ e. bytes_eq e.0.now id) es))
        → option_and_then (λ (r : Row). slice_get r.values 0) (cond b (Some (row_of e)) (find (λ r. bytes_eq r.id id) (map row_of es)))
        ≡ option_and_then (λ a. option_map (λ s. s.now) (slice_get a.vals.items 0)) (option_map (λ (e : Entry). e.1) (cond b (Some e) (find (λ e. bytes_eq e.0.now id) es)))
    go true ih = first_text e.1.vals.items
    go false ih = ih

read_text : (how : _) (vs : List (Bor (List ℕ))) → option_map (read_as how) (slice_get (texts vs) 0) ≡ option_map (λ s. read_as how s.now) (slice_get vs 0)
read_text how [] = refl
read_text how (v ∷ vs) = refl

pub one_row : (id : Text) (es : List Entry) → option_and_then row_text (find (λ r. bytes_eq r.id id) (map row_of es))
    ≡ option_and_then (λ a. option_map (λ s. read_as a.reading s.now) (slice_get a.vals.items 0)) (option_map (λ (e : Entry). e.1) (find (λ e. bytes_eq e.0.now id) es))
one_row id [] = refl
one_row id (e ∷ es) = go (bytes_eq e.0.now id) (one_row id es)
  where
    go : (b : Bool) → option_and_then row_text (find (λ r. bytes_eq r.id id) (map row_of es))
        ≡ option_and_then (λ a. option_map (λ s. read_as a.reading s.now) (slice_get a.vals.items 0)) (option_map (λ (e : Entry). e.1) (find (λ e. bytes_eq e.0.now id) es))
        → option_and_then row_text (cond b (Some (row_of e)) (find (λ r. bytes_eq r.id id) (map row_of es)))
        ≡ option_and_then (λ a. option_map (λ s. read_as a.reading s.now) (slice_get a.vals.items 0)) (option_map (λ (e : Entry). e.1) (cond b (Some e) (find (λ e. bytes_eq e.0.now id) es)))
    go true ih = read_text e.1.reading e.1.vals.items
    go false ih = ih

-- the same of the rows of all matches
pub first_is : (f : Found) (id : Text) → first_of id (rows_of f) ≡ first_value f id
first_is f id = first_row id f.entries.items

pub one_is : (f : Found) (id : Text) → one_of id (rows_of f) ≡ one_text f id
one_is f id = one_row id f.entries.items

-- ---- the subcommand

pub found_sub : {Z : Type 0} (sub : Option (Box SubCommand Z)) (name : Text) (rows : List Row)
    → Some name ≡ option_map (λ b. (out-SubCommand (box_value b)).name.now) sub → Some rows ≡ option_map (λ (p : Text × List Row). p.1) (subcommand_rows sub) → subcommand_rows sub ≡ Some (name, rows)
found_sub None name rows e f = cc
found_sub (Some b) name rows e f = cc

pub no_sub : {Z : Type 0} (sub : Option (Box SubCommand Z)) (name : Option Text) → name ≡ None → name ≡ option_map (λ b. (out-SubCommand (box_value b)).name.now) sub → subcommand_rows sub ≡ None
no_sub None name e f = refl
no_sub (Some b) name e f = cc

-- ---- numbers

-- what `parse` says of a text
abbrev pub Parses : ℕ → Text → Result ℕ ParseIntError → Type 0
Parses bits t r = ParsesUnsigned bits 10 t r × ExplainsUnsignedError 10 t r × HasUnsignedDigitsIfOk t r

plainly : (bits : ℕ) (t : Text) (parsed : Option ℕ) → ReadsOne {E = ParseIntError} (Parses bits) t parsed → ReadsOne {E = ParseIntError} (λ t r. ParsesUnsigned bits 10 t r) t parsed
plainly bits t (Some n) h = h.0
plainly bits t None h = (h.0, h.1.0)

pub count_is : (bits default : ℕ) (o : Option Text) (parsed : Option ℕ) (n : ℕ) → (o ≡ None → parsed ≡ None) → ((t : Text) → o ≡ Some t → ReadsOne {E = ParseIntError} (Parses bits) t parsed) → n ≡ unwrap_or parsed default
    → IsCount bits default o n
count_is bits default None parsed n none value is = is ∙ ap (λ p. unwrap_or p default) (none refl)
count_is bits default (Some t) parsed n none value is = (parsed, plainly bits t parsed (value t refl), is)

pub number_is : (o : Option Text) (parsed : Option ℕ) → (o ≡ None → parsed ≡ None) → ((t : Text) → o ≡ Some t → ReadsOne {E = ParseIntError} (Parses 32) t parsed) → IsNumber o parsed
number_is None parsed none value = none refl
number_is (Some t) parsed none value = plainly 32 t parsed (value t refl)

-- ---- flags

pub flag_is : (o : Option Text) (given : Bool) → (o ≡ None → given ≡ false) → (o ≡ Some (codes "true") → given ≡ true) → (o ≡ Some (codes "false") → given ≡ false) → IsFlag o given
flag_is None given none is isnt = none refl
flag_is (Some t) given none is isnt = (λ e. is (ap Some e), λ e. isnt (ap Some e))

-- ---- contexts

pub given_along : (a b c d e f : Option Text) (contexts : Contexts) → a ≡ d → b ≡ e → c ≡ f → GivenBy a b c contexts → GivenBy d e f contexts
given_along a b c d e f contexts p q r h =
    subst (λ x. GivenBy x e f contexts) p (subst (λ y. GivenBy a y f contexts) q (subst (λ z. GivenBy a b z contexts) r h))
