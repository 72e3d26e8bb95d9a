-- What fine lines up to `end` say, one line more in front.
use Rattle.std.proofs.Common.{◌≡◌, ℕ, ◌+◌, ◌-◌, ◌^◌, ◌<◌, ◌≤◌, Bool, true, false, cond, not, leb, ltb, List, [], ◌∷◌, ◌++◌, length, map, flat_map, Option, Some, None, refl, sym, ap, ◌∙◌, arith, append_assoc}
use Rattle.std.specs.Prelude.{◌&&◌, count_by, sum_by}
use Rattle.std.specs.List.{list_all}
use Rattle.std.proofs.lemmas.Bool.{leb-true, ltb-true, lt-ltb}
use Rattle.std.proofs.lemmas.List.{length-map}
use Rattle.std.proofs.lemmas.List.Sums.{sum_by-cons}
use Rattle.bpf_state.specs.declared.known.SlotState.{SlotState}
use Rattle.bpf_cert.specs.Numeral.{number, is_numeral, is_plain, is_from_to}
use Rattle.bpf_cert.specs.Line.{Number, Content, PlaceText, Term, Line, is_place, is_content, is_number, is_term, is_line}
use Rattle.bpf_cert.specs.Faults.{place_before, line_place, last_first, last_slot, last_place, comes_after, is_function, is_label, ends_bare, is_plain_place, is_canonical_content, is_limited_place, is_limited_content, is_canonical_number, is_limited_number, is_limited_term as is_limited_text}
use Rattle.bpf_cert.specs.Limits.{is_rising, is_canonical_label, is_limited_label, term_before, is_canonical_function, is_limited_function, label_count}
use Rattle.bpf_cert.specs.code.TermSums.{is_plain_term}
use Rattle.bpf_cert.specs.View.{LabelView, FunctionView}
use Rattle.bpf_cert.specs.Spelling.{lines_from, label_lines, function_line, function_lines}
use Rattle.bpf_cert.specs.code.Standing.{stage_of, is_start, may_have_label, may_have_entry}
use Rattle.bpf_cert.specs.declared.standing.Stage.{Stage}
use Rattle.bpf_cert.specs.declared.standing.Stage.TheVariants as stage
use Rattle.bpf_cert.proofs.Bools.{both_true}
use Rattle.bpf_cert.proofs.NumLemmas.{not_true}
use Rattle.bpf_cert.proofs.NumeralLaws.{plain_decimal}
use Rattle.bpf_cert.proofs.AfterLemmas.{IsFine}
use Rattle.bpf_cert.proofs.fine.FineOrder.{is_bare_stage, bare_is}
use Rattle.bpf_cert.proofs.StandingLemmas.{stand_label, stand_entry}
use Rattle.bpf_cert.proofs.lines.LineValues.{number_said, term_said, content_said}
use Rattle.bpf_cert.proofs.lines.LineStates.{place_index, state_said}
use Rattle.bpf_cert.proofs.TermOrder.{rising_terms}
use Rattle.bpf_cert.proofs.said.SaidNumbers.{number_kept}
use Rattle.bpf_cert.proofs.said.SaidValues.{content_kept, terms_kept}
use Rattle.bpf_cert.proofs.said.SaidStates.{state_kept}
use Rattle.bpf_cert.proofs.said.SaidPlaces.{next_index, IsLow, next_low, entry_index, Places, unknowns, no_places, no_entries, more_places, more_entries}

-- each comes after the one before it, and the first after the number
abbrev pub rises_from : {A : Type 0} → (A → ℕ) → Option ℕ → List A → Bool
rises_from key o [] = true
rises_from key o (x ∷ xs) = comes_after ltb o (key x) && rises_from key (Some (key x)) xs

pub rises : {A : Type 0} (key : A → ℕ) (o : Option ℕ) (xs : List A) → rises_from key o xs ≡ true → is_rising (λ x y. ltb (key x) (key y)) xs ≡ true
rises key o [] e = refl
rises key o (x ∷ []) e = refl
rises key o (x ∷ y ∷ ys) e =
    let outer = both_true (comes_after ltb o (key x)) (rises_from key (Some (key x)) (y ∷ ys)) e in
    let inner = both_true (ltb (key x) (key y)) (rises_from key (Some (key y)) ys) outer.1 in
    rw inner.0 (rises key (Some (key x)) (y ∷ ys) outer.1)

abbrev pub slot_of : LabelView → ℕ
slot_of l = l.slot

abbrev pub first_of : FunctionView → ℕ
first_of f = f.first

-- what fine lines are behind
pub record Here (before : List Line) : Type 0 where
  pub going : is_start (stage_of before) ≡ false
  pub functions : count_by is_function before ≤ 256
  pub labels : count_by is_label before ≤ 65536
  pub place : IsLow (last_place before)

-- what the lines say behind those before: the label's other places, the function's other labels, and the other functions
pub record Said (before ls : List Line) : Type 0 where
  pub entries : List SlotState
  pub labels : List LabelView
  pub functions : List FunctionView
  pub same : ls ≡ lines_from (next_index before) entries ++ (flat_map label_lines labels ++ (flat_map function_lines functions ++ Line.end ∷ []))
  pub places : Places (next_index before) entries
  pub slots : rises_from slot_of (last_slot before) labels ≡ true
  pub canonical_labels : list_all is_canonical_label labels ≡ true
  pub limited_labels : list_all is_limited_label labels ≡ true
  pub firsts : rises_from first_of (last_first before) functions ≡ true
  pub canonical_functions : list_all is_canonical_function functions ≡ true
  pub limited_functions : list_all is_limited_function functions ≡ true
  pub few_functions : count_by is_function before + length functions ≤ 256
  pub some_functions : 0 < count_by is_function before + length functions
  pub few_labels : count_by is_label before + (length labels + sum_by label_count functions) ≤ 65536
  pub bare : ends_bare before ≡ true → 0 < length labels
  pub header : may_have_label (stage_of before) ≡ false → labels ≡ []

-- no test is both
pub not_both : (b : Bool) → b ≡ true → b ≡ false → ⊥
not_both true e f = cc
not_both false e f = cc

pub said_end : (before : List Line) → Here before → IsFine before Line.end → Said before (Line.end ∷ [])
said_end before here fine =
    let low = next_low before here.place in
    let room = both_true (ltb 0 (count_by is_function before)) (not (ends_bare before)) fine.room in
    let some = ltb-true 0 (count_by is_function before) room.0 in
    let functions = here.functions in let labels = here.labels in
    record {
      entries = unknowns (74 - next_index before) [];
      labels = [];
      functions = [];
      same = ap (λ z. z ++ Line.end ∷ []) (sym (no_entries (next_index before) low));
      places = no_places (next_index before) low;
      slots = refl;
      canonical_labels = refl;
      limited_labels = refl;
      firsts = refl;
      canonical_functions = refl;
      limited_functions = refl;
      few_functions = omega arith;
      some_functions = omega arith;
      few_labels = omega arith;
      bare = λ e. absurd (not_both (ends_bare before) e (not_true (ends_bare before) room.1));
      header = λ e. refl;
    }

-- entries stand under a label alone
under_label : (s : Stage) → may_have_entry s ≡ true → (is_bare_stage s ≡ false) × (may_have_label s ≡ true)
under_label stage.Start e = cc
under_label stage.Header e = cc
under_label stage.Function e = cc
under_label stage.Label e = (refl, refl)
under_label stage.Ended e = cc

pub said_entry : (before ls : List Line) (p : PlaceText) (c : Content) → Here before → IsFine before (Line.entry p c) → is_line (Line.entry p c) ≡ true → Said (Line.entry p c ∷ before) ls → Said before (Line.entry p c ∷ ls)
said_entry before ls p c here fine is s =
    let may : may_have_entry (stage_of before) ≡ true = sym (stand_entry before p c) ∙ fine.stands in
    let under = under_label (stage_of before) may in
    let form = both_true (is_place p) (is_content p c) is in
    let canonical = both_true (is_plain_place p) (is_canonical_content c) fine.canonical in
    let limited = both_true (is_limited_place p) (is_limited_content c) fine.limited in
    let kept = content_kept p c form.1 canonical.1 limited.1 in
    let low = entry_index before p may here.place fine.order limited.0 in
    let tail = flat_map label_lines s.labels ++ (flat_map function_lines s.functions ++ Line.end ∷ []) in
    record {
      entries = unknowns (place_index p - next_index before) (content_said c ∷ s.entries);
      labels = s.labels;
      functions = s.functions;
      same = ap (λ z. Line.entry p c ∷ z) s.same ∙ ap (λ z. z ++ tail) (sym (more_entries (next_index before) p c s.entries low form.0 canonical.0 limited.0 kept));
      places = more_places (next_index before) p c s.entries low form.1 limited.0 kept s.places;
      slots = s.slots;
      canonical_labels = s.canonical_labels;
      limited_labels = s.limited_labels;
      firsts = s.firsts;
      canonical_functions = s.canonical_functions;
      limited_functions = s.limited_functions;
      few_functions = s.few_functions;
      some_functions = s.some_functions;
      few_labels = s.few_labels;
      bare = λ e. absurd (not_both (ends_bare before) e (bare_is before ∙ under.0));
      header = λ e. absurd (not_both (may_have_label (stage_of before)) under.1 e);
    }

-- the label that a line begins, with what its entries say
abbrev label_said : List ℕ → List ℕ → List Term → List SlotState → LabelView
label_said at base terms cs = record { slot = number at; state = state_said cs; base = number base; terms = map term_said terms }

record IsLabelOf (at base : List ℕ) (terms : List Term) (cs : List SlotState) : Type 0 where
  lines : label_lines (label_said at base terms cs) ≡ Line.label at base terms ∷ lines_from 0 cs
  canonical : is_canonical_label (label_said at base terms cs) ≡ true
  limited : is_limited_label (label_said at base terms cs) ≡ true

label_kept : (before : List Line) (at base : List ℕ) (terms : List Term) (cs : List SlotState) → IsFine before (Line.label at base terms) → is_line (Line.label at base terms) ≡ true → Places 0 cs → IsLabelOf at base terms cs
label_kept before at base terms cs fine is places =
    let form = both_true (is_numeral at && is_numeral base) (list_all is_term terms) is in
    let numerals = both_true (is_numeral at) (is_numeral base) form.0 in
    let canonical = both_true (is_plain at && is_plain base && list_all is_plain_term terms) (is_rising (λ t u. place_before (line_place t) (line_place u)) terms) fine.canonical in
    let plain = both_true (is_plain at && is_plain base) (list_all is_plain_term terms) canonical.0 in
    let plains = both_true (is_plain at) (is_plain base) plain.0 in
    let limited = both_true (leb (number at) 65535 && leb (number base) (2 ^ 40) && leb (length terms) 4) (list_all is_limited_text terms) fine.limited in
    let limits = both_true (leb (number at) 65535 && leb (number base) (2 ^ 40)) (leb (length terms) 4) limited.0 in
    let ends = both_true (leb (number at) 65535) (leb (number base) (2 ^ 40)) limits.0 in
    let low : number at ≤ 65535 = leb-true (number at) 65535 ends.0 in
    let few : number base ≤ 2 ^ 40 = leb-true (number base) (2 ^ 40) ends.1 in
    let kept = terms_kept terms form.1 plain.1 limited.1 in
    let state = state_kept cs (let long = places.long in omega arith) places.held places.limited in
    let rising : is_rising term_before (map term_said terms) ≡ true = sym (rising_terms (map term_said terms) kept.1) ∙ ap (is_rising (λ t u. place_before (line_place t) (line_place u))) kept.0 ∙ canonical.1 in
    record {
      lines = rw (plain_decimal at numerals.0 plains.0 (omega arith), plain_decimal base numerals.1 plains.1 (omega arith), kept.0, state.same) refl;
      canonical = rw (state.canonical, rising) refl;
      limited = rw (ends.0, state.limited, ends.1, length-map terms term_said, limits.1, kept.1) refl;
    }

pub said_label : (before ls : List Line) (at base : List ℕ) (terms : List Term) → Here before → IsFine before (Line.label at base terms) → is_line (Line.label at base terms) ≡ true
    → Said (Line.label at base terms ∷ before) ls → Said before (Line.label at base terms ∷ ls)
said_label before ls at base terms here fine is s =
    let low = next_low before here.place in
    let may : may_have_label (stage_of before) ≡ true = sym (stand_label before at base terms) ∙ fine.stands in
    let is_of = label_kept before at base terms s.entries fine is s.places in
    let l = label_said at base terms s.entries in
    let more : count_by is_label (Line.label at base terms ∷ before) ≡ 1 + count_by is_label before = sum_by-cons (λ x. cond (is_label x) 1 0) (Line.label at base terms) before in
    let few = s.few_labels in
    let rest = flat_map label_lines s.labels in
    let tail = flat_map function_lines s.functions ++ Line.end ∷ [] in
    record {
      entries = unknowns (74 - next_index before) [];
      labels = l ∷ s.labels;
      functions = s.functions;
      same = ap (λ z. Line.label at base terms ∷ z) s.same ∙ ap (λ z. z ++ (rest ++ tail)) (sym is_of.lines) ∙ sym (append_assoc (label_lines l) rest tail)
          ∙ ap (λ z. z ++ ((label_lines l ++ rest) ++ tail)) (sym (no_entries (next_index before) low));
      places = no_places (next_index before) low;
      slots = rw (fine.order, s.slots) refl;
      canonical_labels = rw (is_of.canonical, s.canonical_labels) refl;
      limited_labels = rw (is_of.limited, s.limited_labels) refl;
      firsts = s.firsts;
      canonical_functions = s.canonical_functions;
      limited_functions = s.limited_functions;
      few_functions = s.few_functions;
      some_functions = s.some_functions;
      few_labels = omega arith;
      bare = λ e. omega arith;
      header = λ e. absurd (not_both (may_have_label (stage_of before)) may e);
    }

-- the function that a line begins, with its labels
abbrev function_said : List ℕ → List ℕ → Number → List LabelView → FunctionView
function_said first depth ret ls = record { first = number first; depth = number depth; ret = number_said ret; labels = ls }

record IsFunctionOf (first depth : List ℕ) (ret : Number) (ls : List LabelView) : Type 0 where
  line : function_line (function_said first depth ret ls) ≡ Line.function first depth ret
  limited : is_limited_function (function_said first depth ret ls) ≡ true

function_kept : (before : List Line) (first depth : List ℕ) (ret : Number) (ls : List LabelView) → IsFine before (Line.function first depth ret) → is_line (Line.function first depth ret) ≡ true
    → 0 < length ls → list_all is_limited_label ls ≡ true → IsFunctionOf first depth ret ls
function_kept before first depth ret ls fine is some labels =
    let form = both_true (is_numeral first && is_numeral depth) (is_number ret) is in
    let numerals = both_true (is_numeral first) (is_numeral depth) form.0 in
    let canonical = both_true (is_plain first && is_plain depth) (is_canonical_number ret) fine.canonical in
    let plains = both_true (is_plain first) (is_plain depth) canonical.0 in
    let limited = both_true (leb (number first) 65535 && is_from_to 1 8 (number depth)) (is_limited_number ret) fine.limited in
    let ends = both_true (leb (number first) 65535) (is_from_to 1 8 (number depth)) limited.0 in
    let low : number first ≤ 65535 = leb-true (number first) 65535 ends.0 in
    let few : number depth ≤ 8 = leb-true (number depth) 8 (both_true (leb 1 (number depth)) (leb (number depth) 8) ends.1).1 in
    let kept = number_kept ret form.1 canonical.1 limited.1 in
    record {
      line = rw (plain_decimal first numerals.0 plains.0 (omega arith), plain_decimal depth numerals.1 plains.1 (omega arith), kept.0) refl;
      limited = rw (ends.0, ends.1, kept.1, lt-ltb 0 (length ls) some, labels) refl;
    }

pub nothing : (cs : List SlotState) → 74 + length cs ≡ 74 → cs ≡ []
nothing [] e = refl
nothing (c ∷ cs) e = absurd (omega arith)

pub said_function : (before ls : List Line) (first depth : List ℕ) (ret : Number) → Here before → IsFine before (Line.function first depth ret) → is_line (Line.function first depth ret) ≡ true
    → Said (Line.function first depth ret ∷ before) ls → Said before (Line.function first depth ret ∷ ls)
said_function before ls first depth ret here fine is s =
    let low = next_low before here.place in
    let room = both_true (ltb (count_by is_function before) 256) (not (ends_bare before)) fine.room in
    let is_of = function_kept before first depth ret s.labels fine is (s.bare refl) s.limited_labels in
    let f = function_said first depth ret s.labels in
    let more : count_by is_function (Line.function first depth ret ∷ before) ≡ 1 + count_by is_function before = sum_by-cons (λ x. cond (is_function x) 1 0) (Line.function first depth ret) before in
    let sums : sum_by label_count (f ∷ s.functions) ≡ length s.labels + sum_by label_count s.functions = sum_by-cons label_count f s.functions in
    let functions = s.few_functions in
    let labels = s.few_labels in
    let rest = flat_map function_lines s.functions in
    let none : s.entries ≡ [] = nothing s.entries s.places.long in
    let behind : ls ≡ flat_map label_lines s.labels ++ (rest ++ Line.end ∷ []) = s.same ∙ ap (λ cs. lines_from 74 cs ++ (flat_map label_lines s.labels ++ (rest ++ Line.end ∷ []))) none in
    record {
      entries = unknowns (74 - next_index before) [];
      labels = [];
      functions = f ∷ s.functions;
      same = ap (λ z. Line.function first depth ret ∷ z) behind ∙ ap (λ z. z ∷ (flat_map label_lines s.labels ++ (rest ++ Line.end ∷ []))) (sym is_of.line) ∙ sym (append_assoc (function_lines f) rest (Line.end ∷ []))
          ∙ ap (λ z. z ++ ((function_lines f ++ rest) ++ Line.end ∷ [])) (sym (no_entries (next_index before) low));
      places = no_places (next_index before) low;
      slots = refl;
      canonical_labels = refl;
      limited_labels = refl;
      firsts = rw (fine.order, s.firsts) refl;
      canonical_functions = rw (rises slot_of None s.labels s.slots, s.canonical_labels, s.canonical_functions) refl;
      limited_functions = rw (is_of.limited, s.limited_functions) refl;
      few_functions = omega arith;
      some_functions = omega arith;
      few_labels = omega arith;
      bare = λ e. absurd (not_both (ends_bare before) e (not_true (ends_bare before) room.1));
      header = λ e. refl;
    }
