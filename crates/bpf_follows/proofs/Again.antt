-- What is spelled is read again.
use Rattle.std.proofs.Common.{◌≡◌, ℕ, zero, suc, ◌+◌, ◌-◌, ◌^◌, ◌<◌, ◌≤◌, Bool, true, false, List, [], ◌∷◌, ◌++◌, length, Option, Some, None, refl, sym, ap, ◌∙◌, append_assoc, append-nil, length-append, arith}
use Rattle.std.specs.Prelude.{codes, decimal, Result, Ok, Err}
use Rattle.std.specs.List.{AllByRecursion}
use Rattle.bpf_insn.specs.Limits.{max_slots}
use Rattle.bpf_streams.specs.Words.{behind}
use Rattle.bpf_streams.proofs.WordLemmas.{behind_word}
use Rattle.bpf_kept.specs.declared.notes.Fact.{Fact}
use Rattle.bpf_kept.specs.declared.notes.TurnsLeft.{TurnsLeft}
use Rattle.bpf_kept.specs.declared.notes.Note.{Note}
use Rattle.bpf_kept.specs.declared.bounds.Bounds.{Bounds}
use Rattle.bpf_follows.specs.declared.error.NotesError.{NotesError}
use Rattle.bpf_follows.specs.declared.error.NotesError.TheVariants.{Form}
use Rattle.bpf_follows.specs.NotesText.{NoteIs, NoteFits, RunsFit, facts_noted, facts_text, marks_text, counters_text, back_text, number_text, function_text, rest_text, extras_text, said_text, note_text, note_line, note_lines, padded_text, turns_text, head_line}
use Rattle.bpf_follows.specs.code.Reading.{numeral_in, number_in, short_in, register_in, slot_in, length_in, zero_in, holder_in, fact_in, place_in, placed_in, facts_in, marks_in, counters_in, back_in, said_number, extras_in, bare, with_barred, with_spare, with_back, with_counters, with_zeros, with_apart, with_facts, said_in, note_in, taken_at, with_front, lines_in, after_lines, padded_in, said_head, head_in}
use Rattle.bpf_follows.proofs.Decimals.{NoDigit, number_again, short_again}
use Rattle.bpf_follows.proofs.TermLemmas.{no_digit}
use Rattle.bpf_follows.proofs.Elements.{Lacks, plain_in, extras, facts_again, facts_lack, marks_again, marks_lack, counters_again, counters_lack, back_again, back_lacks, number_said, number_lacks}

-- ---- what stands in a line behind something

line_lacks : {A : Type 0} (look : List ℕ → Option A) → ((t : List ℕ) → look (10 ∷ t) ≡ None) → (rest : List ℕ) → Lacks look (10 ∷ rest)
line_lacks look line rest =
    record { none = line rest; front = record { c = 10; cs = rest; text_is = refl; ends = record { digit = refl; plus = refl; minus = refl; equals = refl; tilde = refl } } }

-- a note of such lists
abbrev pub filled : ℕ → ℕ → List Fact → List Bool → List Bool → List (Option TurnsLeft) → List Fact → Option ℕ → Option ℕ → Note
filled old extras facts apart zeros counters back spare barred =
    record { old = old; extras = extras; apart = apart; zeros = zeros; facts = facts; counters = counters; back = back; spare = spare; barred = barred }

module _ (old extras : ℕ) (facts : List Fact) (apart zeros : List Bool) (counters : List (Option TurnsLeft)) (back : List Fact) (spare barred : Option ℕ) where
  pub lists_are : (first second third fourth fifth sixth seventh rest : List ℕ)
      → facts_in facts_noted first ≡ (facts, second) → marks_in (codes " apart ") second ≡ (apart, third) → marks_in (codes " zeros ") third ≡ (zeros, fourth) → counters_in fourth ≡ (counters, fifth)
      → back_in fifth ≡ (back, sixth) → said_number (codes " spare ") sixth ≡ (spare, seventh) → said_number (codes " barred ") seventh ≡ (barred, rest)
      → with_facts (bare old extras) (facts_in facts_noted first) ≡ filled old extras facts apart zeros counters back spare barred
  lists_are first second third fourth fifth sixth seventh rest f a z c b s r =
      ap (with_facts (bare old extras)) f ∙ ap (with_apart (filled old extras facts [] [] [] [] None None)) a ∙ ap (with_zeros (filled old extras facts apart [] [] [] None None)) z
      ∙ ap (with_counters (filled old extras facts apart zeros [] [] None None)) c ∙ ap (with_back (filled old extras facts apart zeros counters [] None None)) b
      ∙ ap (with_spare (filled old extras facts apart zeros counters back None None)) s ∙ ap (with_barred (filled old extras facts apart zeros counters back spare None)) r

pub said_is : (text : List ℕ) (old extras : ℕ) (behind_old lists : List ℕ) (note : Note) → short_in (codes " old ") text ≡ Some (old, behind_old) → extras_in behind_old ≡ Some (extras, lists)
    → with_facts (bare old extras) (facts_in facts_noted lists) ≡ note → said_in text ≡ Some note
unfolding said_in
said_is text old extras behind_old lists note o e n = rw (o, e) (ap Some n)

module _ (note : Note) (fits : NoteIs note) (rest : List ℕ) where
  seventh : List ℕ
  seventh = number_text (codes " barred ") note.barred ++ 10 ∷ rest

  sixth : List ℕ
  sixth = number_text (codes " spare ") note.spare ++ seventh

  fifth : List ℕ
  fifth = back_text note.back ++ sixth

  fourth : List ℕ
  fourth = counters_text note.counters ++ fifth

  third : List ℕ
  third = marks_text (codes " zeros ") note.zeros ++ fourth

  second : List ℕ
  second = marks_text (codes " apart ") note.apart ++ third

  first : List ℕ
  first = facts_text note.facts ++ second

  module _ {A : Type 0} (look : List ℕ → Option A) (line : (t : List ℕ) → look (10 ∷ t) ≡ None) where
    seventh_lacks : ((t : List ℕ) → look (codes " barred " ++ t) ≡ None) → Lacks look seventh
    unfolding seventh
    seventh_lacks barred = number_lacks look (codes "barred ") barred note.barred (10 ∷ rest) (line_lacks look line rest)

    module _ (barred : (t : List ℕ) → look (codes " barred " ++ t) ≡ None) (spare : (t : List ℕ) → look (codes " spare " ++ t) ≡ None) where
      sixth_lacks : Lacks look sixth
      unfolding sixth
      sixth_lacks = number_lacks look (codes "spare ") spare note.spare seventh (seventh_lacks barred)

      module _ (back : (t : List ℕ) → look (codes " back" ++ t) ≡ None) where
        fifth_lacks : Lacks look fifth
        unfolding fifth
        fifth_lacks = back_lacks look back note.back sixth sixth_lacks

        module _ (counters : (t : List ℕ) → look (codes " counter " ++ t) ≡ None) where
          fourth_lacks : Lacks look fourth
          unfolding fourth
          fourth_lacks = counters_lack look counters note.counters fits.whole.counters fits.counters fifth fifth_lacks

          third_lacks : ((t : List ℕ) → look (codes " zeros " ++ t) ≡ None) → Lacks look third
          unfolding third
          third_lacks zeros = marks_lack (codes "zeros ") look zeros note.zeros fits.whole.zeros fourth fourth_lacks

          second_lacks : ((t : List ℕ) → look (codes " zeros " ++ t) ≡ None) → ((t : List ℕ) → look (codes " apart " ++ t) ≡ None) → Lacks look second
          unfolding second
          second_lacks zeros apart = marks_lack (codes "apart ") look apart note.apart fits.whole.apart third (third_lacks zeros)

  first_lacks : Lacks (behind extras) first
  unfolding first behind
  first_lacks =
      facts_lack note.facts fits.whole.facts fits.facts second (second_lacks (behind extras) (λ t. refl) (λ t. refl) (λ t. refl) (λ t. refl) (λ t. refl) (λ t. refl) (λ t. refl))

  second_plain : Lacks plain_in second
  unfolding plain_in placed_in place_in fact_in holder_in register_in slot_in length_in zero_in number_in numeral_in behind
  second_plain = second_lacks plain_in (λ t. refl) (λ t. refl) (λ t. refl) (λ t. refl) (λ t. refl) (λ t. refl) (λ t. refl)

  facts_said : facts_in facts_noted first ≡ (note.facts, second)
  unfolding first behind
  facts_said =
      facts_again facts_noted note.facts (omega arith) fits.whole.facts fits.facts second
      (second_lacks (behind (codes " #")) (λ t. refl) (λ t. refl) (λ t. refl) (λ t. refl) (λ t. refl) (λ t. refl) (λ t. refl)) second_plain

  apart_said : marks_in (codes " apart ") second ≡ (note.apart, third)
  unfolding second behind
  apart_said =
      marks_again (codes "apart ") note.apart fits.whole.apart third (third_lacks (behind (codes " apart ")) (λ t. refl) (λ t. refl) (λ t. refl) (λ t. refl) (λ t. refl) (λ t. refl))
      (third_lacks (behind (codes "<")) (λ t. refl) (λ t. refl) (λ t. refl) (λ t. refl) (λ t. refl) (λ t. refl))

  zeros_said : marks_in (codes " zeros ") third ≡ (note.zeros, fourth)
  unfolding third behind
  zeros_said =
      marks_again (codes "zeros ") note.zeros fits.whole.zeros fourth (fourth_lacks (behind (codes " zeros ")) (λ t. refl) (λ t. refl) (λ t. refl) (λ t. refl) (λ t. refl))
      (fourth_lacks (behind (codes "<")) (λ t. refl) (λ t. refl) (λ t. refl) (λ t. refl) (λ t. refl))

  counters_said : counters_in fourth ≡ (note.counters, fifth)
  unfolding fourth behind
  counters_said =
      counters_again note.counters fits.whole.counters fits.counters fifth (fifth_lacks (behind (codes " counter ")) (λ t. refl) (λ t. refl) (λ t. refl) (λ t. refl))

  sixth_plain : Lacks plain_in sixth
  unfolding plain_in placed_in place_in fact_in holder_in register_in slot_in length_in zero_in number_in numeral_in behind
  sixth_plain = sixth_lacks plain_in (λ t. refl) (λ t. refl) (λ t. refl)

  back_said : back_in fifth ≡ (note.back, sixth)
  unfolding fifth behind
  back_said =
      back_again note.back fits.whole.back fits.back sixth (sixth_lacks (behind (codes " back")) (λ t. refl) (λ t. refl) (λ t. refl)) (sixth_lacks (behind (codes " #")) (λ t. refl) (λ t. refl) (λ t. refl)) sixth_plain

  spare_said : said_number (codes " spare ") sixth ≡ (note.spare, seventh)
  unfolding sixth behind
  spare_said = number_said (codes " spare ") note.spare fits.spare seventh (seventh_lacks (behind (codes " spare ")) (λ t. refl) (λ t. refl))

  barred_said : said_number (codes " barred ") seventh ≡ (note.barred, 10 ∷ rest)
  unfolding seventh behind
  barred_said = number_said (codes " barred ") note.barred fits.barred (10 ∷ rest) (line_lacks (behind (codes " barred ")) (λ t. refl) rest)

  lists_said : with_facts (bare note.old note.extras) (facts_in facts_noted first) ≡ note
  lists_said =
      lists_are note.old note.extras note.facts note.apart note.zeros note.counters note.back note.spare note.barred first second third fourth fifth sixth seventh (10 ∷ rest)
      facts_said apart_said zeros_said counters_said back_said spare_said barred_said

  extras_none : short_in (codes " extras ") first ≡ None
  unfolding short_in number_in
  extras_none = rw (first_lacks.none) refl

  extras_said : (n : ℕ) → n < 2 ^ 32 → extras_in (extras_text n ++ first) ≡ Some (n, first)
  unfolding extras_in extras_text
  extras_said zero small = rw extras_none refl
  extras_said (suc n) small = rw (short_again (codes " extras ") (suc n) first small (no_digit first first_lacks.front)) refl

  extras_front : (n : ℕ) → NoDigit (extras_text n ++ first)
  unfolding extras_text
  extras_front zero = no_digit first first_lacks.front
  extras_front (suc n) = record { c = 32; cs = (codes "extras " ++ decimal (suc n)) ++ first; text_is = refl; digit = refl }

  function_parts : function_text note ++ 10 ∷ rest ≡ fifth
  unfolding fifth sixth seventh
  function_parts =
      append_assoc (back_text note.back) (number_text (codes " spare ") note.spare ++ number_text (codes " barred ") note.barred) (10 ∷ rest)
      ∙ ap (λ t. back_text note.back ++ t) (append_assoc (number_text (codes " spare ") note.spare) (number_text (codes " barred ") note.barred) (10 ∷ rest))

  rest_parts : rest_text note ++ 10 ∷ rest ≡ second
  unfolding second third fourth
  rest_parts =
      append_assoc (marks_text (codes " apart ") note.apart) (marks_text (codes " zeros ") note.zeros ++ (counters_text note.counters ++ function_text note)) (10 ∷ rest)
      ∙ ap (λ t. marks_text (codes " apart ") note.apart ++ t)
      (append_assoc (marks_text (codes " zeros ") note.zeros) (counters_text note.counters ++ function_text note) (10 ∷ rest)
      ∙ ap (λ t. marks_text (codes " zeros ") note.zeros ++ t) (append_assoc (counters_text note.counters) (function_text note) (10 ∷ rest) ∙ ap (λ t. counters_text note.counters ++ t) function_parts))

  parts : said_text note ++ 10 ∷ rest ≡ codes " old " ++ (decimal note.old ++ (extras_text note.extras ++ first))
  unfolding said_text first
  parts =
      rw (
        append_assoc (decimal note.old) (extras_text note.extras ++ (facts_text note.facts ++ rest_text note)) (10 ∷ rest),
        append_assoc (extras_text note.extras) (facts_text note.facts ++ rest_text note) (10 ∷ rest),
        append_assoc (facts_text note.facts) (rest_text note) (10 ∷ rest),
      ) (ap (λ t. codes " old " ++ (decimal note.old ++ (extras_text note.extras ++ (facts_text note.facts ++ t)))) rest_parts)

  said_again : said_in (said_text note ++ 10 ∷ rest) ≡ Some note
  said_again =
      ap said_in parts
      ∙ said_is (codes " old " ++ (decimal note.old ++ (extras_text note.extras ++ first))) note.old note.extras (extras_text note.extras ++ first) first note
      (short_again (codes " old ") note.old (extras_text note.extras ++ first) fits.old (extras_front note.extras)) (extras_said note.extras fits.extras) lists_said

no_none : (note : Note) (rest : List ℕ) → behind (codes " none") (said_text note ++ rest) ≡ None
unfolding said_text behind
no_none note rest = refl

note_front : (note : Note) (rest : List ℕ) → NoDigit (said_text note ++ rest)
unfolding said_text
note_front note rest = record { c = 32; cs = _; text_is = refl; digit = refl }

slot_again : (slot : ℕ) → slot < 2 ^ 64 → (tail : List ℕ) → NoDigit tail → number_in [] (decimal slot ++ tail) ≡ Some (slot, tail)
slot_again slot small tail f = number_again [] slot tail small f

note_again : (slot : ℕ) → slot < 2 ^ 64 → (note : Option Note) → NoteFits note → (rest : List ℕ) → note_in (note_line slot note ++ rest) ≡ Some note
unfolding note_in note_line note_text behind
note_again slot small None fits rest =
    rw (append_assoc (decimal slot) (codes " none\n") rest, slot_again slot small (codes " none\n" ++ rest) (record { c = 32; cs = codes "none\n" ++ rest; text_is = refl; digit = refl })) refl
note_again slot small (Some note) fits rest =
    rw (
      append_assoc (decimal slot) (said_text note ++ codes "\n") rest,
      append_assoc (said_text note) (codes "\n") rest,
      slot_again slot small (said_text note ++ 10 ∷ rest) (note_front note (10 ∷ rest)),
      no_none note (10 ∷ rest),
      said_again note fits rest,
    ) refl

-- ---- lines

pub taken_again : (slot : ℕ) → slot < 2 ^ 64 → (note : Option Note) → NoteFits note → (rest : List ℕ) → taken_at slot (note_line slot note ++ rest) ≡ Some (note, rest)
unfolding taken_at
taken_again slot small note fits rest = rw (note_again slot small note fits rest, behind_word (note_line slot note) (note_line slot note ++ rest) rest refl) refl

-- a line isn't empty
line_front : (slot : ℕ) (note : Option Note) (rest : List ℕ) → 0 < length (note_line slot note ++ rest)
unfolding note_line
line_front slot note rest = rw (length-append (decimal slot ++ (note_text note ++ codes "\n")) rest, length-append (decimal slot) (note_text note ++ codes "\n"), length-append (note_text note) (codes "\n")) (omega arith)

lines_step : (k slot : ℕ) (text : List ℕ) (n : Option Note) (rest : List ℕ) → 0 < length text → taken_at slot text ≡ Some (n, rest) → lines_in (suc k) slot text ≡ with_front n (lines_in k (slot + 1) rest)
unfolding lines_in
lines_step k slot [] n rest some e = absurd (omega arith)
lines_step k slot (c ∷ cs) n rest some e = rw e refl

pub lines_again : (k slot : ℕ) (notes : List (Option Note)) → length notes ≤ k → slot + length notes ≤ max_slots → AllByRecursion NoteFits notes → lines_in k slot (note_lines slot notes) ≡ Ok notes
unfolding note_lines
lines_again k slot [] long few fits = unfold lines_in in refl
lines_again zero slot (n ∷ notes) long few fits = absurd (omega arith)
lines_again (suc k) slot (n ∷ notes) long few fits =
    lines_step k slot (note_line slot n ++ note_lines (slot + 1) notes) n (note_lines (slot + 1) notes) (line_front slot n (note_lines (slot + 1) notes)) (taken_again slot (omega arith) n fits.0 (note_lines (slot + 1) notes))
    ∙ ap (with_front n) (lines_again k (slot + 1) notes (omega arith) (omega arith) fits.1)

-- ---- the first line

padded_front : (padded : Bool) (rest : List ℕ) → NoDigit (padded_text padded ++ rest)
padded_front true rest = record { c = 32; cs = codes "padded\n" ++ rest; text_is = refl; digit = refl }
padded_front false rest = record { c = 10; cs = rest; text_is = refl; digit = refl }

padded_again : (padded : Bool) (rest : List ℕ) → padded_in (padded_text padded ++ rest) ≡ padded
unfolding padded_in behind
padded_again true rest = refl
padded_again false rest = refl

-- the rest of the first line
turns_parts : (runs : Bounds) (rest : List ℕ) → turns_text runs ++ rest ≡ codes " turns " ++ (decimal runs.turns ++ (codes " untouched " ++ (decimal runs.untouched ++ (padded_text runs.padded ++ rest))))
turns_parts runs rest =
    ap (λ t. codes " turns " ++ t) (append_assoc (decimal runs.turns) (codes " untouched " ++ (decimal runs.untouched ++ padded_text runs.padded)) rest)
    ∙ ap (λ t. codes " turns " ++ (decimal runs.turns ++ (codes " untouched " ++ t))) (append_assoc (decimal runs.untouched) (padded_text runs.padded) rest)

said_head_again : (runs : Bounds) → RunsFit runs → (rest : List ℕ) → said_head (head_line runs ++ rest) ≡ Some runs
unfolding said_head head_line
said_head_again runs fits rest =
    let last = padded_text runs.padded ++ rest in
    let third = codes " untouched " ++ (decimal runs.untouched ++ last) in
    let second = codes " turns " ++ (decimal runs.turns ++ third) in
    rw (
      append_assoc (decimal runs.length) (turns_text runs) rest,
      turns_parts runs rest,
      short_again (codes "bpfnotes 2 length ") runs.length second fits.length (record { c = 32; cs = codes "turns " ++ (decimal runs.turns ++ third); text_is = refl; digit = refl }),
      number_again (codes " turns ") runs.turns third fits.turns (record { c = 32; cs = codes "untouched " ++ (decimal runs.untouched ++ last); text_is = refl; digit = refl }),
      short_again (codes " untouched ") runs.untouched last fits.untouched (padded_front runs.padded rest),
      padded_again runs.padded rest,
    ) refl

pub head_again : (runs : Bounds) → RunsFit runs → (rest : List ℕ) → head_in (head_line runs ++ rest) ≡ Some (runs, rest)
unfolding head_in
head_again runs fits rest =
    rw (said_head_again runs fits rest, behind_word (head_line runs) (head_line runs ++ rest) rest refl) refl

-- ---- what the loops do

pub taken_none : (slot : ℕ) (text : List ℕ) → note_in text ≡ None → taken_at slot text ≡ None
unfolding taken_at
taken_none slot text e = rw e refl

pub taken_some : (slot : ℕ) (text : List ℕ) (n : Option Note) (rest : List ℕ) → note_in text ≡ Some n → behind (note_line slot n) text ≡ Some rest → taken_at slot text ≡ Some (n, rest)
unfolding taken_at
taken_some slot text n rest e f = rw (e, f) refl

pub taken_other : (slot : ℕ) (text : List ℕ) (n : Option Note) → note_in text ≡ Some n → behind (note_line slot n) text ≡ None → taken_at slot text ≡ None
unfolding taken_at
taken_other slot text n e f = rw (e, f) refl

pub head_none : (text : List ℕ) → said_head text ≡ None → head_in text ≡ None
unfolding head_in
head_none text e = rw e refl

pub head_some : (text : List ℕ) (runs : Bounds) (rest : List ℕ) → said_head text ≡ Some runs → behind (head_line runs) text ≡ Some rest → head_in text ≡ Some (runs, rest)
unfolding head_in
head_some text runs rest e f = rw (e, f) refl

pub head_other : (text : List ℕ) (runs : Bounds) → said_head text ≡ Some runs → behind (head_line runs) text ≡ None → head_in text ≡ None
unfolding head_in
head_other text runs e f = rw (e, f) refl

pub lines_end : (done : List (Option Note)) (k slot : ℕ) (text : List ℕ) → length text ≡ 0 → after_lines done (lines_in k slot text) ≡ Ok done
unfolding lines_in
lines_end done k slot [] e = ap Ok (append-nil done)
lines_end done k slot (c ∷ cs) e = absurd (omega arith)

pub lines_full : (done : List (Option Note)) (k slot : ℕ) (text : List ℕ) → 0 < length text → k ≡ 0 → after_lines done (lines_in k slot text) ≡ Err (Form (slot + 2))
unfolding lines_in
lines_full done k slot [] some e = absurd (omega arith)
lines_full done zero slot (c ∷ cs) some e = refl
lines_full done (suc k) slot (c ∷ cs) some e = absurd (omega arith)

lines_none : (done : List (Option Note)) (k slot : ℕ) (text : List ℕ) → 0 < length text → taken_at slot text ≡ None → after_lines done (lines_in (suc k) slot text) ≡ Err (Form (slot + 2))
unfolding lines_in
lines_none done k slot [] some e = absurd (omega arith)
lines_none done k slot (c ∷ cs) some e = rw e refl

count : (slot : ℕ) → slot < max_slots → max_slots - slot ≡ suc (max_slots - (slot + 1))
count slot h = omega arith

pub lines_stop : (done : List (Option Note)) (slot : ℕ) (text : List ℕ) → 0 < length text → slot < max_slots → taken_at slot text ≡ None → after_lines done (lines_in (max_slots - slot) slot text) ≡ Err (Form (slot + 2))
lines_stop done slot text some h e = ap (λ k. after_lines done (lines_in k slot text)) (count slot h) ∙ lines_none done (max_slots - (slot + 1)) slot text some e

front_after : (done : List (Option Note)) (n : Option Note) (r : Result (List (Option Note)) NotesError) → after_lines (done ++ n ∷ []) r ≡ after_lines done (with_front n r)
front_after done n (Ok notes) = ap Ok (append_assoc done (n ∷ []) notes)
front_after done n (Err error) = refl

pub lines_more : (done : List (Option Note)) (slot : ℕ) (text : List ℕ) (n : Option Note) (more : List ℕ) → 0 < length text → slot < max_slots → taken_at slot text ≡ Some (n, more)
    → after_lines (done ++ n ∷ []) (lines_in (max_slots - (slot + 1)) (slot + 1) more) ≡ after_lines done (lines_in (max_slots - slot) slot text)
lines_more done slot text n more some h e =
    front_after done n (lines_in (max_slots - (slot + 1)) (slot + 1) more)
    ∙ ap (after_lines done) (sym (lines_step (max_slots - (slot + 1)) slot text n more some e))
    ∙ ap (λ k. after_lines done (lines_in k slot text)) (sym (count slot h))
