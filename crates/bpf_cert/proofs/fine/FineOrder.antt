-- What lines tell of those behind them, and the lines of a label.
use Rattle.std.proofs.Common.{◌≡◌, ℕ, zero, suc, ◌+◌, ◌^◌, ◌<◌, ◌≤◌, Bool, true, false, cond, leb, ltb, eqb, List, [], ◌∷◌, ◌++◌, length, map, take, Option, Some, refl, sym, ap, subst, ◌∙◌, arith, min, length-append}
use Rattle.std.specs.Prelude.{decimal, count_by}
use Rattle.std.specs.List.{list_all}
use Rattle.std.proofs.lemmas.Bool.{leb-true, lt-ltb, eqb-true, and_from}
use Rattle.std.proofs.lemmas.List.{length-map, length-take}
use Rattle.std.proofs.lemmas.List.Sums.{sum_by-cons}
use Rattle.std.proofs.lemmas.List.Folds.{list_all-append}
use Rattle.bpf_cert.specs.Line.{Line}
use Rattle.bpf_cert.specs.Faults.{place_before, last_first, last_slot, last_place, comes_after, is_function, is_label, ends_bare, is_ended}
use Rattle.bpf_cert.specs.Limits.{is_rising, is_canonical_state, is_canonical_label, is_limited_label, is_limited_state, is_limited_register, is_limited_slot, is_limited_term, term_before}
use Rattle.bpf_cert.specs.View.{LabelView}
use Rattle.bpf_cert.specs.Spelling.{is_unknown, contents, content_of, place_at, lines_from, label_line, label_lines, term_of}
use Rattle.bpf_cert.specs.code.Standing.{stage_of, may_have_label, may_have_entry}
use Rattle.bpf_cert.specs.declared.standing.Stage.{Stage}
use Rattle.bpf_cert.specs.declared.standing.Stage.TheVariants as stage
use Rattle.bpf_state.specs.State.{AbstractState, value_slot}
use Rattle.bpf_state.specs.declared.known.RegState.{RegState}
use Rattle.bpf_state.specs.declared.known.RegState.TheVariants as reg
use Rattle.bpf_state.specs.declared.known.SlotState.{SlotState}
use Rattle.bpf_cert.proofs.LastLine.{by_last}
use Rattle.bpf_cert.proofs.Bools.{both_true}
use Rattle.bpf_cert.proofs.AfterLemmas.{IsFine}
use Rattle.bpf_cert.proofs.fine.FineLines.{AreFine}
use Rattle.bpf_cert.proofs.StandingLemmas.{stand_label, stand_entry}
use Rattle.bpf_cert.proofs.fine.FineParts.{decimal_writes}
use Rattle.bpf_cert.proofs.fine.FineValues.{content_good, place_at_good, places_rise, terms_good, terms_rise}

-- the lines with more behind them, all with the nearest first
abbrev pub back : List Line → List Line → List Line
back [] before = before
back (l ∷ ls) before = back ls (l ∷ before)

-- what lines tell of the next one
pub record Tells (before : List Line) (s : Stage) (f a : Option ℕ) (n k : ℕ) : Type 0 where
  pub stage : stage_of before ≡ s
  pub first : last_first before ≡ f
  pub at : last_slot before ≡ a
  pub functions : count_by is_function before ≡ n
  pub labels : count_by is_label before ≡ k

-- fine lines, and what they tell then
pub record Runs (before ls : List Line) (s : Stage) (first at : Option ℕ) (functions labels : ℕ) : Type 0 where
  pub fine : AreFine before ls
  pub tells : Tells (back ls before) s first at functions labels

back_append : (xs ys before : List Line) → back (xs ++ ys) before ≡ back ys (back xs before)
back_append [] ys before = refl
back_append (x ∷ xs) ys before = back_append xs ys (x ∷ before)

fine_append : (xs ys before : List Line) → AreFine before xs → AreFine (back xs before) ys → AreFine before (xs ++ ys)
fine_append [] ys before f g = g
fine_append (x ∷ xs) ys before f g = (f.0, f.1, fine_append xs ys (x ∷ before) f.2 g)

pub runs_none : (before : List Line) (s : Stage) (first at : Option ℕ) (functions labels : ℕ) → Tells before s first at functions labels → Runs before [] s first at functions labels
runs_none before s first at functions labels t = record { fine = tt; tells = t }

pub runs_one : (before : List Line) (l : Line) (s : Stage) (first at : Option ℕ) (functions labels : ℕ) → is_ended before ≡ false → IsFine before l → Tells (l ∷ before) s first at functions labels → Runs before (l ∷ []) s first at functions labels
runs_one before l s first at functions labels e f t = record { fine = (e, f, tt); tells = t }

pub runs_append : (before xs ys : List Line) (s : Stage) (first at : Option ℕ) (functions labels : ℕ) → AreFine before xs → Runs (back xs before) ys s first at functions labels → Runs before (xs ++ ys) s first at functions labels
runs_append before xs ys s first at functions labels f r = record {
  fine = fine_append xs ys before f r.fine;
  tells = subst (λ ls. Tells ls s first at functions labels) (sym (back_append xs ys before)) r.tells;
}

abbrev pub is_end_stage : Stage → Bool
is_end_stage stage.Ended = true
is_end_stage _ = false

pub ended_is : (ls : List Line) → is_ended ls ≡ is_end_stage (stage_of ls)
ended_is ls = by_last (λ xs. is_ended xs ≡ is_end_stage (stage_of xs)) refl (λ ls a b. refl) (λ ls a b c. refl) (λ ls a b c. refl) (λ ls a b. refl) (λ ls. refl) ls

abbrev pub is_bare_stage : Stage → Bool
is_bare_stage stage.Function = true
is_bare_stage _ = false

pub bare_is : (ls : List Line) → ends_bare ls ≡ is_bare_stage (stage_of ls)
bare_is ls = by_last (λ xs. ends_bare xs ≡ is_bare_stage (stage_of xs)) refl (λ ls a b. refl) (λ ls a b c. refl) (λ ls a b c. refl) (λ ls a b. refl) (λ ls. refl) ls

-- an entry may stand behind the lines at each place from the j-th on
abbrev HasPlaces : ℕ → List Line → Type 0
HasPlaces j before = (k : ℕ) → j ≤ k → k < 74 → comes_after place_before (last_place before) (place_at k) ≡ true

entry_fine : (j : ℕ) (s : SlotState) (before : List Line) → j < 74 → stage_of before ≡ stage.Label → HasPlaces j before → is_limited_slot s ≡ true → is_unknown s ≡ false → IsFine before (Line.entry (place_at j) (content_of s))
entry_fine j s before inside at places limited some =
    let p = place_at_good j inside in let c = content_good s limited some in
    record {
      stands = stand_entry before (place_at j) (content_of s) ∙ ap may_have_entry at;
      canonical = rw (p.0, c.0) refl;
      order = places j (omega arith) inside;
      limited = rw (p.1, c.1) refl;
      room = refl;
    }

-- an entry in front of those of later places, or none
entry_runs : (s : SlotState) (j : ℕ) (before ls : List Line) (first at : Option ℕ) (functions labels : ℕ) (b : Bool) → is_unknown s ≡ b → Tells before stage.Label first at functions labels → HasPlaces j before → is_limited_slot s ≡ true → j < 74
    → ((more : List Line) → Tells more stage.Label first at functions labels → HasPlaces (j + 1) more → Runs more ls stage.Label first at functions labels)
    → Runs before (cond b [] (Line.entry (place_at j) (content_of s) ∷ []) ++ ls) stage.Label first at functions labels
entry_runs s j before ls first at functions labels true e t places limited inside rest = rest before t (λ k low high. places k (omega (arith, low)) high)
entry_runs s j before ls first at functions labels false e t places limited inside rest =
    let l = Line.entry (place_at j) (content_of s) in
    let here : Tells (l ∷ before) stage.Label first at functions labels = record { stage = refl; first = t.first; at = t.at; functions = t.functions; labels = t.labels } in
    let r = rest (l ∷ before) here (λ k low high. places_rise j k (omega (arith, low)) high) in
    record { fine = (ended_is before ∙ ap is_end_stage t.stage, entry_fine j s before inside t.stage places limited e, r.fine); tells = r.tells }

entries_run : (ss : List SlotState) (j : ℕ) (before : List Line) (first at : Option ℕ) (functions labels : ℕ) → Tells before stage.Label first at functions labels → HasPlaces j before → list_all is_limited_slot ss ≡ true → j + length ss ≤ 74
    → Runs before (lines_from j ss) stage.Label first at functions labels
entries_run [] j before first at functions labels t places limited few = runs_none before stage.Label first at functions labels t
entries_run (s ∷ ss) j before first at functions labels t places limited few =
    let parts = both_true (is_limited_slot s) (list_all is_limited_slot ss) limited in
    entry_runs s j before (lines_from (j + 1) ss) first at functions labels (is_unknown s) refl t places parts.0 (omega arith)
    (λ more told next. entries_run ss (j + 1) more first at functions labels told next parts.1 (omega arith))

registers_limited : (n : ℕ) (rs : List RegState) → list_all is_limited_register rs ≡ true → list_all is_limited_slot (map value_slot (take n rs)) ≡ true
registers_limited zero rs e = refl
registers_limited (suc n) [] e = refl
registers_limited (suc n) (r ∷ rs) e = let parts = both_true (is_limited_register r) (list_all is_limited_register rs) e in rw (same r ∙ parts.0, registers_limited n rs parts.1) refl
  where
    same : (r : RegState) → is_limited_slot (value_slot r) ≡ is_limited_register r
    same reg.Any = refl
    same (reg.Num n) = refl
    same (reg.Ptr p) = refl

-- what a state holds: as many contents as there are places, all within their limits
contents_limited : (s : AbstractState) → is_limited_state s ≡ true → (list_all is_limited_slot (contents s) ≡ true) × (length (contents s) ≡ 74)
contents_limited s e =
    let outer = both_true _ (list_all is_limited_slot s.slots) e in
    let inner = both_true _ (list_all is_limited_register s.registers) outer.0 in
    let shape = both_true _ (eqb (length s.slot_tags) 64) inner.0 in
    let tags = both_true _ (eqb (length s.register_tags) 11) shape.0 in
    let both = both_true (eqb (length s.registers) 11) (eqb (length s.slots) 64) tags.0 in
    let registers : length s.registers ≡ 11 = eqb-true (length s.registers) 11 both.0 in
    let slots : length s.slots ≡ 64 = eqb-true (length s.slots) 64 both.1 in
    let front : length (map value_slot (take 10 s.registers)) ≡ min 10 (length s.registers) = length-map (take 10 s.registers) value_slot ∙ length-take 10 s.registers in
    let all : length (contents s) ≡ length (map value_slot (take 10 s.registers)) + length s.slots = length-append (map value_slot (take 10 s.registers)) s.slots in
    (list_all-append is_limited_slot (map value_slot (take 10 s.registers)) s.slots ∙ and_from _ _ (registers_limited 10 s.registers inner.1) outer.1, omega arith)

record IsWithin (l : LabelView) : Type 0 where
  slot : leb l.slot 65535 ≡ true
  state : is_limited_state l.state ≡ true
  base : leb l.base (2 ^ 40) ≡ true
  few : leb (length l.terms) 4 ≡ true
  terms : list_all is_limited_term l.terms ≡ true

within : (l : LabelView) → is_limited_label l ≡ true → IsWithin l
within l limited =
    let a = both_true _ (list_all is_limited_term l.terms) limited in
    let b = both_true _ (leb (length l.terms) 4) a.0 in
    let c = both_true _ (leb l.base (2 ^ 40)) b.0 in
    let d = both_true (leb l.slot 65535) (is_limited_state l.state) c.0 in
    record { slot = d.0; state = d.1; base = c.1; few = b.1; terms = a.1 }

label_fine : (l : LabelView) (before : List Line) (s : Stage) (first at : Option ℕ) (functions labels : ℕ) → Tells before s first at functions labels → may_have_label s ≡ true → comes_after ltb at l.slot ≡ true → labels < 65536
    → is_canonical_label l ≡ true → IsWithin l → IsFine before (label_line l)
label_fine l before s first at functions labels t may order room canonical w =
    let low : l.slot ≤ 65535 = leb-true l.slot 65535 w.slot in
    let few : l.base ≤ 2 ^ 40 = leb-true l.base (2 ^ 40) w.base in
    let x = decimal_writes l.slot (omega arith) in
    let y = decimal_writes l.base (omega arith) in
    let z = terms_good l.terms w.terms in
    let rising = terms_rise l.terms w.terms (both_true (is_canonical_state l.state) (is_rising term_before l.terms) canonical).1 in
    record {
      stands = stand_label before (decimal l.slot) (decimal l.base) _ ∙ ap may_have_label t.stage ∙ may;
      canonical = rw (x.plain, y.plain, z.0, rising) refl;
      order = rw (t.at, x.same) order;
      limited = rw (x.same, y.same, length-map l.terms term_of, w.slot, w.base, w.few, z.1) refl;
      room = rw t.labels (lt-ltb labels 65536 room);
    }

plus_one : (k : ℕ) → 1 + k ≡ k + 1
plus_one k = omega arith

label_tells : (l : LabelView) (before : List Line) (s : Stage) (first at : Option ℕ) (functions labels : ℕ) → Tells before s first at functions labels → l.slot ≤ 65535 → Tells (label_line l ∷ before) stage.Label first (Some l.slot) functions (labels + 1)
label_tells l before s first at functions labels t low = let x = decimal_writes l.slot (omega arith) in record {
  stage = refl;
  first = t.first;
  at = ap Some x.same;
  functions = t.functions;
  labels = sum_by-cons (λ x. cond (is_label x) 1 0) (label_line l) before ∙ plus_one (count_by is_label before) ∙ ap (λ k. k + 1) t.labels;
}

pub label_runs : (l : LabelView) (before : List Line) (s : Stage) (first at : Option ℕ) (functions labels : ℕ) → Tells before s first at functions labels → may_have_label s ≡ true → is_end_stage s ≡ false → comes_after ltb at l.slot ≡ true
    → labels < 65536 → is_canonical_label l ≡ true → is_limited_label l ≡ true → Runs before (label_lines l) stage.Label first (Some l.slot) functions (labels + 1)
label_runs l before s first at functions labels t may going order room canonical limited =
    let w = within l limited in
    let state = contents_limited l.state w.state in
    let long : length (contents l.state) ≡ 74 = state.1 in
    let r = entries_run (contents l.state) 0 (label_line l ∷ before) first (Some l.slot) functions (labels + 1) (label_tells l before s first at functions labels t (leb-true l.slot 65535 w.slot)) (λ k low high. refl) state.0 (omega arith) in
    record { fine = (ended_is before ∙ ap is_end_stage t.stage ∙ going, label_fine l before s first at functions labels t may order room canonical w, r.fine); tells = r.tells }
