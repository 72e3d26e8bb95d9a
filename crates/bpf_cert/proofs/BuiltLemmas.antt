-- A certificate in the making and its lines, one line later.
use Rattle.std.proofs.Common.{◌≡◌, ℕ, zero, suc, ◌+◌, ◌-◌, ◌^◌, ◌<◌, ◌≤◌, Bool, true, false, cond, not, leb, ltb, eqb, get_or, List, [], ◌∷◌, ◌++◌, length, map, flat_map, reverse, drop, Option, Some, None, Result, Ok, Err, refl, sym, ap, subst, ◌∙◌, arith, append-nil, append_assoc}
use Rattle.std.specs.Prelude.{◌&&◌, option_map, decimal, IfSome}
use Rattle.std.specs.List.{list_all}
use Rattle.std.proofs.Math.ListN.{set}
use Rattle.std.proofs.lemmas.List.{reverse-append}
use Rattle.std.proofs.lemmas.Bool.{leb-true, ltb-true, lt-ltb, le-ltb, eqb-true}
use Rattle.bpf_cert.specs.Numeral.{number}
use Rattle.bpf_cert.specs.Line.{Line}
use Rattle.bpf_cert.specs.Faults.{is_canonical, is_limited, has_room, judged, may_stand, is_in_order, comes_after, place_before, last_place, is_ended}
use Rattle.bpf_cert.specs.Reading.{line_in}
use Rattle.bpf_cert.specs.View.{label_view}
use Rattle.bpf_cert.specs.Spelling.{is_unknown, contents, header_line, label_lines, label_line, lines_from, entry_lines, place_at, spelled_place, content_of}
use Rattle.bpf_cert.specs.code.Standing.{Stands, IsEntry, ruled, stage_of, is_start, may_have_label, may_have_entry}
use Rattle.bpf_cert.specs.code.Sound.{IsSound}
use Rattle.bpf_cert.specs.code.Building.{IsBuilt, IsOpen, Closes, ClosesLabel, Puts, Takes, closed_lines, open_lines, lines_at, index_of, next_index, fault_at}
use Rattle.bpf_cert.specs.declared.finding.PartFault.{PartFault}
use Rattle.bpf_cert.specs.declared.finding.PartFault.TheVariants as flaws
use Rattle.bpf_cert.specs.declared.error.CertError.{CertError}
use Rattle.bpf_cert.specs.declared.certificate.Label.{Label}
use Rattle.bpf_cert.specs.Limits.{is_limited_place}
use Rattle.bpf_cert.specs.declared.standing.Stage.{Stage}
use Rattle.bpf_cert.specs.declared.standing.Stage.TheVariants as stage
use Rattle.bpf_cert.specs.declared.building.Builder.{Builder}
use Rattle.bpf_cert.specs.declared.header.Header.{Header}
use Rattle.bpf_insn.specs.Instruction.{register_number}
use Rattle.bpf_state.specs.State.{blank}
use Rattle.bpf_state.specs.declared.known.Place.{Place}
use Rattle.bpf_state.specs.declared.known.Place.TheVariants as place
use Rattle.bpf_state.specs.declared.known.SlotState.{SlotState}
use Rattle.bpf_state.specs.declared.known.SlotState.TheVariants as slot
use Rattle.bpf_cert.proofs.LastLine.{by_last}
use Rattle.bpf_cert.proofs.Bools.{both_true}
use Rattle.bpf_cert.proofs.NumeralLaws.{numeral-decimal}
use Rattle.bpf_cert.proofs.lines.LineLaws.{line_spelled}
use Rattle.bpf_cert.proofs.StandingLemmas.{stand_header, stand_function, stand_label, stand_entry, stand_end}
use Rattle.bpf_cert.proofs.AfterLemmas.{ruled_fine}

pub start_empty : (ls : List Line) → is_start (stage_of ls) ≡ true → ls ≡ []
start_empty ls = by_last (λ xs. is_start (stage_of xs) ≡ true → xs ≡ []) (λ e. refl) (λ ls a b e. cc) (λ ls a b c e. cc) (λ ls a b c e. cc) (λ ls a b e. cc) (λ ls e. cc) ls

last_end : (l : Line) (ls : List Line) → reverse (l ∷ ls) ≡ reverse ls ++ l ∷ []
last_end l ls = reverse-append (l ∷ []) ls

abbrev IsGoing : Stage → Type 0
IsGoing stage.Start = ⊥
IsGoing stage.Ended = ⊥
IsGoing _ = Unit {0}

going : (ls : List Line) → not (is_start (stage_of ls)) ≡ true → is_ended ls ≡ false → IsGoing (stage_of ls)
going ls = by_last (λ xs. not (is_start (stage_of xs)) ≡ true → is_ended xs ≡ false → IsGoing (stage_of xs)) (λ e f. cc) (λ ls a b e f. tt) (λ ls a b c e f. tt) (λ ls a b c e f. tt) (λ ls a b e f. tt) (λ ls e f. cc) ls

abbrev pub IsInFunction : Stage → Type 0
IsInFunction stage.Function = Unit {0}
IsInFunction stage.Label = Unit {0}
IsInFunction _ = ⊥

pub in_function : (ls : List Line) → may_have_label (stage_of ls) ≡ true → is_ended ls ≡ false → IsInFunction (stage_of ls)
in_function ls = by_last (λ xs. may_have_label (stage_of xs) ≡ true → is_ended xs ≡ false → IsInFunction (stage_of xs)) (λ e f. cc) (λ ls a b e f. cc) (λ ls a b c e f. tt) (λ ls a b c e f. tt) (λ ls a b e f. tt) (λ ls e f. cc) ls

pub in_label : (ls : List Line) → may_have_entry (stage_of ls) ≡ true → stage_of ls ≡ stage.Label
in_label ls = by_last (λ xs. may_have_entry (stage_of xs) ≡ true → stage_of xs ≡ stage.Label) (λ e. cc) (λ ls a b e. cc) (λ ls a b c e. cc) (λ ls a b c e. refl) (λ ls a b e. refl) (λ ls e. cc) ls

pub built_header : (lines : List Line) (old new : Builder) (l : Line) (head : Header) → IsBuilt lines old → ruled lines (Some l) ≡ Ok l → l ≡ header_line head → Stands (l ∷ lines) new.standing
    → new.header ≡ head → closed_lines new ≡ closed_lines old → IsSound new → IsBuilt (l ∷ lines) new
built_header lines old new l head built fine e stands a same sound =
    let is_header : is_start (stage_of lines) ≡ true = sym (stand_header lines _ _) ∙ ap (may_stand lines) (sym e) ∙ (ruled_fine lines l l fine).stands in
    let empty : lines ≡ [] = start_empty lines is_header in
    let at_start : old.standing.stage ≡ stage.Start = built.stands.stage ∙ ap stage_of empty in
    let none : closed_lines old ≡ [] = sym (sym (ap reverse empty) ∙ built.spelled ∙ ap (λ s. lines_at s old) at_start) in
    let now : new.standing.stage ≡ stage.Header = stands.stage ∙ ap (λ x. stage_of (x ∷ lines)) e in
    record {
      stands = stands;
      sound = sound;
      spelled = subst (λ s. reverse (l ∷ lines) ≡ lines_at s new) (sym now) (ap (λ ls. reverse (l ∷ ls)) empty ∙ rw (a, same, none, e) refl);
      open_places = subst (λ s. IsOpen s new.standing.place new.label.state) (sym now) tt;
    }

closes_rest : (s : Stage) (old mid : Builder) → IsGoing s → old.standing.stage ≡ s → Closes old mid → lines_at s old ≡ header_line mid.header ∷ closed_lines mid
closes_rest stage.Start old mid g e c = absurd g
closes_rest stage.Header old mid g e c = rw c.keeps.header (ap (λ r. header_line old.header ∷ r) (c.header e))
closes_rest stage.Function old mid g e c = rw c.keeps.header (ap (λ r. header_line old.header ∷ r) (c.function e))
closes_rest stage.Label old mid g e c = rw c.keeps.header (ap (λ r. header_line old.header ∷ r) (c.label e))
closes_rest stage.Ended old mid g e c = absurd g

-- a line behind which no function is open
built_closed : (lines : List Line) (old mid new : Builder) (l : Line) → IsBuilt lines old → is_ended lines ≡ false → not (is_start (stage_of lines)) ≡ true → Stands (l ∷ lines) new.standing → Closes old mid → IsSound new
    → lines_at (stage_of (l ∷ lines)) new ≡ header_line mid.header ∷ (closed_lines mid ++ l ∷ []) → IsOpen (stage_of (l ∷ lines)) new.standing.place new.label.state → IsBuilt (l ∷ lines) new
built_closed lines old mid new l built more may stands closes sound spelled at_open =
    let before : reverse lines ≡ header_line mid.header ∷ closed_lines mid = built.spelled ∙ ap (λ s. lines_at s old) built.stands.stage ∙ closes_rest (stage_of lines) old mid (going lines may more) built.stands.stage closes in
    record {
      stands = stands;
      sound = sound;
      spelled = subst (λ s. reverse (l ∷ lines) ≡ lines_at s new) (sym stands.stage) (last_end l lines ∙ ap (λ ls. ls ++ l ∷ []) before ∙ sym spelled);
      open_places = subst (λ s. IsOpen s new.standing.place new.label.state) (sym stands.stage) at_open;
    }

pub built_function : (lines : List Line) (old mid new : Builder) (l : Line) (f d : List ℕ) (r : _) → IsBuilt lines old → is_ended lines ≡ false → ruled lines (Some l) ≡ Ok l → l ≡ Line.function f d r → Stands (l ∷ lines) new.standing
    → Closes old mid → new.header ≡ mid.header → closed_lines new ≡ closed_lines mid → (labels : List Label) → open_lines new ≡ Line.function f d r ∷ flat_map label_lines (map label_view labels) → labels ≡ [] → IsSound new → IsBuilt (l ∷ lines) new
built_function lines old mid new l f d r built more fine e stands closes a same labels alone bare sound =
    let opened : open_lines new ≡ l ∷ [] = alone ∙ ap (λ ls. Line.function f d r ∷ flat_map label_lines (map label_view ls)) bare ∙ ap (λ x. x ∷ []) (sym e) in
    let may : not (is_start (stage_of lines)) ≡ true = sym (stand_function lines f d r) ∙ ap (may_stand lines) (sym e) ∙ (ruled_fine lines l l fine).stands in
    let now : stage_of (l ∷ lines) ≡ stage.Function = ap (λ x. stage_of (x ∷ lines)) e in
    built_closed lines old mid new l built more may stands closes sound (ap (λ s. lines_at s new) now ∙ rw (a, same, opened) refl) (subst (λ s. IsOpen s new.standing.place new.label.state) (sym now) tt)

pub built_end : (lines : List Line) (old mid new : Builder) (l : Line) → IsBuilt lines old → is_ended lines ≡ false → ruled lines (Some l) ≡ Ok l → l ≡ Line.end → Stands (l ∷ lines) new.standing
    → Closes old mid → new.header ≡ mid.header → closed_lines new ≡ closed_lines mid → IsSound new → IsBuilt (l ∷ lines) new
built_end lines old mid new l built more fine e stands closes a same sound =
    let may : not (is_start (stage_of lines)) ≡ true = sym (stand_end lines) ∙ ap (may_stand lines) (sym e) ∙ (ruled_fine lines l l fine).stands in
    let now : stage_of (l ∷ lines) ≡ stage.Ended = ap (λ x. stage_of (x ∷ lines)) e in
    built_closed lines old mid new l built more may stands closes sound (ap (λ s. lines_at s new) now ∙ rw (a, same, e) refl) (subst (λ s. IsOpen s new.standing.place new.label.state) (sym now) tt)

closes_label_rest : (s : Stage) (old mid : Builder) → IsInFunction s → old.standing.stage ≡ s → ClosesLabel old mid → lines_at s old ≡ header_line mid.header ∷ (closed_lines mid ++ open_lines mid)
closes_label_rest stage.Start old mid g e c = absurd g
closes_label_rest stage.Header old mid g e c = absurd g
closes_label_rest stage.Function old mid g e c = rw c.keeps.header (ap (λ r. header_line old.header ∷ r) (c.function e))
closes_label_rest stage.Label old mid g e c = rw c.keeps.header (ap (λ r. header_line old.header ∷ r) (c.label e))
closes_label_rest stage.Ended old mid g e c = absurd g

no_place : (o : Option Place) → option_map spelled_place o ≡ None → o ≡ None
no_place None e = refl
no_place (Some p) e = cc

blank_open : list_all is_unknown (drop 0 (contents blank)) ≡ true
blank_open = refl

pub built_label : (lines : List Line) (old mid new : Builder) (l : Line) (at base : List ℕ) (ts : _) → IsBuilt lines old → is_ended lines ≡ false → ruled lines (Some l) ≡ Ok l → l ≡ Line.label at base ts → Stands (l ∷ lines) new.standing
    → ClosesLabel old mid → new.header ≡ mid.header → closed_lines new ≡ closed_lines mid → open_lines new ≡ open_lines mid → new.label.state ≡ blank → label_line (label_view new.label) ≡ l → IsSound new → IsBuilt (l ∷ lines) new
built_label lines old mid new l at base ts built more fine e stands closes a same opened bare line sound =
    let may : may_have_label (stage_of lines) ≡ true = sym (stand_label lines at base ts) ∙ ap (may_stand lines) (sym e) ∙ (ruled_fine lines l l fine).stands in
    let now : new.standing.stage ≡ stage.Label = stands.stage ∙ ap (λ x. stage_of (x ∷ lines)) e in
    let before : reverse lines ≡ header_line mid.header ∷ (closed_lines mid ++ open_lines mid) = built.spelled ∙ ap (λ s. lines_at s old) built.stands.stage ∙ closes_label_rest (stage_of lines) old mid (in_function lines may more) built.stands.stage closes in
    let none : new.standing.place ≡ None = no_place new.standing.place (stands.place ∙ ap (λ x. last_place (x ∷ lines)) e) in
    let here : label_lines (label_view new.label) ≡ l ∷ [] = ap (λ x. x ∷ lines_from 0 (contents new.label.state)) line ∙ ap (λ s. l ∷ lines_from 0 (contents s)) bare in
    record {
      stands = stands;
      sound = sound;
      spelled = subst (λ s. reverse (l ∷ lines) ≡ lines_at s new) (sym now) (last_end l lines ∙ ap (λ ls. ls ++ l ∷ []) before ∙ rw (a, same, opened, here) refl);
      open_places = subst (λ s. IsOpen s new.standing.place new.label.state) (sym now)
          (subst (λ o. IsOpen stage.Label o new.label.state) (sym none) (subst (λ s. IsOpen stage.Label None s) (sym bare) blank_open));
    }

-- the lines of places of which nothing is known
no_lines : (j : ℕ) (xs : List SlotState) → list_all is_unknown xs ≡ true → lines_from j xs ≡ []
no_lines j [] e = refl
no_lines j (x ∷ xs) e = let parts = both_true (is_unknown x) (list_all is_unknown xs) e in rw parts.0 (no_lines (j + 1) xs parts.1)

lines_put : (j i : ℕ) (xs : List SlotState) (v : SlotState) → i < length xs → list_all is_unknown (drop i xs) ≡ true → lines_from j (set xs i v) ≡ lines_from j xs ++ entry_lines (place_at (j + i)) v
lines_put j i [] v inside e = absurd (omega arith)
lines_put j zero (x ∷ xs) v inside e =
    let parts = both_true (is_unknown x) (list_all is_unknown xs) e in
    let same : j + 0 ≡ j = omega arith in
    rw (same, parts.0, no_lines (j + 1) xs parts.1) (append-nil (entry_lines (place_at j) v))
lines_put j (suc i) (x ∷ xs) v inside e =
    let same : j + 1 + i ≡ j + suc i = omega arith in
    ap (λ ls. entry_lines (place_at j) x ++ ls) (lines_put (j + 1) i xs v (omega arith) e ∙ ap (λ n. lines_from (j + 1) xs ++ entry_lines (place_at n) v) same)
    ∙ sym (append_assoc (entry_lines (place_at j) x) (lines_from (j + 1) xs) (entry_lines (place_at (j + suc i)) v))

later : (n m : ℕ) (xs : List SlotState) → n ≤ m → list_all is_unknown (drop n xs) ≡ true → list_all is_unknown (drop m xs) ≡ true
later n zero xs h e = let none : n ≡ 0 = omega arith in subst (λ k. list_all is_unknown (drop k xs) ≡ true) none e
later zero (suc m) [] h e = refl
later zero (suc m) (x ∷ xs) h e = later zero m xs (omega arith) (both_true (is_unknown x) (list_all is_unknown xs) e).1
later (suc n) (suc m) [] h e = refl
later (suc n) (suc m) (x ∷ xs) h e = later n m xs (omega arith) e

behind_put : (i : ℕ) (xs : List SlotState) (v : SlotState) → drop (i + 1) (set xs i v) ≡ drop (i + 1) xs
behind_put zero [] v = refl
behind_put zero (x ∷ xs) v = refl
behind_put (suc i) [] v = refl
behind_put (suc i) (x ∷ xs) v = let same : suc i + 1 ≡ suc (i + 1) = omega arith in rw same (behind_put i xs v)

-- the place of an entry, by its index
index_place : (p : Place) → is_limited_place p ≡ true → place_at (index_of p) ≡ spelled_place p
index_place (place.Register r) e = let few : register_number r ≤ 9 = leb-true (register_number r) 9 e in rw (lt-ltb (register_number r) 10 (omega arith)) refl
index_place (place.Slot k) e =
    let ends = both_true (leb 1 k) (leb k 64) e in let low : 1 ≤ k = leb-true 1 k ends.0 in
    let same : 9 + k - 9 ≡ k = omega arith in
    rw (le-ltb (9 + k) 10 (omega arith), same) refl

index_inside : (p : Place) → is_limited_place p ≡ true → index_of p < 74
index_inside (place.Register r) e = let few : register_number r ≤ 9 = leb-true (register_number r) 9 e in omega arith
index_inside (place.Slot k) e = let ends = both_true (leb 1 k) (leb k 64) e in let high : k ≤ 64 = leb-true k 64 ends.1 in omega arith

rises : (i j : ℕ) → i < 2 ^ 16 → j < 2 ^ 16 → ltb (number (decimal i)) (number (decimal j)) ≡ true → i < j
rises i j a b e = let x = (numeral-decimal i (omega arith)).1 in let y = (numeral-decimal j (omega arith)).1 in ltb-true i j (sym (ap (λ n. ltb n (number (decimal j))) x ∙ ap (ltb i) y) ∙ e)

index_rises : (o : Option Place) (p : Place) → IfSome o (λ q. is_limited_place q ≡ true) → is_limited_place p ≡ true → comes_after place_before (option_map spelled_place o) (spelled_place p) ≡ true → next_index o ≤ index_of p
index_rises None p f g e = omega arith
index_rises (Some (place.Register r)) (place.Register t) f g e =
    let low : register_number r ≤ 9 = leb-true (register_number r) 9 f in let high : register_number t ≤ 9 = leb-true (register_number t) 9 g in
    let up : register_number r < register_number t = rises (register_number r) (register_number t) (omega arith) (omega arith) e in omega arith
index_rises (Some (place.Register r)) (place.Slot k) f g e =
    let low : register_number r ≤ 9 = leb-true (register_number r) 9 f in let some : 1 ≤ k = leb-true 1 k (both_true (leb 1 k) (leb k 64) g).0 in omega arith
index_rises (Some (place.Slot j)) (place.Register t) f g e = cc
index_rises (Some (place.Slot j)) (place.Slot k) f g e =
    let low : j ≤ 64 = leb-true j 64 (both_true (leb 1 j) (leb j 64) f).1 in let high : k ≤ 64 = leb-true k 64 (both_true (leb 1 k) (leb k 64) g).1 in
    let up : j < k = rises j k (omega arith) (omega arith) e in omega arith

-- a label's lines with one entry more
entry_more : (old mid : Builder) (p : Place) (v : SlotState) (next : ℕ) → IsEntry p v → Puts p v old mid → next ≤ index_of p → list_all is_unknown (drop next (contents old.label.state)) ≡ true
    → label_lines (label_view mid.label) ≡ label_lines (label_view old.label) ++ Line.entry (spelled_place p) (content_of v) ∷ []
entry_more old mid p v next entry puts room bare_places =
    let i = index_of p in
    let inside : i < length (contents old.label.state) = subst (λ n. i < n) (sym puts.long) (index_inside p entry.limited) in
    let zero_more : 0 + i ≡ i = omega arith in
    let said : lines_from 0 (contents mid.label.state) ≡ lines_from 0 (contents old.label.state) ++ Line.entry (spelled_place p) (content_of v) ∷ [] =
    ap (lines_from 0) puts.said ∙ lines_put 0 i (contents old.label.state) v inside (later next i (contents old.label.state) room bare_places)
    ∙ ap (λ n. lines_from 0 (contents old.label.state) ++ entry_lines (place_at n) v) zero_more ∙ ap (λ q. lines_from 0 (contents old.label.state) ++ entry_lines q v) (index_place p entry.limited)
    ∙ ap (λ b. lines_from 0 (contents old.label.state) ++ cond b [] (Line.entry (spelled_place p) (content_of v) ∷ [])) entry.known.known in
    rw (puts.slot, puts.budget) (ap (λ ls. label_line (label_view old.label) ∷ ls) said)

pub built_entry : (lines : List Line) (old mid new : Builder) (l : Line) (p : Place) (v : SlotState) → IsBuilt lines old → ruled lines (Some l) ≡ Ok l → l ≡ Line.entry (spelled_place p) (content_of v) → Stands (l ∷ lines) new.standing
    → IsEntry p v → Puts p v old mid → new.standing.place ≡ Some p → new.header ≡ mid.header → closed_lines new ≡ closed_lines mid → open_lines new ≡ open_lines mid → new.label ≡ mid.label → IsSound new → IsBuilt (l ∷ lines) new
built_entry lines old mid new l p v built fine e stands entry puts at a same opened labels sound =
    let f = ruled_fine lines l l fine in
    let may : may_have_entry (stage_of lines) ≡ true = sym (stand_entry lines (spelled_place p) (content_of v)) ∙ ap (may_stand lines) (sym e) ∙ f.stands in
    let was : old.standing.stage ≡ stage.Label = built.stands.stage ∙ in_label lines may in
    let now : new.standing.stage ≡ stage.Label = stands.stage ∙ ap (λ x. stage_of (x ∷ lines)) e in
    let order : comes_after place_before (option_map spelled_place old.standing.place) (spelled_place p) ≡ true = ap (λ o. comes_after place_before o (spelled_place p)) built.stands.place ∙ ap (is_in_order lines) (sym e) ∙ f.order in
    let room : next_index old.standing.place ≤ index_of p = index_rises old.standing.place p built.stands.low_place entry.limited order in
    let bare_places : list_all is_unknown (drop (next_index old.standing.place) (contents old.label.state)) ≡ true = subst (λ s. IsOpen s old.standing.place old.label.state) was built.open_places in
    let here : label_lines (label_view new.label) ≡ label_lines (label_view old.label) ++ l ∷ [] = ap (λ x. label_lines (label_view x)) labels ∙ entry_more old mid p v (next_index old.standing.place) entry puts room bare_places ∙ ap (λ x. label_lines (label_view old.label) ++ x ∷ []) (sym e) in
    let before : reverse lines ≡ header_line old.header ∷ ((closed_lines old ++ open_lines old) ++ label_lines (label_view old.label)) = built.spelled ∙ ap (λ s. lines_at s old) was in
    let one_more : next_index old.standing.place ≤ index_of p + 1 = omega arith in
    record {
      stands = stands;
      sound = sound;
      spelled = subst (λ s. reverse (l ∷ lines) ≡ lines_at s new) (sym now) (last_end l lines ∙ ap (λ ls. ls ++ l ∷ []) before
          ∙ ap (λ ls. header_line old.header ∷ ls) (append_assoc (closed_lines old ++ open_lines old) (label_lines (label_view old.label)) (l ∷ []))
          ∙ sym (rw (a, puts.keeps.header, same, puts.functions, opened, puts.function, here) refl));
      open_places = subst (λ s. IsOpen s new.standing.place new.label.state) (sym now) (subst (λ o. IsOpen stage.Label o new.label.state) (sym at)
          (ap (λ s. list_all is_unknown (drop (index_of p + 1) (contents s))) (ap (λ x. x.state) labels) ∙ ap (λ xs. list_all is_unknown (drop (index_of p + 1) xs)) puts.said
          ∙ ap (list_all is_unknown) (behind_put (index_of p) (contents old.label.state) v) ∙ later (next_index old.standing.place) (index_of p + 1) (contents old.label.state) one_more bare_places));
    }

pub ruled_some : (lines : List Line) (o : Option Line) (l : Line) → ruled lines o ≡ Ok l → o ≡ Some l
ruled_some lines None l e = cc
ruled_some lines (Some m) l e = by_tests (may_stand lines m) (is_canonical m && is_in_order lines m) (is_limited m && has_room lines m) e
  where
    by_tests : (a b c : Bool) → cond (not a) (Err flaws.Syntax) (cond (not b) (Err flaws.NotCanonical) (cond (not c) (Err flaws.Limit) (Ok m))) ≡ Ok l → Some m ≡ Some l
    by_tests true true true e = cc
    by_tests true true false e = cc
    by_tests true false c e = cc
    by_tests false b c e = cc

abbrev faulted : ℕ → Result Line PartFault → Result Line CertError
faulted n (Ok l) = Ok l
faulted n (Err f) = Err (fault_at n f)

judged_tests : (n : ℕ) (lines : List Line) (text : List ℕ) (l : Line) (a b c : Bool) → length text ≤ 256 → line_in text ≡ Some l → may_stand lines l ≡ a → (is_canonical l && is_in_order lines l) ≡ b → (is_limited l && has_room lines l) ≡ c
    → judged n lines text ≡ faulted n (cond (not a) (Err flaws.Syntax) (cond (not b) (Err flaws.NotCanonical) (cond (not c) (Err flaws.Limit) (Ok l))))
unfolding judged
judged_tests n lines text l true true true short e f g h = rw (le-ltb 256 (length text) short, e, f, g, h) refl
judged_tests n lines text l true true false short e f g h = rw (le-ltb 256 (length text) short, e, f, g, h) refl
judged_tests n lines text l true false c short e f g h = rw (le-ltb 256 (length text) short, e, f, g) refl
judged_tests n lines text l false b c short e f g h = rw (le-ltb 256 (length text) short, e, f) refl

judged_is : (n : ℕ) (lines : List Line) (text : List ℕ) (o : Option Line) → length text ≤ 256 → line_in text ≡ o → judged n lines text ≡ faulted n (ruled lines o)
unfolding judged
judged_is n lines text None short e = rw (le-ltb 256 (length text) short, e) refl
judged_is n lines text (Some l) short e = judged_tests n lines text l (may_stand lines l) (is_canonical l && is_in_order lines l) (is_limited l && has_room lines l) short e refl refl refl

pub judged_fine : (n : ℕ) (lines : List Line) (text : List ℕ) (l : Line) → length text ≤ 256 → ruled lines (line_in text) ≡ Ok l → judged n lines text ≡ Ok l
judged_fine n lines text l short e = judged_is n lines text (line_in text) short refl ∙ ap (faulted n) e

pub takes_flaw : (n : ℕ) (lines : List Line) (text : List ℕ) (new : Builder) (flaw : PartFault) → length text ≤ 256 → ruled lines (line_in text) ≡ Err flaw → Takes n lines text new (Err (fault_at n flaw))
takes_flaw n lines text new flaws.Syntax short e = judged_is n lines text (line_in text) short refl ∙ ap (faulted n) e
takes_flaw n lines text new flaws.NotCanonical short e = judged_is n lines text (line_in text) short refl ∙ ap (faulted n) e
takes_flaw n lines text new flaws.Limit short e = judged_is n lines text (line_in text) short refl ∙ ap (faulted n) e

pub takes_line : (n : ℕ) (lines : List Line) (text : List ℕ) (l : Line) (new : Builder) (u : Unit {0}) → length text ≤ 256 → ruled lines (line_in text) ≡ Ok l → (ruled lines (Some l) ≡ Ok l → IsBuilt (l ∷ lines) new) → Takes n lines text new (Ok u)
takes_line n lines text l new u short e built = let there = ruled_some lines (line_in text) l e in (l, judged_fine n lines text l short e, line_spelled text l there, built (ap (ruled lines) (sym there) ∙ e))

-- nothing is known of a place among those
unknown_in : (n i : ℕ) (xs : List SlotState) → n ≤ i → list_all is_unknown (drop n xs) ≡ true → get_or xs i (slot.Bytes 0) ≡ slot.Bytes 0
unknown_in n i [] h e = refl
unknown_in zero zero (slot.Bytes m ∷ xs) h e = ap slot.Bytes (eqb-true m 0 (both_true (eqb m 0) (list_all is_unknown xs) e).0)
unknown_in zero zero (slot.Word v ∷ xs) h e = cc
unknown_in zero zero (slot.Spilled p ∷ xs) h e = cc
unknown_in zero (suc i) (x ∷ xs) h e = unknown_in zero i xs (omega arith) (both_true (is_unknown x) (list_all is_unknown xs) e).1
unknown_in (suc n) zero (x ∷ xs) h e = absurd (omega arith)
unknown_in (suc n) (suc i) (x ∷ xs) h e = unknown_in n i xs (omega arith) e

-- nothing was said of the place of an entry that is fine
pub unsaid_place : (lines : List Line) (old : Builder) (l : Line) (p : Place) (v : SlotState) → IsBuilt lines old → ruled lines (Some l) ≡ Ok l → l ≡ Line.entry (spelled_place p) (content_of v) → IsEntry p v
    → get_or (contents old.label.state) (index_of p) (slot.Bytes 0) ≡ slot.Bytes 0
unsaid_place lines old l p v built fine e entry =
    let f = ruled_fine lines l l fine in
    let may : may_have_entry (stage_of lines) ≡ true = sym (stand_entry lines (spelled_place p) (content_of v)) ∙ ap (may_stand lines) (sym e) ∙ f.stands in
    let was : old.standing.stage ≡ stage.Label = built.stands.stage ∙ in_label lines may in
    let order : comes_after place_before (option_map spelled_place old.standing.place) (spelled_place p) ≡ true = ap (λ o. comes_after place_before o (spelled_place p)) built.stands.place ∙ ap (is_in_order lines) (sym e) ∙ f.order in
    let room : next_index old.standing.place ≤ index_of p = index_rises old.standing.place p built.stands.low_place entry.limited order in
    let bare_places : list_all is_unknown (drop (next_index old.standing.place) (contents old.label.state)) ≡ true = subst (λ s. IsOpen s old.standing.place old.label.state) was built.open_places in
    unknown_in (next_index old.standing.place) (index_of p) (contents old.label.state) room bare_places

-- a line that is fine by its text is so by itself
pub fine_itself : (lines : List Line) (o : Option Line) (l : Line) → ruled lines o ≡ Ok l → ruled lines (Some l) ≡ Ok l
fine_itself lines o l e = ap (ruled lines) (sym (ruled_some lines o l e)) ∙ e
