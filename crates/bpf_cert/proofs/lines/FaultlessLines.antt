-- A text without fault is of fine lines up to `end`, so it is a certificate's.
use Rattle.std.proofs.Common.{◌≡◌, ℕ, ◌+◌, Bool, true, false, cond, not, ltb, List, [], ◌∷◌, ◌++◌, length, map, Option, Some, None, Result, Ok, Err, refl, sym, ap, ◌∙◌, append_assoc}
use Rattle.std.specs.Prelude.{◌&&◌}
use Rattle.std.specs.List.{list_all, join_with_byte}
use Rattle.std.proofs.lemmas.List.Splits.{join_with_byte-slice_split}
use Rattle.bpf_cert.specs.Line.{Line, is_line, line_text}
use Rattle.bpf_cert.specs.Reading.{line_in}
use Rattle.bpf_cert.specs.Spelling.{lines_text}
use Rattle.bpf_cert.specs.Faults.{is_canonical, is_limited, may_stand, is_in_order, has_room, judged, rest_fault, fault_from, text_fault, is_ended, complete}
use Rattle.bpf_cert.specs.declared.error.CertError.{CertError}
use Rattle.bpf_cert.specs.declared.error.CertError.TheVariants.{Syntax, NotCanonical, Limit}
use Rattle.bpf_cert.specs.Certificates.{FaultlessIsSpelled}
use Rattle.bpf_cert.proofs.Bools.{both_true}
use Rattle.bpf_cert.proofs.lines.LineForms.{line_exactly}
use Rattle.bpf_cert.proofs.AfterLemmas.{IsFine}
use Rattle.bpf_cert.proofs.fine.FineLines.{AreFine}
use Rattle.bpf_cert.proofs.ReadingLemmas.{pieces_some}
use Rattle.bpf_cert.proofs.said.SaidLines.{lines_said}

-- a text that was judged to be a line is the line's
record IsJudged (before : List Line) (text : List ℕ) (l : Line) : Type 0 where
  form : is_line l ≡ true
  spelled : text ≡ line_text l
  fine : IsFine before l

judged_is : (n : ℕ) (before : List Line) (text : List ℕ) (l : Line) → judged n before text ≡ Ok l → IsJudged before text l
unfolding judged
judged_is n before text l e = by_tests (ltb 256 (length text)) (line_in text) refl refl e
  where
    by_rules : (m : Line) (a b c : Bool) → may_stand before m ≡ a → (is_canonical m && is_in_order before m) ≡ b → (is_limited m && has_room before m) ≡ c → line_in text ≡ Some m
        → cond (not a) (Err (Syntax n)) (cond (not b) (Err (NotCanonical n)) (cond (not c) (Err (Limit n)) (Ok m))) ≡ Ok l → IsJudged before text l
    by_rules m true true true f g h i e =
        let x = both_true (is_canonical m) (is_in_order before m) g in
        let y = both_true (is_limited m) (has_room before m) h in
        let same : m ≡ l = cc in
        let line = (line_exactly text m).0 i in
        rw (sym same) (record { form = line.0; spelled = line.1; fine = record { stands = f; canonical = x.0; order = x.1; limited = y.0; room = y.1 } })
    by_rules m true true false f g h i e = cc
    by_rules m true false c f g h i e = cc
    by_rules m false b c f g h i e = cc

    by_tests : (a : Bool) (o : Option Line) → ltb 256 (length text) ≡ a → line_in text ≡ o → judged n before text ≡ Ok l → IsJudged before text l
    by_tests true o g h e = let bad : ◌≡◌ {A = Result Line CertError} (Err (Limit n)) (Ok l) = rw g at e in cc
    by_tests false None g h e = let bad : ◌≡◌ {A = Result Line CertError} (Err (Syntax n)) (Ok l) = rw (g, h) at e in cc
    by_tests false (Some m) g h e = by_rules m (may_stand before m) (is_canonical m && is_in_order before m) (is_limited m && has_room before m) refl refl refl h (rw (g, h) at e)

-- fine lines up to `end`, and no byte behind them
record HasLines (before : List Line) (ps : List (List ℕ)) : Type 0 where
  front : List Line
  fine : AreFine before (front ++ Line.end ∷ [])
  forms : list_all is_line front ≡ true
  same : ps ≡ map line_text (front ++ Line.end ∷ []) ++ [] ∷ []

-- behind `end`
nothing_behind : (n : ℕ) (before : List Line) (w : List ℕ) (ws : List (List ℕ)) → is_ended before ≡ true → fault_from complete n before (w ∷ ws) ≡ None → w ∷ ws ≡ [] ∷ []
unfolding fault_from rest_fault
nothing_behind n before [] [] ended e = refl
nothing_behind n before (x ∷ xs) [] ended e = let bad : ◌≡◌ {A = Option CertError} (Some (Syntax n)) None = rw ended at e in cc
nothing_behind n before w (v ∷ vs) ended e = let bad : ◌≡◌ {A = Option CertError} (Some (Syntax n)) None = rw ended at e in cc

-- a text that stops before `end`
cut_off : (n : ℕ) (before : List Line) (w : List ℕ) → is_ended before ≡ false → fault_from complete n before (w ∷ []) ≡ None → ⊥
unfolding fault_from rest_fault
cut_off n before w going e = by_test (ltb 256 (length w)) refl
  where
    by_test : (b : Bool) → ltb 256 (length w) ≡ b → ⊥
    by_test true g = let bad : ◌≡◌ {A = Option CertError} (Some (Limit n)) None = rw (going, g) at e in cc
    by_test false g = let bad : ◌≡◌ {A = Option CertError} (Some (Syntax n)) None = rw (going, g) at e in cc

end_only : (l : Line) (before : List Line) → is_ended (l ∷ before) ≡ true → l ≡ Line.end
end_only (Line.header _ _) before e = cc
end_only (Line.function _ _ _) before e = cc
end_only (Line.label _ _ _) before e = cc
end_only (Line.entry _ _) before e = cc
end_only Line.end before e = refl

has_lines : (n : ℕ) (before : List Line) (w : List ℕ) (ws : List (List ℕ)) → is_ended before ≡ false → fault_from complete n before (w ∷ ws) ≡ None → HasLines before (w ∷ ws)
unfolding fault_from
has_lines n before w [] going e = absurd (cut_off n before w going e)
has_lines n before w (v ∷ vs) going e = by_answer (judged n before w) refl (λ l still rest. has_lines (n + 1) (l ∷ before) v vs still rest) e
  where
    by_line : (l : Line) (b : Bool) → is_ended (l ∷ before) ≡ b → IsJudged before w l → (is_ended (l ∷ before) ≡ false → fault_from complete (n + 1) (l ∷ before) (v ∷ vs) ≡ None → HasLines (l ∷ before) (v ∷ vs))
        → fault_from complete (n + 1) (l ∷ before) (v ∷ vs) ≡ None → HasLines before (w ∷ v ∷ vs)
    by_line l true g j next rest =
        let last : l ≡ Line.end = end_only l before g in
        let text : w ≡ line_text Line.end = j.spelled ∙ ap line_text last in
        let behind : v ∷ vs ≡ [] ∷ [] = nothing_behind (n + 1) (l ∷ before) v vs g rest in
        record { front = []; fine = (going, rw last at j.fine, tt); forms = refl; same = ap (λ z. z ∷ v ∷ vs) text ∙ ap (λ z. line_text Line.end ∷ z) behind }
    by_line l false g j next rest = let more = next g rest in record {
      front = l ∷ more.front;
      fine = (going, j.fine, more.fine);
      forms = rw (j.form, more.forms) refl;
      same = ap (λ z. z ∷ v ∷ vs) j.spelled ∙ ap (λ z. line_text l ∷ z) more.same;
    }

    by_answer : (r : Result Line CertError) → judged n before w ≡ r → ((l : Line) → is_ended (l ∷ before) ≡ false → fault_from complete (n + 1) (l ∷ before) (v ∷ vs) ≡ None → HasLines (l ∷ before) (v ∷ vs))
        → fault_from complete n before (w ∷ v ∷ vs) ≡ None → HasLines before (w ∷ v ∷ vs)
    by_answer (Err f) h next e = let bad : ◌≡◌ {A = Option CertError} (Some f) None = rw (going, h) at e in cc
    by_answer (Ok l) h next e = by_line l (is_ended (l ∷ before)) refl (judged_is n before w l h) (next l) (rw (going, h) at e)

-- the lines' texts, joined again
joined_lines : (ls : List Line) → join_with_byte 10 (map line_text ls ++ [] ∷ []) ≡ lines_text ls
joined_lines [] = refl
joined_lines (l ∷ []) = sym (append_assoc (line_text l) (10 ∷ []) [])
joined_lines (l ∷ m ∷ ls) = ap (λ z. line_text l ++ 10 ∷ z) (joined_lines (m ∷ ls)) ∙ sym (append_assoc (line_text l) (10 ∷ []) (lines_text (m ∷ ls)))

pub spelled : FaultlessIsSpelled
unfolding text_fault
spelled text e =
    let s = pieces_some text in
    let has = has_lines 1 [] s.0 s.1 refl (ap (fault_from complete 1 []) (sym s.2) ∙ e) in
    let of = lines_said has.front has.fine has.forms in
    let whole : text ≡ lines_text (has.front ++ Line.end ∷ []) = sym (join_with_byte-slice_split 10 text) ∙ ap (join_with_byte 10) (s.2 ∙ has.same) ∙ joined_lines (has.front ++ Line.end ∷ []) in
    (of.0, record { valid = of.1.valid; spelled = whole ∙ ap lines_text (sym of.1.same) })
