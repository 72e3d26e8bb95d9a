-- What stands of a text when some of its lines are taken.
use Rattle.std.proofs.Common.{◌≡◌, ◌≢◌, ℕ, ◌+◌, ◌<◌, ◌≤◌, Bool, true, false, cond, eqb, List, [], ◌∷◌, ◌++◌, reverse, length, Option, Some, None, Result, Ok, Err, refl, sym, ap, ◌∙◌, arith, append_assoc, append-nil, length-append, lt-ltb}
use Rattle.std.specs.Prelude.{IfSome}
use Rattle.std.specs.Io.KnownBytes.{Consumes, IsAtEnd}
use Rattle.std.specs.List.{slice_split, onto_first, AllByRecursion}
use Rattle.std.proofs.lemmas.List.Elements.{recursion_from_All}
use Rattle.std.proofs.lemmas.Bool.{ne_eqb, le-ltb, eqb-true}
use Rattle.std.proofs.lemmas.Grind.{flat_map-append}
use Rattle.std.proofs.lemmas.List.{reverse-append}
use Rattle.bpf_cert.specs.Line.{Line, line_text}
use Rattle.bpf_cert.specs.Spelling.{lines_text}
use Rattle.bpf_cert.specs.Faults.{judged, rest_fault, fault_from, text_fault, is_ended, Ending, complete, failed}
use Rattle.bpf_cert.specs.declared.error.CertError.{CertError}
use Rattle.bpf_cert.specs.declared.error.CertError.TheVariants.{Syntax, NotCanonical, Limit, Memory, Read}
use Rattle.bpf_cert.specs.View.{CertificateView}
use Rattle.bpf_streams.specs.declared.line_reader.LineStop.{LineStop}
use Rattle.bpf_streams.specs.declared.line_reader.LineStop.TheVariants as stop
use Rattle.bpf_cert.specs.ReadAnswers.{IsFaultOf, FailsAt}
use Rattle.bpf_cert.specs.Certificates.{Spells}
use Rattle.bpf_cert.specs.code.Building.{Takes, Finishes}
use Rattle.bpf_cert.specs.declared.building.Builder.{Builder}
use Rattle.bpf_cert.specs.code.Behind.{AnswersBehindEnd}
use Rattle.bpf_streams.specs.Taken.{IsOneLine, TakesLine}
use Rattle.std.specs.Prelude.{IfOk, IfErr}

abbrev pub pieces : List ℕ → List (List ℕ)
pieces text = slice_split (λ c. eqb c 10) text

abbrev pub NoEnd : List ℕ → Type 0
NoEnd line = AllByRecursion (λ b. b ≢ 10) line

no_end : (line : List ℕ) → IsOneLine line → NoEnd line
no_end line one = recursion_from_All (λ b. b ≢ 10) line one

pub pieces_some : (text : List ℕ) → (w : List ℕ) × (ws : List (List ℕ)) × (pieces text ≡ w ∷ ws)
pieces_some [] = ([], [], refl)
pieces_some (x ∷ xs) = let s = pieces_some xs in
    elim (eqb x 10) as (λ b. (w : List ℕ) × (ws : List (List ℕ)) × (cond b ([] ∷ pieces xs) (onto_first x (pieces xs)) ≡ w ∷ ws)) [
      | true ↦ ([], pieces xs, refl)
      | false ↦ (x ∷ s.0, s.1, ap (onto_first x) s.2)
    ]

pub pieces_front : (line rest : List ℕ) → NoEnd line → (w : List ℕ) (ws : List (List ℕ)) → pieces rest ≡ w ∷ ws → pieces (line ++ rest) ≡ (line ++ w) ∷ ws
pieces_front [] rest clean w ws e = e
pieces_front (x ∷ xs) rest clean w ws e = rw (ne_eqb x 10 clean.0) (ap (onto_first x) (pieces_front xs rest clean.1 w ws e))

pub pieces_line : (line rest : List ℕ) → IsOneLine line → pieces (line ++ 10 ∷ rest) ≡ line ∷ pieces rest
pieces_line line rest one = pieces_front line (10 ∷ rest) (no_end line one) [] (pieces rest) refl ∙ ap (λ z. z ∷ pieces rest) (append-nil line)

pieces_one : (line : List ℕ) → IsOneLine line → pieces line ≡ line ∷ []
pieces_one line one = ap pieces (sym (append-nil line)) ∙ pieces_front line [] (no_end line one) [] [] refl ∙ ap (λ z. z ∷ []) (append-nil line)

from_fine : (e : Ending) (n : ℕ) (before : List Line) (line w : List ℕ) (ws : List (List ℕ)) (l : Line)
    → is_ended before ≡ false → judged n before line ≡ Ok l → fault_from e n before (line ∷ w ∷ ws) ≡ fault_from e (n + 1) (l ∷ before) (w ∷ ws)
unfolding fault_from
from_fine e n before line w ws l going fine = rw (going, fine) refl

from_bad : (e : Ending) (n : ℕ) (before : List Line) (line w : List ℕ) (ws : List (List ℕ)) (f : CertError)
    → is_ended before ≡ false → judged n before line ≡ Err f → fault_from e n before (line ∷ w ∷ ws) ≡ Some f
unfolding fault_from
from_bad e n before line w ws f going bad = rw (going, bad) refl

pub next_fine : (e : Ending) (n : ℕ) (before : List Line) (line q : List ℕ) (l : Line)
    → is_ended before ≡ false → judged n before line ≡ Ok l → fault_from e n before (line ∷ pieces q) ≡ fault_from e (n + 1) (l ∷ before) (pieces q)
next_fine e n before line q l going fine = let s = pieces_some q in rw (s.2) (from_fine e n before line s.0 s.1 l going fine)

next_bad : (e : Ending) (n : ℕ) (before : List Line) (line q : List ℕ) (f : CertError)
    → is_ended before ≡ false → judged n before line ≡ Err f → fault_from e n before (line ∷ pieces q) ≡ Some f
next_bad e n before line q f going bad = let s = pieces_some q in rw (s.2) (from_bad e n before line s.0 s.1 f going bad)

-- The lines before were taken from the text, without fault, and the rest is left.
pub record Progress (text rest : List ℕ) (n : ℕ) (before : List Line) : Type 0 where
  pub taken : List ℕ
  pub whole : text ≡ taken ++ rest
  pub same : taken ≡ lines_text (reverse before)
  pub faults : (e : Ending) (p : List ℕ) → text_fault e (taken ++ p) ≡ fault_from e n before (pieces p)

abbrev pub Progresses : Option (List ℕ) → Option (List ℕ) → ℕ → List Line → Type 0
Progresses None rest n before = Unit {0}
Progresses (Some text) None n before = ⊥
Progresses (Some text) (Some rest) n before = Progress text rest n before

pub start : (r : Option (List ℕ)) → Progresses r r 1 []
unfolding text_fault
start None = tt
start (Some text) = record { taken = []; whole = refl; same = refl; faults = λ e p. refl }

advanced : (text rest left line : List ℕ) (n : ℕ) (before : List Line) (l : Line) → Progress text rest n before → rest ≡ (line ++ 10 ∷ []) ++ left
    → IsOneLine line → is_ended before ≡ false → judged n before line ≡ Ok l → line ≡ line_text l → Progress text left (n + 1) (l ∷ before)
advanced text rest left line n before l p took one going fine spelled = record {
  taken = p.taken ++ (line ++ 10 ∷ []);
  whole = p.whole ∙ ap (λ z. p.taken ++ z) took ∙ sym (append_assoc p.taken (line ++ 10 ∷ []) left);
  same = ap (λ z. z ++ (line ++ 10 ∷ [])) p.same ∙ ap (λ z. lines_text (reverse before) ++ (z ++ 10 ∷ [])) spelled
      ∙ ap (λ z. lines_text (reverse before) ++ z) (sym (append-nil (line_text l ++ 10 ∷ [])))
      ∙ sym (flat_map-append (λ m. line_text m ++ 10 ∷ []) (reverse before) (l ∷ []))
      ∙ ap lines_text (sym (reverse-append (l ∷ []) before));
  faults = λ e q. ap (text_fault e) (append_assoc p.taken (line ++ 10 ∷ []) q ∙ ap (λ z. p.taken ++ z) (append_assoc line (10 ∷ []) q))
      ∙ p.faults e (line ++ 10 ∷ q) ∙ ap (fault_from e n before) (pieces_line line q one) ∙ next_fine e n before line q l going fine;
}

pub advance : (text old new : Option (List ℕ)) (line : List ℕ) (n : ℕ) (before : List Line) (l : Line) → Progresses text old n before → Consumes old new (line ++ 10 ∷ [])
    → IsOneLine line → is_ended before ≡ false → judged n before line ≡ Ok l → line ≡ line_text l → Progresses text new (n + 1) (l ∷ before)
advance None old new line n before l p took one going fine spelled = tt
advance (Some text) None new line n before l p took one going fine spelled = absurd p
advance (Some text) (Some rest) None line n before l p took one going fine spelled = absurd took
advance (Some text) (Some rest) (Some left) line n before l p took one going fine spelled = advanced text rest left line n before l p took one going fine spelled

-- a fault of the text, where it is known
abbrev pub HasFault : Option (List ℕ) → CertError → Type 0
HasFault text f = IfSome text (λ t. text_fault complete t ≡ Some f)

-- what the rest shows of the whole
shown : (text rest : List ℕ) (n : ℕ) (before : List Line) (f : CertError) → Progress text rest n before
    → fault_from complete n before (pieces rest) ≡ Some f → text_fault complete text ≡ Some f
shown text rest n before f p e = ap (text_fault complete) p.whole ∙ p.faults complete rest ∙ e

pub bad_line : (text old new : Option (List ℕ)) (line : List ℕ) (n : ℕ) (before : List Line) (f : CertError) → Progresses text old n before → Consumes old new (line ++ 10 ∷ [])
    → IsOneLine line → is_ended before ≡ false → judged n before line ≡ Err f → HasFault text f
bad_line None old new line n before f p took one going bad = tt
bad_line (Some text) None new line n before f p took one going bad = absurd p
bad_line (Some text) (Some rest) None line n before f p took one going bad = absurd took
bad_line (Some text) (Some rest) (Some left) line n before f p took one going bad =
    shown text rest n before f p (ap (fault_from complete n before) (ap pieces (took ∙ append_assoc line (10 ∷ []) left) ∙ pieces_line line left one) ∙ next_bad complete n before line left f going bad)

-- an unfinished line at the end
rest_unfinished : (n : ℕ) (before : List Line) (line : List ℕ) → is_ended before ≡ false → length line ≤ 256 → fault_from complete n before (line ∷ []) ≡ Some (Syntax n)
unfolding fault_from rest_fault
rest_unfinished n before line going short = rw (going, le-ltb 256 (length line) short) refl

pub unfinished : (text old new : Option (List ℕ)) (line : List ℕ) (n : ℕ) (before : List Line) → Progresses text old n before → Consumes old new line → IsAtEnd new
    → IsOneLine line → length line ≤ 256 → is_ended before ≡ false → HasFault text (Syntax n)
unfinished None old new line n before p took end one short going = tt
unfinished (Some text) None new line n before p took end one short going = absurd p
unfinished (Some text) (Some rest) None line n before p took end one short going = absurd took
unfinished (Some text) (Some rest) (Some left) line n before p took end one short going =
    let whole : rest ≡ line = took ∙ ap (λ z. line ++ z) end ∙ append-nil line in
    shown text rest n before (Syntax n) p (ap (fault_from complete n before) (ap pieces whole ∙ pieces_one line one) ∙ rest_unfinished n before line going short)

-- a line that the reader's failure cuts
rest_failed : (n : ℕ) (before : List Line) (line : List ℕ) → is_ended before ≡ false → length line ≤ 256 → fault_from failed n before (line ∷ []) ≡ Some (Read n)
unfolding fault_from rest_fault
rest_failed n before line going short = rw (going, le-ltb 256 (length line) short) refl

pub cut : (text old new : Option (List ℕ)) (line : List ℕ) (n : ℕ) (before : List Line) → Progresses text old n before → Consumes old new line
    → IsOneLine line → length line ≤ 256 → is_ended before ≡ false → FailsAt text new (Read n)
cut None old new line n before p took one short going = tt
cut (Some text) None new line n before p took one short going = absurd p
cut (Some text) (Some rest) None line n before p took one short going = absurd took
cut (Some text) (Some rest) (Some left) line n before p took one short going = (
  p.taken ++ line,
  p.whole ∙ ap (λ z. p.taken ++ z) took ∙ sym (append_assoc p.taken line left),
  p.faults failed line ∙ ap (fault_from failed n before) (pieces_one line one) ∙ rest_failed n before line going short,
)

-- a line that goes on behind 256 bytes
pub long_piece : (e : Ending) (n : ℕ) (before : List Line) (w : List ℕ) (ws : List (List ℕ)) → is_ended before ≡ false → 256 < length w → fault_from e n before (w ∷ ws) ≡ Some (Limit n)
unfolding fault_from rest_fault judged
long_piece e n before w [] going long = rw (going, lt-ltb 256 (length w) long) refl
long_piece e n before w (v ∷ vs) going long = rw (going, lt-ltb 256 (length w) long) refl

pub too_long : (text old new : Option (List ℕ)) (line : List ℕ) (b n : ℕ) (before : List Line) → Progresses text old n before → Consumes old new (line ++ b ∷ [])
    → IsOneLine line → b ≢ 10 → length line ≡ 256 → is_ended before ≡ false → HasFault text (Limit n)
too_long None old new line b n before p took one other full going = tt
too_long (Some text) None new line b n before p took one other full going = absurd p
too_long (Some text) (Some rest) None line b n before p took one other full going = absurd took
too_long (Some text) (Some rest) (Some left) line b n before p took one other full going =
    let s = pieces_some left in
    let split : pieces rest ≡ (line ++ (b ∷ s.0)) ∷ s.1 = ap pieces (took ∙ append_assoc line (b ∷ []) left)
    ∙ pieces_front line (b ∷ left) (no_end line one) (b ∷ s.0) s.1 (pieces_front (b ∷ []) left (other, tt) s.0 s.1 s.2) in
    shown text rest n before (Limit n) p (ap (fault_from complete n before) split
    ∙ long_piece complete n before (line ++ (b ∷ s.0)) s.1 going (omega (arith, length-append line (b ∷ s.0))))

-- bytes behind `end`
pub ended_more : (e : Ending) (n : ℕ) (before : List Line) (w v : List ℕ) (ws : List (List ℕ)) → is_ended before ≡ true → fault_from e n before (w ∷ v ∷ ws) ≡ Some (Syntax n)
unfolding fault_from
ended_more e n before w v ws ended = rw ended refl

pub ended_byte : (e : Ending) (n : ℕ) (before : List Line) (b : ℕ) (w : List ℕ) (ws : List (List ℕ)) → is_ended before ≡ true → fault_from e n before ((b ∷ w) ∷ ws) ≡ Some (Syntax n)
unfolding fault_from rest_fault
ended_byte e n before b w [] ended = rw ended refl
ended_byte e n before b w (v ∷ vs) ended = rw ended refl

ended_some : (n : ℕ) (before : List Line) (b : ℕ) (bs : List ℕ) → is_ended before ≡ true → fault_from complete n before (pieces (b ∷ bs)) ≡ Some (Syntax n)
ended_some n before b bs ended = let s = pieces_some bs in
    elim (eqb b 10) as (λ x. fault_from complete n before (cond x ([] ∷ pieces bs) (onto_first b (pieces bs))) ≡ Some (Syntax n)) [
      | true ↦ rw (s.2) (ended_more complete n before [] s.0 s.1 ended)
      | false ↦ rw (s.2) (ended_byte complete n before b s.0 s.1 ended)
    ]

pub behind_end : (text old new : Option (List ℕ)) (xs : List ℕ) (n : ℕ) (before : List Line) → Progresses text old n before → Consumes old new xs → 0 < length xs
    → is_ended before ≡ true → HasFault text (Syntax n)
behind_end None old new xs n before p took some ended = tt
behind_end (Some text) None new xs n before p took some ended = absurd p
behind_end (Some text) (Some rest) None xs n before p took some ended = absurd took
behind_end (Some text) (Some rest) (Some left) [] n before p took some ended = absurd (omega arith)
behind_end (Some text) (Some rest) (Some left) (b ∷ bs) n before p took some ended =
    shown text rest n before (Syntax n) p (ap (λ z. fault_from complete n before (pieces z)) took ∙ ended_some n before b (bs ++ left) ended)

-- nothing behind `end`
pub finished : (text old new : Option (List ℕ)) (n : ℕ) (before : List Line) → Progresses text old n before → Consumes old new [] → IsAtEnd new
    → IfSome text (λ t. t ≡ lines_text (reverse before))
finished None old new n before p took end = tt
finished (Some text) None new n before p took end = absurd p
finished (Some text) (Some rest) None n before p took end = absurd took
finished (Some text) (Some rest) (Some left) n before p took end = p.whole ∙ ap (λ z. p.taken ++ z) (took ∙ end) ∙ append-nil p.taken ∙ p.same

failed_at_end : (n : ℕ) (before : List Line) → is_ended before ≡ true → fault_from failed n before ([] ∷ []) ≡ Some (Read n)
unfolding fault_from rest_fault
failed_at_end n before ended = rw ended refl

pub cut_behind : (text old new : Option (List ℕ)) (n : ℕ) (before : List Line) → Progresses text old n before → Consumes old new [] → is_ended before ≡ true → FailsAt text new (Read n)
cut_behind None old new n before p took ended = tt
cut_behind (Some text) None new n before p took ended = absurd p
cut_behind (Some text) (Some rest) None n before p took ended = absurd took
cut_behind (Some text) (Some rest) (Some left) n before p took ended =
    (p.taken ++ [], p.whole ∙ ap (λ z. z ++ rest) (sym (append-nil p.taken)) ∙ ap (λ z. (p.taken ++ []) ++ z) took, p.faults failed [] ∙ failed_at_end n before ended)

-- what is answered where the reader has these bytes
abbrev pub Gives : Option (List ℕ) → Result CertificateView CertError → Type 0
Gives None r = Unit {0}
Gives (Some text) (Ok c) = Spells text c
Gives (Some text) (Err e) = IsFaultOf text e

-- what the faults of the text say of an answer

syntax_given : (text : Option (List ℕ)) (n : ℕ) → HasFault text (Syntax n) → Gives text (Err (Syntax n))
syntax_given None n h = tt
syntax_given (Some t) n h = h

limit_given : (text : Option (List ℕ)) (n : ℕ) → HasFault text (Limit n) → Gives text (Err (Limit n))
limit_given None n h = tt
limit_given (Some t) n h = h

cut_given : (text new : Option (List ℕ)) (n : ℕ) → FailsAt text new (Read n) → Gives text (Err (Read n))
cut_given None new n h = tt
cut_given (Some t) None n h = absurd h.1
cut_given (Some t) (Some rest) n h = (h.0, rest, h.1, h.2)

finished_given : (text : Option (List ℕ)) (before : List Line) (r : Result CertificateView CertError) → IfSome text (λ t. t ≡ lines_text (reverse before)) → Finishes before r → Gives text r
finished_given None before r e h = tt
finished_given (Some t) before (Ok c) e h = record { valid = h.valid; spelled = e ∙ ap lines_text h.same }
finished_given (Some t) before (Err f) e h = absurd h

nothing : (old new : Option (List ℕ)) (line : List ℕ) → length line ≡ 0 → Consumes old new line → Consumes old new []
nothing old new [] e took = took
nothing old new (x ∷ xs) e took = absurd (omega arith)

positive : (line : List ℕ) → eqb (length line) 0 ≡ false → 0 < length line
positive [] e = cc
positive (x ∷ xs) e = omega arith

pub ended_given : (text old new : Option (List ℕ)) (line : List ℕ) (s : LineStop) (is_empty : Bool) (n : ℕ) (before : List Line) (r : Result CertificateView CertError)
    → Progresses text old n before → TakesLine 256 old new line s → is_empty ≡ eqb (length line) 0 → is_ended before ≡ true → AnswersBehindEnd s is_empty n before r → Gives text r
ended_given text old new line stop.End true n before r p took bare ended a =
    finished_given text before r (finished text old new n before p (nothing old new line (eqb-true (length line) 0 (sym bare)) took.0) took.1) a
ended_given text old new line stop.End false n before r p took bare ended a =
    rw a (syntax_given text n (behind_end text old new line n before p took.0 (positive line (sym bare)) ended))
ended_given text old new line stop.Failed true n before r p took bare ended a =
    rw a (cut_given text new n (cut_behind text old new n before p (nothing old new line (eqb-true (length line) 0 (sym bare)) took) ended))
ended_given text old new line stop.Failed false n before r p took bare ended a =
    rw a (syntax_given text n (behind_end text old new line n before p took (positive line (sym bare)) ended))
ended_given text old new line stop.LineEnd is_empty n before r p took bare ended a =
    rw a (syntax_given text n (behind_end text old new (line ++ 10 ∷ []) n before p took (omega (arith, length-append line (10 ∷ []))) ended))
ended_given text old new line stop.Long is_empty n before r p took bare ended a =
    rw a (syntax_given text n (behind_end text old new (line ++ took.0 ∷ []) n before p took.3 (omega (arith, length-append line (took.0 ∷ []))) ended))

pub end_given : (text old new : Option (List ℕ)) (line : List ℕ) (n : ℕ) (before : List Line) → Progresses text old n before → Consumes old new line → IsAtEnd new
    → IsOneLine line → length line ≤ 256 → is_ended before ≡ false → Gives text (Err (Syntax n))
end_given text old new line n before p took end one short going = syntax_given text n (unfinished text old new line n before p took end one short going)

pub failed_given : (text old new : Option (List ℕ)) (line : List ℕ) (n : ℕ) (before : List Line) → Progresses text old n before → Consumes old new line
    → IsOneLine line → length line ≤ 256 → is_ended before ≡ false → Gives text (Err (Read n))
failed_given text old new line n before p took one short going = cut_given text new n (cut text old new line n before p took one short going)

pub long_given : (text old new : Option (List ℕ)) (line : List ℕ) (n : ℕ) (before : List Line) → Progresses text old n before → TakesLine 256 old new line stop.Long
    → IsOneLine line → is_ended before ≡ false → Gives text (Err (Limit n))
long_given text old new line n before p took one going = limit_given text n (too_long text old new line took.0 n before p took.3 one took.1 took.2 going)

pub bad_given : (text old new : Option (List ℕ)) (line : List ℕ) (n : ℕ) (before : List Line) (after : Builder) (f : CertError) → Progresses text old n before → Consumes old new (line ++ 10 ∷ [])
    → IsOneLine line → is_ended before ≡ false → Takes n before line after (Err f) → Gives text (Err f)
bad_given None old new line n before after f p took one going bad = tt
bad_given (Some t) old new line n before after (Syntax k) p took one going bad = bad_line (Some t) old new line n before (Syntax k) p took one going bad
bad_given (Some t) old new line n before after (NotCanonical k) p took one going bad = bad_line (Some t) old new line n before (NotCanonical k) p took one going bad
bad_given (Some t) old new line n before after (Limit k) p took one going bad = bad_line (Some t) old new line n before (Limit k) p took one going bad
bad_given (Some t) old new line n before after Memory p took one going bad = tt
bad_given (Some t) old new line n before after (Read k) p took one going bad = absurd bad

pub fine_given : (text old new : Option (List ℕ)) (line : List ℕ) (n : ℕ) (before : List Line) (after : Builder) (u : Unit {0}) → Progresses text old n before → Consumes old new (line ++ 10 ∷ [])
    → IsOneLine line → is_ended before ≡ false → (fine : Takes n before line after (Ok u)) → Progresses text new (n + 1) (fine.0 ∷ before)
fine_given text old new line n before after u p took one going fine = advance text old new line n before fine.0 p took one going fine.1 fine.2

pub given_ok : (text : Option (List ℕ)) (r : Result CertificateView CertError) → Gives text r → IfOk r (λ c. IfSome text (λ t. Spells t c))
given_ok None (Ok c) g = tt
given_ok None (Err e) g = tt
given_ok (Some t) (Ok c) g = g
given_ok (Some t) (Err e) g = tt

pub given_err : (text : Option (List ℕ)) (r : Result CertificateView CertError) → Gives text r → IfErr r (λ e. IfSome text (λ t. IsFaultOf t e))
given_err None (Ok c) g = tt
given_err None (Err e) g = tt
given_err (Some t) (Ok c) g = tt
given_err (Some t) (Err e) g = g

pub memory_given : (text : Option (List ℕ)) → Gives text (Err Memory)
memory_given None = tt
memory_given (Some t) = tt

-- a fault of the reader, where one is answered

pub ended_fails : (text old new : Option (List ℕ)) (line : List ℕ) (s : LineStop) (is_empty : Bool) (n : ℕ) (before : List Line) (r : Result CertificateView CertError)
    → Progresses text old n before → TakesLine 256 old new line s → is_empty ≡ eqb (length line) 0 → is_ended before ≡ true → AnswersBehindEnd s is_empty n before r → IfErr r (λ e. FailsAt text new e)
ended_fails text old new line stop.End true n before (Ok c) p took bare ended a = tt
ended_fails text old new line stop.End true n before (Err e) p took bare ended a = absurd a
ended_fails text old new line stop.End false n before r p took bare ended a = rw a tt
ended_fails text old new line stop.Failed true n before r p took bare ended a =
    rw a (cut_behind text old new n before p (nothing old new line (eqb-true (length line) 0 (sym bare)) took) ended)
ended_fails text old new line stop.Failed false n before r p took bare ended a = rw a tt
ended_fails text old new line stop.LineEnd is_empty n before r p took bare ended a = rw a tt
ended_fails text old new line stop.Long is_empty n before r p took bare ended a = rw a tt

pub bad_fails : (text new : Option (List ℕ)) (line : List ℕ) (n : ℕ) (before : List Line) (after : Builder) (f : CertError) → Takes n before line after (Err f) → FailsAt text new f
bad_fails text new line n before after (Syntax k) bad = tt
bad_fails text new line n before after (NotCanonical k) bad = tt
bad_fails text new line n before after (Limit k) bad = tt
bad_fails text new line n before after Memory bad = tt
bad_fails text new line n before after (Read k) bad = absurd bad
