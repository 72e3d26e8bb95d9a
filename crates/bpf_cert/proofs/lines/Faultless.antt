-- Lines that are fine and written make a text without fault, and the text has no other lines.
use Rattle.std.proofs.Common.{◌≡◌, ℕ, ◌+◌, List, [], ◌∷◌, ◌++◌, length, Some, None, Ok, refl, sym, ap, ◌∙◌, append_assoc}
use Rattle.std.proofs.lemmas.Bool.{le-ltb}
use Rattle.bpf_cert.specs.Line.{Line, line_text}
use Rattle.bpf_cert.specs.Reading.{line_in}
use Rattle.bpf_cert.specs.Spelling.{lines_text}
use Rattle.bpf_cert.specs.Faults.{judged, rest_fault, fault_from, text_fault, complete}
use Rattle.bpf_streams.specs.Taken.{IsOneLine}
use Rattle.bpf_cert.proofs.AfterLemmas.{IsFine}
use Rattle.bpf_cert.proofs.fine.FineLines.{AreFine, IsWritten, AreWritten}
use Rattle.bpf_cert.proofs.lines.LineAgain.{line_again}
use Rattle.bpf_cert.proofs.ReadingLemmas.{pieces, pieces_some, pieces_line, next_fine}

-- the first line of a text, and the text behind it
pieces_first : (l : Line) (ls : List Line) → IsOneLine (line_text l) → pieces (lines_text (l ∷ ls)) ≡ line_text l ∷ pieces (lines_text ls)
pieces_first l ls one = ap pieces (append_assoc (line_text l) (10 ∷ []) (lines_text ls)) ∙ pieces_line (line_text l) (lines_text ls) one

judged_written : (n : ℕ) (before : List Line) (l : Line) → IsFine before l → IsWritten l → judged n before (line_text l) ≡ Ok l
unfolding judged
judged_written n before l f w = rw (le-ltb 256 (length (line_text l)) w.short, line_again l w.form, f.stands, f.canonical, f.order, f.limited, f.room) refl

behind_end : (n : ℕ) (before : List Line) → fault_from complete n (Line.end ∷ before) (pieces []) ≡ None
unfolding fault_from rest_fault
behind_end n before = refl

faultless_from : (n : ℕ) (before ls : List Line) → AreFine before (ls ++ Line.end ∷ []) → AreWritten (ls ++ Line.end ∷ [])
    → fault_from complete n before (pieces (lines_text (ls ++ Line.end ∷ []))) ≡ None
faultless_from n before [] f w = next_fine complete n before (line_text Line.end) [] Line.end f.0 (judged_written n before Line.end f.1 w.0) ∙ behind_end (n + 1) before
faultless_from n before (l ∷ ls) f w = ap (fault_from complete n before) (pieces_first l (ls ++ Line.end ∷ []) w.0.one_line)
    ∙ next_fine complete n before (line_text l) (lines_text (ls ++ Line.end ∷ [])) l f.0 (judged_written n before l f.1 w.0)
    ∙ faultless_from (n + 1) (l ∷ before) ls f.2 w.1

pub fine_faultless : (ls : List Line) → AreFine [] (ls ++ Line.end ∷ []) → AreWritten (ls ++ Line.end ∷ []) → text_fault complete (lines_text (ls ++ Line.end ∷ [])) ≡ None
unfolding text_fault
fine_faultless ls f w = faultless_from 1 [] ls f w

same_line : (l m : Line) → IsWritten l → IsWritten m → line_text l ≡ line_text m → l ≡ m
same_line l m v w e = let same : Some l ≡ Some m = sym (line_again l v.form) ∙ ap line_in e ∙ line_again m w.form in cc

not_first : (m : Line) (ms : List Line) → IsWritten m → pieces [] ≡ pieces (lines_text (m ∷ ms)) → ⊥
not_first m ms w e = let s = pieces_some (lines_text ms) in
    let two : ◌≡◌ {A = List (List ℕ)} ([] ∷ []) (line_text m ∷ s.0 ∷ s.1) = e ∙ pieces_first m ms w.one_line ∙ ap (λ z. line_text m ∷ z) s.2 in cc

lines_of_pieces : (ls ms : List Line) → AreWritten ls → AreWritten ms → pieces (lines_text ls) ≡ pieces (lines_text ms) → ls ≡ ms
lines_of_pieces [] [] v w e = refl
lines_of_pieces [] (m ∷ ms) v w e = absurd (not_first m ms w.0 e)
lines_of_pieces (l ∷ ls) [] v w e = absurd (not_first l ls v.0 (sym e))
lines_of_pieces (l ∷ ls) (m ∷ ms) v w e =
    let both : ◌≡◌ {A = List (List ℕ)} (line_text l ∷ pieces (lines_text ls)) (line_text m ∷ pieces (lines_text ms)) = sym (pieces_first l ls v.0.one_line) ∙ e ∙ pieces_first m ms w.0.one_line in
    let first : line_text l ≡ line_text m = cc in
    let rest : pieces (lines_text ls) ≡ pieces (lines_text ms) = cc in
    ap (λ x. x ∷ ls) (same_line l m v.0 w.0 first) ∙ ap (λ z. m ∷ z) (lines_of_pieces ls ms v.1 w.1 rest)

pub lines_of_text : (ls ms : List Line) → AreWritten ls → AreWritten ms → lines_text ls ≡ lines_text ms → ls ≡ ms
lines_of_text ls ms v w e = lines_of_pieces ls ms v w (ap pieces e)
