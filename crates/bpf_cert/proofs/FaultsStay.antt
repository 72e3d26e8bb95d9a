-- A fault that the bytes so far show is the fault of each text that goes on from them.
use Rattle.std.proofs.Common.{◌≡◌, ℕ, ◌+◌, ◌<◌, Bool, true, false, cond, eqb, ltb, List, [], ◌∷◌, ◌++◌, length, Some, None, Result, Ok, Err, refl, sym, ap, ◌∙◌, arith, length-append}
use Rattle.std.specs.List.{onto_first}
use Rattle.std.proofs.lemmas.Bool.{ltb-true}
use Rattle.bpf_cert.specs.Line.{Line}
use Rattle.bpf_cert.specs.Faults.{judged, rest_fault, fault_from, text_fault, is_ended, Ending, complete, failed, unknown}
use Rattle.bpf_cert.specs.declared.error.CertError.{CertError}
use Rattle.bpf_cert.specs.declared.error.CertError.TheVariants.{Syntax, Limit}
use Rattle.bpf_cert.specs.Certificates.{FaultStays}
use Rattle.bpf_cert.proofs.ReadingLemmas.{pieces, pieces_some, long_piece, ended_more, ended_byte}

-- the pieces, where the last one goes on
abbrev going_on : List (List ℕ) → List ℕ → List (List ℕ) → List (List ℕ)
going_on [] w ws = w ∷ ws
going_on (p ∷ []) w ws = (p ++ w) ∷ ws
going_on (p ∷ q ∷ ps) w ws = p ∷ going_on (q ∷ ps) w ws

going_some : (ps : List (List ℕ)) (w : List ℕ) (ws : List (List ℕ)) → (v : List ℕ) × (vs : List (List ℕ)) × (going_on ps w ws ≡ v ∷ vs)
going_some [] w ws = (w, ws, refl)
going_some (p ∷ []) w ws = (p ++ w, ws, refl)
going_some (p ∷ q ∷ ps) w ws = (p, going_on (q ∷ ps) w ws, refl)

onto_going : (x : ℕ) (p : List ℕ) (ps : List (List ℕ)) (w : List ℕ) (ws : List (List ℕ)) → going_on (onto_first x (p ∷ ps)) w ws ≡ onto_first x (going_on (p ∷ ps) w ws)
onto_going x p [] w ws = refl
onto_going x p (q ∷ ps) w ws = refl

pieces_more : (text more : List ℕ) (w : List ℕ) (ws : List (List ℕ)) → pieces more ≡ w ∷ ws → pieces (text ++ more) ≡ going_on (pieces text) w ws
pieces_more [] more w ws e = e
pieces_more (x ∷ xs) more w ws e = let s = pieces_some xs in let rest = pieces_more xs more w ws e in by_test (eqb x 10) s.0 s.1 s.2 rest
  where
    by_test : (b : Bool) (p : List ℕ) (ps : List (List ℕ)) → pieces xs ≡ p ∷ ps → pieces (xs ++ more) ≡ going_on (pieces xs) w ws
        → cond b ([] ∷ pieces (xs ++ more)) (onto_first x (pieces (xs ++ more))) ≡ going_on (cond b ([] ∷ pieces xs) (onto_first x (pieces xs))) w ws
    by_test true p ps s rest = rw (rest, s) refl
    by_test false p ps s rest = rw (rest, s) (sym (onto_going x p ps w ws))

-- the bytes behind the last line end
rest_stays : (e : Ending) (n : ℕ) (before : List Line) (rest w : List ℕ) (ws : List (List ℕ)) (f : CertError) → fault_from unknown n before (rest ∷ []) ≡ Some f → fault_from e n before ((rest ++ w) ∷ ws) ≡ Some f
unfolding fault_from rest_fault
rest_stays e n before rest w ws f bad = by_tests (is_ended before) (ltb 256 (length rest)) rest refl refl refl bad
  where
    by_tests : (a b : Bool) (r : List ℕ) → is_ended before ≡ a → ltb 256 (length rest) ≡ b → r ≡ rest → fault_from unknown n before (r ∷ []) ≡ Some f → fault_from e n before ((r ++ w) ∷ ws) ≡ Some f
    by_tests true b [] g h i bad = let none : fault_from unknown n before ([] ∷ []) ≡ None = rw g refl in cc
    by_tests true b (x ∷ xs) g h i bad = let here : fault_from unknown n before ((x ∷ xs) ∷ []) ≡ Some (Syntax n) = rw g refl in ended_byte e n before x (xs ++ w) ws g ∙ sym here ∙ bad
    by_tests false true r g h i bad = let long : 256 < length rest = ltb-true 256 (length rest) h in let same : length r ≡ length rest = ap (λ z. length z) i in
        let here : fault_from unknown n before (r ∷ []) ≡ Some (Limit n) = rw (g, i, h) refl in
        long_piece e n before (r ++ w) ws g (omega (arith, length-append r w)) ∙ sym here ∙ bad
    by_tests false false r g h i bad = let none : fault_from unknown n before (r ∷ []) ≡ None = rw (g, i, h) refl in cc

from_stays : (e : Ending) (n : ℕ) (before : List Line) (ps : List (List ℕ)) (w : List ℕ) (ws : List (List ℕ)) (f : CertError) → fault_from unknown n before ps ≡ Some f → fault_from e n before (going_on ps w ws) ≡ Some f
unfolding fault_from
from_stays e n before [] w ws f bad = cc
from_stays e n before (p ∷ []) w ws f bad = rest_stays e n before p w ws f bad
from_stays e n before (p ∷ q ∷ ps) w ws f bad = let s = going_some (q ∷ ps) w ws in by_cases (is_ended before) (judged n before p) s.0 s.1 refl refl s.2 (λ l. from_stays e (n + 1) (l ∷ before) (q ∷ ps) w ws f) bad
  where
    by_cases : (a : Bool) (r : Result Line CertError) (v : List ℕ) (vs : List (List ℕ)) → is_ended before ≡ a → judged n before p ≡ r → going_on (q ∷ ps) w ws ≡ v ∷ vs
        → ((l : Line) → fault_from unknown (n + 1) (l ∷ before) (q ∷ ps) ≡ Some f → fault_from e (n + 1) (l ∷ before) (going_on (q ∷ ps) w ws) ≡ Some f)
        → fault_from unknown n before (p ∷ q ∷ ps) ≡ Some f → fault_from e n before (p ∷ going_on (q ∷ ps) w ws) ≡ Some f
    by_cases true r v vs g h s next bad = rw s (ended_more e n before p v vs g ∙ (rw g at bad))
    by_cases false (Err k) v vs g h s next bad = let same : Some k ≡ Some f = rw (g, h) at bad in rw (s, g, h) same
    by_cases false (Ok l) v vs g h s next bad = let after : fault_from unknown (n + 1) (l ∷ before) (q ∷ ps) ≡ Some f = rw (g, h) at bad in let goes = next l after in rw (s, g, h) (rw s at goes)

stays_so : (e : Ending) (text more : List ℕ) (f : CertError) → text_fault unknown text ≡ Some f → text_fault e (text ++ more) ≡ Some f
unfolding text_fault
stays_so e text more f bad = let s = pieces_some more in ap (fault_from e 1 []) (pieces_more text more s.0 s.1 s.2) ∙ from_stays e 1 [] (pieces text) s.0 s.1 f bad

pub stays : FaultStays
stays text more f bad = (stays_so complete text more f bad, stays_so failed text more f bad)
