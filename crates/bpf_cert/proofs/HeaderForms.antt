-- First lines by their fields.
use Rattle.std.proofs.Common.{◌≡◌, ℕ, Bool, true, false, List, [], ◌∷◌, Option, Some, None, refl, sym, ap, subst, ◌∙◌}
use Rattle.std.specs.Prelude.{◌&&◌, codes}
use Rattle.std.specs.Str.{bytes_eq}
use Rattle.bpf_cert.specs.Numeral.{is_numeral}
use Rattle.bpf_cert.specs.Line.{Line, Lengths}
use Rattle.bpf_cert.specs.Reading.{◌>>=◌, numeral_in, one_length_in, two_lengths_in, header_in}
use Rattle.bpf_cert.specs.code.Standing.{HeaderIs, uncons, two_of, three_of}
use Rattle.bpf_cert.proofs.Bools.{both_true}
use Rattle.bpf_cert.proofs.StandingLemmas.{three_is, numeral_yes, numeral_no, uncons_none, uncons_some}

two_is : (fs : List (List ℕ)) (a b : List ℕ) → two_of fs ≡ Some (a, b) → fs ≡ a ∷ b ∷ []
two_is [] a b e = cc
two_is (x ∷ []) a b e = cc
two_is (x ∷ y ∷ []) a b e = let same : ◌≡◌ {A = List ℕ × List ℕ} (x, y) (a, b) = cc in ap (λ p. p.0 ∷ p.1 ∷ []) same
two_is (x ∷ y ∷ z ∷ zs) a b e = cc

pub no_one_length : (fs : List (List ℕ)) → two_of fs ≡ None → one_length_in fs ≡ None
unfolding one_length_in
no_one_length [] e = refl
no_one_length (x ∷ []) e = refl
no_one_length (x ∷ y ∷ []) e = cc
no_one_length (x ∷ y ∷ z ∷ zs) e = refl

pub no_two_lengths : (fs : List (List ℕ)) → three_of fs ≡ None → two_lengths_in fs ≡ None
unfolding two_lengths_in
no_two_lengths [] e = refl
no_two_lengths (x ∷ []) e = refl
no_two_lengths (x ∷ y ∷ []) e = refl
no_two_lengths (x ∷ y ∷ z ∷ []) e = cc
no_two_lengths (x ∷ y ∷ z ∷ w ∷ ws) e = refl

one_yes : (fs : List (List ℕ)) (l s : List ℕ) → two_of fs ≡ Some (l, s) → is_numeral l ≡ true → is_numeral s ≡ true → one_length_in fs ≡ Some (Line.header (Lengths.one l) s)
unfolding one_length_in ◌>>=◌
one_yes fs l s e g h = rw (two_is fs l s e, numeral_yes l g, numeral_yes s h) refl

one_no : (fs : List (List ℕ)) (l s : List ℕ) → two_of fs ≡ Some (l, s) → (is_numeral l && is_numeral s) ≡ false → one_length_in fs ≡ None
unfolding one_length_in ◌>>=◌
one_no fs l s e f = rw (two_is fs l s e) (by_tests (is_numeral l) (is_numeral s) refl refl f)
  where
    by_tests : (a b : Bool) → is_numeral l ≡ a → is_numeral s ≡ b → (a && b) ≡ false → (numeral_in l >>= (λ x. numeral_in s >>= (λ y. Some (Line.header (Lengths.one x) y)))) ≡ None
    by_tests false b g h k = rw (numeral_no l g) refl
    by_tests true false g h k = rw (numeral_yes l g, numeral_no s h) refl
    by_tests true true g h k = cc

pub one_then : (fs : List (List ℕ)) (l s : List ℕ) (x y z : Bool) → Some (l, s) ≡ two_of fs → x ≡ is_numeral l → y ≡ is_numeral s → z ≡ (x && y) → z ≡ true → HeaderIs (one_length_in fs) (Some (Line.header (Lengths.one l) s))
one_then fs l s x y z e g h i t = let inner = both_true x y (sym i ∙ t) in (rw (sym g ∙ inner.0, sym h ∙ inner.1) refl, one_yes fs l s (sym e) (sym g ∙ inner.0) (sym h ∙ inner.1))

pub one_else : (fs : List (List ℕ)) (l s : List ℕ) (x y z : Bool) → Some (l, s) ≡ two_of fs → x ≡ is_numeral l → y ≡ is_numeral s → z ≡ (x && y) → z ≡ false → one_length_in fs ≡ None
one_else fs l s x y z e g h i t = one_no fs l s (sym e) (ap (λ b. b && is_numeral s) (sym g) ∙ ap (λ b. x && b) (sym h) ∙ sym i ∙ t)

two_yes : (fs : List (List ℕ)) (l m s : List ℕ) → three_of fs ≡ Some (l, m, s) → is_numeral l ≡ true → is_numeral m ≡ true → is_numeral s ≡ true → two_lengths_in fs ≡ Some (Line.header (Lengths.range l m) s)
unfolding two_lengths_in ◌>>=◌
two_yes fs l m s e f g h = rw (three_is fs l m s e, numeral_yes l f, numeral_yes m g, numeral_yes s h) refl

two_no : (fs : List (List ℕ)) (l m s : List ℕ) → three_of fs ≡ Some (l, m, s) → ((is_numeral l && is_numeral m) && is_numeral s) ≡ false → two_lengths_in fs ≡ None
unfolding two_lengths_in ◌>>=◌
two_no fs l m s e f = rw (three_is fs l m s e) (by_tests (is_numeral l) (is_numeral m) (is_numeral s) refl refl refl f)
  where
    by_tests : (a b c : Bool) → is_numeral l ≡ a → is_numeral m ≡ b → is_numeral s ≡ c → ((a && b) && c) ≡ false
        → (numeral_in l >>= (λ x. numeral_in m >>= (λ y. numeral_in s >>= (λ z. Some (Line.header (Lengths.range x y) z))))) ≡ None
    by_tests false b c f g h k = rw (numeral_no l f) refl
    by_tests true false c f g h k = rw (numeral_yes l f, numeral_no m g) refl
    by_tests true true false f g h k = rw (numeral_yes l f, numeral_yes m g, numeral_no s h) refl
    by_tests true true true f g h k = cc

pub two_then : (fs : List (List ℕ)) (l m s : List ℕ) (x y z n k : Bool) → Some (l, m, s) ≡ three_of fs → x ≡ is_numeral l → y ≡ is_numeral m → z ≡ is_numeral s → n ≡ (x && y) → k ≡ (n && z) → k ≡ true
    → HeaderIs (two_lengths_in fs) (Some (Line.header (Lengths.range l m) s))
two_then fs l m s x y z n k e f g h i j t =
    let outer = both_true n z (sym j ∙ t) in let inner = both_true x y (sym i ∙ outer.0) in
    (rw (sym f ∙ inner.0, sym g ∙ inner.1, sym h ∙ outer.1) refl, two_yes fs l m s (sym e) (sym f ∙ inner.0) (sym g ∙ inner.1) (sym h ∙ outer.1))

pub two_else : (fs : List (List ℕ)) (l m s : List ℕ) (x y z n k : Bool) → Some (l, m, s) ≡ three_of fs → x ≡ is_numeral l → y ≡ is_numeral m → z ≡ is_numeral s → n ≡ (x && y) → k ≡ (n && z) → k ≡ false → two_lengths_in fs ≡ None
two_else fs l m s x y z n k e f g h i j t = two_no fs l m s (sym e)
    (ap (λ b. (b && is_numeral m) && is_numeral s) (sym f) ∙ ap (λ b. (x && b) && is_numeral s) (sym g) ∙ ap (λ b. (x && y) && b) (sym h) ∙ ap (λ b. b && z) (sym i) ∙ sym j ∙ t)

-- by the version

pub header_none : (fs : List (List ℕ)) → None ≡ uncons fs → header_in fs ≡ None
unfolding header_in
header_none fs e = rw (uncons_none fs (sym e)) refl

header_1 : (fs rest : List (List ℕ)) (v : List ℕ) → Some (v, rest) ≡ uncons fs → bytes_eq v (codes "1") ≡ true → header_in fs ≡ one_length_in rest
unfolding header_in
header_1 fs rest v e f = rw (uncons_some fs v rest (sym e), f) refl

header_2 : (fs rest : List (List ℕ)) (v : List ℕ) → Some (v, rest) ≡ uncons fs → bytes_eq v (codes "1") ≡ false → bytes_eq v (codes "2") ≡ true → header_in fs ≡ two_lengths_in rest
unfolding header_in
header_2 fs rest v e f g = rw (uncons_some fs v rest (sym e), f, g) refl

pub header_one : (fs rest : List (List ℕ)) (v : List ℕ) (o : Option Line) → Some (v, rest) ≡ uncons fs → bytes_eq v (codes "1") ≡ true → HeaderIs (one_length_in rest) o → HeaderIs (header_in fs) o
header_one fs rest v o e f h = subst (λ x. HeaderIs x o) (sym (header_1 fs rest v e f)) h

pub header_two : (fs rest : List (List ℕ)) (v : List ℕ) (o : Option Line) → Some (v, rest) ≡ uncons fs → bytes_eq v (codes "1") ≡ false → bytes_eq v (codes "2") ≡ true → HeaderIs (two_lengths_in rest) o → HeaderIs (header_in fs) o
header_two fs rest v o e f g h = subst (λ x. HeaderIs x o) (sym (header_2 fs rest v e f g)) h

pub header_other : (fs rest : List (List ℕ)) (v : List ℕ) → Some (v, rest) ≡ uncons fs → bytes_eq v (codes "1") ≡ false → bytes_eq v (codes "2") ≡ false → header_in fs ≡ None
unfolding header_in
header_other fs rest v e f g = rw (uncons_some fs v rest (sym e), f, g) refl
