-- One turn of a loop that spells what a list holds.
use Rattle.std.proofs.Common.{◌≡◌, ℕ, zero, suc, ◌+◌, ◌<◌, ◌≤◌, List, [], ◌∷◌, ◌++◌, length, get_or, drop, Option, None, refl, sym, ap, ◌∙◌, append_assoc, append-nil, add-one, arith}
use Rattle.std.proofs.lemmas.List.{at_drop_all}
use Rattle.bpf_kept.specs.declared.notes.Note.{Note}
use Rattle.bpf_follows.specs.NotesText.{listed, note_line, note_lines}

drop_one : {X : Type 0} (xs : List X) (i : ℕ) (d : X) → i < length xs → drop i xs ≡ get_or xs i d ∷ drop (suc i) xs
drop_one [] i d h = absurd (omega arith)
drop_one (x ∷ xs) zero d h = refl
drop_one (x ∷ xs) (suc i) d h = drop_one xs i d (omega arith)

-- ---- elements

module _ {S A : Type 0} (spelled : S → ℕ → A → List ℕ) (next : A → S) (text all : List ℕ) (s : S) (i : ℕ) (xs : List A) where
  listed_next : (d : A) → i < length xs → listed spelled next s i (drop i xs) ≡ spelled s i (get_or xs i d) ++ listed spelled next (next (get_or xs i d)) (i + 1) (drop (i + 1) xs)
  unfolding listed
  listed_next d h =
      ap (listed spelled next s i) (drop_one xs i d h)
      ∙ ap (λ n. spelled s i (get_or xs i d) ++ listed spelled next (next (get_or xs i d)) (i + 1) (drop n xs)) (sym (add-one i))

  pub listed_put : (d : A) → i < length xs → text ++ listed spelled next s i (drop i xs) ≡ all
      → (text ++ spelled s i (get_or xs i d)) ++ listed spelled next (next (get_or xs i d)) (i + 1) (drop (i + 1) xs) ≡ all
  listed_put d h e =
      append_assoc text (spelled s i (get_or xs i d)) (listed spelled next (next (get_or xs i d)) (i + 1) (drop (i + 1) xs)) ∙ ap (λ t. text ++ t) (sym (listed_next d h)) ∙ e

  pub listed_done : length xs ≤ i → text ++ listed spelled next s i (drop i xs) ≡ all → text ≡ all
  unfolding listed
  listed_done h e = sym (append-nil text) ∙ sym (at_drop_all (λ l. text ++ listed spelled next s i l) xs i h) ∙ e

-- ---- lines

lines_next : (slot : ℕ) (notes : List (Option Note)) → slot < length notes → note_lines slot (drop slot notes) ≡ note_line slot (get_or notes slot None) ++ note_lines (slot + 1) (drop (slot + 1) notes)
unfolding note_lines
lines_next slot notes h = ap (note_lines slot) (drop_one notes slot None h) ∙ ap (λ n. note_line slot (get_or notes slot None) ++ note_lines (slot + 1) (drop n notes)) (sym (add-one slot))

pub lines_put : (text all : List ℕ) (slot : ℕ) (notes : List (Option Note)) → slot < length notes → text ++ note_lines slot (drop slot notes) ≡ all
    → (text ++ note_line slot (get_or notes slot None)) ++ note_lines (slot + 1) (drop (slot + 1) notes) ≡ all
lines_put text all slot notes h e = append_assoc text (note_line slot (get_or notes slot None)) (note_lines (slot + 1) (drop (slot + 1) notes)) ∙ ap (λ t. text ++ t) (sym (lines_next slot notes h)) ∙ e

pub lines_done : (text all : List ℕ) (slot : ℕ) (notes : List (Option Note)) → length notes ≤ slot → text ++ note_lines slot (drop slot notes) ≡ all → text ≡ all
unfolding note_lines
lines_done text all slot notes h e = sym (append-nil text) ∙ sym (at_drop_all (λ l. text ++ note_lines slot l) notes slot h) ∙ e
