-- The first part of a text.
use Rattle.std.proofs.Common.{◌≡◌, ℕ, ◌+◌, ◌<◌, true, false, List, [], ◌∷◌, ◌++◌, length, get_or, take, drop, All, sym, ap, ◌∙◌, arith, take-append-drop}
use Rattle.std.specs.List.{slice_split}
use Rattle.std.proofs.lemmas.List.{drop_more}
use Rattle.std.proofs.lemmas.List.Splits.{slice_split_none, slice_split_at}
use Rattle.std.proofs.lemmas.Grind.{common_steps}
use Rattle.bpf_classic.specs.Text.{is_border, parts}
use Rattle.bpf_classic.specs.declared.border.Border.{Border}

-- none of the first n bytes is a border
abbrev pub Lacks : Border → List ℕ → ℕ → Type 0
Lacks border text n = (k : ℕ) → k < n → is_border border (get_or text k 0) ≡ false

-- the first part ends at the first border
pub parts_at : (border : Border) (text : List ℕ) (at : ℕ) → at < length text → is_border border (get_or text at 0) ≡ true → Lacks border text at
    → parts border text ≡ take at text ∷ parts border (drop (at + 1) text)
parts_at border text at lt is lacks =
    let whole : text ≡ take at text ++ get_or text at 0 ∷ drop (at + 1) text = sym (take-append-drop at text) ∙ ap (λ zs. take at text ++ zs) (drop_more text at 0 lt) in
    let none : All (λ x. is_border border x ≡ false) (take at text) = λ k d lt'. let l : length (take at text) ≡ at = grind (arith, common_steps) in let inside : k < at = omega (arith, l) in let known = lacks k inside in let same : get_or (take at text) k d ≡ get_or text k 0 = grind (arith, common_steps) in ap (is_border border) same ∙ known in
    ap (slice_split (is_border border)) whole ∙ slice_split_at (is_border border) (take at text) (get_or text at 0) (drop (at + 1) text) none is

-- without a border the text is its one part
pub parts_none : (border : Border) (text : List ℕ) → Lacks border text (length text) → parts border text ≡ text ∷ []
parts_none border text lacks = slice_split_none (is_border border) text (λ k d lt. let same : get_or text k d ≡ get_or text k 0 = grind (arith, common_steps) in ap (is_border border) same ∙ lacks k lt)
