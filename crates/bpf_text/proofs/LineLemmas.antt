-- The parts of a line, from colon to colon.
use Rattle.std.proofs.Common.{◌≡◌, ℕ, Bool, true, false, cond, eqb, List, [], ◌∷◌, ◌++◌, Option, Some, None, refl, sym, ap, ◌∙◌}
use Rattle.std.specs.Prelude.{is_some, option_to_list, if◌then◌else◌}
use Rattle.std.specs.List.{slice_split, onto_first}
use Rattle.bpf_text.specs.Sources.{before}
use Rattle.bpf_text.specs.code.LineReading.{behind_it, label_in, labels_in, last_part}

-- the parts of what stands behind a mark
abbrev pub rest_split : ℕ → Option (List ℕ) → List (List ℕ)
rest_split m None = []
rest_split m (Some text) = slice_split (λ c. eqb c m) text

pub split_cut : (m : ℕ) (text : List ℕ) → slice_split (λ c. eqb c m) text ≡ before m text ∷ rest_split m (behind_it m text)
split_cut m [] = refl
split_cut m (c ∷ cs) = go (eqb c m) (split_cut m cs)
  where
    go : (b : Bool) → slice_split (λ d. eqb d m) cs ≡ before m cs ∷ rest_split m (behind_it m cs)
        → cond b ([] ∷ slice_split (λ d. eqb d m) cs) (onto_first c (slice_split (λ d. eqb d m) cs)) ≡ cond b [] (c ∷ before m cs) ∷ rest_split m (cond b (Some cs) (behind_it m cs))
    go true e = refl
    go false e = ap (onto_first c) e

pub before_all : (m : ℕ) (text : List ℕ) → behind_it m text ≡ None → before m text ≡ text
before_all m [] e = refl
before_all m (c ∷ cs) e = go (eqb c m) e (before_all m cs)
  where
    go : (b : Bool) → cond b (Some cs) (behind_it m cs) ≡ None → (behind_it m cs ≡ None → before m cs ≡ cs) → cond b [] (c ∷ before m cs) ≡ c ∷ cs
    go true h f = cc
    go false h f = ap (λ xs. c ∷ xs) (f h)

-- behind the last colon stands the last part
pub last_here : (text : List ℕ) → behind_it 58 text ≡ None → last_part (slice_split (λ c. eqb c 58) text) ≡ Some text
last_here text e = rw (split_cut 58 text, e, before_all 58 text e) refl

pub last_later : (text more : List ℕ) → behind_it 58 text ≡ Some more → last_part (slice_split (λ c. eqb c 58) text) ≡ (if is_some (label_in (before 58 text)) then last_part (slice_split (λ c. eqb c 58) more) else None)
last_later text more e = rw (split_cut 58 text, e, split_cut 58 more) refl

pub labels_here : (text : List ℕ) → behind_it 58 text ≡ None → labels_in (slice_split (λ c. eqb c 58) text) ≡ []
labels_here text e = rw (split_cut 58 text, e) refl

pub labels_later : (text more : List ℕ) → behind_it 58 text ≡ Some more → labels_in (slice_split (λ c. eqb c 58) text) ≡ option_to_list (label_in (before 58 text)) ++ labels_in (slice_split (λ c. eqb c 58) more)
labels_later text more e = rw (split_cut 58 text, e, split_cut 58 more) refl

pub last_stops : (text part more : List ℕ) → part ≡ before 58 text → Some more ≡ behind_it 58 text → None ≡ label_in part → None ≡ last_part (slice_split (λ c. eqb c 58) text)
last_stops text part more front behind label = sym (last_later text more (sym behind) ∙ rw (← front, ← label) refl)

pub last_goes : (text part more name : List ℕ) → part ≡ before 58 text → Some more ≡ behind_it 58 text → Some name ≡ label_in part → last_part (slice_split (λ c. eqb c 58) more) ≡ last_part (slice_split (λ c. eqb c 58) text)
last_goes text part more name front behind label = sym (last_later text more (sym behind) ∙ rw (← front, ← label) refl)

pub labels_go : (text part more : List ℕ) (label : Option (List ℕ)) → part ≡ before 58 text → Some more ≡ behind_it 58 text → label ≡ label_in part → labels_in (slice_split (λ c. eqb c 58) text) ≡ option_to_list label ++ labels_in (slice_split (λ c. eqb c 58) more)
labels_go text part more label front behind is = labels_later text more (sym behind) ∙ rw (← front, ← is) refl
