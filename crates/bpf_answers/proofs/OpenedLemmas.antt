-- The first of some names were opened.
use Rattle.std.proofs.Common.{ℕ, List, [], ◌∷◌, refl, inl, inr}
use Rattle.bpf_answers.specs.Opened.{Opening}
use Rattle.bpf_answers.specs.Loaded.{OpensFirst, Tried}

-- none of them
pub opens_none : {S : Type 0} (o : Opening S) (names : List (List ℕ)) (s : S) → OpensFirst o names s s
opens_none o [] s = refl
opens_none o (name ∷ names) s = inl refl

-- one of them, and perhaps more
pub opens_more : {S : Type 0} (o : Opening S) (name : List ℕ) (names : List (List ℕ)) (old between new : S) → Tried o old name between → OpensFirst o names between new → OpensFirst o (name ∷ names) old new
opens_more o name names old between new tried more = inr (between, tried, more)

-- one of them, and no more
pub opens_one : {S : Type 0} (o : Opening S) (name : List ℕ) (names : List (List ℕ)) (old new : S) → Tried o old name new → OpensFirst o (name ∷ names) old new
opens_one o name names old new tried = inr (new, tried, opens_none o names new)
