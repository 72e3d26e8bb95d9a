-- Lines that wait behind one another, and what went out of them.
use Rattle.std.proofs.Common.{◌≡◌, ℕ, List, [], ◌∷◌, ◌++◌, Option, refl, sym, subst, ap, ◌∙◌, append-nil, append_assoc}
use Rattle.std.specs.Prelude.{flat_map}
use Rattle.std.proofs.lemmas.Grind.{flat_map-append}
use Rattle.bpf_insn.specs.Written.{AppendsBeginning, Gathers}
use Rattle.std.proofs.KnownBytes.{Appends-nil}
use Rattle.bpf_insn.proofs.WriteLemmas.{gathers_more, gathers_nothing, waits_later}

flat_more : {A : Type 0} (f : A → List ℕ) (xs : List A) (x : A) → flat_map f (xs ++ x ∷ []) ≡ flat_map f xs ++ f x
flat_more f xs x = flat_map-append f xs (x ∷ []) ∙ ap (λ t. flat_map f xs ++ t) (append-nil (f x))

pub put_more : {A : Type 0} (f : A → List ℕ) (a b c : Option (List ℕ)) (q r : List ℕ) (xs : List A) (x : A) → Gathers a b [] q (flat_map f xs) → Gathers b c q r (f x) → Gathers a c [] r (flat_map f (xs ++ x ∷ []))
put_more f a b c q r xs x h k = subst (Gathers a c [] r) (sym (flat_more f xs x)) (gathers_more a b c [] q r (flat_map f xs) (f x) h k)

pub put_fails : {A : Type 0} (f : A → List ℕ) (a b c : Option (List ℕ)) (q : List ℕ) (xs : List A) (x : A) → Gathers a b [] q (flat_map f xs) → AppendsBeginning b c (q ++ f x) → AppendsBeginning a c (flat_map f (xs ++ x ∷ []))
put_fails f a b c q xs x h k = subst (AppendsBeginning a c) (sym (flat_more f xs x)) (waits_later a b c [] q (flat_map f xs) (f x) h k)

-- what went out of what was gathered is a beginning of it
pub gathered_begins : (a b : Option (List ℕ)) (q x : List ℕ) → Gathers a b [] q x → AppendsBeginning a b x
gathered_begins a b q x h = record { begun = h.sent; left = q; is_whole = h.parts; appends = h.appends }

-- a beginning of the first of more
pub begins_first : (a b : Option (List ℕ)) (x y : List ℕ) → AppendsBeginning a b x → AppendsBeginning a b (x ++ y)
begins_first a b x y h = record { begun = h.begun; left = h.left ++ y; is_whole = ap (λ z. z ++ y) h.is_whole ∙ append_assoc h.begun h.left y; appends = h.appends }

-- of more than one was to be put behind others, and of all of them a beginning went out
pub put_fails_all : {A : Type 0} (f : A → List ℕ) (a b c : Option (List ℕ)) (q : List ℕ) (xs : List A) (x : A) (rest all : List A) → (xs ++ x ∷ []) ++ rest ≡ all → Gathers a b [] q (flat_map f xs) → AppendsBeginning b c (q ++ f x) → AppendsBeginning a c (flat_map f all)
put_fails_all f a b c q xs x rest all e h k =
    let first = begins_first a c (flat_map f (xs ++ x ∷ [])) (flat_map f rest) (put_fails f a b c q xs x h k) in
    subst (λ l. AppendsBeginning a c (flat_map f l)) e (subst (AppendsBeginning a c) (sym (flat_map-append f (xs ++ x ∷ []) rest)) first)

-- nothing waits yet
pub none_waits : (a : Option (List ℕ)) (p : List ℕ) → p ≡ [] → Gathers a a [] p []
none_waits a p none = subst (λ z. Gathers a a [] z []) (sym none) (gathers_nothing a [])

-- no byte is a beginning of any
pub none_begun : (a : Option (List ℕ)) (x : List ℕ) → AppendsBeginning a a x
none_begun a x = record { begun = []; left = x; is_whole = refl; appends = Appends-nil a }

-- the same list, with the next item at the end of those before
pub next_done : {A : Type 0} (xs : List A) (x : A) (rest next all : List A) → xs ++ rest ≡ all → rest ≡ x ∷ next → (xs ++ x ∷ []) ++ next ≡ all
next_done xs x rest next all e is = append_assoc xs (x ∷ []) next ∙ ap (λ z. xs ++ z) (sym is) ∙ e
