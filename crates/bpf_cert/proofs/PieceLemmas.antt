-- The pieces of a text, read one by one.
use Rattle.std.proofs.Common.{◌≡◌, ℕ, List, [], ◌∷◌, ◌++◌, Option, Some, None, refl, sym, ap, ◌∙◌, append_assoc}
use Rattle.std.specs.Prelude.{option_map, map}
use Rattle.bpf_cert.specs.Reading.{◌>>=◌, cut, all_there}
use Rattle.bpf_cert.proofs.CutLemmas.{pieces, cut_some, cut_no}

-- what is read of all pieces
abbrev pub all_read : {A : Type 0} → ℕ → (List ℕ → Option A) → List ℕ → Option (List A)
all_read c read text = all_there (map read (pieces c text))

-- some pieces were read from the text, and the rest of it is left
pub record Taken {A : Type 0} (c : ℕ) (read : List ℕ → Option A) (text rest : List ℕ) (done : List A) : Type 0 where
  pub left : all_read c read text ≡ option_map (λ xs. done ++ xs) (all_read c read rest)

same_map : {A : Type 0} (o : Option (List A)) → o ≡ option_map (λ xs. [] ++ xs) o
same_map None = refl
same_map (Some xs) = refl

pub taken_none : {A : Type 0} (c : ℕ) (read : List ℕ → Option A) (text : List ℕ) → Taken c read text text []
taken_none c read text = record { left = same_map (all_read c read text) }

moved : {A : Type 0} (done : List A) (x : A) (o : Option (List A)) → option_map (λ xs. done ++ xs) (o >>= (λ xs. Some (x ∷ xs))) ≡ option_map (λ xs. (done ++ x ∷ []) ++ xs) o
unfolding ◌>>=◌
moved done x None = refl
moved done x (Some xs) = ap Some (sym (append_assoc done (x ∷ []) xs))

pub there_more : {A : Type 0} (read : List ℕ → Option A) (t : List ℕ) (ts : List (List ℕ)) (x : A) → read t ≡ Some x → all_there (map read (t ∷ ts)) ≡ (all_there (map read ts) >>= (λ xs. Some (x ∷ xs)))
unfolding all_there ◌>>=◌
there_more read t ts x e = rw e refl

pub there_none : {A : Type 0} (read : List ℕ → Option A) (t : List ℕ) (ts : List (List ℕ)) → read t ≡ None → all_there (map read (t ∷ ts)) ≡ None
unfolding all_there ◌>>=◌
there_none read t ts e = rw e refl

-- one piece more
pub taken_more : {A : Type 0} (c : ℕ) (read : List ℕ → Option A) (text rest piece more : List ℕ) (done : List A) (x : A) → Taken c read text rest done → cut c rest ≡ Some (piece, more) → read piece ≡ Some x
    → Taken c read text more (done ++ x ∷ [])
taken_more c read text rest piece more done x taken e f = record {
  left = taken.left ∙ ap (λ ts. option_map (λ xs. done ++ xs) (all_there (map read ts))) (cut_some c rest (piece, more) e)
      ∙ ap (option_map (λ xs. done ++ xs)) (there_more read piece (pieces c more) x f) ∙ moved done x (all_read c read more);
}

-- a piece that has no form
pub no_piece : {A : Type 0} (c : ℕ) (read : List ℕ → Option A) (text rest piece more : List ℕ) (done : List A) → Taken c read text rest done → cut c rest ≡ Some (piece, more) → read piece ≡ None → all_read c read text ≡ None
no_piece c read text rest piece more done taken e f = taken.left ∙ ap (λ ts. option_map (λ xs. done ++ xs) (all_there (map read ts))) (cut_some c rest (piece, more) e)
    ∙ ap (option_map (λ xs. done ++ xs)) (there_none read piece (pieces c more) f)

pub no_last : {A : Type 0} (c : ℕ) (read : List ℕ → Option A) (text rest : List ℕ) (done : List A) → Taken c read text rest done → cut c rest ≡ None → read rest ≡ None → all_read c read text ≡ None
no_last c read text rest done taken e f = taken.left ∙ ap (λ ts. option_map (λ xs. done ++ xs) (all_there (map read ts))) (cut_no c rest e)
    ∙ ap (option_map (λ xs. done ++ xs)) (there_none read rest [] f)

pub taken_all : {A : Type 0} (c : ℕ) (read : List ℕ → Option A) (text rest : List ℕ) (done : List A) (x : A) → Taken c read text rest done → cut c rest ≡ None → read rest ≡ Some x → all_read c read text ≡ Some (done ++ x ∷ [])
unfolding all_there ◌>>=◌
taken_all c read text rest done x taken e f = taken.left ∙ ap (λ ts. option_map (λ xs. done ++ xs) (all_there (map read ts))) (cut_no c rest e)
    ∙ ap (option_map (λ xs. done ++ xs)) (there_more read rest [] x f)
