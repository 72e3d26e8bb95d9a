-- Findings of parts, joined to findings of the whole.
use Rattle.std.proofs.Common.{◌≡◌, Bool, true, false, cond, not, List, [], ◌∷◌, ◌++◌, Result, Ok, Err, refl, ap, ◌∙◌}
use Rattle.std.specs.Prelude.{◌&&◌}
use Rattle.std.specs.List.{list_all}
use Rattle.bpf_cert.specs.code.Findings.{tested, joined, valued}
use Rattle.bpf_cert.specs.declared.finding.PartFault.{PartFault}
use Rattle.bpf_cert.specs.declared.finding.PartFault.TheVariants.{NotCanonical, Limit}
use Rattle.bpf_cert.proofs.Bools.{exchange}

-- what is found in a form is what its tests say
pub found_tested : {A : Type 0} (a b : Bool) (x : A) → cond (not a) (Err NotCanonical) (cond (not b) (Err Limit) (Ok x)) ≡ valued (λ (u : Unit {0}). x) (tested a b)
found_tested true true x = refl
found_tested true false x = refl
found_tested false b x = refl

-- and what is said of the form is found with the same tests
pub found_valued : {A B : Type 0} (f : A → B) (a b : Bool) (x : A) → cond (not a) (Err NotCanonical) (cond (not b) (Err Limit) (Ok (f x))) ≡ valued f (cond (not a) (Err NotCanonical) (cond (not b) (Err Limit) (Ok x)))
found_valued f true true x = refl
found_valued f true false x = refl
found_valued f false b x = refl

pub joined_tested : (a b c d : Bool) → joined (tested a b) (tested c d) ≡ tested (a && c) (b && d)
joined_tested true true c d = refl
joined_tested true false true true = refl
joined_tested true false true false = refl
joined_tested true false false d = refl
joined_tested false b true true = refl
joined_tested false b true false = refl
joined_tested false b false d = refl

-- the same, where the second finding has a value
pub joined_valued : {A : Type 0} (a b c d : Bool) (x : A) → joined (tested a b) (valued (λ (u : Unit {0}). x) (tested c d)) ≡ valued (λ (u : Unit {0}). x) (tested (a && c) (b && d))
joined_valued true true c d x = refl
joined_valued true false true true x = refl
joined_valued true false true false x = refl
joined_valued true false false d x = refl
joined_valued false b true true x = refl
joined_valued false b true false x = refl
joined_valued false b false d x = refl

-- where nothing is refused, neither finding refuses
pub joined_ok : {A : Type 0} (r : Result (Unit {0}) PartFault) (s : Result A PartFault) (x : A) → joined r s ≡ Ok x → (r ≡ Ok tt) × (s ≡ Ok x)
joined_ok (Ok u) s x e = (refl, e)
joined_ok (Err f) (Ok y) x e = cc
joined_ok (Err f) (Err g) x e = cc

pub tested_true : (a b : Bool) (u : Unit {0}) → tested a b ≡ Ok u → (a ≡ true) × (b ≡ true)
tested_true true true u e = (refl, refl)
tested_true true false u e = cc
tested_true false b u e = cc

pub list_all_both : {A : Type 0} (p q : A → Bool) (xs : List A) → list_all (λ x. p x && q x) xs ≡ (list_all p xs && list_all q xs)
list_all_both p q [] = refl
list_all_both p q (x ∷ xs) = ap (λ b. (p x && q x) && b) (list_all_both p q xs) ∙ exchange (p x) (q x) (list_all p xs) (list_all q xs)

pub list_all_end : {A : Type 0} (p : A → Bool) (xs : List A) (x : A) → list_all p (xs ++ x ∷ []) ≡ (list_all p xs && p x)
list_all_end p [] x = one (p x)
  where
    one : (b : Bool) → (b && true) ≡ b
    one true = refl
    one false = refl
list_all_end p (y ∷ ys) x = ap (λ b. p y && b) (list_all_end p ys x) ∙ grouped (p y) (list_all p ys) (p x)
  where
    grouped : (a b c : Bool) → (a && (b && c)) ≡ ((a && b) && c)
    grouped true b c = refl
    grouped false b c = refl

-- the one part that was found
pub found_single : {A : Type 0} (a b : Bool) (x : A) (xs : List A) → Ok xs ≡ valued (λ y. y ∷ []) (cond (not a) (Err NotCanonical) (cond (not b) (Err Limit) (Ok x))) → xs ≡ x ∷ []
found_single true true x xs e = cc
found_single true false x xs e = cc
found_single false b x xs e = cc
