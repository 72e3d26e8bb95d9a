-- Tests of several parts.
use Rattle.std.proofs.Common.{◌≡◌, ℕ, refl, arith, inl, inr, Some, None, Bool, true, false, cond}
use Rattle.std.specs.Prelude.{◌⊎◌, ◌&&◌, nat_le, is_some}
use Rattle.std.proofs.lemmas.Bool.{false≢true}
use Rattle.std.proofs.lemmas.Bool.Decides.{nat_tests}

pub and3_true : (a b c : Bool) → (a && b && c) ≡ true → (a ≡ true) × (b ≡ true) × (c ≡ true)
and3_true true true true h = (refl, refl, refl)
and3_true true true false h = absurd (false≢true h)
and3_true true false c h = absurd (false≢true h)
and3_true false b c h = absurd (false≢true h)

pub and3_false : (a b c : Bool) → (a && b && c) ≡ false → a ≡ true → (b ≡ false) ⊎ (c ≡ false)
and3_false true true true h e = inr h
and3_false true true false h e = inr refl
and3_false true false c h e = inl refl
and3_false false b c h e = absurd (false≢true e)

pub and_at : (a b : Bool) → (a && b) ≡ false → a ≡ true → b ≡ false
and_at true b h e = h
and_at false b h e = absurd (false≢true e)

pub and_second : (a b : Bool) → b ≡ false → (a && b) ≡ false
and_second true b e = e
and_second false b e = refl

pub some_if : {A : Type 0} (t : Bool) (x : A) → is_some (cond t (Some x) None) ≡ true → t ≡ true
some_if true x h = refl
some_if false x h = absurd (false≢true h)

pub leb_self : (n : ℕ) → nat_le n n ≡ true
leb_self n = grind (arith, nat_tests)
