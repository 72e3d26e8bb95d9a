-- What is said of texts at their names, from what is said of each.
use Rattle.std.proofs.Common.{◌≡◌, ◌⊎◌, ℕ, List, [], ◌∷◌, ◌++◌, true, Option, Some, None, Result, Ok, Err, IfOk, IfErr, IfSome, IsSome, refl, sym, subst, inl, inr}
use Rattle.std.specs.Borrow.{Bor}
use Rattle.bpf_answers.specs.Made.{Making}
use Rattle.bpf_answers.specs.Both.{NotPut}
use Rattle.bpf_answers.specs.declared.failure.Failure.{Failure}
use Rattle.bpf_answers.specs.declared.failure.Failure.TheVariants.{CannotWrite, NoMemory}
use Rattle.bpf_command.specs.Texts.{NamedTexts, TextsFail, TextsStand, named}

-- ---- one text

-- it stands at the name that is given
pub one_put : {S E : Type 0} (result : Result ℕ E) (making : Making S) (old : S) (given : Option (Bor (List ℕ))) (name : Bor (List ℕ)) (text : List ℕ) (new : S) → given ≡ Some name
    → IfOk result (λ status. (status ≡ 0) × making old name.now text true new) → IfOk result (λ status. (status ≡ 0) × TextsStand making old (named given text) new)
one_put (Ok s) making old given name text new is put = (put.0, subst (λ n. TextsStand making old (named n text) new) (sym is) (new, put.1, refl))
one_put (Err e) making old given name text new is put = tt

-- it can't be put there
pub one_fails : {S : Type 0} (result : Result ℕ Failure) (making : Making S) (old : S) (given : Option (Bor (List ℕ))) (name : Bor (List ℕ)) (text : List ℕ) (new : S) → given ≡ Some name
    → IfErr result (NotPut making old name text new) → IfErr result (TextsFail making old (named given text) new)
one_fails (Ok s) making old given name text new is fails = tt
one_fails (Err f) making old given name text new is fails = subst (λ n. TextsFail making old (named n text) new f) (sym is) (inl fails)

-- without a name it doesn't matter which text it is
pub named_as : (name : Option (Bor (List ℕ))) (text other : List ℕ) → IfSome name (λ _. text ≡ other) → named name text ≡ named name other
named_as None text other same = refl
named_as (Some n) text other same = subst (λ t. named (Some n) text ≡ named (Some n) t) same refl

-- ---- some texts, and then others

stand_on : {S : Type 0} (making : Making S) (old : S) (first second : NamedTexts) (between new : S) → TextsStand making old first between → TextsStand making between second new → TextsStand making old (first ++ second) new
stand_on making old [] second between new here then = subst (λ s. TextsStand making s second new) here then
stand_on making old (t ∷ first) second between new here then = (here.0, here.1, stand_on making here.0 first second between new here.2 then)

fail_first : {S : Type 0} (making : Making S) (old : S) (first second : NamedTexts) (new : S) (f : Failure) → TextsFail making old first new f → TextsFail making old (first ++ second) new f
fail_first making old [] second new f fails = absurd fails
fail_first making old (t ∷ first) second new f (inl fails) = inl fails
fail_first making old (t ∷ first) second new f (inr fails) = inr (fails.0, fails.1, fail_first making fails.0 first second new f fails.2)

fail_behind : {S : Type 0} (making : Making S) (old : S) (first second : NamedTexts) (between new : S) (f : Failure) → TextsStand making old first between → TextsFail making between second new f → TextsFail making old (first ++ second) new f
fail_behind making old [] second between new f here fails = subst (λ s. TextsFail making s second new f) here fails
fail_behind making old (t ∷ first) second between new f here fails = inr (here.0, here.1, fail_behind making here.0 first second between new f here.2 fails)

-- all stand
pub all_put : {S E : Type 0} (result : Result ℕ E) (making : Making S) (old : S) (first second : NamedTexts) (between new : S) → TextsStand making old first between
    → IfOk result (λ status. (status ≡ 0) × TextsStand making between second new) → IfOk result (λ status. (status ≡ 0) × TextsStand making old (first ++ second) new)
all_put (Ok s) making old first second between new here then = (then.0, stand_on making old first second between new here then.1)
all_put (Err e) making old first second between new here then = tt

-- one of the first can't be put
pub first_fails : {S A : Type 0} (result : Result A Failure) (making : Making S) (old : S) (first second : NamedTexts) (new : S) → IfErr result (TextsFail making old first new)
    → IfErr result (TextsFail making old (first ++ second) new)
first_fails (Ok x) making old first second new fails = tt
first_fails (Err f) making old first second new fails = fail_first making old first second new f fails

-- they stand, and one of the others can't
pub second_fails : {S A : Type 0} (result : Result A Failure) (making : Making S) (old : S) (first second : NamedTexts) (between new : S) → TextsStand making old first between
    → IfErr result (TextsFail making between second new) → IfErr result (TextsFail making old (first ++ second) new)
second_fails (Ok x) making old first second between new here fails = tt
second_fails (Err f) making old first second between new here fails = fail_behind making old first second between new f here fails

-- ---- why one can't be put

abbrev pub IsOfWriting : Failure → Type 0
IsOfWriting (CannotWrite name) = Unit {0}
IsOfWriting NoMemory = Unit {0}
IsOfWriting failure = ⊥

pub texts_fault : {S : Type 0} (making : Making S) (old : S) (texts : NamedTexts) (new : S) (f : Failure) → TextsFail making old texts new f → IsOfWriting f
texts_fault making old [] new f fails = absurd fails
texts_fault making old (t ∷ texts) new f (inl (inl is, left)) = subst IsOfWriting (sym is) tt
texts_fault making old (t ∷ texts) new f (inl (inr is, left)) = subst IsOfWriting (sym is) tt
texts_fault making old (t ∷ texts) new f (inr fails) = texts_fault making fails.0 texts new f fails.2
