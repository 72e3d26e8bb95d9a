-- What was put at a name, what was printed, and what is left where that fails.
use Rattle.std.proofs.Common.{◌≡◌, ◌⊎◌, inl, inr, subst, ℕ, List, [], Option, Some, None, Result, Ok, Err, IfOk, IfErr, refl, sym, append-nil, true, true≢false}
use Rattle.std.specs.Io.KnownBytes.{Appends, Keeps}
use Rattle.bpf_insn.specs.Written.{AppendsBeginning}
use Rattle.bpf_answers.specs.Answer.{Answer, Says, Unfinished, is_written, text_of}
use Rattle.bpf_answers.specs.declared.answer.Answer.TheVariants.{Written}
use Rattle.bpf_answers.specs.declared.failure.Failure.{Failure}
use Rattle.bpf_answers.specs.declared.failure.Failure.TheVariants.{CannotWrite, NoMemory}
use Rattle.std.specs.Borrow.{Bor}

-- all bytes are a beginning of them
pub whole : (old new : Option (List ℕ)) (bytes : List ℕ) → Appends old new bytes → AppendsBeginning old new bytes
whole old new bytes all = record { begun = bytes; left = []; is_whole = sym (append-nil bytes); appends = all }

nothing : (known : Option (List ℕ)) → Appends known known []
nothing None = tt
nothing (Some xs) = sym (append-nil xs)

-- no byte is a beginning of any
pub none_begun : (known : Option (List ℕ)) (whole : List ℕ) → AppendsBeginning known known whole
none_begun known whole = record { begun = []; left = whole; is_whole = refl; appends = nothing known }

-- what holds of any failure
pub on_failure : {A E : Type 0} (result : Result A E) (P : Type 0) → P → IfErr result (λ _. P)
on_failure (Ok x) P h = tt
on_failure (Err e) P h = h

-- nothing was printed
pub keeps : (known : Option (List ℕ)) → Keeps known known
keeps None = tt
keeps (Some xs) = refl

-- a failure while an answer is printed
pub not_all_printed : {A E : Type 0} (result : Result A E) (before after : Option (List ℕ)) (answer : Answer) (says : Answer → Type 0)
    → IfErr result (λ _. AppendsBeginning before after (text_of answer)) → says answer → IfErr result (λ _. Unfinished says before after)
not_all_printed (Ok x) before after answer says begun said = tt
not_all_printed (Err e) before after answer says begun said = inr (answer, begun, said)

-- why content can't be put at a name
pub put_fails : {A : Type 0} (result : Result A Failure) (name : Bor (List ℕ)) (M : Type 0) (Q : Failure → Type 0)
    → IfErr result (λ f. ((f ≡ CannotWrite name) ⊎ (f ≡ NoMemory)) × M) → (M → Q (CannotWrite name)) → (M → Q NoMemory) → IfErr result Q
put_fails (Ok x) name M Q fails refused full = tt
put_fails (Err f) name M Q (inl is, made) refused full = subst Q (sym is) (refused made)
put_fails (Err f) name M Q (inr is, made) refused full = subst Q (sym is) (full made)

-- and what then holds of the places
pub put_leaves : {A : Type 0} (result : Result A Failure) (name : Bor (List ℕ)) (M P : Type 0)
    → IfErr result (λ f. ((f ≡ CannotWrite name) ⊎ (f ≡ NoMemory)) × M) → (M → P) → IfErr result (λ _. P)
put_leaves (Ok x) name M P fails holds = tt
put_leaves (Err f) name M P fails holds = holds fails.1

-- where there is nothing to print, nothing was printed
pub written_says : (answer : Answer) (known : Option (List ℕ)) → is_written answer ≡ true → Says answer 0 known known
written_says Written known h = record { status_is = refl; printed = nothing known }
written_says answer known h = absurd (true≢false (sym h))
