-- What was read of a text.
use Rattle.std.proofs.Common.{◌≡◌, ℕ, ◌<◌, List, [], length, Option, Some, None, IfSome, Result, Ok, Err, IfErr, inl, inr, refl, sym, subst}
use Rattle.std.specs.Borrow.{Bor}
use Rattle.std.specs.Prelude.{◌⊎◌}
use Rattle.std.specs.Str.{IsUtf8}
use Rattle.bpf_answers.specs.Opened.{Fails, Opening}
use Rattle.bpf_answers.specs.Loaded.{ReadableFails, ShortTextAt, TextAt, TextFails, max_text}
use Rattle.bpf_answers.specs.Told.{IsQuiet}
use Rattle.bpf_answers.specs.declared.failure.Failure.{Failure}
use Rattle.bpf_answers.specs.declared.failure.Failure.TheVariants.{CannotRead, NotText}

pub if_some : {A : Type 0} (o : Option A) {P Q : A → Type 0} → ((x : A) → P x → Q x) → IfSome o P → IfSome o Q
if_some None f h = tt
if_some (Some x) f h = f x h

-- a reader may fail behind its first byte
pub may_fail : (known : Option (List ℕ)) → Fails known
may_fail None = ([], tt)
may_fail (Some bytes) = ([], refl)

-- what was read isn't UTF-8, and so isn't what is there
pub no_text : (known : Option (List ℕ)) (got : List ℕ) → (¬ (IsUtf8 got)) → IfSome known (λ bytes. got ≡ bytes) → IfSome known (λ bytes. (¬ (IsUtf8 bytes)) ⊎ (max_text < length bytes))
no_text known got none h = if_some known (λ bytes same. inl (subst (λ b. ¬ (IsUtf8 b)) same none)) h

-- the same, as it is told to people
pub not_text : (known : Option (List ℕ)) (got : List ℕ) → (¬ (IsUtf8 got)) → IfSome known (λ bytes. got ≡ bytes) → IfSome known (λ bytes. ¬ (IsUtf8 bytes))
not_text known got none h = if_some known (λ bytes same. subst (λ b. ¬ (IsUtf8 b)) same none) h

-- ---- the failure that stands for a text that isn't UTF-8

pub unread_by : {S A : Type 0} (result : Result A Failure) (opening : Opening S) (old : S) (name : List ℕ) (new : S) (n : Bor (List ℕ)) → n.now ≡ name
    → IfErr result (λ f. TextFails opening old name new f ⊎ ((f ≡ CannotRead n) × TextAt opening old name new (λ text. ¬ (IsUtf8 text)))) → IfErr result (TextFails opening old name new)
unread_by (Ok x) opening old name new n is h = tt
unread_by (Err f) opening old name new n is (inl h) = h
unread_by (Err f) opening old name new n is (inr h) =
    subst (TextFails opening old name new) (sym h.0) (is, inr (h.1.0, h.1.1, if_some h.1.0 (λ bytes none. inl none) h.1.2))

readable : {S : Type 0} (opening : Opening S) (old : S) (name : List ℕ) (new : S) (f : Failure) → TextFails opening old name new f → ReadableFails opening old name new f
readable opening old name new (NotText n) h = absurd h
readable opening old name new f h = h

pub not_text_by : {S A : Type 0} (result : Result A Failure) (opening : Opening S) (old : S) (name : List ℕ) (new : S) (n : Bor (List ℕ)) → n.now ≡ name
    → IfErr result (λ f. TextFails opening old name new f ⊎ ((f ≡ NotText n) × TextAt opening old name new (λ text. ¬ (IsUtf8 text)))) → IfErr result (ReadableFails opening old name new)
not_text_by (Ok x) opening old name new n is h = tt
not_text_by (Err f) opening old name new n is (inl h) = readable opening old name new f h
not_text_by (Err f) opening old name new n is (inr h) = subst (ReadableFails opening old name new) (sym h.0) (is, h.1)

pub quiet_by : {A : Type 0} (result : Result A Failure) (other : Failure) → IsQuiet other → IfErr result (λ f. IsQuiet f ⊎ (f ≡ other)) → IfErr result IsQuiet
quiet_by (Ok x) other quiet h = tt
quiet_by (Err f) other quiet (inl h) = h
quiet_by (Err f) other quiet (inr is) = subst IsQuiet (sym is) quiet

-- what is said of the text that was read is said of the one at the name
pub text_says : {S : Type 0} (opening : Opening S) (old : S) (name : List ℕ) (new : S) (text : List ℕ) (Q : List ℕ → Type 0) → ShortTextAt opening old name new (λ bytes. text ≡ bytes) → Q text → ShortTextAt opening old name new Q
text_says opening old name new text Q h q = (h.0, h.1, if_some h.0 (λ bytes both. (both.0, subst Q both.1 q)) h.2)
