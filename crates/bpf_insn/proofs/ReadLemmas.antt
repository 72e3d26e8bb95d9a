-- What was read of a reader whose bytes are known.
use Rattle.std.proofs.Common.{◌≡◌, ℕ, inl, inr, ◌/◌, ◌<◌, ◌≤◌, List, [], ◌++◌, length, take, refl, ap, sym, ◌∙◌, subst, arith}
use Rattle.std.specs.Prelude.{◌⊎◌, Option, Some, None, IfSome, IfErr, MatchResult, Result, Ok, Err}
use Rattle.std.specs.Io.KnownBytes.{Consumes, IsAtEnd, Keeps}
use Rattle.std.proofs.KnownBytes.{Consumes-trans, Consumes-kept}
use Rattle.std.proofs.lemmas.List.{append-nil, take_all, take-append-le}
use Rattle.bpf_insn.specs.Image.{image, IsProgram}
use Rattle.bpf_insn.specs.Refusal.{IsRefused}
use Rattle.bpf_insn.specs.Reading.{max_read, ReadsImage, FailsAfter, FailsAt}
use Rattle.bpf_insn.specs.declared.order.Order.{Order}
use Rattle.bpf_insn.specs.declared.instruction.Insn.{Insn}
use Rattle.bpf_insn.specs.declared.refusal.DecodeError.{DecodeError}
use Rattle.bpf_insn.specs.declared.refusal.DecodeError.TheVariants.{Memory, Read}
use Rattle.bpf_insn.proofs.WalkLemmas.{image_length}

-- all bytes were read
pub end_read : (known rest : Option (List ℕ)) (got : List ℕ) → Consumes known rest got → IsAtEnd rest → length got ≤ max_read → ReadsImage known got
end_read None rest got c e few = tt
end_read (Some xs) None got c e few = absurd c
end_read (Some xs) (Some ys) got c e few =
    let all : xs ≡ got = c ∙ ap (λ zs. got ++ zs) e ∙ append-nil got in
    sym (ap (take max_read) all ∙ take_all max_read got few)

-- as many as are read at most
pub full_read : (known rest : Option (List ℕ)) (got : List ℕ) → Consumes known rest got → length got ≡ max_read → ReadsImage known got
full_read None rest got c full = tt
full_read (Some xs) None got c full = absurd c
full_read (Some xs) (Some ys) got c full =
    let enough : max_read ≤ length got = omega arith in
    let few : length got ≤ max_read = omega arith in
    sym (ap (take max_read) c ∙ take-append-le max_read got ys enough ∙ take_all max_read got few)

-- a read of no bytes
pub nothing_read : (known mid new : Option (List ℕ)) (got buf : List ℕ) (n : ℕ) → Consumes known mid got → Consumes mid new (take n buf) → n ≡ 0 → Consumes known new got
nothing_read known mid new got buf n c d e =
    let nothing : Consumes mid new [] = subst (λ k. Consumes mid new (take k buf)) e d in
    subst (Consumes known new) (append-nil got) (Consumes-trans known mid new got [] c nothing)

-- and that at the end
pub last_read : (known mid new : Option (List ℕ)) (got buf : List ℕ) (n : ℕ) → Consumes known mid got → Consumes mid new (take n buf) → n ≡ 0 → IsAtEnd new → length got ≤ max_read → ReadsImage known got
last_read known mid new got buf n c d e end few = end_read known new got (nothing_read known mid new got buf n c d e) end few

-- the reader failed behind what it had given
pub fails_at : (known mid new : Option (List ℕ)) (got : List ℕ) → Consumes known mid got → Keeps mid new → length got < max_read → FailsAt known new (Read (length got / 8))
fails_at known mid new got c k few = record { given = got; consumed = Consumes-kept known mid new got c k; few = few; fault = refl }

-- ---- a reader that gives the image of a program

-- an image is read whole
image_whole : (order : Order) (is : List Insn) → IsProgram is → take max_read (image order is) ≡ image order is
image_whole order is p =
    let count = image_length order is in
    let few = p.few_slots in
    take_all max_read (image order is) (omega arith)

read_is_image : (order : Order) (is : List Insn) (known : Option (List ℕ)) (got : List ℕ) → IsProgram is → known ≡ Some (image order is) → ReadsImage known got → got ≡ image order is
read_is_image order is known got p e h = let read : ReadsImage (Some (image order is)) got = subst (λ k. ReadsImage k got) e h in read ∙ image_whole order is p

or_fails : {A : Type 0} (P : A → Type 0) (known : Option (List ℕ)) (r : Result A DecodeError) → MatchResult r P (λ e. e ≡ Memory) → MatchResult r P (λ e. (e ≡ Memory) ⊎ FailsAfter known e)
or_fails P known (Ok a) h = h
or_fails P known (Err e) h = inl h

pub image_is_accepted : {A : Type 0} (P : A → Type 0) (order : Order) (is : List Insn) (known : Option (List ℕ)) (got : List ℕ) (r : Result A DecodeError) → IsProgram is → known ≡ Some (image order is) → ReadsImage known got → (got ≡ image order is → MatchResult r P (λ e. e ≡ Memory)) → MatchResult r P (λ e. (e ≡ Memory) ⊎ FailsAfter known e)
image_is_accepted P order is known got r p e h accepts = or_fails P known r (accepts (read_is_image order is known got p e h))

-- ---- what is refused of a reader

refused_of_known : (order : Order) (known : Option (List ℕ)) (got : List ℕ) (error : DecodeError) → ReadsImage known got → IsRefused order got error → IfSome known (λ bytes. IsRefused order (take max_read bytes) error)
refused_of_known order None got error h r = tt
refused_of_known order (Some xs) got error h r = subst (λ bytes. IsRefused order bytes error) h r

pub refused_of_reader : {A : Type 0} (order : Order) (known : Option (List ℕ)) (got : List ℕ) (r : Result A DecodeError) → ReadsImage known got → IfErr r (λ e. (e ≡ Memory) ⊎ IsRefused order got e) → IfErr r (λ e. (e ≡ Memory) ⊎ FailsAfter known e ⊎ IfSome known (λ bytes. IsRefused order (take max_read bytes) e))
refused_of_reader order known got (Ok a) h refused = tt
refused_of_reader order known got (Err e) h (inl memory) = inl memory
refused_of_reader order known got (Err e) h (inr refused) = inr (inr (refused_of_known order known got e h refused))
