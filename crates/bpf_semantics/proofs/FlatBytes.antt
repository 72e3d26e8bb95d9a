-- Numbers in bytes.
use Rattle.std.proofs.Common.{◌≡◌, suc, zero, List, [], ◌∷◌, refl, ap, ap₂, length, ◌<◌, ◌≤◌, ◌+◌, ◌%◌, ℕ, arith, ◌∙◌}
use Rattle.std.specs.Prelude.{slice_index}
use Rattle.bpf_insn.specs.Order.{bytes_of, number_of}
use Rattle.bpf_semantics.specs.Flat.{addresses, bytes_from}
use Rattle.bpf_insn.specs.declared.order.Order.{Order}
use Rattle.bpf_insn.specs.declared.order.Order.TheVariants.{Little, Big}

pub number-bytes : (order : Order) (x : ℕ) → x < addresses → number_of order 8 (bytes_of order 8 x) ≡ x
number-bytes Little x h = omega arith
number-bytes Big x h = omega arith

pub bytes_from_small : (memory : ℕ → ℕ) (a k : ℕ) → ((x : ℕ) → x < addresses → memory x < 256) → (j : ℕ) → slice_index (bytes_from memory a k) j < 256
bytes_from_small memory a zero h j = omega arith
bytes_from_small memory a (suc k) h zero = h (a % addresses) (omega arith)
bytes_from_small memory a (suc k) h (suc j) = bytes_from_small memory (a + 1) k h j

pub bytes_from_are : (memory : ℕ → ℕ) (a k : ℕ) (xs : List ℕ) → length xs ≡ k → a + k ≤ addresses → ((j : ℕ) → j < k → memory (a + j) ≡ slice_index xs j) → bytes_from memory a k ≡ xs
bytes_from_are memory a zero [] l h e = refl
bytes_from_are memory a zero (x ∷ xs) l h e = absurd (omega arith)
bytes_from_are memory a (suc k) [] l h e = absurd (omega arith)
bytes_from_are memory a (suc k) (x ∷ xs) l h e =
    let z : a % addresses ≡ a + 0 = omega arith in
    ap₂ (λ x xs. x ∷ xs) (ap memory z ∙ e 0 (omega arith)) (bytes_from_are memory (a + 1) k xs (omega arith) (omega arith) (λ j hj. let s : a + 1 + j ≡ a + suc j = omega arith in ap memory s ∙ e (suc j) (omega arith)))
