-- Numbers of 32 bits: constants of instructions, and bytes in network order.
use Rattle.std.proofs.Common.{◌≡◌, ℕ, suc, ◌-◌, ◌*◌, ◌%◌, ◌^◌, ◌<◌, List, inl, inr, refl, ap, ◌∙◌, arith}
use Rattle.std.specs.Prelude.{pos, negsuc, slice_index}
use Rattle.std.specs.Int.{cast_signed, w32}
use Rattle.std.proofs.lemmas.Nat.{and_mask}
use Rattle.std.proofs.Math.Nat.{zero-div}
use Rattle.std.proofs.lemmas.Bool.{cases_lt, lt-ltb, le-ltb}
use Rattle.bpf_insn.specs.Order.{number_of}
use Rattle.bpf_insn.specs.Arithmetic.{low, extended, alu, swapped}
use Rattle.bpf_insn.specs.declared.order.Order.{Order}
use Rattle.bpf_insn.specs.declared.order.Order.TheVariants.{Little, Big}
use Rattle.bpf_insn.specs.declared.instruction.Width.TheVariants.{W32}
use Rattle.bpf_insn.specs.declared.instruction.AluOp.{AluOp}
use Rattle.bpf_insn.specs.declared.instruction.AluOp.TheVariants.{And, Lsh, Rsh}
use Rattle.bpf_insn.specs.declared.instruction.EndKind.TheVariants.{Be}
use Rattle.bpf_insn.specs.declared.instruction.EndBits.TheVariants.{B16, B32}
use Rattle.bpf_semantics.proofs.NumberLemmas.{compute_fits}

-- the low half of a constant is the constant
pub constant_low : (k : ℕ) → k < 2 ^ 32 → low W32 (extended (cast_signed w32 k)) ≡ k
constant_low k h = elim (cases_lt k (2 ^ 31)) [
  | inl small ↦ (let e : cast_signed w32 k ≡ pos k = rw (lt-ltb k (2 ^ 31) small) refl in ap (λ z. low W32 (extended z)) e ∙ omega arith)
  | inr large ↦ (let e : cast_signed w32 k ≡ negsuc (2 ^ 32 - suc k) = rw (le-ltb k (2 ^ 31) large) refl in ap (λ z. low W32 (extended z)) e ∙ omega arith)
]

pub low_small : (k : ℕ) → k < 2 ^ 32 → low W32 k ≡ k
low_small k h = omega arith

pub low_twice : (x : ℕ) → low W32 (low W32 x) ≡ low W32 x
low_twice x = omega arith

-- what an operation on low halves gives has 32 bits
pub alu_narrow : (op : AluOp) (a b : ℕ) → alu W32 op a b < 2 ^ 32
alu_narrow op a b = compute_fits w32 op (low W32 a) (low W32 b) (omega arith) (omega arith) (omega arith)

-- a load in the machine's order and a byte swap give the number in network order
pub swapped_half : (order : Order) (xs : List ℕ) → ((j : ℕ) → slice_index xs j < 256) → swapped order Be B16 (number_of order 2 xs) ≡ number_of Big 2 xs
swapped_half Little xs h = let h0 = h 0 in let h1 = h 1 in omega arith
swapped_half Big xs h = let h0 = h 0 in let h1 = h 1 in omega arith

pub swapped_word : (order : Order) (xs : List ℕ) → ((j : ℕ) → slice_index xs j < 256) → swapped order Be B32 (number_of order 4 xs) ≡ number_of Big 4 xs
swapped_word Little xs h = let h0 = h 0 in let h1 = h 1 in let h2 = h 2 in let h3 = h 3 in omega arith
swapped_word Big xs h = let h0 = h 0 in let h1 = h 1 in let h2 = h 2 in let h3 = h 3 in omega arith

-- a small constant is extended to itself
pub constant_small : (k : ℕ) → k < 2 ^ 31 → extended (cast_signed w32 k) ≡ k
constant_small k h = let e : cast_signed w32 k ≡ pos k = rw (lt-ltb k (2 ^ 31) h) refl in ap extended e ∙ omega arith

-- one byte is a number in either order
pub one_byte : (one other : Order) (xs : List ℕ) → number_of one 1 xs ≡ number_of other 1 xs
one_byte Little Little xs = refl
one_byte Little Big xs = omega arith
one_byte Big Little xs = omega arith
one_byte Big Big xs = refl

-- four times the low four bits
pub header_words : (b : ℕ) → alu W32 Lsh (alu W32 And b 15) 2 ≡ 4 * (b % 16)
header_words b = let e = and_mask (b % 2 ^ 32) 4 in omega (arith, e)

-- shifted by whatever, 0 stays 0
pub nothing_left : (d : ℕ) → alu W32 Lsh 0 d ≡ 0
nothing_left d = omega arith

pub nothing_right : (d : ℕ) → alu W32 Rsh 0 d ≡ 0
nothing_right d = zero-div (2 ^ (d % 2 ^ 32 % 32))
