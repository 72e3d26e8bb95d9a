-- Lists that are changed or compared element by element.
use Rattle.std.proofs.Common.{◌≡◌, ℕ, zero, suc, ◌<◌, refl, ◌∙◌, ap, arith, List, [], ◌∷◌, length, get_or, Option, Some, Bool, true}
use Rattle.std.specs.Prelude.{option_map, option_and_then}
use Rattle.std.proofs.lemmas.Bool.{and_parts}
use Rattle.bpf_insn.specs.declared.instruction.Reg.{Reg}
use Rattle.bpf_insn.specs.declared.instruction.Reg.TheVariants.{R0, R1, R2, R3, R4, R5, R6, R7, R8, R9, R10}
use Rattle.bpf_insn.specs.Instruction.{register_number}
use Rattle.bpf_state.specs.State.{each_if}
use Rattle.bpf_state.specs.Entails.{all_pairs}

-- what holds of each register's number holds of each number below 11
pub each_register : (P : ℕ → Type 0) → ((r : Reg) → P (register_number r)) → (k : ℕ) → k < 11 → P k
each_register P h zero lt = h R0
each_register P h (suc zero) lt = h R1
each_register P h (suc (suc zero)) lt = h R2
each_register P h (suc (suc (suc zero))) lt = h R3
each_register P h (suc (suc (suc (suc zero)))) lt = h R4
each_register P h (suc (suc (suc (suc (suc zero))))) lt = h R5
each_register P h (suc (suc (suc (suc (suc (suc zero)))))) lt = h R6
each_register P h (suc (suc (suc (suc (suc (suc (suc zero))))))) lt = h R7
each_register P h (suc (suc (suc (suc (suc (suc (suc (suc zero)))))))) lt = h R8
each_register P h (suc (suc (suc (suc (suc (suc (suc (suc (suc zero))))))))) lt = h R9
each_register P h (suc (suc (suc (suc (suc (suc (suc (suc (suc (suc zero)))))))))) lt = h R10
each_register P h (suc (suc (suc (suc (suc (suc (suc (suc (suc (suc (suc k))))))))))) lt = absurd (omega arith)

-- a value is there and is good
pub record Given {A : Type 0} (o : Option A) (Good : A → Type 0) : Type 0 where
  pub value : A
  pub is_there : o ≡ Some value
  pub good : Good value

-- a list is there, and each of its n elements is good
pub record EachGiven {A : Type 0} (o : Option (List A)) (n : ℕ) (Good : ℕ → A → Type 0) (d : A) : Type 0 where
  pub list : List A
  pub is_there : o ≡ Some list
  pub length_is : length list ≡ n
  pub good : (k : ℕ) → k < n → Good k (get_or list k d)

pub each_given : {A : Type 0} (f : A → Option A) (Good : ℕ → A → Type 0) (d : A) (xs : List A) → ((k : ℕ) → k < length xs → Given (f (get_or xs k d)) (Good k)) → EachGiven (each_if f xs) (length xs) Good d
each_given f Good d [] h = record { list = []; is_there = refl; length_is = refl; good = λ k lt. absurd (omega (arith, lt)) }
each_given {A = A} f Good d (x ∷ xs) h =
    let first = h 0 (omega arith) in
    let rest = each_given f (λ k. Good (suc k)) d xs (λ k lt. h (suc k) (omega arith)) in
    record {
      list = first.value ∷ rest.list;
      is_there = ap (λ o. option_and_then (λ y. option_map (λ ys. y ∷ ys) (each_if f xs)) o) first.is_there ∙ ap (λ o. option_map (λ ys. first.value ∷ ys) o) rest.is_there;
      length_is = ap suc rest.length_is;
      good = at first.value rest.list first.good rest.good;
    }
  where
    at : (y : A) (ys : List A) → Good 0 y → ((k : ℕ) → k < length xs → Good (suc k) (get_or ys k d)) → (k : ℕ) → k < length (x ∷ xs) → Good k (get_or (y ∷ ys) k d)
    at y ys now later zero lt = now
    at y ys now later (suc k) lt = later k (omega arith)

-- two lists of one length that pass a test pair by pair pass it at each place
pub pair_passes : {A : Type 0} (test : A → A → Bool) (xs ys : List A) (k : ℕ) (d e : A) → all_pairs test xs ys ≡ true → k < length xs → length xs ≡ length ys → test (get_or xs k d) (get_or ys k e) ≡ true
pair_passes test [] ys k d e h lt same = absurd (omega (arith, lt))
pair_passes test (x ∷ xs) [] k d e h lt same = absurd (omega (arith, same))
pair_passes test (x ∷ xs) (y ∷ ys) zero d e h lt same = (and_parts (test x y) (all_pairs test xs ys) h).0
pair_passes test (x ∷ xs) (y ∷ ys) (suc k) d e h lt same = pair_passes test xs ys k d e (and_parts (test x y) (all_pairs test xs ys) h).1 (omega arith) (omega arith)
