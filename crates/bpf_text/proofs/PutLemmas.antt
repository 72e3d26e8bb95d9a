-- A line put together in a room that is large enough.
use Rattle.std.proofs.Common.{◌≡◌, ℕ, zero, suc, ◌+◌, min, List, [], ◌∷◌, ◌++◌, length, take, refl, sym, ap, ◌∙◌, append_assoc, arith}
use Rattle.std.proofs.Math.Seq.{take-append-add}
use Rattle.std.proofs.lemmas.List.{take_all, take_min}
use Rattle.std.specs.Prelude.{ℤ, codes}
use Rattle.bpf_insn.specs.declared.instruction.Insn.{Insn}
use Rattle.bpf_insn.specs.declared.instruction.Reg.{Reg}
use Rattle.bpf_text.specs.Listing.{line_text, r_text, offset_text}
use Rattle.bpf_text.specs.Parts.{memory_text}
use Rattle.bpf_text.specs.code.Puts.{Puts, memory_operand_text}
use Rattle.bpf_text.specs.declared.spelling.Memory.{Memory}
use Rattle.bpf_text.proofs.LengthLemmas.{line_short}

-- what is behind the room is not there in a longer text either
front_more : (n : ℕ) (xs ys : List ℕ) → take n (take n xs ++ ys) ≡ take n (xs ++ ys)
front_more zero xs ys = refl
front_more (suc n) [] ys = refl
front_more (suc n) (x ∷ xs) ys = ap (λ t. x ∷ t) (front_more n xs ys)

-- texts one after another
pub puts_more : (a b c t u : List ℕ) → Puts a t b → Puts b u c → Puts a (t ++ u) c
puts_more a b c t u h k = record { is = k.is ∙ ap (λ x. take 256 (x ++ u)) h.is ∙ front_more 256 (a ++ t) u ∙ ap (take 256) (append_assoc a t u) }

behind_place : (memory : Memory) (base : Reg) (off : ℤ) (t : List ℕ) → memory_operand_text memory base off ++ t ≡ codes "*(" ++ (memory_text memory ++ (codes " *)(" ++ (r_text base ++ (codes " " ++ (offset_text off ++ t)))))
behind_place memory base off t =
    ap (λ x. codes "*(" ++ x) (append_assoc (memory_text memory) (codes " *)(" ++ (r_text base ++ (codes " " ++ offset_text off))) t
    ∙ ap (λ x. memory_text memory ++ (codes " *)(" ++ x)) (append_assoc (r_text base) (codes " " ++ offset_text off) t))

-- a place in memory, and a text behind it
pub place_then : (a b c : List ℕ) (memory : Memory) (base : Reg) (off : ℤ) (t : List ℕ) → Puts a (memory_operand_text memory base off) b → Puts b t c
    → Puts a (codes "*(" ++ (memory_text memory ++ (codes " *)(" ++ (r_text base ++ (codes " " ++ (offset_text off ++ t)))))) c
place_then a b c memory base off t h k = record { is = (puts_more a b c (memory_operand_text memory base off) t h k).is ∙ ap (λ x. take 256 (a ++ x)) (behind_place memory base off t) }

-- a text, as far as there is room
pub puts_front : (s a t b : List ℕ) (room n : ℕ) → a ≡ s → room + length a ≡ 256 → n ≡ min room (length t) → b ≡ a ++ take n t → Puts s t b
puts_front s a t b room n here all count e =
    let whole : length a + room ≡ 256 = omega (arith, all) in
    record { is = e ∙ ap (λ m. a ++ take m t) count ∙ ap (λ xs. a ++ xs) (take_min room t) ∙ sym (take-append-add a t room) ∙ ap (λ m. take m (a ++ t)) whole ∙ ap (λ x. take 256 (x ++ t)) here }

-- a whole line
pub line_put : (i : Insn) (b : List ℕ) → Puts [] (line_text i) b → b ≡ line_text i
line_put i b h = h.is ∙ take_all 256 (line_text i) (line_short i)
