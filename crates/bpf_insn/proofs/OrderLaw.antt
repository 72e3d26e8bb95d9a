-- The images of a list in the two byte orders.
use Rattle.std.proofs.Common.{◌≡◌, ℕ, zero, suc, ◌+◌, ◌*◌, ◌/◌, ◌%◌, ◌<◌, List, [], ◌∷◌, ◌++◌, take, drop, slice_index, refl, ap, sym, ◌∙◌, subst, arith}
use Rattle.std.proofs.Math.Seq.{drop-drop}
use Rattle.bpf_insn.specs.Order.{register_byte}
use Rattle.bpf_insn.specs.Instruction.{slots}
use Rattle.bpf_insn.specs.Image.{image, instruction_bytes, slot_bytes, second_slot, fields}
use Rattle.bpf_insn.specs.Laws.{other_order, bytes_of_slot, exchanged, OrdersExchange}
use Rattle.bpf_insn.specs.declared.order.Order.{Order}
use Rattle.bpf_insn.specs.declared.order.Order.TheVariants.{Little, Big}
use Rattle.bpf_insn.specs.declared.fields.Fields.{Fields}
use Rattle.bpf_insn.specs.declared.instruction.Reg.{Reg}
use Rattle.bpf_insn.specs.declared.instruction.Insn.{Insn}
use Rattle.bpf_insn.specs.declared.instruction.Insn.TheVariants.{LoadImm64}
use Rattle.bpf_insn.proofs.FormLemmas.{field_target, field_source, fields-dst, fields-src}
use Rattle.bpf_insn.proofs.RegisterLemmas.{reg_below}
use Rattle.bpf_insn.proofs.WalkLemmas.{image_length}

-- ---- one slot

registers_exchanged : (order : Order) (dst src : ℕ) → dst < 11 → src < 11 → register_byte (other_order order) dst src ≡ 16 * (register_byte order dst src % 16) + register_byte order dst src / 16
registers_exchanged Little dst src hd hs = omega arith
registers_exchanged Big dst src hd hs = omega arith

second_byte : (order : Order) (f : Fields) → slot_bytes (other_order order) f ≡ slice_index (slot_bytes order f) 0 ∷ register_byte (other_order order) f.dst f.src ∷ drop 2 (exchanged (slot_bytes order f))
second_byte Little f = refl
second_byte Big f = refl

slot_exchanged : (order : Order) (f : Fields) → f.dst < 11 → f.src < 11 → slot_bytes (other_order order) f ≡ exchanged (slot_bytes order f)
slot_exchanged order f hd hs =
    second_byte order f
    ∙ ap (λ b. slice_index (slot_bytes order f) 0 ∷ b ∷ drop 2 (exchanged (slot_bytes order f))) (registers_exchanged order f.dst f.src hd hs)

first_exchanged : (order : Order) (i : Insn) → slot_bytes (other_order order) (fields i) ≡ exchanged (slot_bytes order (fields i))
first_exchanged order i =
    slot_exchanged order (fields i)
    (subst (λ n. n < 11) (sym (fields-dst i)) (reg_below (field_target i)))
    (subst (λ n. n < 11) (sym (fields-src i)) (reg_below (field_source i)))

second_exchanged : (order : Order) (dst : Reg) (value : ℕ) → second_slot (other_order order) (LoadImm64 dst value) ≡ exchanged (second_slot order (LoadImm64 dst value))
second_exchanged Little dst value = refl
second_exchanged Big dst value = refl

-- ---- where the slots of an instruction stand

first_slot : (order : Order) (i : Insn) (rest : List ℕ) → take 8 (instruction_bytes order i ++ rest) ≡ slot_bytes order (fields i)
first_slot Little i rest = refl
first_slot Big i rest = refl

behind_first : (order : Order) (i : Insn) (rest : List ℕ) → drop 8 (instruction_bytes order i ++ rest) ≡ second_slot order i ++ rest
behind_first Little i rest = refl
behind_first Big i rest = refl

wide_second : (order : Order) (dst : Reg) (value : ℕ) (rest : List ℕ) → take 8 (second_slot order (LoadImm64 dst value) ++ rest) ≡ second_slot order (LoadImm64 dst value)
wide_second Little dst value rest = refl
wide_second Big dst value rest = refl

behind_second : (order : Order) (dst : Reg) (value : ℕ) (rest : List ℕ) → drop 8 (second_slot order (LoadImm64 dst value) ++ rest) ≡ rest
behind_second Little dst value rest = refl
behind_second Big dst value rest = refl

-- the slot after a first one
next_slot : (order : Order) (i : Insn) (rest : List ℕ) (k : ℕ) → bytes_of_slot (suc k) (instruction_bytes order i ++ rest) ≡ bytes_of_slot k (second_slot order i ++ rest)
next_slot order i rest k =
    let moved : 8 * suc k ≡ 8 + 8 * k = omega arith in
    ap (λ n. take 8 (drop n (instruction_bytes order i ++ rest))) moved
    ∙ ap (take 8) (sym (drop-drop (8 * k) 8 (instruction_bytes order i ++ rest)) ∙ ap (drop (8 * k)) (behind_first order i rest))

slot_behind : (order : Order) (dst : Reg) (value : ℕ) (rest : List ℕ) (k : ℕ) → bytes_of_slot (suc k) (second_slot order (LoadImm64 dst value) ++ rest) ≡ bytes_of_slot k rest
slot_behind order dst value rest k =
    let bytes = second_slot order (LoadImm64 dst value) ++ rest in
    let moved : 8 * suc k ≡ 8 + 8 * k = omega arith in
    ap (λ n. take 8 (drop n bytes)) moved ∙ ap (take 8) (sym (drop-drop (8 * k) 8 bytes) ∙ ap (drop (8 * k)) (behind_second order dst value rest))

-- ---- all slots

first_of_both : (order : Order) (i : Insn) (xs ys : List ℕ) → bytes_of_slot 0 (instruction_bytes (other_order order) i ++ xs) ≡ exchanged (bytes_of_slot 0 (instruction_bytes order i ++ ys))
first_of_both order i xs ys = first_slot (other_order order) i xs ∙ first_exchanged order i ∙ ap exchanged (sym (first_slot order i ys))

second_of_both : (order : Order) (dst : Reg) (value : ℕ) (xs ys : List ℕ) → bytes_of_slot 1 (instruction_bytes (other_order order) (LoadImm64 dst value) ++ xs) ≡ exchanged (bytes_of_slot 1 (instruction_bytes order (LoadImm64 dst value) ++ ys))
second_of_both order dst value xs ys =
    let i : Insn = LoadImm64 dst value in
    next_slot (other_order order) i xs 0 ∙ wide_second (other_order order) dst value xs ∙ second_exchanged order dst value
    ∙ ap exchanged (sym (wide_second order dst value ys) ∙ sym (next_slot order i ys 0))

exchanges : (order : Order) (is : List Insn) (k : ℕ) → k < slots is → bytes_of_slot k (image (other_order order) is) ≡ exchanged (bytes_of_slot k (image order is))
exchanges order [] k h = absurd (omega arith)
exchanges order (LoadImm64 dst value ∷ is) zero h = first_of_both order (LoadImm64 dst value) (image (other_order order) is) (image order is)
exchanges order (LoadImm64 dst value ∷ is) (suc zero) h = second_of_both order dst value (image (other_order order) is) (image order is)
exchanges order (LoadImm64 dst value ∷ is) (suc (suc k)) h =
    let i : Insn = LoadImm64 dst value in
    next_slot (other_order order) i (image (other_order order) is) (suc k) ∙ slot_behind (other_order order) dst value (image (other_order order) is) k
    ∙ exchanges order is k (omega arith)
    ∙ ap exchanged (sym (slot_behind order dst value (image order is) k) ∙ sym (next_slot order i (image order is) (suc k)))
exchanges order (i ∷ is) zero h = first_of_both order i (image (other_order order) is) (image order is)
exchanges order (i ∷ is) (suc k) h =
    next_slot (other_order order) i (image (other_order order) is) k ∙ exchanges order is k (omega arith) ∙ ap exchanged (sym (next_slot order i (image order is) k))

pub orders_exchange : OrdersExchange
orders_exchange order is = (image_length (other_order order) is ∙ sym (image_length order is), exchanges order is)
