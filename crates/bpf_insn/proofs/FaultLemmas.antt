-- The bytes of an instruction have no fault, whatever follows, and are read as that instruction.
use Rattle.std.proofs.Common.{◌≡◌, ℕ, ◌/◌, ◌^◌, ◌<◌, ◌≤◌, ◌||◌, ◌&&◌, nat_lt, not, cond, Bool, true, false, List, ◌++◌, length, drop, refl, ap, ◌∙◌, arith}
use Rattle.std.specs.Prelude.{Some, None, option_map}
use Rattle.bpf_insn.specs.Image.{fields, slot_bytes, second_slot, instruction_bytes, HasEncoding}
use Rattle.bpf_insn.specs.Refusal.{table, uses_in, each_field, is_selected, is_zero_if_unused, wrong_fields, is_wide, left_out, reserved_is_zero, fields_in, refusal_by_uses, refusal_of_fields, refusal_here}
use Rattle.bpf_insn.specs.code.Form.{uses_of}
use Rattle.bpf_insn.specs.code.Decoding.{insn_of_fields, high_in, insn_in_bytes}
use Rattle.bpf_insn.specs.declared.instruction.Reg.{Reg}
use Rattle.bpf_insn.specs.declared.instruction.Insn.{Insn}
use Rattle.bpf_insn.specs.declared.instruction.Insn.TheVariants.{LoadImm64}
use Rattle.bpf_insn.proofs.TableLemmas.{uses_in-form}
use Rattle.bpf_insn.specs.declared.refusal.SlotFault.{SlotFault}
use Rattle.bpf_insn.specs.declared.refusal.SlotFault.TheVariants.{LeftOut, Register, Selector, Unused, Truncated}
use Rattle.bpf_insn.proofs.SlotLemmas.{fields_fit, fields_in-slot_bytes, number_back}
use Rattle.bpf_insn.specs.Order.{number_of}
use Rattle.std.proofs.lemmas.Bool.{le-ltb}
use Rattle.bpf_insn.proofs.FormLemmas.{form_of, is_constant, high_half, is_wide-fields, insn_of_fields-fields, not_left_out, form_in-opcode, small_opcode, small_registers, each_selected, each_unused_is_zero}
use Rattle.bpf_insn.specs.declared.order.Order.{Order}
use Rattle.bpf_insn.specs.declared.order.Order.TheVariants.{Little, Big}
use Rattle.std.proofs.lemmas.List.{append_assoc}

fields_in-insn : (order : Order) (i : Insn) (rest : List ℕ) → HasEncoding i → fields_in order (instruction_bytes order i ++ rest) ≡ fields i
fields_in-insn order i rest h =
    ap (fields_in order) (append_assoc (slot_bytes order (fields i)) (second_slot order i) rest)
    ∙ fields_in-slot_bytes order (fields i) (second_slot order i ++ rest) (fields_fit i h)

constant_reserved : (order : Order) (dst : Reg) (value : ℕ) (rest : List ℕ) → reserved_is_zero (instruction_bytes order (LoadImm64 dst value) ++ rest) ≡ true
constant_reserved Little dst value rest = refl
constant_reserved Big dst value rest = refl

constant_high : (order : Order) (dst : Reg) (value : ℕ) (rest : List ℕ) → value < 2 ^ 64 → number_of order 4 (drop 12 (instruction_bytes order (LoadImm64 dst value) ++ rest)) ≡ value / 2 ^ 32
constant_high Little dst value rest h = let small : value / 2 ^ 32 < 256 ^ 4 = omega arith in number_back Little 4 (value / 2 ^ 32) rest small
constant_high Big dst value rest h = let small : value / 2 ^ 32 < 256 ^ 4 = omega arith in number_back Big 4 (value / 2 ^ 32) rest small

constant_long : (order : Order) (dst : Reg) (value : ℕ) (rest : List ℕ) → 16 ≤ length (instruction_bytes order (LoadImm64 dst value) ++ rest)
constant_long Little dst value rest = omega arith
constant_long Big dst value rest = omega arith

high_in-insn : (order : Order) (i : Insn) (rest : List ℕ) → HasEncoding i → is_constant i ≡ true → high_in order (instruction_bytes order i ++ rest) ≡ high_half i
high_in-insn order (LoadImm64 dst value) rest h e =
    let bytes = instruction_bytes order (LoadImm64 dst value) ++ rest in
    ap (λ b. cond b 0 (number_of order 4 (drop 12 bytes))) (le-ltb (length bytes) 16 (constant_long order dst value rest)) ∙ constant_high order dst value rest h
high_in-insn order i rest h e = cc

-- the instruction in the bytes of an instruction is that instruction, whatever follows
pub insn_in_bytes-insn : (order : Order) (i : Insn) (rest : List ℕ) → HasEncoding i → insn_in_bytes order (instruction_bytes order i ++ rest) ≡ Some i
unfolding insn_in_bytes
insn_in_bytes-insn order i rest h =
    let bytes = instruction_bytes order i ++ rest in
    ap (λ f. insn_of_fields f (high_in order bytes)) (fields_in-insn order i rest h)
    ∙ insn_of_fields-fields i (high_in order bytes) h (high_in-insn order i rest h)

-- what the tests of wide instructions say of the bytes of an instruction
wide_tests : (order : Order) (i : Insn) (rest : List ℕ) → (is_constant i && not (reserved_is_zero (instruction_bytes order i ++ rest)) ≡ false) × (is_constant i && nat_lt (length (instruction_bytes order i ++ rest)) 16 ≡ false)
wide_tests order (LoadImm64 dst value) rest = (ap not (constant_reserved order dst value rest), le-ltb _ 16 (constant_long order dst value rest))
wide_tests order i rest = (refl, refl)

passes : (a b c d e : Bool) (p q r s : SlotFault) → a ≡ false → b ≡ true → c ≡ true → d ≡ false → e ≡ false → cond a (Some p) (cond (not b) (Some q) (cond (not c || d) (Some r) (cond e (Some s) None))) ≡ None
passes a b c d e p q r s ea eb ec ed ee = rw (ea, eb, ec, ed, ee) refl

by_uses : (order : Order) (i : Insn) (rest : List ℕ) → HasEncoding i → refusal_by_uses (Some (uses_of (form_of i))) (fields i) (instruction_bytes order i ++ rest) ≡ None
by_uses order i rest h =
    let bytes = instruction_bytes order i ++ rest in
    let tests = wide_tests order i rest in
    let reserved : is_wide (fields i) && not (reserved_is_zero bytes) ≡ false = ap (λ b. b && not (reserved_is_zero bytes)) (is_wide-fields i) ∙ tests.0 in
    let cut : is_wide (fields i) && nat_lt (length bytes) 16 ≡ false = ap (λ b. b && nat_lt (length bytes) 16) (is_wide-fields i) ∙ tests.1 in
    passes (nat_lt 10 ((fields i).dst) || nat_lt 10 ((fields i).src)) (each_field is_selected (uses_of (form_of i)) (fields i)) (each_field is_zero_if_unused (uses_of (form_of i)) (fields i)) (is_wide (fields i) && not (reserved_is_zero bytes)) (is_wide (fields i) && nat_lt (length bytes) 16) Register Selector (Unused (wrong_fields (uses_of (form_of i)) (fields i) (is_wide (fields i) && not (reserved_is_zero bytes)))) Truncated (small_registers i) (each_selected i h) (each_unused_is_zero i h) reserved cut

-- the bytes of an instruction have no fault
pub no_fault : (order : Order) (i : Insn) (rest : List ℕ) → HasEncoding i → refusal_here order (instruction_bytes order i ++ rest) ≡ None
unfolding refusal_here
no_fault order i rest h =
    let bytes = instruction_bytes order i ++ rest in
    ap (λ f. refusal_of_fields f bytes) (fields_in-insn order i rest h)
    ∙ ap (λ b. cond b (Some (LeftOut (left_out (fields i)))) (refusal_by_uses (uses_in table ((fields i).opcode)) (fields i) bytes)) (not_left_out i)
    ∙ ap (λ u. refusal_by_uses u (fields i) bytes) (uses_in-form ((fields i).opcode) (small_opcode i) ∙ ap (option_map uses_of) (form_in-opcode i h))
    ∙ by_uses order i rest h
