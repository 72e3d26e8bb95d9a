-- The operations of instructions on abstract numbers.
use Rattle.std.specs.Prelude.{ℕ, ◌%◌, ◌*◌, ◌&&◌, nat_eq, Option, Some, None, if◌then◌else◌, option_and_then}
use mir.Val.{bits}
use Rattle.bpf_insn.specs.declared.order.Order.{Order}
use Rattle.bpf_insn.specs.declared.instruction.AluOp.{AluOp}
use Rattle.bpf_insn.specs.declared.instruction.AluOp.TheVariants.{Sub, SDiv, Lsh, Rsh, SMod, Mov, Arsh}
use Rattle.bpf_insn.specs.declared.instruction.Width.{Width}
use Rattle.bpf_insn.specs.declared.instruction.Width.TheVariants.{W32, W64}
use Rattle.bpf_insn.specs.declared.instruction.SignBits.{SignBits}
use Rattle.bpf_insn.specs.declared.instruction.SignBits.TheVariants.{B32 as S32}
use Rattle.bpf_insn.specs.declared.instruction.EndBits.{EndBits}
use Rattle.bpf_insn.specs.declared.instruction.EndBits.TheVariants.{B32 as E32}
use Rattle.bpf_insn.specs.declared.instruction.EndKind.{EndKind}
use Rattle.bpf_insn.specs.Order.{reverses}
use Rattle.bpf_insn.specs.Arithmetic.{numbers, sign_type, swap_size}
use Rattle.bpf_num.specs.Word.{exact, truncated, sign_extended, reversed}
use Rattle.bpf_num.specs.Tristate.{Tristate, bits_binary, bits_shift, bits_moved}
use Rattle.bpf_num.specs.Interval.{unsigned_binary, unsigned_shift, unsigned_truncate, unsigned_sign_extend, unsigned_swap}
use Rattle.bpf_num.specs.SignedInterval.{signed_binary, signed_shift, signed_truncate, signed_sign_extend, signed_swap}
use Rattle.bpf_num.specs.Number.{Number, number, constant, is_constant, tighten}

-- the result of an operation: of constants the exact one, else the three parts' results, tightened
abbrev pub of_one : (ℕ → ℕ) → (Number → Number) → Number → Option Number
of_one f parts a = if is_constant a then Some (constant (f a.bits.value)) else tighten (parts a)

abbrev pub of_two : (ℕ → ℕ → ℕ) → (Number → Number → Number) → Number → Number → Option Number
of_two f parts a b =
    if is_constant a && is_constant b then Some (constant (f a.bits.value b.bits.value)) else tighten (parts a b)

-- ---- one operand

abbrev pub truncate_parts : EndBits → Number → Number
truncate_parts size a =
    let w = 8 * swap_size size in
    number (bits_moved (truncated w) a.bits) (unsigned_truncate w a.unsigned) (signed_truncate w a.signed)

abbrev pub num_truncate : EndBits → Number → Option Number
num_truncate size = of_one (truncated (8 * swap_size size)) (truncate_parts size)

abbrev pub sign_extend_parts : SignBits → Number → Number
sign_extend_parts from a =
    let w = bits (sign_type from) in
    number (bits_moved (sign_extended from) a.bits) (unsigned_sign_extend w a.unsigned) (signed_sign_extend w a.signed)

abbrev pub num_sign_extend : SignBits → Number → Option Number
num_sign_extend from = of_one (sign_extended from) (sign_extend_parts from)

abbrev pub reverse_parts : EndBits → Number → Number
reverse_parts size a =
    let w = 8 * swap_size size in
    number (bits_moved (reversed size) a.bits) (unsigned_swap w a.unsigned) (signed_swap w a.signed)

abbrev pub num_reverse : EndBits → Number → Option Number
num_reverse size = of_one (reversed size) (reverse_parts size)

-- ---- two operands of 64 bits

abbrev pub binary_parts : AluOp → Number → Number → Number
binary_parts op a b =
    number (bits_binary op a.bits b.bits) (unsigned_binary op a.unsigned b.unsigned) (signed_binary op a.signed b.signed)

abbrev pub num_binary : AluOp → Number → Number → Option Number
num_binary op = of_two (exact op) (binary_parts op)

-- the amount of a shift at a width: the low bits of the right operand, if they are known
abbrev pub shift_amount : Width → Tristate → Option ℕ
shift_amount width b =
    let w = bits (numbers width) in
    if nat_eq (b.mask % w) 0 then Some (b.value % w) else None

abbrev pub shift_parts : Width → AluOp → Number → Number → Number
shift_parts width op a b =
    let amount = shift_amount width b.bits in
    number (bits_shift op amount a.bits) (unsigned_shift op amount a.unsigned) (signed_shift op amount a.signed)

-- a shift of 64 bits whose amount is masked at a width
abbrev pub masked : Width → AluOp → ℕ → ℕ → ℕ
masked width op x y = exact op x (y % bits (numbers width))

abbrev pub num_shift : Width → AluOp → Number → Number → Option Number
num_shift width op = of_two (masked width op) (shift_parts width op)

-- an operation on 64 bits, with shift amounts masked at a width
abbrev pub num_wide : Width → AluOp → Number → Number → Option Number
num_wide width Lsh a b = num_shift width Lsh a b
num_wide width Rsh a b = num_shift width Rsh a b
num_wide width Arsh a b = num_shift width Arsh a b
num_wide width Mov a b = Some b
num_wide width op a b = num_binary op a b

-- ---- the low 32 bits

abbrev pub num_signed32 : Number → Option Number
num_signed32 a = option_and_then (num_sign_extend S32) (num_truncate E32 a)

-- the operands as an operation on 32 bits reads them: sign-extended where it is signed; a move doesn't read its left one
abbrev pub num_left32 : AluOp → Number → Option Number
num_left32 SDiv a = num_signed32 a
num_left32 SMod a = num_signed32 a
num_left32 Arsh a = num_signed32 a
num_left32 Mov a = Some a
num_left32 op a = num_truncate E32 a

abbrev pub num_right32 : AluOp → Number → Option Number
num_right32 SDiv b = num_signed32 b
num_right32 SMod b = num_signed32 b
num_right32 op b = num_truncate E32 b

abbrev pub num_alu32 : AluOp → Number → Number → Option Number
num_alu32 op a b =
    option_and_then (λ left.
    option_and_then (λ right.
    option_and_then (num_truncate E32)
    (num_wide W32 op left right)) (num_right32 op b)) (num_left32 op a)

-- ---- instructions

abbrev pub num_alu : Width → AluOp → Number → Number → Option Number
num_alu W64 op a b = num_wide W64 op a b
num_alu W32 op a b = num_alu32 op a b

-- 0 minus a
abbrev pub num_neg : Width → Number → Option Number
num_neg width a = num_alu width Sub (constant 0) a

abbrev pub num_movsx : Width → SignBits → Number → Option Number
num_movsx W64 from a = num_sign_extend from a
num_movsx W32 from a = option_and_then (num_truncate E32) (num_sign_extend from a)

abbrev pub num_end : Order → EndKind → EndBits → Number → Option Number
num_end order kind size a = if reverses order kind then num_reverse size a else num_truncate size a
