-- What arithmetic makes of what is known of two values, or why it is refused.
use Rattle.std.specs.Prelude.{ℕ, Option, Some, None, Result, Ok, Err, IfOk, IfSome, option_map, if◌then◌else◌}
use Rattle.bpf_insn.specs.Effects.{is_frame_pointer}
use Rattle.bpf_insn.specs.declared.instruction.Reg.{Reg}
use Rattle.bpf_insn.specs.declared.instruction.Width.{Width}
use Rattle.bpf_insn.specs.declared.instruction.Width.TheVariants.{W64}
use Rattle.bpf_insn.specs.declared.instruction.AluOp.{AluOp}
use Rattle.bpf_insn.specs.declared.instruction.AluOp.TheVariants.{Add, Sub, Lsh, Rsh, Mov, Arsh}
use Rattle.bpf_num.specs.Word.{exact}
use Rattle.bpf_num.specs.Number.{is_constant}
use Rattle.bpf_num.specs.Operation.{num_alu}
use Rattle.bpf_state.specs.declared.fault.StateFault.{StateFault}
use Rattle.bpf_state.specs.declared.fault.StateFault.TheVariants.{WrongKinds, OutOfBounds}
use Rattle.bpf_state.specs.declared.known.RegState.{RegState}
use Rattle.bpf_state.specs.declared.known.RegState.TheVariants.{Num, Ptr}
use Rattle.bpf_state.specs.declared.known.Tag.{Tag}
use Rattle.bpf_state.specs.State.{AbstractState, IsRegister, put_register}
use Rattle.bpf_state.specs.Fault.{pointer_plus, pointer_minus, alu_of_kinds, leaves_bounds}
use Rattle.bpf_state.specs.Transfer.{Outcome, Faulty, live}

-- the number that is known of a value, if it is one alone
abbrev pub number_known : RegState → Option ℕ
number_known (Num n) = if is_constant n then Some n.bits.value else None
number_known _ = None

-- the exact result of an operation of 64 bits on numbers that are known, but for moves and shifts
abbrev pub exact_result : AluOp → ℕ → ℕ → Option ℕ
exact_result Mov x y = None
exact_result Lsh x y = None
exact_result Rsh x y = None
exact_result Arsh x y = None
exact_result op x y = Some (exact op x y)

-- what is known of the result, None only if it has no member, or a fault
abbrev pub Known : Type 0
Known = Result (Option RegState) StateFault

-- the bounds of a pointer are in order
abbrev pub IsKnown : Known → Type 0
IsKnown known = IfOk known (λ result. IfSome result IsRegister)

-- a pointer that isn't too far off
abbrev pub near_value : RegState → Known
near_value value = if leaves_bounds value then Err OutOfBounds else Ok (Some value)

-- a move takes any pointer
abbrev pub judged_result : AluOp → Option (Option RegState) → Known
judged_result op None = Err WrongKinds
judged_result op (Some None) = Ok None
judged_result Mov (Some (Some value)) = Ok (Some value)
judged_result op (Some (Some value)) = near_value value

abbrev pub result_of : Width → AluOp → RegState → RegState → Known
result_of width op a b = judged_result op (alu_of_kinds width op a b)

-- the pointer that a pointer and a number make, however far off it is
abbrev pub moved_by_sum : RegState → RegState → Option RegState
moved_by_sum (Ptr p) (Num n) = Some (pointer_plus p n)
moved_by_sum (Num n) (Ptr p) = Some (pointer_plus p n)
moved_by_sum _ _ = None

abbrev pub moved_by_difference : RegState → RegState → Option RegState
moved_by_difference (Ptr p) (Num n) = Some (pointer_minus p n)
moved_by_difference _ _ = None

abbrev pub moved_pointer : Width → AluOp → RegState → RegState → Option RegState
moved_pointer W64 Add a b = moved_by_sum a b
moved_pointer W64 Sub a b = moved_by_difference a b
moved_pointer _ _ _ _ = None

-- of numbers alone
abbrev pub numbers_result : Width → AluOp → RegState → RegState → Known
numbers_result width op (Num m) (Num n) = Ok (option_map Num (num_alu width op m n))
numbers_result width op _ _ = Err WrongKinds

-- a result and its tag put into a register, which isn't r10
abbrev pub written : Reg → Option RegState → Option Tag → AbstractState → Outcome
written r known tag s = if is_frame_pointer r then Faulty 7 else live (option_map (λ value. put_register r value tag s) known)
