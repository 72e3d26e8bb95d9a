-- Which mistake of kinds is told, slots that are read aside.
use Rattle.std.specs.Prelude.{◌&&◌, not, Option, Some, None, if◌then◌else◌}
use Rattle.std.specs.Option.{option_or}
use Rattle.bpf_insn.specs.declared.instruction.Reg.{Reg}
use Rattle.bpf_insn.specs.declared.instruction.Reg.TheVariants.{R0}
use Rattle.bpf_insn.specs.declared.instruction.Operand.{Operand}
use Rattle.bpf_insn.specs.declared.instruction.Operand.TheVariants.{Imm, Reg as FromReg}
use Rattle.bpf_insn.specs.declared.instruction.Width.{Width}
use Rattle.bpf_insn.specs.declared.instruction.Width.TheVariants.{W32, W64}
use Rattle.bpf_insn.specs.declared.instruction.AluOp.{AluOp}
use Rattle.bpf_insn.specs.declared.instruction.AluOp.TheVariants.{Add, Sub, Mov}
use Rattle.bpf_insn.specs.declared.instruction.AtomicOp.{AtomicOp}
use Rattle.bpf_insn.specs.declared.instruction.AtomicOp.TheVariants.{CmpXchg}
use Rattle.bpf_insn.specs.declared.instruction.Insn.{Insn}
use Rattle.bpf_insn.specs.declared.instruction.Insn.TheVariants.{Alu, Neg, MovSx, End, Load, LoadSx, Store, StoreImm, Atomic, JumpIf, Exit}
use Rattle.bpf_state.specs.declared.known.RegState.{RegState}
use Rattle.bpf_state.specs.declared.known.RegState.TheVariants.{Ptr}
use Rattle.bpf_state.specs.declared.cause.Mistake.{Mistake}
use Rattle.bpf_state.specs.declared.cause.Mistake.TheVariants.{NotNumber, NotPointer, PointersAdded, PointerSubtracted, OtherAreas, WrongTest, StoredInPart}
use Rattle.bpf_state.specs.State.{AbstractState, register, same_area}
use Rattle.bpf_state.specs.Access.{Span, span_at, is_slot}
use Rattle.bpf_state.specs.Fault.{operand, is_number, is_pointer, can_test}

abbrev pub unless_number : AbstractState → Reg → Option Mistake
unless_number s r = if is_number (register s r) then None else Some (NotNumber r)

abbrev pub unless_pointer : AbstractState → Reg → Option Mistake
unless_pointer s r = if is_pointer (register s r) then None else Some (NotPointer r)

abbrev pub unless_operand : AbstractState → Operand → Option Mistake
unless_operand s (Imm imm) = None
unless_operand s (FromReg r) = unless_number s r

abbrev pub unless_numbers : AbstractState → Reg → Operand → Option Mistake
unless_numbers s dst src = option_or (unless_number s dst) (unless_operand s src)

abbrev pub of_sum : RegState → RegState → Option Mistake
of_sum a b = if is_pointer a && is_pointer b then Some PointersAdded else None

abbrev pub of_difference : RegState → RegState → Option Mistake
of_difference (Ptr p) (Ptr q) = if same_area p.area q.area then None else Some OtherAreas
of_difference _ (Ptr q) = Some PointerSubtracted
of_difference _ _ = None

abbrev pub of_alu : AbstractState → Width → AluOp → Reg → Operand → Option Mistake
of_alu s W64 Mov dst src = None
of_alu s W32 Mov dst src = unless_operand s src
of_alu s W64 Add dst src = of_sum (register s dst) (operand s src)
of_alu s W64 Sub dst src = of_difference (register s dst) (operand s src)
of_alu s width op dst src = unless_numbers s dst src

-- the store of a value at a span
abbrev pub of_span : Reg → RegState → Option Span → Option Mistake
of_span dst value None = Some (NotPointer dst)
of_span dst value (Some p) = if is_pointer value && not (is_slot p) then Some StoredInPart else None

abbrev pub of_atomic : AbstractState → AtomicOp → Reg → Reg → Option Mistake
of_atomic s CmpXchg dst src = option_or (unless_pointer s dst) (option_or (unless_number s src) (unless_number s R0))
of_atomic s op dst src = option_or (unless_pointer s dst) (unless_number s src)

abbrev pub of_operands : AbstractState → Insn → Option Mistake
of_operands s (Alu op width dst src) = of_alu s width op dst src
of_operands s (Neg width dst) = unless_number s dst
of_operands s (MovSx width bits dst src) = unless_number s src
of_operands s (End kind bits dst) = unless_number s dst
of_operands s (Load size dst src off) = unless_pointer s src
of_operands s (LoadSx size dst src off) = unless_pointer s src
of_operands s (Store size dst off src) = of_span dst (register s src) (span_at off size (register s dst))
of_operands s (StoreImm size dst off imm) = unless_pointer s dst
of_operands s (Atomic wide op dst off src) = of_atomic s op dst src
of_operands s (JumpIf cond width dst src off) = if can_test width cond (register s dst) (operand s src) then None else Some WrongTest
of_operands s Exit = unless_number s R0
of_operands s _ = None
