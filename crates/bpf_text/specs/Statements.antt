-- What a line may say, and the instructions that the parts of a form make.
use Rattle.std.specs.Prelude.{ℕ, Bool, true, false, List, Option, Some, None, ℤ, option_map}
use Rattle.bpf_insn.specs.declared.instruction.Reg.{Reg}
use Rattle.bpf_insn.specs.declared.instruction.Size.{Size}
use Rattle.bpf_insn.specs.declared.instruction.Width.{Width}
use Rattle.bpf_insn.specs.declared.instruction.Width.TheVariants.{W32}
use Rattle.bpf_insn.specs.declared.instruction.Operand.{Operand}
use Rattle.bpf_insn.specs.declared.instruction.Operand.TheVariants.{Imm, Reg as FromReg}
use Rattle.bpf_insn.specs.declared.instruction.SignBits.{SignBits}
use Rattle.bpf_insn.specs.declared.instruction.SignBits.TheVariants.{B32 as S32}
use Rattle.bpf_insn.specs.declared.instruction.Insn.{Insn}
use Rattle.bpf_insn.specs.declared.instruction.Insn.TheVariants.{Load, LoadSx, Store, StoreImm, Ja, JaLong, JumpIf, CallLocal}
use Rattle.bpf_text.specs.declared.spelling.Memory.{Memory}
use Rattle.bpf_text.specs.declared.spelling.Memory.TheVariants.{Unsigned, Signed}
use Rattle.bpf_text.specs.declared.statement.Jump.{Jump}
use Rattle.bpf_text.specs.declared.statement.Jump.TheVariants.{Goto as ToSlot, GotoLong as FarToSlot, Call as CallSlot, If as OnTest}
use Rattle.bpf_text.specs.declared.statement.Statement.{Statement as Written}
use Rattle.bpf_text.specs.declared.statement.Statement.TheVariants.{Plain, ToLabel}
use Rattle.bpf_text.specs.Numerals.{fits_16, fits_32}

-- an instruction, or a jump or call to a label
pub data Statement : Type 0 where
  plain : Insn → Statement
  to_label : Jump → List ℕ → Statement

-- a statement of the code without where its name lies in memory
abbrev pub seen : Written → Statement
seen (Plain i) = plain i
seen (ToLabel jump name) = to_label jump name.now

abbrev pub is_extension : Width → SignBits → Bool
is_extension W32 S32 = false
is_extension _ _ = true

-- a load, zero-extended from u8 to u64, sign-extended from s8 to s32
abbrev pub load_of : Memory → Reg → Reg → ℤ → Insn
load_of (Unsigned size) dst base off = Load size dst base off
load_of (Signed size) dst base off = LoadSx size dst base off

abbrev pub store_of : Size → Reg → Option ℤ → Option Operand → Option Insn
store_of size base (Some off) (Some (FromReg r)) = Some (Store size base off r)
store_of size base (Some off) (Some (Imm imm)) = Some (StoreImm size base off imm)
store_of size base _ _ = None

-- a jump or call by a distance, where the distance fits
abbrev pub jump_by : Jump → ℤ → Option Insn
jump_by ToSlot z = option_map Ja (fits_16 z)
jump_by FarToSlot z = option_map JaLong (fits_32 z)
jump_by CallSlot z = option_map CallLocal (fits_32 z)
jump_by (OnTest cond width dst src) z = option_map (JumpIf cond width dst src) (fits_16 z)
