-- How each part of an instruction is spelled.
use Rattle.std.specs.Prelude.{ℕ, List, codes}
use Rattle.bpf_insn.specs.declared.instruction.Reg.{Reg}
use Rattle.bpf_insn.specs.declared.instruction.Reg.TheVariants.{R0, R1, R2, R3, R4, R5, R6, R7, R8, R9, R10}
use Rattle.bpf_insn.specs.declared.instruction.Size.{Size}
use Rattle.bpf_insn.specs.declared.instruction.Size.TheVariants.{B, H, W, DW}
use Rattle.bpf_insn.specs.declared.instruction.Width.{Width}
use Rattle.bpf_insn.specs.declared.instruction.Width.TheVariants.{W32, W64}
use Rattle.bpf_insn.specs.declared.instruction.AluOp.{AluOp}
use Rattle.bpf_insn.specs.declared.instruction.AluOp.TheVariants.{Add, Sub, Mul, Div, SDiv, Or, And, Lsh, Rsh, Mod, SMod, Xor, Mov, Arsh}
use Rattle.bpf_insn.specs.declared.instruction.SignBits.{SignBits}
use Rattle.bpf_insn.specs.declared.instruction.SignBits.TheVariants.{B8 as S8, B16 as S16, B32 as S32}
use Rattle.bpf_insn.specs.declared.instruction.EndKind.{EndKind}
use Rattle.bpf_insn.specs.declared.instruction.EndKind.TheVariants.{Le as ToLe, Be as ToBe, Swap}
use Rattle.bpf_insn.specs.declared.instruction.EndBits.{EndBits}
use Rattle.bpf_insn.specs.declared.instruction.EndBits.TheVariants.{B16 as E16, B32 as E32, B64 as E64}
use Rattle.bpf_insn.specs.declared.instruction.Cond.{Cond}
use Rattle.bpf_insn.specs.declared.instruction.Cond.TheVariants.{Eq, Gt, Ge, Set, Ne, SGt, SGe, Lt, Le, SLt, SLe}
use Rattle.bpf_insn.specs.declared.instruction.Modify.{Modify}
use Rattle.bpf_insn.specs.declared.instruction.Modify.TheVariants.{Add as AddTo, Or as OrTo, And as AndTo, Xor as XorTo}

-- `w` names the low 32 bits of a register
abbrev pub register_text : Width → Reg → List ℕ
register_text W32 R0 = codes "w0"
register_text W32 R1 = codes "w1"
register_text W32 R2 = codes "w2"
register_text W32 R3 = codes "w3"
register_text W32 R4 = codes "w4"
register_text W32 R5 = codes "w5"
register_text W32 R6 = codes "w6"
register_text W32 R7 = codes "w7"
register_text W32 R8 = codes "w8"
register_text W32 R9 = codes "w9"
register_text W32 R10 = codes "w10"
register_text W64 R0 = codes "r0"
register_text W64 R1 = codes "r1"
register_text W64 R2 = codes "r2"
register_text W64 R3 = codes "r3"
register_text W64 R4 = codes "r4"
register_text W64 R5 = codes "r5"
register_text W64 R6 = codes "r6"
register_text W64 R7 = codes "r7"
register_text W64 R8 = codes "r8"
register_text W64 R9 = codes "r9"
register_text W64 R10 = codes "r10"

abbrev pub operation_text : AluOp → List ℕ
operation_text Add = codes "+="
operation_text Sub = codes "-="
operation_text Mul = codes "*="
operation_text Div = codes "/="
operation_text SDiv = codes "s/="
operation_text Or = codes "|="
operation_text And = codes "&="
operation_text Lsh = codes "<<="
operation_text Rsh = codes ">>="
operation_text Mod = codes "%="
operation_text SMod = codes "s%="
operation_text Xor = codes "^="
operation_text Mov = codes "="
operation_text Arsh = codes "s>>="

abbrev pub cond_text : Cond → List ℕ
cond_text Eq = codes "=="
cond_text Gt = codes ">"
cond_text Ge = codes ">="
cond_text Set = codes "&"
cond_text Ne = codes "!="
cond_text SGt = codes "s>"
cond_text SGe = codes "s>="
cond_text Lt = codes "<"
cond_text Le = codes "<="
cond_text SLt = codes "s<"
cond_text SLe = codes "s<="

abbrev pub modify_text : Modify → List ℕ
modify_text AddTo = codes "+="
modify_text OrTo = codes "|="
modify_text AndTo = codes "&="
modify_text XorTo = codes "^="

abbrev pub sign_bits_text : SignBits → List ℕ
sign_bits_text S8 = codes "s8"
sign_bits_text S16 = codes "s16"
sign_bits_text S32 = codes "s32"

abbrev pub swap_text : EndKind → EndBits → List ℕ
swap_text ToLe E16 = codes "le16"
swap_text ToLe E32 = codes "le32"
swap_text ToLe E64 = codes "le64"
swap_text ToBe E16 = codes "be16"
swap_text ToBe E32 = codes "be32"
swap_text ToBe E64 = codes "be64"
swap_text Swap E16 = codes "bswap16"
swap_text Swap E32 = codes "bswap32"
swap_text Swap E64 = codes "bswap64"

-- what an access reads or writes: a number without or with a sign
abbrev pub unsigned_text : Size → List ℕ
unsigned_text B = codes "u8"
unsigned_text H = codes "u16"
unsigned_text W = codes "u32"
unsigned_text DW = codes "u64"

abbrev pub signed_text : Size → List ℕ
signed_text B = codes "s8"
signed_text H = codes "s16"
signed_text W = codes "s32"
signed_text DW = codes "s64"
