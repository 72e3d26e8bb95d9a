-- The words of which the names of operations are made. A name is `bpf_`, the operation, its width, and of what is in memory the byte order.
use Rattle.std.specs.Prelude.{ℕ, List, true, false, codes}
use Rattle.bpf_insn.specs.declared.instruction.Reg.{Reg}
use Rattle.bpf_insn.specs.declared.instruction.Size.{Size}
use Rattle.bpf_insn.specs.declared.instruction.Width.{Width}
use Rattle.bpf_insn.specs.declared.instruction.AluOp.{AluOp}
use Rattle.bpf_insn.specs.declared.instruction.SignBits.{SignBits}
use Rattle.bpf_insn.specs.declared.instruction.EndKind.{EndKind}
use Rattle.bpf_insn.specs.declared.instruction.EndBits.{EndBits}
use Rattle.bpf_insn.specs.declared.instruction.Cond.{Cond}
use Rattle.bpf_insn.specs.declared.instruction.AtomicOp.{AtomicOp}
use Rattle.bpf_insn.specs.declared.order.Order.{Order}
use Rattle.bpf_insn.specs.declared.instruction.Reg.TheVariants.{R0, R1, R2, R3, R4, R5, R6, R7, R8, R9, R10}
use Rattle.bpf_insn.specs.declared.instruction.Size.TheVariants.{B, H, W, DW}
use Rattle.bpf_insn.specs.declared.instruction.Width.TheVariants.{W32, W64}
use Rattle.bpf_insn.specs.declared.instruction.AluOp.TheVariants.{Add, Sub, Mul, Div, SDiv, Or, And, Lsh, Rsh, Mod, SMod, Xor, Mov, Arsh}
use Rattle.bpf_insn.specs.declared.instruction.SignBits.TheVariants.{B8, B16, B32}
use Rattle.bpf_insn.specs.declared.instruction.EndKind.TheVariants.{Le as LittleEnd, Be as BigEnd, Swap}
use Rattle.bpf_insn.specs.declared.instruction.EndBits.TheVariants.{B16 as E16, B32 as E32, B64 as E64}
use Rattle.bpf_insn.specs.declared.instruction.Cond.TheVariants.{Eq, Gt, Ge, Set, Ne, SGt, SGe, Lt, Le, SLt, SLe}
use Rattle.bpf_insn.specs.declared.instruction.Modify.TheVariants.{Add as AddTo, Or as OrTo, And as AndTo, Xor as XorTo}
use Rattle.bpf_insn.specs.declared.instruction.AtomicOp.TheVariants.{Modify as Changes, Xchg, CmpXchg}
use Rattle.bpf_insn.specs.declared.order.Order.TheVariants.{Little, Big}

-- an operation (RFC 9669, section 4.1)
abbrev pub alu_word : AluOp → List ℕ
alu_word Add = codes "    bpf_add"
alu_word Sub = codes "    bpf_sub"
alu_word Mul = codes "    bpf_mul"
alu_word Div = codes "    bpf_div"
alu_word SDiv = codes "    bpf_sdiv"
alu_word Or = codes "    bpf_or"
alu_word And = codes "    bpf_and"
alu_word Lsh = codes "    bpf_lsh"
alu_word Rsh = codes "    bpf_rsh"
alu_word Mod = codes "    bpf_mod"
alu_word SMod = codes "    bpf_smod"
alu_word Xor = codes "    bpf_xor"
alu_word Mov = codes "    bpf_mov"
alu_word Arsh = codes "    bpf_arsh"

-- its width
abbrev pub width_word : Width → List ℕ
width_word W32 = codes "32("
width_word W64 = codes "64("

-- the size of what is in memory
abbrev pub size_word : Size → List ℕ
size_word B = codes "8"
size_word H = codes "16"
size_word W = codes "32"
size_word DW = codes "64"

-- the byte order of the memory
abbrev pub order_word : Order → List ℕ
order_word Little = codes "_le("
order_word Big = codes "_be("

-- bytes that stay as they are, or are reversed (section 4.2)
abbrev pub swap_word : Order → EndKind → List ℕ
swap_word Little LittleEnd = codes "    bpf_keep"
swap_word Big LittleEnd = codes "    bpf_swap"
swap_word Little BigEnd = codes "    bpf_swap"
swap_word Big BigEnd = codes "    bpf_keep"
swap_word Little Swap = codes "    bpf_swap"
swap_word Big Swap = codes "    bpf_swap"

-- of how many bits
abbrev pub bits_word : EndBits → List ℕ
bits_word E16 = codes "16("
bits_word E32 = codes "32("
bits_word E64 = codes "64("

-- a sign extension from a number of bits
abbrev pub extension_word : SignBits → List ℕ
extension_word B8 = codes "    bpf_s8to"
extension_word B16 = codes "    bpf_s16to"
extension_word B32 = codes "    bpf_s32to"

-- a test (section 4.3)
abbrev pub cond_word : Cond → List ℕ
cond_word Eq = codes "    if (bpf_eq"
cond_word Gt = codes "    if (bpf_gt"
cond_word Ge = codes "    if (bpf_ge"
cond_word Set = codes "    if (bpf_set"
cond_word Ne = codes "    if (bpf_ne"
cond_word SGt = codes "    if (bpf_sgt"
cond_word SGe = codes "    if (bpf_sge"
cond_word Lt = codes "    if (bpf_lt"
cond_word Le = codes "    if (bpf_le"
cond_word SLt = codes "    if (bpf_slt"
cond_word SLe = codes "    if (bpf_sle"

-- an atomic operation, without and with a fetch (section 5.3)
abbrev pub atomic_word : AtomicOp → List ℕ
atomic_word (Changes AddTo false) = codes "    bpf_atomic_add"
atomic_word (Changes OrTo false) = codes "    bpf_atomic_or"
atomic_word (Changes AndTo false) = codes "    bpf_atomic_and"
atomic_word (Changes XorTo false) = codes "    bpf_atomic_xor"
atomic_word (Changes AddTo true) = codes "    bpf_fetch_add"
atomic_word (Changes OrTo true) = codes "    bpf_fetch_or"
atomic_word (Changes AndTo true) = codes "    bpf_fetch_and"
atomic_word (Changes XorTo true) = codes "    bpf_fetch_xor"
atomic_word Xchg = codes "    bpf_xchg"
atomic_word CmpXchg = codes "    bpf_cmpxchg"

-- a register
abbrev pub register_word : Reg → List ℕ
register_word R0 = codes "r0"
register_word R1 = codes "r1"
register_word R2 = codes "r2"
register_word R3 = codes "r3"
register_word R4 = codes "r4"
register_word R5 = codes "r5"
register_word R6 = codes "r6"
register_word R7 = codes "r7"
register_word R8 = codes "r8"
register_word R9 = codes "r9"
register_word R10 = codes "r10"
