-- What each instruction of a filter becomes. The accumulator A is r0, the index register X is r3, each with zeros above 32 bits; r1 is the
-- context, r2 how many bytes of the packet are there, r4 is scratch, r5 how often a run may still jump back, and the cell M[i] is the frame's
-- slot i + 1.
use Rattle.std.specs.Prelude.{◌≡◌, ℕ, ◌+◌, ◌-◌, ◌*◌, ◌/◌, ◌%◌, ◌==◌, nat_lt, min, ℤ, pos, negsuc, ◌-ℤ◌, Bool, true, false, not, ◌&&◌, List, [], ◌∷◌, ◌++◌, length, get_or, drop, flat_map, Option, Some, None, if◌then◌else◌}
use Rattle.std.specs.List.{list_any, range_with_len}
use Rattle.std.specs.Int.{cast_signed, w32}
use Rattle.bpf_insn.specs.declared.order.Order.{Order}
use Rattle.bpf_insn.specs.declared.order.Order.TheVariants.{Little, Big}
use Rattle.bpf_insn.specs.declared.instruction.Reg.{Reg}
use Rattle.bpf_insn.specs.declared.instruction.Reg.TheVariants.{R0, R1, R2, R3, R4, R5, R10}
use Rattle.bpf_insn.specs.declared.instruction.Operand.{Operand}
use Rattle.bpf_insn.specs.declared.instruction.Operand.TheVariants.{Imm, Reg as FromReg}
use Rattle.bpf_insn.specs.declared.instruction.Width.TheVariants.{W32, W64}
use Rattle.bpf_insn.specs.declared.instruction.Size.{Size}
use Rattle.bpf_insn.specs.declared.instruction.Size.TheVariants.{B, H, W, DW}
use Rattle.bpf_insn.specs.declared.instruction.AluOp.TheVariants.{Add as AddTo, And as AndWith, Lsh as ShiftUp, Mov}
use Rattle.bpf_insn.specs.declared.instruction.Cond.{Cond}
use Rattle.bpf_insn.specs.declared.instruction.Cond.TheVariants.{Eq as IsEq, Gt as IsGt, Set as IsSet, Ne as IsNe, Lt as IsLt, Le as IsLe}
use Rattle.bpf_insn.specs.declared.instruction.EndBits.{EndBits}
use Rattle.bpf_insn.specs.declared.instruction.EndBits.TheVariants.{B16, B32}
use Rattle.bpf_insn.specs.declared.instruction.EndKind.TheVariants.{Be}
use Rattle.bpf_insn.specs.declared.instruction.Insn.{Insn}
use Rattle.bpf_insn.specs.declared.instruction.Insn.TheVariants.{Alu as AluInsn, Neg as NegInsn, End, Load, Store as StoreInsn, StoreImm, Ja, JumpIf as JumpIfInsn, Exit}
use Rattle.bpf_classic.specs.Auxiliary.{offset_of}
use Rattle.bpf_classic.specs.Machine.{bytes, same_op, same_test, divides, shifts}
use Rattle.bpf_classic.specs.declared.instruction.Register.{Register}
use Rattle.bpf_classic.specs.declared.instruction.Register.TheVariants.{A, X}
use Rattle.bpf_classic.specs.declared.instruction.Source.{Source}
use Rattle.bpf_classic.specs.declared.instruction.Source.TheVariants.{K, X as FromX}
use Rattle.bpf_classic.specs.declared.instruction.LoadSize.{LoadSize}
use Rattle.bpf_classic.specs.declared.instruction.LoadSize.TheVariants.{Byte, Half, Word}
use Rattle.bpf_classic.specs.declared.instruction.Op.{Op}
use Rattle.bpf_classic.specs.declared.instruction.Test.{Test}
use Rattle.bpf_classic.specs.declared.instruction.Test.TheVariants.{Eq, Gt, Ge, Set}
use Rattle.bpf_classic.specs.declared.instruction.Classic.{Classic}
use Rattle.bpf_classic.specs.declared.instruction.Classic.TheVariants.{Constant, Length, Cell, Store, At, Index, Header, Extension, Alu, Neg, Jump, Back, JumpIf, Return, ReturnA, Tax, Txa}
use Rattle.bpf_classic.specs.declared.layout.Form.{Form}
use Rattle.bpf_classic.specs.declared.layout.Form.TheVariants.{Blocks, Plain, Seccomp, Extended}
use Rattle.bpf_classic.specs.declared.layout.Layout.{Layout}
use Rattle.bpf_classic.specs.declared.layout.Annotated.{Annotated}

-- ---- the context

-- the bytes in front of a packet, and the most of a packet that can be there; Linux's auxiliary data is sixteen words behind the length
abbrev pub head : Form → ℕ
head Blocks = 8
head Plain = 0
head Seccomp = 0
head Extended = 72

abbrev pub room : Layout → ℕ
room l = l.length - head l.form

-- how many bytes are surely there at the entry: a block may hold fewer
abbrev pub is_block : Form → Bool
is_block Blocks = true
is_block Plain = false
is_block Seccomp = false
is_block Extended = true

abbrev pub known_first : Layout → ℕ
known_first l = if is_block l.form then 0 else room l

-- how often a run may jump back unless it is said: a chain of headers goes on by eight bytes or more each time
abbrev pub usual_turns : Form → ℕ → ℕ
usual_turns form length = (length - head form) / 8 + 1

-- where the low half of a block's length lies
abbrev pub low_half : Order → ℤ
low_half Little = pos 0
low_half Big = pos 4

abbrev pub length_offset : Layout → ℤ
length_offset l = low_half l.order

-- numbers of a packet are in network order, those of seccomp in the machine's, where a shift takes the low five bits of its distance
abbrev pub is_network : Form → Bool
is_network Blocks = true
is_network Plain = true
is_network Seccomp = false
is_network Extended = true

abbrev pub is_swapped : Layout → Bool
is_swapped l = is_network l.form

abbrev pub is_masked : Layout → Bool
is_masked l = not (is_network l.form)

-- ---- loads

abbrev pub insn_size : LoadSize → Size
insn_size Byte = B
insn_size Half = H
insn_size Word = W

abbrev pub end_bits : LoadSize → Option EndBits
end_bits Byte = None
end_bits Half = Some B16
end_bits Word = Some B32

-- how many bytes of a packet an instruction needs for its constant; none has as many where it loads from beyond
abbrev pub need : Classic → ℕ
need (At size k) = k + bytes size
need (Index size k) = k + bytes size
need (Header k) = k + 1
need _ = 0

abbrev pub is_beyond : Layout → Classic → Bool
is_beyond l i = nat_lt (room l) (need i)

-- ---- instructions

abbrev pub constant : ℕ → Operand
constant k = Imm (cast_signed w32 k)

abbrev pub reg_of : Register → Reg
reg_of A = R0
reg_of X = R3

abbrev pub operand_of : Source → Operand
operand_of (K k) = constant k
operand_of FromX = FromReg R3

-- the frame's slot of a cell, of which there are sixteen
abbrev pub cell_offset : ℕ → ℤ
cell_offset cell = pos 0 -ℤ pos (8 * (cell % 16 + 1))

abbrev pub swap_if : Option EndBits → List Insn
swap_if None = []
swap_if (Some bits) = End Be bits R0 ∷ []

abbrev pub swap_of : Layout → LoadSize → List Insn
swap_of l size = if is_swapped l then swap_if (end_bits size) else []

-- the answer 0 of all loads from outside of the packet and of divisions by zero; `out` is how far it is from the end of the template
abbrev pub trap_code : List Insn
trap_code = AluInsn Mov W32 R0 (Imm (pos 0)) ∷ Exit ∷ []

-- the test that so many bytes are there, in front of `behind` more instructions; none where it is known
abbrev pub length_test : Annotated → ℕ → ℕ → List Insn
length_test a behind out = if nat_lt a.known (need a.insn) then JumpIfInsn IsLt W64 R2 (constant (need a.insn)) (pos (out + behind)) ∷ [] else []

abbrev pub at_code : Layout → Annotated → LoadSize → ℕ → ℕ → List Insn
at_code l a size k out = length_test a (1 + length (swap_of l size)) out ++ Load (insn_size size) R0 R1 (pos (head l.form + k)) ∷ swap_of l size

abbrev pub index_code : Layout → LoadSize → ℕ → ℕ → List Insn
index_code l size k out =
    AluInsn Mov W32 R4 (FromReg R3)
    ∷ AluInsn AddTo W64 R4 (constant (k + bytes size))
    ∷ JumpIfInsn IsGt W64 R4 (FromReg R2) (pos (out + (2 + length (swap_of l size))))
    ∷ AluInsn AddTo W64 R4 (FromReg R1)
    ∷ Load (insn_size size) R0 R4 (pos (head l.form) -ℤ pos (bytes size))
    ∷ swap_of l size

abbrev pub header_code : Layout → Annotated → ℕ → ℕ → List Insn
header_code l a k out =
    length_test a 3 out
    ++ Load B R3 R1 (pos (head l.form + k))
    ∷ AluInsn AndWith W32 R3 (Imm (pos 15))
    ∷ AluInsn ShiftUp W32 R3 (Imm (pos 2))
    ∷ []

-- the loads from a packet; beyond every packet there is nothing to load
abbrev pub load_code : Layout → Annotated → Classic → ℕ → List Insn
load_code l a (At size k) out = at_code l a size k out
load_code l a (Index size k) out = index_code l size k out
load_code l a (Header k) out = header_code l a k out
load_code l a _ out = []

abbrev pub any_load_code : Layout → Annotated → Classic → ℕ → List Insn
any_load_code l a i out = if is_beyond l i then Ja (pos out) ∷ [] else load_code l a i out

-- the packet's length: all of it, also where less than that is there
abbrev pub length_insn : Form → ℤ → Reg → Insn
length_insn Blocks offset r = Load W r R1 offset
length_insn Plain offset r = AluInsn Mov W32 r (FromReg R2)
length_insn Seccomp offset r = AluInsn Mov W32 r (Imm (pos 64))
length_insn Extended offset r = Load W r R1 offset

abbrev pub length_code : Layout → Register → List Insn
length_code l to = length_insn l.form (length_offset l) (reg_of to) ∷ []

-- a word of Linux's auxiliary data, in the machine's own order; 0 where contexts hold none
abbrev pub word_insn : Form → ℕ → Insn
word_insn Blocks offset = AluInsn Mov W32 R0 (Imm (pos 0))
word_insn Plain offset = AluInsn Mov W32 R0 (Imm (pos 0))
word_insn Seccomp offset = AluInsn Mov W32 R0 (Imm (pos 0))
word_insn Extended offset = Load W R0 R1 (pos (8 + offset))

abbrev pub is_register : Source → Bool
is_register (K k) = false
is_register FromX = true

abbrev pub alu_code : Layout → Op → Source → ℕ → List Insn
alu_code l op source out =
    if is_register source && divides op then JumpIfInsn IsEq W32 R3 (Imm (pos 0)) (pos (out + 1)) ∷ AluInsn (same_op op) W32 R0 (operand_of source) ∷ []
    else if is_register source && (shifts op && not (is_masked l)) then
    JumpIfInsn IsLt W32 R3 (Imm (pos 32)) (pos 1) ∷ AluInsn Mov W32 R0 (Imm (pos 0)) ∷ AluInsn (same_op op) W32 R0 (operand_of source) ∷ []
    else AluInsn (same_op op) W32 R0 (operand_of source) ∷ []

-- the test that fails where this one holds; none for Set
abbrev pub inverse : Test → Option Cond
inverse Eq = Some IsNe
inverse Gt = Some IsLe
inverse Ge = Some IsLt
inverse Set = None

-- jumps by so many slots; where both lead to the same instruction nothing is tested, and where that is the next one nothing is written
abbrev pub jump_code : ℕ → ℕ → List Insn
jump_code k distance = if k == 0 then [] else Ja (pos distance) ∷ []

abbrev pub unless_code : Option Cond → Source → ℕ → List Insn
unless_code (Some cond) source distance = JumpIfInsn cond W32 R0 (operand_of source) (pos distance) ∷ []
unless_code None source distance = JumpIfInsn IsSet W32 R0 (operand_of source) (pos 1) ∷ Ja (pos distance) ∷ []

abbrev pub if_code : Test → Source → ℕ → ℕ → ℕ → ℕ → List Insn
if_code test source jt jf taken other =
    if jt == jf then jump_code jt taken
    else if jt == 0 then unless_code (inverse test) source other
    else JumpIfInsn (same_test test) W32 R0 (operand_of source) (pos (taken + length (jump_code jf 0))) ∷ jump_code jf other

-- no program has more slots than so many
abbrev pub most_slots : ℕ
most_slots = 30000

abbrev pub back_of : Annotated → ℕ
back_of a = min a.back most_slots

-- a jump back over so many slots in front of it, if the run may jump back once more; else 0 is answered
abbrev pub back_code : ℕ → ℕ → List Insn
back_code back out = JumpIfInsn IsEq W64 R5 (Imm (pos 0)) (pos (out + 2)) ∷ AluInsn AddTo W64 R5 (Imm (negsuc 0)) ∷ Ja (negsuc back) ∷ []

-- what is neither a load from the packet nor a jump
abbrev pub plain_code : Layout → Classic → ℕ → List Insn
plain_code l (Constant to k) out = AluInsn Mov W32 (reg_of to) (constant k) ∷ []
plain_code l (Length to) out = length_code l to
plain_code l (Cell to cell) out = Load DW (reg_of to) R10 (cell_offset cell) ∷ []
plain_code l (Store from cell) out = StoreInsn DW R10 (cell_offset cell) (reg_of from) ∷ []
plain_code l (Extension word) out = word_insn l.form (offset_of word) ∷ []
plain_code l (Alu op source) out = alu_code l op source out
plain_code l Neg out = NegInsn W32 R0 ∷ []
plain_code l (Return k) out = AluInsn Mov W32 R0 (constant k) ∷ Exit ∷ []
plain_code l ReturnA out = Exit ∷ []
plain_code l Tax out = AluInsn Mov W32 R3 (FromReg R0) ∷ []
plain_code l Txa out = AluInsn Mov W32 R0 (FromReg R3) ∷ []
plain_code l _ out = []

-- what an instruction becomes; `ahead k` is how far it is from the end of its template to that of the instruction k further on
abbrev pub code_of : Layout → Annotated → Classic → (ℕ → ℕ) → ℕ → List Insn
code_of l a (At size k) ahead out = any_load_code l a (At size k) out
code_of l a (Index size k) ahead out = any_load_code l a (Index size k) out
code_of l a (Header k) ahead out = any_load_code l a (Header k) out
code_of l a (Jump k) ahead out = jump_code k (ahead k)
code_of l a (Back k) ahead out = back_code (back_of a) out
code_of l a (JumpIf test source jt jf) ahead out = if_code test source jt jf (ahead jt) (ahead jf)
code_of l a i ahead out = plain_code l i out

-- nothing stands for an instruction that no run reaches
abbrev pub template : Layout → Annotated → (ℕ → ℕ) → ℕ → List Insn
template l a ahead out = if a.reached then code_of l a a.insn ahead out else []

-- ---- the program

abbrev pub nowhere : ℕ → ℕ
nowhere k = 0

abbrev pub size : Layout → Annotated → ℕ
size l a = length (template l a nowhere 0)

abbrev pub total : Layout → List Annotated → ℕ
total l [] = 0
total l (a ∷ rest) = size l a + total l rest

-- how far it is to the instruction k further on
abbrev pub ahead_in : Layout → List Annotated → ℕ → ℕ
ahead_in l rest k = total l rest - total l (drop k rest)

-- the same by a table of how many slots stand from each instruction on
abbrev pub from_on : List ℕ → ℕ → ℕ
from_on table at = min (get_or table at 0) most_slots

abbrev pub IsTable : Layout → List Annotated → List ℕ → Type 0
IsTable l list table = (length table ≡ length list) × ((at : ℕ) → from_on table at ≡ total l (drop at list))

abbrev pub way : List ℕ → ℕ → ℕ → ℕ
way table from k = from_on table from - from_on table (from + k)

abbrev pub code : Layout → List Annotated → List Insn
code l [] = if l.trap then trap_code else []
code l (a ∷ rest) = template l a (ahead_in l rest) (total l rest) ++ code l rest

-- the entry: how many bytes are there, how often a run may jump back if there is a loop, and zeros in registers and cells that may be read before anything has set them
abbrev pub room_insns : Layout → List Insn
room_insns l = Load DW R2 R1 (pos 0) ∷ JumpIfInsn IsLe W64 R2 (constant (room l)) (pos 1) ∷ AluInsn Mov W64 R2 (constant (room l)) ∷ []

abbrev pub room_code : Layout → List Insn
room_code l = if is_block l.form then room_insns l else []

abbrev pub zero_if : Bool → Reg → List Insn
zero_if zero r = if zero then AluInsn Mov W64 r (Imm (pos 0)) ∷ [] else []

abbrev pub turns_code : Layout → List Insn
turns_code l = if l.loops then AluInsn Mov W64 R5 (constant l.turns) ∷ [] else []

abbrev pub loads : ℕ → Classic → Bool
loads cell (Cell to other) = other == cell
loads cell _ = false

abbrev pub is_loaded : List Annotated → ℕ → Bool
is_loaded filter cell = list_any (λ a. a.reached && loads cell a.insn) filter

abbrev pub zero_cell : List Annotated → ℕ → List Insn
zero_cell filter cell = if is_loaded filter cell then StoreImm DW R10 (cell_offset cell) (pos 0) ∷ [] else []

abbrev pub entry : Layout → List Annotated → List Insn
entry l filter = room_code l ++ (turns_code l ++ (zero_if l.zero_a R0 ++ (zero_if l.zero_x R3 ++ flat_map (zero_cell filter) (range_with_len 0 16))))

abbrev pub whole : Layout → List Annotated → List Insn
whole l filter = entry l filter ++ code l filter
