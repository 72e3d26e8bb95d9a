-- The reader that computes, second part: the statement in front of a text, and the text behind it. A number out of its
-- range is read too: what is read is then None. That it reads the forms of Grammar is the law `ReadsForms`.
use Rattle.std.specs.Prelude.{ℕ, Bool, true, false, List, [], ◌∷◌, Option, Some, None, ℤ, pos, neg_ℤ, if◌then◌else◌, codes, option_map}
use Rattle.bpf_insn.specs.declared.instruction.Reg.{Reg}
use Rattle.bpf_insn.specs.declared.instruction.Size.{Size}
use Rattle.bpf_insn.specs.declared.instruction.Size.TheVariants.{W, DW}
use Rattle.bpf_insn.specs.declared.instruction.Width.{Width}
use Rattle.bpf_insn.specs.declared.instruction.Width.TheVariants.{W32, W64}
use Rattle.bpf_insn.specs.declared.instruction.Operand.{Operand}
use Rattle.bpf_insn.specs.declared.instruction.Operand.TheVariants.{Imm, Reg as FromReg}
use Rattle.bpf_insn.specs.declared.instruction.AluOp.{AluOp}
use Rattle.bpf_insn.specs.declared.instruction.AluOp.TheVariants.{Mov}
use Rattle.bpf_insn.specs.declared.instruction.Cond.{Cond}
use Rattle.bpf_insn.specs.declared.instruction.AtomicOp.{AtomicOp}
use Rattle.bpf_insn.specs.declared.instruction.AtomicOp.TheVariants.{Modify as Changes, Xchg, CmpXchg}
use Rattle.bpf_insn.specs.declared.instruction.Insn.{Insn}
use Rattle.bpf_insn.specs.declared.instruction.Insn.TheVariants.{Alu, Neg, MovSx, End, LoadImm64, Atomic, Exit}
use Rattle.bpf_text.specs.declared.spelling.Register.{Register}
use Rattle.bpf_text.specs.declared.spelling.Swap.{Swap}
use Rattle.bpf_text.specs.declared.spelling.Memory.{Memory}
use Rattle.bpf_text.specs.declared.spelling.Memory.TheVariants.{Unsigned, Signed}
use Rattle.bpf_text.specs.declared.spelling.Keyword.{Keyword}
use Rattle.bpf_text.specs.Parts.{registers, operations, conditions, modifications, extensions, swaps, memories, keywords, register_spelling, swap_spelling, memory_text, keyword_text}
use Rattle.bpf_text.specs.declared.statement.memory.MemoryOperand.{MemoryOperand}
use Rattle.bpf_text.specs.declared.statement.Jump.{Jump}
use Rattle.bpf_text.specs.declared.statement.Jump.TheVariants.{Goto as ToSlot, GotoLong as FarToSlot, Call as CallSlot, If as OnTest}
use Rattle.bpf_text.specs.Spelling.{register_text, operation_text, cond_text, modify_text, sign_bits_text}
use Rattle.bpf_text.specs.declared.spelling.Keyword.TheVariants as keyword
use Rattle.bpf_text.specs.Characters.{is_name}
use Rattle.bpf_text.specs.Numerals.{fits_16, fits_32, fits_wide}
use Rattle.bpf_text.specs.Statements.{Statement, is_extension, load_of, store_of, jump_by, plain, to_label}
use Rattle.bpf_text.specs.code.WordReading.{skip_blanks, Read, ◌>>=◌, word_in, behind_mark, behind, first_spelled, unsigned_in, number_in, signed_in}

-- one way where it can be gone, else the other
abbrev pub first_way : {A B : Type 0} → Option A → (A → B) → B → B
first_way None way other = other
first_way (Some x) way other = way x

-- what is read, None for a number out of its range; and the text behind it
abbrev pub Checked : Type 0 → Type 0
Checked A = Read (Option A)

-- ---- registers and operands

abbrev pub same_width : Width → Width → Bool
same_width W32 W32 = true
same_width W64 W64 = true
same_width _ _ = false

unfoldable pub any_register_in : List ℕ → Read Register
any_register_in text = first_spelled register_spelling registers text

unfoldable pub register_in : Width → List ℕ → Read Reg
register_in width text = any_register_in text >>= λ r. if same_width (r.0).0 width then Some ((r.0).1, r.1) else None

unfoldable pub operand_in : Width → List ℕ → Checked Operand
operand_in width text = first_way (register_in width text) (λ r. Some (Some (FromReg r.0), r.1))
    (number_in text >>= λ n. Some (option_map Imm (fits_32 n.0), n.1))

-- ---- what stands behind `=`

abbrev pub wide_if : Width → Reg → ℤ → List ℕ → Checked Insn
wide_if W32 dst z rest = None
wide_if W64 dst z rest = Some (option_map (LoadImm64 dst) (fits_wide z), rest)

-- a constant: with `ll` behind it one of 64 bits
unfoldable pub constant_in : Width → Reg → ℤ → List ℕ → Checked Insn
constant_in width dst z text = first_way (behind (codes "ll") text) (wide_if width dst z)
    (Some (option_map (λ imm. Alu Mov width dst (Imm imm)) (fits_32 z), text))

-- behind `= -`
unfoldable pub negative_in : Width → Reg → List ℕ → Checked Insn
negative_in width dst text = first_way (behind (register_text width dst) text) (λ rest. Some (Some (Neg width dst), rest))
    (unsigned_in text >>= λ n. constant_in width dst (neg_ℤ (pos n.0)) n.1)

-- behind `= (`
unfoldable pub extension_in : Width → Reg → List ℕ → Checked Insn
extension_in width dst text = do
  bits ← first_spelled sign_bits_text extensions text
  rest ← behind_mark 41 bits.1
  src ← register_in width rest
  if is_extension width bits.0 then Some (Some (MovSx width bits.0 dst src.0), src.1) else None

-- `*(u8 *)(r1 + 0)`
unfoldable pub memory_operand_in : List ℕ → Read MemoryOperand
memory_operand_in text = do
  inside ← behind (codes "*(") text
  memory ← first_spelled memory_text memories inside
  pointer ← behind (codes "*)(") memory.1
  base ← register_in W64 pointer
  off ← signed_in base.1
  rest ← behind_mark 41 off.1
  Some (record { memory = memory.0; base = base.0; off = fits_16 off.0 }, rest)

unfoldable pub load_in : Width → Reg → List ℕ → Checked Insn
load_in W32 dst text = None
load_in W64 dst text = memory_operand_in text >>= λ p. Some (option_map (load_of (p.0).memory dst (p.0).base) (p.0).off, p.1)

unfoldable pub swap_in : Width → Reg → Swap → List ℕ → Checked Insn
swap_in W32 dst swap text = None
swap_in W64 dst swap text = behind (register_text W64 dst) text >>= λ rest. Some (Some (End swap.0 swap.1 dst), rest)

unfoldable pub assigned_in : Width → Reg → List ℕ → Checked Insn
assigned_in width dst text =
    first_way (behind_mark 45 text) (negative_in width dst)
    (first_way (behind_mark 40 text) (extension_in width dst)
    (first_way (behind_mark 42 text) (λ rest. load_in width dst text)
    (first_way (first_spelled swap_spelling swaps text) (λ s. swap_in width dst s.0 s.1)
    (first_way (register_in width text) (λ r. Some (Some (Alu Mov width dst (FromReg r.0)), r.1))
    (unsigned_in text >>= λ n. constant_in width dst (pos n.0) n.1)))))

-- behind a register
abbrev pub operation_in : Width → Reg → AluOp → List ℕ → Checked Insn
operation_in width dst Mov text = assigned_in width dst text
operation_in width dst op text = operand_in width text >>= λ src. Some (option_map (λ s. Alu op width dst s) src.0, src.1)

unfoldable pub assignment_in : Width → Reg → List ℕ → Checked Insn
assignment_in width dst text = first_spelled operation_text operations text >>= λ op. operation_in width dst op.0 op.1

-- ---- stores and atomic operations

abbrev pub unsigned_size : Memory → Option Size
unsigned_size (Unsigned size) = Some size
unsigned_size (Signed size) = None

unfoldable pub store_in : List ℕ → Checked Insn
store_in text = do
  p ← memory_operand_in text
  size ← unsigned_size (p.0).memory
  rest ← behind_mark 61 p.1
  src ← operand_in W64 rest
  Some (store_of size (p.0).base (p.0).off src.0, src.1)

-- whether an atomic operation is one of 64 bits
abbrev pub wide_of : Memory → Option Bool
wide_of (Unsigned W) = Some false
wide_of (Unsigned DW) = Some true
wide_of _ = None

unfoldable pub change_in : Bool → List ℕ → Checked Insn
change_in fetch text = do
  p ← memory_operand_in text
  wide ← wide_of (p.0).memory
  by ← first_spelled modify_text modifications p.1
  src ← register_in W64 by.1
  Some (option_map (λ off. Atomic wide (Changes by.0 fetch) (p.0).base off src.0) (p.0).off, src.1)

unfoldable pub exchange_in : AtomicOp → List ℕ → Checked Insn
exchange_in op text = do
  p ← memory_operand_in text
  wide ← wide_of (p.0).memory
  rest ← behind_mark 44 p.1
  src ← register_in W64 rest
  Some (option_map (λ off. Atomic wide op (p.0).base off src.0) (p.0).off, src.1)

-- behind `lock`
unfoldable pub atomic_in : List ℕ → Checked Insn
atomic_in text =
    first_way (behind (codes "fetch") text) (change_in true)
    (first_way (behind (codes "xchg") text) (exchange_in Xchg)
    (first_way (behind (codes "cmpxchg") text) (exchange_in CmpXchg)
    (change_in false text)))

-- ---- jumps

unfoldable pub name_in : Jump → List ℕ → Checked Statement
name_in jump text = word_in text >>= λ w. if is_name w.0 then Some (Some (to_label jump w.0), w.1) else None

-- the target: a distance or a name
unfoldable pub target_in : Jump → List ℕ → Checked Statement
target_in jump text = first_way (signed_in text) (λ n. Some (option_map plain (jump_by jump n.0), n.1)) (name_in jump text)

-- where the operand is out of its range, the target needs a form all the same
abbrev pub test_in : Cond → Width → Reg → Option Operand → List ℕ → Checked Statement
test_in cond width dst (Some src) text = target_in (OnTest cond width dst src) text
test_in cond width dst None text = target_in ToSlot text >>= λ t. Some (None, t.1)

-- behind `if`
unfoldable pub branch_in : List ℕ → Checked Statement
branch_in text = do
  dst ← any_register_in text
  cond ← first_spelled cond_text conditions dst.1
  src ← operand_in (dst.0).0 cond.1
  rest ← behind (codes "goto") src.1
  test_in cond.0 (dst.0).0 (dst.0).1 src.0 rest

-- ---- statements

abbrev pub plainly : Checked Insn → Checked Statement
plainly read = option_map (λ i. (option_map plain i.0, i.1)) read

abbrev pub keyword_in : Keyword → List ℕ → Checked Statement
keyword_in keyword.Lock text = plainly (atomic_in text)
keyword_in keyword.If text = branch_in text
keyword_in keyword.Goto text = target_in ToSlot text
keyword_in keyword.GotoLong text = target_in FarToSlot text
keyword_in keyword.Call text = target_in CallSlot text
keyword_in keyword.Exit text = Some (Some (plain Exit), text)

unfoldable pub statement_in : List ℕ → Checked Statement
statement_in text =
    first_way (any_register_in text) (λ r. plainly (assignment_in (r.0).0 (r.0).1 r.1))
    (first_way (first_spelled keyword_text keywords text) (λ k. keyword_in k.0 k.1)
    (plainly (store_in text)))

-- the statement that the text is, with nothing but blanks behind it
abbrev pub if_blank : {A : Type 0} → A → List ℕ → Option A
if_blank x [] = Some x
if_blank x (c ∷ cs) = None

unfoldable pub whole_statement : List ℕ → Option (Option Statement)
whole_statement text = statement_in text >>= λ s. if_blank s.0 (skip_blanks s.1)
