-- The grammar of a line: its tokens, the forms that an instruction may have, how each form is spelled in tokens, and what
-- it says.
use Rattle.std.specs.Prelude.{ℕ, Bool, true, false, List, [], ◌∷◌, Option, Some, None, ℤ, pos, neg_ℤ, if◌then◌else◌, codes, option_map, ◌≡◌, ◌++◌, flat_map}
use Rattle.bpf_insn.specs.declared.instruction.Reg.{Reg}
use Rattle.bpf_insn.specs.declared.instruction.Size.{Size}
use Rattle.bpf_insn.specs.declared.instruction.Size.TheVariants.{DW}
use Rattle.bpf_insn.specs.declared.instruction.Width.{Width}
use Rattle.bpf_insn.specs.declared.instruction.Width.TheVariants.{W64}
use Rattle.bpf_insn.specs.declared.instruction.Operand.{Operand}
use Rattle.bpf_insn.specs.declared.instruction.Operand.TheVariants.{Imm, Reg as FromReg}
use Rattle.bpf_insn.specs.declared.instruction.AluOp.{AluOp}
use Rattle.bpf_insn.specs.declared.instruction.SignBits.{SignBits}
use Rattle.bpf_insn.specs.declared.instruction.Cond.{Cond}
use Rattle.bpf_insn.specs.declared.instruction.AtomicOp.{AtomicOp}
use Rattle.bpf_insn.specs.declared.instruction.AtomicOp.TheVariants.{Modify as Changes, Xchg, CmpXchg}
use Rattle.bpf_insn.specs.declared.instruction.Insn.TheVariants.{Alu, Neg, MovSx, End, LoadImm64, Atomic, Exit}
use Rattle.bpf_text.specs.declared.spelling.Memory.{Memory}
use Rattle.bpf_text.specs.declared.spelling.Memory.TheVariants.{Unsigned, Signed}
use Rattle.bpf_text.specs.Parts.{memory_text}
use Rattle.bpf_text.specs.declared.statement.Jump.{Jump}
use Rattle.bpf_text.specs.declared.statement.Jump.TheVariants.{Goto as ToSlot, GotoLong as FarToSlot, Call as CallSlot, If as OnTest}
use Rattle.bpf_text.specs.Spelling.{register_text, operation_text, cond_text, modify_text, sign_bits_text, swap_text}
use Rattle.bpf_insn.specs.Instruction.{word_size}
use Rattle.bpf_insn.specs.declared.instruction.EndKind.{EndKind}
use Rattle.bpf_insn.specs.declared.instruction.EndBits.{EndBits}
use Rattle.bpf_text.specs.Characters.{is_word_part, is_blank, is_name}
use Rattle.bpf_text.specs.Numerals.{word_value, fits_16, fits_32, fits_wide}
use Rattle.bpf_text.specs.Statements.{Statement, is_extension, load_of, store_of, jump_by, plain, to_label}

-- ---- tokens

-- a word, or another character by itself; a character that is none of the language's marks is in no form
pub data Token : Type 0 where
  word : List ℕ → Token
  mark : ℕ → Token

abbrev pub word_ends : List ℕ → List Token
word_ends [] = []
word_ends (c ∷ cs) = word (c ∷ cs) ∷ []

-- the tokens of a text behind so much of a word: a word is a longest run of word parts, blanks are nothing
abbrev pub tokens_after : List ℕ → List ℕ → List Token
tokens_after w [] = word_ends w
tokens_after w (c ∷ cs) =
    if is_word_part c then tokens_after (w ++ c ∷ []) cs
    else word_ends w ++ (if is_blank c then tokens_after [] cs else mark c ∷ tokens_after [] cs)

abbrev pub tokens : List ℕ → List Token
tokens text = tokens_after [] text

abbrev pub one_word : List ℕ → List Token
one_word w = word w ∷ []

-- ---- numbers and names

-- a number's word, and what it is
pub record Numeral : Type 0 where
  pub digits : List ℕ
  pub value : ℕ
  pub is : word_value digits ≡ Some value

-- a number with its sign
pub record Number : Type 0 where
  pub minus : Bool
  pub numeral : Numeral

abbrev pub number_value : Number → ℤ
number_value n = if n.minus then neg_ℤ (pos n.numeral.value) else pos n.numeral.value

-- a constant: a minus or nothing in front; 45 is the minus
abbrev pub constant_tokens : Number → List Token
constant_tokens n = if n.minus then mark 45 ∷ word n.numeral.digits ∷ [] else word n.numeral.digits ∷ []

-- an offset or a distance: a minus or a plus, 43, in front
abbrev pub signed_tokens : Number → List Token
signed_tokens n = mark (if n.minus then 45 else 43) ∷ word n.numeral.digits ∷ []

-- a word of 1 to 64 characters with no digit in front
pub record Name : Type 0 where
  pub text : List ℕ
  pub is : is_name text ≡ true

-- ---- parts of forms

-- an operand: a register, or a constant of 32 bits
pub data OperandForm : Type 0 where
  register : Reg → OperandForm
  constant : Number → OperandForm

-- a memory operand
pub record Address : Type 0 where
  pub base : Reg
  pub off : Number

pub data Target : Type 0 where
  distance : Number → Target
  label : Name → Target

abbrev pub register_tokens : Width → Reg → List Token
register_tokens width r = one_word (register_text width r)

abbrev pub operand_tokens : Width → OperandForm → List Token
operand_tokens width (register r) = register_tokens width r
operand_tokens width (constant n) = constant_tokens n

-- `*(u8 *)(r1 + 0)`
abbrev pub address_tokens : Memory → Address → List Token
address_tokens memory a = tokens (codes "*(") ++ one_word (memory_text memory) ++ tokens (codes "*)(") ++ register_tokens W64 a.base ++ signed_tokens a.off ++ tokens (codes ")")

abbrev pub target_tokens : Target → List Token
target_tokens (distance n) = signed_tokens n
target_tokens (label name) = one_word name.text

-- the word in front of an atomic operation's memory operand, and the marks behind it
abbrev pub atomic_word : AtomicOp → List ℕ
atomic_word (Changes by fetch) = if fetch then codes "fetch" else []
atomic_word Xchg = codes "xchg"
atomic_word CmpXchg = codes "cmpxchg"

abbrev pub atomic_marks : AtomicOp → List ℕ
atomic_marks (Changes by fetch) = modify_text by
atomic_marks Xchg = codes ","
atomic_marks CmpXchg = codes ","

-- a load reads u8 to u64 or s8 to s32
abbrev pub is_loaded : Memory → Bool
is_loaded (Unsigned size) = true
is_loaded (Signed DW) = false
is_loaded (Signed size) = true

-- ---- forms

-- The forms of an instruction: `r1 += r2` and `w1 = 5`; `r1 = -r1`; `r1 = (s8)r2`; `r1 = le16 r1`; `r1 = 5 ll`;
-- `r0 = *(u8 *)(r1 + 0)`; `*(u8 *)(r1 + 0) = r2`; `lock fetch *(u64 *)(r1 + 0) += r2` and its like; `if r1 == 5 goto +3`;
-- `goto +3`; `gotol +3`; `call +3`; `exit`.
pub data Form : Type 0 where
  calculate : AluOp → Width → Reg → OperandForm → Form
  negate : Width → Reg → Form
  extend : (width : Width) (bits : SignBits) → is_extension width bits ≡ true → Reg → Reg → Form
  swap : EndKind → EndBits → Reg → Form
  load_constant : Reg → Number → Form
  load : (memory : Memory) → is_loaded memory ≡ true → Reg → Address → Form
  store : Size → Address → OperandForm → Form
  atomic : Bool → AtomicOp → Address → Reg → Form
  branch : Cond → Width → Reg → OperandForm → Target → Form
  goto : Target → Form
  goto_long : Target → Form
  call : Target → Form
  exit : Form

-- how each is spelled
abbrev pub form_tokens : Form → List Token
form_tokens (calculate op width dst src) = register_tokens width dst ++ tokens (operation_text op) ++ operand_tokens width src
form_tokens (negate width dst) = register_tokens width dst ++ tokens (codes "= -") ++ register_tokens width dst
form_tokens (extend width bits is dst src) = register_tokens width dst ++ tokens (codes "= (") ++ one_word (sign_bits_text bits) ++ tokens (codes ")") ++ register_tokens width src
form_tokens (swap kind bits dst) = register_tokens W64 dst ++ tokens (codes "=") ++ one_word (swap_text kind bits) ++ register_tokens W64 dst
form_tokens (load_constant dst n) = register_tokens W64 dst ++ tokens (codes "=") ++ constant_tokens n ++ tokens (codes "ll")
form_tokens (load memory is dst address) = register_tokens W64 dst ++ tokens (codes "=") ++ address_tokens memory address
form_tokens (store size address src) = address_tokens (Unsigned size) address ++ tokens (codes "=") ++ operand_tokens W64 src
form_tokens (atomic wide op address src) =
    tokens (codes "lock") ++ tokens (atomic_word op) ++ address_tokens (Unsigned (word_size wide)) address
    ++ tokens (atomic_marks op) ++ register_tokens W64 src
form_tokens (branch cond width dst src target) =
    tokens (codes "if") ++ register_tokens width dst ++ tokens (cond_text cond) ++ operand_tokens width src
    ++ tokens (codes "goto") ++ target_tokens target
form_tokens (goto target) = tokens (codes "goto") ++ target_tokens target
form_tokens (goto_long target) = tokens (codes "gotol") ++ target_tokens target
form_tokens (call target) = tokens (codes "call") ++ target_tokens target
form_tokens exit = tokens (codes "exit")

-- ---- what a form says: None where a number is out of its range

abbrev pub operand_said : OperandForm → Option Operand
operand_said (register r) = Some (FromReg r)
operand_said (constant n) = option_map Imm (fits_32 (number_value n))

abbrev pub offset_said : Address → Option ℤ
offset_said a = fits_16 (number_value a.off)

abbrev pub target_said : Jump → Target → Option Statement
target_said jump (distance n) = option_map plain (jump_by jump (number_value n))
target_said jump (label name) = Some (to_label jump name.text)

abbrev pub branch_said : Cond → Width → Reg → Option Operand → Target → Option Statement
branch_said cond width dst None target = None
branch_said cond width dst (Some src) target = target_said (OnTest cond width dst src) target

abbrev pub form_said : Form → Option Statement
form_said (calculate op width dst src) = option_map plain (option_map (λ s. Alu op width dst s) (operand_said src))
form_said (negate width dst) = Some (plain (Neg width dst))
form_said (extend width bits is dst src) = Some (plain (MovSx width bits dst src))
form_said (swap kind bits dst) = Some (plain (End kind bits dst))
form_said (load_constant dst n) = option_map plain (option_map (LoadImm64 dst) (fits_wide (number_value n)))
form_said (load memory is dst address) = option_map plain (option_map (load_of memory dst address.base) (offset_said address))
form_said (store size address src) = option_map plain (store_of size address.base (offset_said address) (operand_said src))
form_said (atomic wide op address src) = option_map plain (option_map (λ off. Atomic wide op address.base off src) (offset_said address))
form_said (branch cond width dst src target) = branch_said cond width dst (operand_said src) target
form_said (goto target) = target_said ToSlot target
form_said (goto_long target) = target_said FarToSlot target
form_said (call target) = target_said CallSlot target
form_said exit = Some (plain Exit)

-- ---- lines

-- 58 is the colon behind a label
abbrev pub label_tokens : List Name → List Token
label_tokens names = flat_map (λ name. word name.text ∷ mark 58 ∷ []) names

abbrev pub may_be_form : Option Form → List Token
may_be_form None = []
may_be_form (Some form) = form_tokens form

-- A line is any number of labels and then at most one form.
pub record IsLine (text : List ℕ) (names : List Name) (form : Option Form) : Type 0 where
  pub spelled : tokens text ≡ label_tokens names ++ may_be_form form

-- what it says then: nothing or a statement, and None where a number is out of its range
abbrev pub line_said : Option Form → Option (Option Statement)
line_said None = Some None
line_said (Some form) = option_map Some (form_said form)
