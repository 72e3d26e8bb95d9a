-- Which instructions are a filter, and why others aren't.
use Rattle.std.specs.Prelude.{◌≡◌, ℕ, ◌+◌, ◌-◌, ◌%◌, ◌<◌, ◌≤◌, ◌==◌, ◌⊎◌, nat_lt, nat_le, Bool, true, false, not, ◌&&◌, ◌||◌, List, [], ◌∷◌, length, slice_get, Option, Some, None, option_and_then, if◌then◌else◌, ⊤}
pub use Rattle.bpf_classic.specs.Limits.{max_filter, cell_count}
use Rattle.bpf_classic.specs.Auxiliary.{instruction_in}
use Rattle.bpf_classic.specs.Machine.{divides, shifts}
use Rattle.bpf_classic.specs.declared.instruction.Source.TheVariants.{K}
use Rattle.bpf_classic.specs.declared.instruction.LoadSize.{LoadSize}
use Rattle.bpf_classic.specs.declared.instruction.LoadSize.TheVariants.{Word}
use Rattle.bpf_classic.specs.declared.instruction.Op.{Op}
use Rattle.bpf_classic.specs.declared.instruction.Op.TheVariants.{Mod}
use Rattle.bpf_classic.specs.declared.instruction.Classic.{Classic}
use Rattle.bpf_classic.specs.declared.instruction.Classic.TheVariants.{Cell, Store, At, Index, Header, Extension, Alu, Jump, Back, JumpIf, Return, ReturnA}
use Rattle.bpf_classic.specs.declared.raw.Raw.{Raw}
use Rattle.bpf_classic.specs.declared.refusal.Kind.{Kind}
use Rattle.bpf_classic.specs.declared.refusal.Kind.TheVariants.{Packets, Seccomp, Extended}
use Rattle.bpf_classic.specs.declared.refusal.Fault.{Fault}
use Rattle.bpf_classic.specs.declared.refusal.Fault.TheVariants.{Code, Cell as CellFault, Constant as ConstantFault, Target, Seccomp as SeccompFault, Extension as ExtensionFault, NoWord}
use Rattle.bpf_classic.specs.declared.refusal.FilterRefusal.{FilterRefusal}
use Rattle.bpf_classic.specs.declared.refusal.FilterRefusal.TheVariants.{Length as LengthRefused, Instruction as InstructionRefused, Memory, Unshown}

-- where Linux's extensions begin: offsets that no packet has (SKF_AD_OFF, -0x1000), and the last of them (SKF_AD_VLAN_TPID)
abbrev pub extensions : ℕ
extensions = 0xfffff000

abbrev pub last_extension : ℕ
last_extension = 0xfffff03c

-- B3: a cell that isn't there
abbrev pub names_no_cell : Classic → Bool
names_no_cell (Cell to cell) = nat_le cell_count cell
names_no_cell (Store from cell) = nat_le cell_count cell
names_no_cell _ = false

-- B4: a division by the constant 0, a shift by a constant of 32 or more
abbrev pub has_bad_constant : Classic → Bool
has_bad_constant (Alu op (K k)) = (divides op && (k == 0)) || (shifts op && nat_le 32 k)
has_bad_constant _ = false

-- B5: it leads to none of the `left` instructions behind it, nor back to itself or to one of the `at` in front of it
abbrev pub leads_outside : ℕ → ℕ → Classic → Bool
leads_outside at left (Jump k) = nat_le left k
leads_outside at left (Back k) = (k == 0) || nat_lt (at + 1) k
leads_outside at left (JumpIf test source jt jf) = nat_le left jt || nat_le left jf
leads_outside at left (Return k) = false
leads_outside at left ReturnA = false
leads_outside at left _ = nat_le left 0

-- B6: not in seccomp, which loads aligned words of its 64 bytes, by constants alone, and has no remainders and no loops
abbrev pub is_no_word : LoadSize → ℕ → Bool
is_no_word Word k = not (k % 4 == 0) || nat_lt 60 k
is_no_word _ k = true

abbrev pub is_mod : Op → Bool
is_mod Mod = true
is_mod _ = false

abbrev pub is_not_in_seccomp : Classic → Bool
is_not_in_seccomp (At size k) = is_no_word size k
is_not_in_seccomp (Index size k) = true
is_not_in_seccomp (Header k) = true
is_not_in_seccomp (Extension word) = true
is_not_in_seccomp (Alu op source) = is_mod op
is_not_in_seccomp (Back k) = true
is_not_in_seccomp _ = false

-- B7: one of Linux's extensions
abbrev pub is_extension : Classic → Bool
is_extension (At size k) = nat_le extensions k && nat_le k last_extension
is_extension (Extension word) = true
is_extension _ = false

-- B7, in filters with extensions: what no word holds. From there on (SKF_LL_OFF, -0x200000) no offset is of the packet's first byte
abbrev pub offsets : ℕ
offsets = 0xffe00000

abbrev pub has_no_word : Classic → Bool
has_no_word (At size k) = nat_le offsets k
has_no_word (Index size k) = nat_le offsets k
has_no_word (Header k) = nat_le offsets k
has_no_word _ = false

abbrev pub not_for : Kind → Classic → Option Fault
not_for Packets i = if is_extension i then Some ExtensionFault else None
not_for Seccomp i = if is_not_in_seccomp i then Some SeccompFault else None
not_for Extended i = if has_no_word i then Some NoWord else None

-- the first of these that an instruction has, where so many stand in front of it and so many are left behind it
abbrev pub fault_of : Kind → ℕ → ℕ → Classic → Option Fault
fault_of kind at left i =
    if names_no_cell i then Some CellFault
    else if has_bad_constant i then Some ConstantFault
    else if leads_outside at left i then Some Target
    else not_for kind i

abbrev pub fault_of_raw : Kind → ℕ → ℕ → Option Classic → Option Fault
fault_of_raw kind at left None = Some Code
fault_of_raw kind at left (Some i) = fault_of kind at left i

-- ---- filters

-- what a filter is: its instructions, and what they are for
pub record Instructions : Type 0 where
  pub kind : Kind
  pub list : List Classic

-- each instruction is without fault, so many standing in front of the first
abbrev pub AreFaultless : Kind → ℕ → List Classic → Type 0
AreFaultless kind at [] = ⊤
AreFaultless kind at (i ∷ rest) = (fault_of kind at (length rest) i ≡ None) × AreFaultless kind (at + 1) rest

-- a valid filter: 1 to 4,096 instructions, each without fault
pub record IsFilter (kind : Kind) (filter : List Classic) : Type 0 where
  pub some : 0 < length filter
  pub few : length filter ≤ max_filter
  pub each : AreFaultless kind 0 filter

-- ---- refusals

-- the fault of the instruction with this number
abbrev pub fault_at : Kind → List Raw → ℕ → Option Fault
fault_at kind raws at = fault_of_raw kind at (length raws - (at + 1)) (option_and_then (instruction_in kind) (slice_get raws at))

abbrev pub IsBadLength : List Raw → Type 0
IsBadLength raws = (length raws ≡ 0) ⊎ (max_filter < length raws)

-- the lowest instruction with a fault, and its fault
pub record IsLowestFault (kind : Kind) (raws : List Raw) (at : ℕ) (fault : Fault) : Type 0 where
  pub is_one : at < length raws
  pub has_fault : fault_at kind raws at ≡ Some fault
  pub lower : (j : ℕ) → j < at → fault_at kind raws j ≡ None

-- the instructions are refused for this cause; that no program is made of a filter is another
abbrev pub IsRefused : Kind → List Raw → FilterRefusal → Type 0
IsRefused kind raws LengthRefused = IsBadLength raws
IsRefused kind raws (InstructionRefused at fault) = (IsBadLength raws → ⊥) × IsLowestFault kind raws at fault
IsRefused kind raws Memory = ⊤
IsRefused kind raws Unshown = ⊥

abbrev pub fault_number : Fault → ℕ
fault_number Code = 2
fault_number CellFault = 3
fault_number ConstantFault = 4
fault_number Target = 5
fault_number SeccompFault = 6
fault_number ExtensionFault = 7
fault_number NoWord = 7

abbrev pub refusal_number : FilterRefusal → ℕ
refusal_number LengthRefused = 1
refusal_number (InstructionRefused at fault) = fault_number fault
refusal_number Memory = 9
refusal_number Unshown = 10
