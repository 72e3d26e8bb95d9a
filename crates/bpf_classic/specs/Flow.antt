-- What is known in front of each instruction, and when that agrees along every way: what an instruction is marked with holds behind each
-- instruction that leads to it.
use Rattle.std.specs.Prelude.{ℕ, ◌+◌, ◌-◌, ◌==◌, nat_lt, nat_le, max, Bool, true, false, not, ◌&&◌, ◌||◌, List, [], ◌∷◌, length, drop, slice_get, Option, Some, None}
use Rattle.bpf_classic.specs.Machine.{divides}
use Rattle.bpf_classic.specs.declared.instruction.Register.{Register}
use Rattle.bpf_classic.specs.declared.instruction.Register.TheVariants.{A, X}
use Rattle.bpf_classic.specs.declared.instruction.Source.{Source}
use Rattle.bpf_classic.specs.declared.instruction.Source.TheVariants.{K, X as FromX}
use Rattle.bpf_classic.specs.declared.instruction.Classic.{Classic}
use Rattle.bpf_classic.specs.declared.instruction.Classic.TheVariants.{Constant, Length, Cell, Store, At, Index, Header, Extension, Alu, Neg, Jump, Back, JumpIf, Return, ReturnA, Tax, Txa}
use Rattle.bpf_classic.specs.Template.{need, is_beyond, is_register, known_first, back_of, total}
use Rattle.bpf_classic.specs.declared.layout.Layout.{Layout}
use Rattle.bpf_classic.specs.declared.layout.Annotated.{Annotated}

abbrev pub is_a : Register → Bool
is_a A = true
is_a X = false

abbrev pub is_x : Register → Bool
is_x A = false
is_x X = true

-- a constant has 32 bits
abbrev pub is_word : ℕ → Bool
is_word k = nat_le k 0xffffffff

abbrev pub source_word : Source → Bool
source_word (K k) = is_word k
source_word FromX = true

abbrev pub has_word : Classic → Bool
has_word (Constant to k) = is_word k
has_word (Alu op source) = source_word source
has_word (JumpIf test source jt jf) = source_word source
has_word (Return k) = is_word k
has_word _ = true

-- ---- what an instruction reads and sets

abbrev pub reads_a : Classic → Bool
reads_a (Store from cell) = is_a from
reads_a (Alu op source) = true
reads_a Neg = true
reads_a (JumpIf test source jt jf) = not (jt == jf)
reads_a ReturnA = true
reads_a Tax = true
reads_a _ = false

abbrev pub reads_x : Classic → Bool
reads_x (Store from cell) = is_x from
reads_x (Index size k) = true
reads_x (Alu op source) = is_register source
reads_x (JumpIf test source jt jf) = is_register source && not (jt == jf)
reads_x Txa = true
reads_x _ = false

abbrev pub sets_a : Classic → Bool
sets_a (Constant to k) = is_a to
sets_a (Length to) = is_a to
sets_a (Cell to cell) = is_a to
sets_a (At size k) = true
sets_a (Index size k) = true
sets_a (Extension word) = true
sets_a (Alu op source) = true
sets_a Neg = true
sets_a Txa = true
sets_a _ = false

abbrev pub sets_x : Classic → Bool
sets_x (Constant to k) = is_x to
sets_x (Length to) = is_x to
sets_x (Cell to cell) = is_x to
sets_x (Header k) = true
sets_x Tax = true
sets_x _ = false

-- whether a template leads to the exit that answers 0
abbrev pub tests_length : Layout → Annotated → Bool
tests_length l a = is_beyond l a.insn || nat_lt a.known (need a.insn)

abbrev pub leads_to_trap : Layout → Annotated → Classic → Bool
leads_to_trap l a (At size k) = tests_length l a
leads_to_trap l a (Header k) = tests_length l a
leads_to_trap l a (Index size k) = true
leads_to_trap l a (Alu op source) = is_register source && divides op
leads_to_trap l a (Back k) = true
leads_to_trap l a _ = false

abbrev pub uses_trap : Layout → Annotated → Bool
uses_trap l a = a.reached && leads_to_trap l a a.insn

-- ---- what is known behind an instruction

abbrev pub known_behind : Annotated → ℕ
known_behind a = max a.known (need a.insn)

-- the instruction that is led to is marked with no more than that
abbrev pub implies : Bool → Bool → Bool
implies a b = not a || b

abbrev pub leads_to : Annotated → Option Annotated → Bool
leads_to a None = false
leads_to a (Some b) = b.reached && (nat_le b.known (known_behind a) && (implies b.a (a.a || sets_a a.insn) && implies b.x (a.x || sets_x a.insn)))

-- each instruction that may follow, `rest` being those behind
abbrev pub leads_on : Annotated → Classic → List Annotated → Bool
leads_on a (Jump k) rest = leads_to a (slice_get rest k)
leads_on a (JumpIf test source jt jf) rest = leads_to a (slice_get rest jt) && leads_to a (slice_get rest jf)
leads_on a (Back k) rest = true
leads_on a (Return k) rest = true
leads_on a ReturnA rest = true
leads_on a _ rest = leads_to a (slice_get rest 0)

-- its constant has 32 bits, what an instruction reads is set, the exit is there if it is led to, and what follows knows no more
abbrev pub agrees : Layout → Annotated → List Annotated → Bool
agrees l a rest = has_word a.insn && (implies (reads_a a.insn) a.a && (implies (reads_x a.insn) a.x && (implies (uses_trap l a) l.trap && (is_beyond l a.insn || leads_on a a.insn rest))))

abbrev pub all_agree : Layout → List Annotated → Bool
all_agree l [] = true
all_agree l (a ∷ rest) = implies a.reached (agrees l a rest) && all_agree l rest

-- ---- loops

-- the instruction from which so many are left
abbrev pub head_at : List Annotated → ℕ → ℕ
head_at all left = length all - left

-- a jump back, to where so many instructions are left, leads to one that is marked with no more than what is known in front of the jump, and over
-- as many slots as stand from there on, but for the jump itself and the slots behind it; and the entry says how often a run may jump back
abbrev pub turns_to : Layout → List Annotated → Annotated → ℕ → ℕ → Bool
turns_to l all a left slots =
    l.loops && (nat_le left (length all)
    && (leads_to a (slice_get all (head_at all left)) && ((back_of a + 1 + slots) == total l (drop (head_at all left) all))))

abbrev pub turns_well : Layout → List Annotated → Annotated → Classic → ℕ → ℕ → Bool
turns_well l all a (Back k) left slots = turns_to l all a (left + k) slots
turns_well l all a _ left slots = true

abbrev pub all_turn : Layout → List Annotated → List Annotated → Bool
all_turn l all [] = true
all_turn l all (a ∷ rest) = implies a.reached (turns_well l all a a.insn (length rest) (total l rest)) && all_turn l all rest

-- ---- all of it

-- the first instruction is marked with no more than what the entry sets
abbrev pub starts_well : Layout → Option Annotated → Bool
starts_well l None = false
starts_well l (Some a) = a.reached && (nat_le a.known (known_first l) && (implies a.a l.zero_a && implies a.x l.zero_x))

abbrev pub is_sound : Layout → List Annotated → Bool
is_sound l filter = starts_well l (slice_get filter 0) && all_agree l filter
