-- What extra instructions make, and what holds behind a change. Nothing here speaks of runs.
use Rattle.std.specs.Prelude.{ℕ, Bool, false, not, ◌&&◌, ◌||◌, List, Option, Some, None, is_none, option_map, if◌then◌else◌}
use Rattle.std.specs.List.{list_any}
use Rattle.std.specs.Option.{option_map_or}
use Rattle.bpf_insn.specs.Arithmetic.{extended}
use Rattle.bpf_insn.specs.Effects.{is_frame_pointer}
use Rattle.bpf_insn.specs.declared.instruction.Reg.{Reg}
use Rattle.bpf_insn.specs.declared.instruction.Reg.TheVariants.{R0}
use Rattle.bpf_insn.specs.declared.instruction.Operand.{Operand}
use Rattle.bpf_insn.specs.declared.instruction.Operand.TheVariants.{Imm, Reg as FromReg}
use Rattle.bpf_insn.specs.declared.instruction.Width.TheVariants.{W64}
use Rattle.bpf_insn.specs.declared.instruction.AluOp.{AluOp}
use Rattle.bpf_insn.specs.declared.instruction.AluOp.TheVariants.{Add, Sub, Mov}
use Rattle.bpf_insn.specs.declared.instruction.Insn.{Insn}
use Rattle.bpf_insn.specs.declared.instruction.Insn.TheVariants.{Alu, LoadImm64, Load, Store, StoreImm}
use Rattle.bpf_kept.specs.declared.notes.Holder.{Holder}
use Rattle.bpf_kept.specs.declared.notes.Holder.TheVariants.{Register, Slot}
use Rattle.bpf_kept.specs.declared.notes.Term.{Term}
use Rattle.bpf_kept.specs.declared.notes.Fact.{Fact}
use Rattle.bpf_kept.specs.declared.notes.Change.{Change}
use Rattle.bpf_kept.specs.declared.notes.Change.TheVariants.{Kept, Put, Stored, Fetched, Made}
use Rattle.bpf_kept.specs.Terms.{Facts, is_noted, frame_slots, constant, zero_term, frame_end, plus, minus}
use Rattle.bpf_kept.specs.Slots.{each_slot, slot_at, is_clear}
use Rattle.bpf_kept.specs.Rules.{Known, same_holder, is_holder, is_register, is_base, is_enough, gives, both}

-- ---- extra instructions, while the old program stands still

abbrev pub sum_base : Option Holder → Option Holder → Option Holder → Bool
sum_base a b want = (is_none a && is_base b want) || (is_none b && is_base a want)

abbrev pub difference_base : Option Holder → Option Holder → Option Holder → Bool
difference_base a b want = (is_none b && is_base a want) || (is_base a b && is_none want)

abbrev pub is_known : Option Term → Option Term → Bool
is_known by want = option_map_or (λ t. is_enough (Some t) want) by false

-- the sum of what a register has and what the operand has; likewise the difference
abbrev pub is_sum : Reg → Fact → Fact → Fact → Bool
is_sum dst b want a = is_register dst a.of && (sum_base a.base b.base want.base && is_known (both plus a.by b.by) want.by)

abbrev pub is_difference : Reg → Fact → Fact → Fact → Bool
is_difference dst b want a = is_register dst a.of && (difference_base a.base b.base want.base && is_known (both minus a.by b.by) want.by)

abbrev pub is_moved : Fact → Fact → Bool
is_moved b want = is_base b.base want.base && is_enough b.by want.by

abbrev pub made_by : Facts → AluOp → Reg → Fact → Fact → Bool
made_by facts Mov dst want b = is_moved b want
made_by facts Add dst want b = list_any (is_sum dst b want) facts
made_by facts Sub dst want b = list_any (is_difference dst b want) facts
made_by facts op dst want b = false

-- the operand by itself: a constant, or the frame's end
abbrev pub known_number : Option Holder → Term → Fact
known_number of t = record { of = of; base = None; by = Some t }

abbrev pub known_operand : Operand → Option Fact
known_operand (Imm imm) = Some (known_number None (constant (extended imm)))
known_operand (FromReg r) = if is_frame_pointer r then Some (known_number (Some (Register r)) frame_end) else None

-- what is known of the operand: of a register, or of 0 and so of each constant
abbrev pub of_number : ℕ → Fact → Option Fact
of_number n fact = if is_none fact.of then option_map (λ t. record { of = None; base = fact.base; by = Some (plus t (constant n)) }) fact.by else None

abbrev pub of_operand : Operand → Fact → Option Fact
of_operand (Imm imm) fact = of_number (extended imm) fact
of_operand (FromReg r) fact = if is_register r fact.of then Some fact else None

abbrev pub by_operand : Facts → AluOp → Reg → Operand → Fact → Fact → Bool
by_operand facts op dst src want fact = option_map_or (made_by facts op dst want) (of_operand src fact) false

abbrev pub made_from : Facts → AluOp → Reg → Operand → Fact → Bool
made_from facts op dst src want = option_map_or (made_by facts op dst want) (known_operand src) false || list_any (by_operand facts op dst src want) facts

-- what is in a slot
abbrev pub of_slot : ℕ → Fact → Fact → Bool
of_slot n want fact = is_holder (Slot n) fact.of && is_moved fact want

unfoldable pub made : Facts → Insn → Fact → Bool
made facts (Alu op W64 dst src) want = made_from facts op dst src want
made facts (LoadImm64 dst value) want = is_moved (known_number None (constant value)) want || list_any (λ fact. option_map_or (λ b. is_moved b want) (of_number value fact) false) facts
made facts (Load size dst src off) want = option_map_or (λ n. list_any (of_slot n want) facts) (slot_at size src off) false
made facts (Store size dst off src) want = made_from facts Mov src (FromReg src) want
made facts (StoreImm size dst off imm) want = made_from facts Mov R0 (Imm imm) want
made facts i want = false

-- ---- what holds behind a change

-- a register or slot has the same in both
abbrev pub by_itself : Holder → Fact
by_itself h = record { of = Some h; base = Some h; by = Some zero_term }

-- it is of neither program's register or slot
abbrev pub stays : Holder → Fact → Bool
stays h fact = not (is_holder h fact.of) && not (is_holder h fact.base)

-- what is put, and what is left of the rest
abbrev pub pins : Option Holder → Fact → Term → Bool
pins h want t = gives (record { of = None; base = h; by = Some t }) want

abbrev pub put_gives : Facts → Fact → Option Term → Fact → Bool
put_gives facts fact pin want =
    gives fact want || (option_map_or (pins fact.of want) pin false || option_map_or (λ h. list_any (λ have. stays h have && gives have want) facts) fact.of false)

abbrev pub made_gives : Facts → Holder → Insn → Fact → Bool
made_gives facts h i want = (is_holder h want.of && made facts i want) || list_any (λ have. not (is_holder h have.of) && gives have want) facts

abbrev pub outlives : ℕ → ℕ → Fact → Bool
outlives from to fact = is_clear from to fact.of && is_clear from to fact.base

abbrev pub stored_gives : Facts → ℕ → ℕ → Fact → Bool
stored_gives facts from to want = list_any (λ have. outlives from to have && gives have want) facts

-- what was there is the same in both, and so in the register; of what it held nothing is left
abbrev pub fetched_gives : Facts → ℕ → ℕ → Reg → Fact → Bool
fetched_gives facts from to r want = gives (by_itself (Register r)) want || list_any (λ have. (outlives from to have && stays (Register r) have) && gives have want) facts

abbrev pub change_gives : Facts → Change → Fact → Bool
change_gives facts Kept want = list_any (λ have. gives have want) facts
change_gives facts (Put fact pin) want = put_gives facts fact pin want
change_gives facts (Stored from to) want = stored_gives facts from to want
change_gives facts (Fetched from to r) want = fetched_gives facts from to r want
change_gives facts (Made h i) want = made_gives facts h i want

-- that 0 is 0 holds always
unfoldable pub holds_behind : Facts → Change → Fact → Bool
holds_behind facts change want = gives (known_number None zero_term) want || change_gives facts change want

abbrev pub same_slot : ℕ → Fact
same_slot n = by_itself (Slot n)

-- in a slot the old program has 0
abbrev pub is_zero_slot : ℕ → Fact
is_zero_slot n = record { of = None; base = Some (Slot n); by = Some zero_term }

-- a slot in which the programs may have something else behind a change: it was one, or it is written
abbrev pub is_parted : List Bool → Change → ℕ → Bool
is_parted apart (Put fact pin) n = is_holder (Slot n) fact.of || is_noted apart n
is_parted apart (Made h i) n = same_holder (Slot n) h || is_noted apart n
is_parted apart change n = is_noted apart n

-- Each slot that isn't noted as one has the same. Else the old program would read a counter as its own number.
abbrev pub is_told : Known → Change → List Bool → ℕ → Bool
is_told known change apart n = not (is_parted known.apart change n) || (is_noted apart n || holds_behind known.facts change (by_itself (Slot n)))

unfoldable pub are_told : Known → Change → List Bool → Bool
are_told known change apart = each_slot (is_told known change apart) frame_slots
