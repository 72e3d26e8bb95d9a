-- Guards: extra tests that never lead to their trap where the old program's run goes on to its end. Nothing here speaks of runs.
use Rattle.std.specs.Prelude.{ℕ, zero, suc, ◌+◌, ◌%◌, ◌^◌, ◌==◌, nat_lt, pos, ◌+ℤ◌, ◌-ℤ◌, int_le, Bool, false, not, ◌&&◌, ◌||◌, List, [], ◌∷◌, ◌++◌, Option, Some, None, if◌then◌else◌}
use Rattle.std.specs.Int.{cast_signed, w64}
use Rattle.std.specs.List.{list_any}
use Rattle.std.specs.Option.{option_map_or}
use Rattle.bpf_insn.specs.Arithmetic.{extended}
use Rattle.bpf_insn.specs.Effects.{Access, access_of, register_written, is_frame_pointer}
use Rattle.bpf_insn.specs.Limits.{frame_bytes}
use Rattle.bpf_insn.specs.Instruction.{Instructions, register_number, byte_count, slot_count, insn_at, is_straight}
use Rattle.bpf_insn.specs.declared.instruction.Reg.{Reg}
use Rattle.bpf_insn.specs.declared.instruction.Operand.TheVariants.{Imm, Reg as FromReg}
use Rattle.bpf_insn.specs.declared.instruction.Width.TheVariants.{W64}
use Rattle.bpf_insn.specs.declared.instruction.AluOp.TheVariants.{Add}
use Rattle.bpf_insn.specs.declared.instruction.Cond.TheVariants.{Gt, Lt}
use Rattle.bpf_insn.specs.declared.instruction.Insn.{Insn}
use Rattle.bpf_insn.specs.declared.instruction.Insn.TheVariants.{Alu, JumpIf}
use Rattle.bpf_semantics.specs.Blocks.{head_bytes}
use Rattle.bpf_semantics.specs.Flat.{addresses}
use Rattle.bpf_state.specs.State.{AbstractState}
use Rattle.bpf_kept.specs.Far.{middle, bytes_before}
use Rattle.bpf_kept.specs.Meaning.{Bounds}
use Rattle.bpf_kept.specs.Terms.{Facts}
use Rattle.bpf_kept.specs.States.{held_number}
use Rattle.bpf_kept.specs.Rules.{Known, same_register, is_holder, is_register, is_same, pinned}
use Rattle.bpf_kept.specs.Behind.{of_number}
use Rattle.bpf_kept.specs.declared.notes.Holder.{Holder}
use Rattle.bpf_kept.specs.declared.notes.Holder.TheVariants.{Register, Length}
use Rattle.bpf_kept.specs.declared.notes.Term.{Term}
use Rattle.bpf_kept.specs.declared.notes.Fact.{Fact}
use Rattle.bpf_kept.specs.declared.reach.GuardReach.{GuardReach}
use Rattle.bpf_kept.specs.declared.reach.GuardLimit.{GuardLimit}
use Rattle.bpf_kept.specs.declared.reach.GuardLimit.TheVariants.{Most, MostOfSmall, Least}
use Rattle.bpf_kept.specs.declared.notes.Need.{Need}
use Rattle.bpf_kept.specs.declared.notes.Need.TheVariants.{Below, Above}

-- ---- accesses that surely follow: what a run that ends comes to from a slot on, as far as it leads one way

abbrev pub if_by : Reg → Access → List Access
if_by r a = if register_number a.base == register_number r then a ∷ [] else []

abbrev pub accesses_by : Reg → Insn → List Access
accesses_by r i = option_map_or (if_by r) (access_of i) []

-- the instruction behind surely follows, with the same in the register
abbrev pub is_passed : Reg → Insn → Bool
is_passed r i = is_straight i && not (option_map_or (λ w. register_number w == register_number r) (register_written i) false)

-- the accesses by a register among the next n instructions
unfoldable pub accesses_ahead : Instructions → Reg → ℕ → ℕ → List Access
accesses_ahead old r zero slot = []
accesses_ahead old r (suc n) slot = option_map_or (λ i. accesses_by r i ++ (if is_passed r i then accesses_ahead old r n (slot + slot_count i) else [])) (insn_at old.list slot) []

abbrev pub farthest_ahead : ℕ
farthest_ahead = 33

-- ---- which bytes accesses go to, by a pointer: what is tested is its offset, moved

-- into the context, in blocks behind the head
abbrev pub in_context : Bounds → Term → GuardReach
in_context bounds t = record { first = bytes_before bounds.padded; end = bounds.length; moved = cast_signed w64 ((t.moved + middle) % addresses) }

-- into the frame: by another register than r10 above the lowest bytes, which are left to r10
abbrev pub first_in_frame : Bounds → Reg → ℕ
first_in_frame bounds r = if is_frame_pointer r then 0 else bounds.untouched

abbrev pub in_frame : Bounds → Term → Reg → GuardReach
in_frame bounds t r = record { first = first_in_frame bounds r; end = frame_bytes; moved = cast_signed w64 (t.moved % addresses) }

abbrev pub reach_of : Bounds → Term → Reg → Option GuardReach
reach_of bounds t r = if t.frames == 0 then Some (in_context bounds t) else if t.frames == 1 then Some (in_frame bounds t r) else None

-- ---- the guard's rule

-- In front of which old instruction it stands, and of which runs it is said that it passes.
pub record Front : Type 0 where
  pub old : Instructions
  pub slot : ℕ
  pub bounds : Bounds

abbrev pub is_met : Need → Access → Bool
is_met (Below offset) a = int_le a.offset offset
is_met (Above offset) a = int_le offset (a.offset +ℤ pos (byte_count a.size))

unfoldable pub is_ahead : Instructions → Reg → ℕ → Need → Bool
is_ahead old r slot need = list_any (is_met need) (accesses_ahead old r farthest_ahead slot)

-- What is tested is no less than a number: an access by the pointer begins so low.
abbrev pub begins_low : Front → Reg → GuardReach → ℕ → Bool
begins_low front r reach least = is_ahead front.old r front.slot (Below ((pos reach.first +ℤ reach.moved) -ℤ pos least))

-- It is no greater than one: an access ends so far on.
abbrev pub ends_high : Front → Reg → GuardReach → ℕ → Bool
ends_high front r reach most = is_ahead front.old r front.slot (Above ((pos reach.end +ℤ reach.moved) -ℤ pos most))

-- What passes for being no greater isn't below 0, either: that would wrap. A small number isn't.
abbrev pub is_within : Front → GuardLimit → Reg → GuardReach → Bool
is_within front (Least n) r reach = begins_low front r reach n
is_within front (Most n) r reach = begins_low front r reach 0 && ends_high front r reach n
is_within front (MostOfSmall n) r reach = ends_high front r reach n

abbrev pub is_tested_by : Front → GuardLimit → Term → Reg → Bool
is_tested_by front limit t r = option_map_or (is_within front limit r) (reach_of front.bounds t r) false

abbrev pub is_tested_in : Front → GuardLimit → Term → Holder → Bool
is_tested_in front limit t (Register r) = is_tested_by front limit t r
is_tested_in front limit t h = false

abbrev pub is_tested : Front → GuardLimit → Fact → Bool
is_tested front limit fact = option_map_or (λ t. option_map_or (is_tested_in front limit t) fact.base false) fact.by false

abbrev pub guarded : Front → Reg → GuardLimit → Fact → Bool
guarded front dst limit fact = is_register dst fact.of && is_tested front limit fact

-- in front of the instruction behind one of one slot
abbrev pub front_behind : Front → Front
front_behind front = record { old = front.old; slot = front.slot + 1; bounds = front.bounds }

-- A number is tested, and then the old program adds it to a pointer whose address is known. So the number is the pointer behind the sum, moved. Of a
-- pointer that an index has moved before, the number alone says nothing.
abbrev pub is_added : Front → Facts → Reg → GuardLimit → Insn → Bool
is_added front facts dst limit (Alu Add W64 to (FromReg r)) =
    same_register r dst && (is_same facts dst && option_map_or (λ t. is_tested_by (front_behind front) limit t to) (pinned facts (Register to)) false)
is_added front facts dst limit i = false

unfoldable pub guards_sum : Front → Facts → Reg → GuardLimit → Bool
guards_sum front facts dst limit = option_map_or (is_added front facts dst limit) (insn_at front.old.list front.slot) false

-- what a register has is within the limit
abbrev pub is_limited : Front → Facts → Reg → GuardLimit → Bool
is_limited front facts dst limit = list_any (guarded front dst limit) facts || guards_sum front facts dst limit

-- ---- guards by where the packet ends, which the new program keeps as an offset into the block

-- it is there: the packet's length, behind the head
abbrev pub is_end_term : Term → Bool
is_end_term t = t.frames == 0 && t.moved == head_bytes

abbrev pub is_end : Reg → Fact → Bool
is_end r fact = is_register r fact.of && (is_holder Length fact.base && option_map_or is_end_term fact.by false)

unfoldable pub has_end : Facts → Reg → Bool
has_end facts r = list_any (is_end r) facts

-- The offset of a pointer, moved, isn't behind that end: an access by the pointer ends there or behind, and one begins so low that the number isn't
-- below 0.
abbrev pub is_reached_by : Front → Reg → GuardReach → Bool
is_reached_by front r reach = begins_low front r reach 0 && is_ahead front.old r front.slot (Above reach.moved)

abbrev pub is_reached_in : Front → Term → Holder → Bool
is_reached_in front t (Register r) = t.frames == 0 && is_reached_by front r (in_context front.bounds t)
is_reached_in front t h = false

abbrev pub is_reached : Front → Fact → Bool
is_reached front fact = option_map_or (λ t. option_map_or (is_reached_in front t) fact.base false) fact.by false

-- what a register has, and a constant
abbrev pub register_reached : Front → Reg → Fact → Bool
register_reached front dst fact = is_register dst fact.of && is_reached front fact

abbrev pub number_reached : Front → ℕ → Fact → Bool
number_reached front n fact = option_map_or (is_reached front) (of_number n fact) false

-- a constant isn't behind the end that a register has
abbrev pub end_reached : Front → Facts → Reg → ℕ → Bool
end_reached front facts dst n = has_end facts dst && list_any (number_reached front n) facts

-- ---- which tests are guards that pass

-- a small number is far from all that are below 0 as offsets
abbrev pub small_end : ℕ
small_end = 2 ^ 62

abbrev pub is_small : Option AbstractState → Reg → Bool
is_small state r = nat_lt (held_number state r).unsigned.hi small_end

-- the numbers that pass where a register is tested for being greater than one
abbrev pub most_limit : Option AbstractState → Reg → ℕ → GuardLimit
most_limit state r n = if is_small state r then MostOfSmall n else Most n

unfoldable pub passes : Front → Known → Insn → Bool
passes front known (JumpIf Gt W64 dst (Imm imm) off) = is_limited front known.facts dst (most_limit known.state dst (extended imm))
passes front known (JumpIf Gt W64 dst (FromReg src) off) = has_end known.facts src && list_any (register_reached front dst) known.facts
passes front known (JumpIf Lt W64 dst (Imm imm) off) =
    end_reached front known.facts dst (extended imm) || is_limited front known.facts dst (Least (extended imm))
passes front known i = false
