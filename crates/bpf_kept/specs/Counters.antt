-- Counters: registers and slots of the new program that count the turns that are left. The old program comes to an instruction no more than so often in
-- one call. So a counter that begins there, and loses one for each turn, isn't 0 in front of the instruction. Nothing here speaks of runs.
use Rattle.std.specs.Prelude.{ℕ, ◌+◌, ◌-◌, ◌≤◌, ◌==◌, zero, nat_le, pos, negsuc, Bool, true, false, not, ◌&&◌, ◌||◌, List, Option, Some, None, ⊤, if◌then◌else◌}
use Rattle.std.specs.List.{AllByRecursion, list_all, list_any}
use Rattle.std.specs.Option.{option_map_or}
use Rattle.bpf_insn.specs.Arithmetic.{extended}
use Rattle.bpf_insn.specs.declared.instruction.Reg.{Reg}
use Rattle.bpf_insn.specs.declared.instruction.Operand.TheVariants.{Imm, Reg as FromReg}
use Rattle.bpf_insn.specs.declared.instruction.Width.TheVariants.{W64}
use Rattle.bpf_insn.specs.declared.instruction.AluOp.TheVariants.{Add, Mov}
use Rattle.bpf_insn.specs.declared.instruction.Cond.TheVariants.{Eq}
use Rattle.bpf_insn.specs.declared.instruction.Insn.{Insn}
use Rattle.bpf_insn.specs.declared.instruction.Insn.TheVariants.{Alu, LoadImm64, Load, Store, StoreImm, JumpIf}
use Rattle.bpf_kept.specs.declared.notes.Holder.{Holder}
use Rattle.bpf_kept.specs.declared.notes.Holder.TheVariants.{Register, Slot}
use Rattle.bpf_kept.specs.declared.notes.TurnsLeft.{TurnsLeft}
use Rattle.bpf_kept.specs.declared.notes.Change.{Change}
use Rattle.bpf_kept.specs.declared.notes.Change.TheVariants.{Kept, Put, Stored, Fetched, Made}
use Rattle.bpf_kept.specs.Terms.{Values}
use Rattle.bpf_kept.specs.Slots.{is_clear, slot_at}
use Rattle.bpf_kept.specs.Rules.{Known, same_holder}

-- ---- what they mean

-- With the turns that are taken ahead, and those that the call has made so far at its slot, a counter makes up all turns.
abbrev pub Counts : ℕ → (ℕ → ℕ) → Values → Option TurnsLeft → Type 0
Counts turns made new None = ⊤
Counts turns made new (Some c) = turns ≤ new (Some c.of) + (c.taken + made c.head)

abbrev pub AllCount : ℕ → (ℕ → ℕ) → Values → List (Option TurnsLeft) → Type 0
AllCount turns made new counters = AllByRecursion (Counts turns made new) counters

-- ---- which counters give which

abbrev pub any_counter : (TurnsLeft → Bool) → List (Option TurnsLeft) → Bool
any_counter test counters = list_any (λ c. option_map_or test c false) counters

-- the old program's instruction is the one whose turns it counts
abbrev pub is_turn_of : Option ℕ → ℕ → Bool
is_turn_of None head = false
is_turn_of (Some slot) head = slot == head

-- What a register or slot counts tells what is wanted, if so many turns more are taken ahead, and then the old program does its instruction at a slot
-- (None: it stands still).
abbrev pub tells : Option ℕ → Holder → ℕ → TurnsLeft → TurnsLeft → Bool
tells step h more want have = same_holder have.of h && (have.head == want.head && nat_le ((have.taken + more) - (if is_turn_of step have.head then 1 else 0)) want.taken)

-- What an extra instruction makes of counters. One begins with all turns, is moved, and loses one. If it began with fewer, the last turns would be
-- missing.
abbrev pub makes_counter : ℕ → List (Option TurnsLeft) → Insn → TurnsLeft → Bool
makes_counter turns counters (Alu Mov W64 dst (Imm imm)) want = nat_le turns (extended imm)
makes_counter turns counters (Alu Mov W64 dst (FromReg r)) want = any_counter (tells None (Register r) 0 want) counters
makes_counter turns counters (Alu Add W64 dst (Imm (negsuc zero))) want = any_counter (tells None (Register dst) 1 want) counters
makes_counter turns counters (LoadImm64 dst value) want = nat_le turns value
makes_counter turns counters (Load size dst src off) want = option_map_or (λ n. any_counter (tells None (Slot n) 0 want) counters) (slot_at size src off) false
makes_counter turns counters (Store size dst off src) want = any_counter (tells None (Register src) 0 want) counters
makes_counter turns counters (StoreImm size dst off imm) want = nat_le turns (extended imm)
makes_counter turns counters i want = false

-- a counter that a change doesn't overwrite
abbrev pub is_spared : Change → Holder → Bool
is_spared Kept h = true
is_spared (Put fact pin) h = option_map_or (λ into. not (same_holder h into)) fact.of true
is_spared (Stored from to) h = is_clear from to (Some h)
is_spared (Fetched from to r) h = is_clear from to (Some h) && not (same_holder h (Register r))
is_spared (Made into i) h = not (same_holder h into)

abbrev pub is_made : Known → Change → TurnsLeft → Bool
is_made known (Made into i) want = same_holder into want.of && makes_counter known.turns known.counters i want
is_made known change want = false

abbrev pub is_left : Change → Option ℕ → TurnsLeft → TurnsLeft → Bool
is_left change step want have = is_spared change have.of && tells step want.of 0 want have

abbrev pub counts_behind : Known → Change → Option ℕ → Option TurnsLeft → Bool
counts_behind known change step None = true
counts_behind known change step (Some want) = is_made known change want || any_counter (is_left change step want) known.counters

unfoldable pub all_count_behind : Known → Change → Option ℕ → List (Option TurnsLeft) → Bool
all_count_behind known change step wants = list_all (counts_behind known change step) wants

-- ---- the test of a counter, in front of the instruction whose turns it counts: it never leads to its trap

-- In front of another instruction, which comes more often, or behind the taking of a turn the last one would lead there.

abbrev pub is_tested_turn : ℕ → Reg → TurnsLeft → Bool
is_tested_turn slot dst c = same_holder c.of (Register dst) && (c.head == slot && c.taken == 0)

unfoldable pub has_turn : List (Option TurnsLeft) → ℕ → Insn → Bool
has_turn counters slot (JumpIf Eq W64 dst (Imm (pos zero)) off) = any_counter (is_tested_turn slot dst) counters
has_turn counters slot i = false
