-- Calls of local functions: what a function is handed, what its caller still knows behind it, and what it gives back. Nothing here speaks of runs.
use Rattle.std.specs.Prelude.{ℕ, ◌+◌, ◌*◌, ◌%◌, ◌==◌, nat_le, nat_lt, Bool, true, false, not, ◌&&◌, ◌||◌, [], ◌∷◌, ◌++◌, filter, map, Option, Some, None, if◌then◌else◌}
use Rattle.std.specs.Option.{option_map_or}
use Rattle.bpf_insn.specs.Arithmetic.{extended}
use Rattle.bpf_insn.specs.Instruction.{register_number}
use Rattle.bpf_insn.specs.declared.instruction.Reg.TheVariants.{R0, R1, R2, R3, R4, R5, R6, R7, R8, R9, R10}
use Rattle.bpf_insn.specs.declared.instruction.Operand.TheVariants.{Imm}
use Rattle.bpf_insn.specs.declared.instruction.Width.TheVariants.{W64}
use Rattle.bpf_insn.specs.declared.instruction.Cond.TheVariants.{Eq}
use Rattle.bpf_insn.specs.declared.instruction.Insn.{Insn}
use Rattle.bpf_insn.specs.declared.instruction.Insn.TheVariants.{JumpIf}
use Rattle.bpf_semantics.specs.Flat.{addresses}
use Rattle.bpf_kept.specs.declared.notes.Holder.{Holder}
use Rattle.bpf_kept.specs.declared.notes.Holder.TheVariants.{Register, Slot, Length}
use Rattle.bpf_kept.specs.declared.notes.Term.{Term}
use Rattle.bpf_kept.specs.declared.notes.Fact.{Fact}
use Rattle.bpf_kept.specs.declared.notes.TurnsLeft.{TurnsLeft}
use Rattle.bpf_kept.specs.Terms.{Facts, is_noted, frame_slots}
use Rattle.bpf_kept.specs.Slots.{each_slot, slot_facts}
use Rattle.bpf_kept.specs.States.{never_holds}
use Rattle.bpf_kept.specs.Rules.{Known, is_same, pinned}
use Rattle.bpf_kept.specs.Behind.{by_itself, is_zero_slot, same_slot}

-- it is of nothing, or of what a test allows
abbrev pub is_of : (Holder → Bool) → Option Holder → Bool
is_of test None = true
is_of test (Some h) = test h

-- ---- from one function to another one, whose frame is another one: r1 to r5 to a function, and r0 from it

abbrev pub is_between : ℕ → ℕ → Holder → Bool
is_between from to (Register r) = nat_le from (register_number r) && nat_lt (register_number r) to
is_between from to (Slot n) = false
is_between from to Length = true

-- no frame counts in it
abbrev pub is_frameless : Option Term → Bool
is_frameless None = true
is_frameless (Some t) = t.frames == 0

abbrev pub is_carried : ℕ → ℕ → Fact → Bool
is_carried from to fact = is_of (is_between from to) fact.of && (is_of (is_between from to) fact.base && is_frameless fact.by)

abbrev pub is_handed : Fact → Bool
is_handed fact = is_carried 1 6 fact

abbrev pub is_result : Fact → Bool
is_result fact = is_carried 0 1 fact

-- ---- at the entry of a function: what is handed; the frame and the other registers are 0 in both

abbrev pub fresh_facts : Facts
fresh_facts =
    by_itself (Register R0) ∷ by_itself (Register R6) ∷ by_itself (Register R7) ∷ by_itself (Register R8) ∷ by_itself (Register R9) ∷ by_itself (Register R10)
    ∷ slot_facts is_zero_slot (λ n. true) frame_slots ++ slot_facts same_slot (λ n. true) frame_slots

abbrev pub known_entered : Known → Facts → Option ℕ → Known
known_entered known back spare =
    record known { facts = filter is_handed known.facts ++ fresh_facts; apart = []; counters = []; back = back; spare = spare; barred = None }

-- ---- a number that a function never gives back: where it takes its trap, it answers that one, which its caller tests

-- r0 is the same in both, and in the old program one that this doesn't make 0
abbrev pub is_unlike : ℕ → Term → Bool
is_unlike n t = t.frames == 0 && not ((n + t.moved) % addresses == 0)

abbrev pub is_another : Facts → ℕ → Bool
is_another facts n = is_same facts R0 && option_map_or (is_unlike n) (pinned facts (Register R0)) false

-- so it is, or by what is known of the new program's numbers its r0 isn't this one
abbrev pub is_other : Known → ℕ → Bool
is_other known n = is_another known.facts n || never_holds known.state R0 n

abbrev pub spares : Known → Option ℕ → Bool
spares known spare = option_map_or (is_other known) spare true

abbrev pub is_this : Option ℕ → ℕ → Bool
is_this None n = false
is_this (Some m) n = m == n

-- the test never answers yes
abbrev pub tests_barred : Option ℕ → Insn → Bool
tests_barred barred (JumpIf Eq W64 dst (Imm imm) off) = register_number dst == 0 && is_this barred (extended imm)
tests_barred barred i = false

-- ---- behind the call: what waited, what is given back, and 0 in r1 to r5

-- A function leaves r6 to r10 to its caller, and the lowest bytes of its frame.
abbrev pub waits : ℕ → Holder → Bool
waits left (Register r) = nat_le 6 (register_number r)
waits left (Slot n) = nat_le (8 * n + 8) left
waits left Length = true

abbrev pub fact_waits : ℕ → Fact → Bool
fact_waits left fact = is_of (waits left) fact.of && is_of (waits left) fact.base

abbrev pub counter_waits : ℕ → Option TurnsLeft → Option TurnsLeft
counter_waits left None = None
counter_waits left (Some c) = if waits left c.of then Some c else None

abbrev pub scratch_facts : Facts
scratch_facts = by_itself (Register R1) ∷ by_itself (Register R2) ∷ by_itself (Register R3) ∷ by_itself (Register R4) ∷ by_itself (Register R5) ∷ []

abbrev pub known_returned : Known → Facts → Option ℕ → Known
known_returned known back spare =
    record known { facts = filter (fact_waits known.left) known.facts ++ back ++ scratch_facts; counters = map (counter_waits known.left) known.counters; barred = spare }

-- In each other slot of the frame both have the same: the function may come to it.
abbrev pub apart_waits : Known → Bool
apart_waits known = each_slot (λ n. not (is_noted known.apart n) || nat_le (8 * n + 8) known.left) frame_slots
