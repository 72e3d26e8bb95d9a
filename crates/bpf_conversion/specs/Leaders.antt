-- The leaders of basic blocks (Aho, Sethi and Ullman, Compilers, 1986, section 9.4): the first instruction, each one to which a jump leads, and each one
-- behind a jump, a test or an exit.
use Rattle.std.specs.Prelude.{ℕ, zero, suc, ◌+◌, ◌==◌, Bool, false, ◌||◌, List, length, slice_get, Option, Some, None, if◌then◌else◌}
use Rattle.bpf_insn.specs.Instruction.{target, is_straight}
use Rattle.bpf_insn.specs.declared.instruction.Insn.{Insn}
use Rattle.bpf_insn.specs.declared.instruction.Insn.TheVariants.{Ja, JumpIf}

-- where the jump of a slot leads
abbrev pub jump_to : ℕ → Insn → Option ℕ
jump_to slot (Ja off) = target slot off
jump_to slot (JumpIf test width dst src off) = target slot off
jump_to slot i = None

abbrev pub is_slot : Option ℕ → ℕ → Bool
is_slot None slot = false
is_slot (Some n) slot = n == slot

-- the slot behind the end of a block
abbrev pub behind_end : ℕ → Insn → Option ℕ
behind_end slot i = if is_straight i then None else Some (slot + 1)

-- the instruction of a slot makes another slot a leader
abbrev pub makes_leader : ℕ → Option Insn → ℕ → Bool
makes_leader slot None to = false
makes_leader slot (Some i) to = is_slot (jump_to slot i) to || is_slot (behind_end slot i) to

-- one of the first so many does
abbrev pub is_led_to : List Insn → ℕ → ℕ → Bool
is_led_to list zero slot = slot == 0
is_led_to list (suc n) slot = makes_leader n (slice_get list n) slot || is_led_to list n slot

abbrev pub is_leader : List Insn → ℕ → Bool
is_leader list slot = is_led_to list (length list) slot
