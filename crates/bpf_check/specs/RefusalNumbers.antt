-- The number of a refusal, from 1 to 13, and the slot that it names.
use Rattle.std.specs.Prelude.{ℕ}
use Rattle.bpf_state.specs.Condition.{condition_number}
use Rattle.bpf_check.specs.declared.refusal.Refusal.{Refusal}

abbrev pub refusal_number : Refusal → ℕ
refusal_number r = condition_number r.condition

abbrev pub refusal_slot : Refusal → ℕ
refusal_slot r = r.slot

-- a refusal as a flaw
abbrev pub flaw_of : Refusal → ℕ × ℕ
flaw_of r = (refusal_slot r, refusal_number r)
