-- Which ways of a test neither program goes: by the numbers that the old one has, or by what is known of the new one's. Nothing here speaks of runs.
use Rattle.std.specs.Prelude.{Bool, true, false, not, ◌||◌, Option, None, is_none, option_map}
use Rattle.std.specs.Option.{option_map_or}
use Rattle.bpf_insn.specs.Options.{◌>>=◌}
use Rattle.bpf_insn.specs.Arithmetic.{jumps}
use Rattle.bpf_insn.specs.declared.instruction.Operand.TheVariants.{Reg as FromReg}
use Rattle.bpf_insn.specs.declared.instruction.Insn.{Insn}
use Rattle.bpf_insn.specs.declared.instruction.Insn.TheVariants.{JumpIf}
use Rattle.bpf_num.specs.Refine.{refine}
use Rattle.bpf_kept.specs.Terms.{Facts}
use Rattle.bpf_kept.specs.States.{held_number, operand_number}
use Rattle.bpf_kept.specs.Rules.{Known, old_number}

-- ---- by the numbers that the old program has

-- what its test answers
abbrev pub answer : Facts → Insn → Option Bool
answer facts (JumpIf cond width dst src off) = old_number facts (FromReg dst) >>= λ a. option_map (jumps width cond a) (old_number facts src)
answer facts i = None

-- it jumps always, or never
abbrev pub surely_jumps : Facts → Insn → Bool
surely_jumps facts i = option_map_or (λ taken. taken) (answer facts i) false

abbrev pub surely_falls : Facts → Insn → Bool
surely_falls facts i = option_map_or not (answer facts i) false

-- it never answers so
abbrev pub surely_not : Facts → Insn → Bool → Bool
surely_not facts i true = surely_falls facts i
surely_not facts i false = surely_jumps facts i

-- ---- by what is known of the new program's numbers

-- its test never answers so
abbrev pub never_answers : Known → Insn → Bool → Bool
never_answers known (JumpIf cond width dst src off) taken = is_none (refine cond width taken (held_number known.state dst) (operand_number known.state src))
never_answers known i taken = false

-- ---- ways of two tests that answer alike

-- Neither program goes the way where they hold (`taken`), or where they fail.
unfoldable pub is_dead : Known → Insn → Insn → Bool → Bool
is_dead known (JumpIf cond width dst src off) moved taken = surely_not known.facts (JumpIf cond width dst src off) taken || never_answers known moved taken
is_dead known i moved taken = false
