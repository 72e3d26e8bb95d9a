use Rattle.std.proofs.Common.{sym, ap, ap₂, ◌∙◌, rules}
use Rattle.std.specs.Int.{w32}
use Rattle.std.proofs.lemmas.Int.{to_z-of_z}
use Rattle.bpf_insn.specs.declared.instruction.AluOp.TheVariants.{Add}
use Rattle.bpf_insn.specs.declared.instruction.Insn.TheVariants.{Alu}
use Rattle.bpf_insn.specs.declared.instruction.Operand.TheVariants.{Imm}
use Rattle.bpf_insn.specs.declared.instruction.Width.TheVariants.{W64}
use Rattle.bpf_kept.specs.Counters.{makes_counter}
use Rattle.bpf_kept.proofs.counters.adds_counter.Goals as goal

pub returns-in-W64-Imm : goal.returns-in-W64-Imm
returns-in-W64-Imm c turns =
    let x = c.in-W64-Imm in
    c.takes_turn.ensures turns ∙ ap (λ imm. makes_counter turns c.args.counters.now (Alu Add W64 c.args.dst (Imm imm)) c.args.want) (to_z-of_z w32 x.imm (search rules))
    ∙ ap₂ (λ width src. makes_counter turns c.args.counters.now (Alu Add width c.args.dst src) c.args.want) (sym x.is-0) (sym x.is-1)
