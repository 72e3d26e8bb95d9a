use Rattle.std.proofs.Common.{sym, ap₂, ◌∙◌}
use Rattle.bpf_insn.specs.declared.instruction.Insn.TheVariants.{Alu}
use Rattle.bpf_state.specs.Transfer.{transfer}
use Rattle.bpf_state.proofs.transfers.alu.alu.Goals as goal

pub returns-in-Mov-W64-clause-outcome : goal.returns-in-Mov-W64-clause-outcome
returns-in-Mov-W64-clause-outcome c = λ order least.
    let x = c.args in
    c.mov.ensures.outcome order least
    ∙ ap₂ (λ op width. transfer order (Alu op width x.dst x.src) least x.state.now) (sym c.in-Mov-W64.is-0) (sym c.in-Mov-W64.is-1)
