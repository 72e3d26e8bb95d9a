use Rattle.std.proofs.Common.{sym, ◌∙◌}
use Rattle.bpf_insn.proofs.InsnLemmas.{insn_decides}
use Rattle.bpf_insn.proofs.instruction.Insn.is.Goals as goal

pub returns : goal.returns
returns c = let decides = insn_decides c.args.self.now c.args.other.now in (λ e. decides.0 (sym c.eq.ensures ∙ e), λ e. c.eq.ensures ∙ decides.1 e)
