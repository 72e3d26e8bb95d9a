use Rattle.std.proofs.Common.{subst}
use Rattle.std.specs.Prelude.{IfSome}
use Rattle.bpf_insn.specs.Instruction.{distance}
use Rattle.bpf_semantics.specs.Targets.{LeadsToSlot}
use Rattle.bpf_machine.specs.code.Frames.{state_of}
use Rattle.bpf_machine.proofs.RunLemmas.{insn_leads}
use Rattle.bpf_machine.proofs.machine.Machine.insn.Goals as goal

pub returns-clause-led : goal.returns-clause-led
unfolding state_of
returns-clause-led g c = subst (λ m. IfSome c.insn.result (λ i. IfSome (distance i) (λ off. LeadsToSlot m.state.top.slot off))) c.self.view_is (insn_leads _ _ c.insn.result c.self.invariant.program c.insn.ensures)
