use Rattle.bpf_machine.proofs.RegisterLemmas.{entered_registers}
use Rattle.bpf_machine.proofs.registers.Registers.enter.Goals as goal

pub returns : goal.returns
returns c = entered_registers _ _ _ c.args.depth c.self.view_is c.self.invariant c.self.told
