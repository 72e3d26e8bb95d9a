use Rattle.std.proofs.Common.{rules}
use Rattle.bpf_machine.specs.code.Frames.{state_of}
use Rattle.bpf_machine.proofs.machine.Machine.start.Goals as goal

pub returns : goal.returns
unfolding state_of
returns g c = search rules
