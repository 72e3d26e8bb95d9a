use Rattle.std.proofs.Common.{refl, rules}
use Rattle.bpf_machine.proofs.StepLemmas.{stuck_before_access}
use Rattle.bpf_machine.proofs.machine.Machine.load_sx.Goals as goal

pub returns-in-Err : goal.returns-in-Err
returns-in-Err g c = (refl, stuck_before_access _ _ _ (search rules))
