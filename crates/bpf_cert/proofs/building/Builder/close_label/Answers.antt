use Rattle.std.proofs.Common.{arith}
use Rattle.std.proofs.lemmas.Grind.{common_steps}
use Rattle.bpf_cert.proofs.building.Builder.close_label.Goals as goal

pub returns-in_ok-push-in-Label : goal.returns-in_ok-push-in-Label
returns-in_ok-push-in-Label c = grind (arith, common_steps)
