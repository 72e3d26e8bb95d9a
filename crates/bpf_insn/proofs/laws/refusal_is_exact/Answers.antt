use Rattle.bpf_insn.proofs.ImageLaws.{fault_free, begins_free}
use Rattle.bpf_insn.proofs.laws.refusal_is_exact.Goals as goal

pub returns : goal.returns
returns c order bytes h long = (fault_free order bytes h long, begins_free order bytes)
