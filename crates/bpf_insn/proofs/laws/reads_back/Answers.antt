use Rattle.bpf_insn.proofs.FaultLemmas.{insn_in_bytes-insn}
use Rattle.bpf_insn.proofs.laws.reads_back.Goals as goal

pub returns : goal.returns
returns c = insn_in_bytes-insn
