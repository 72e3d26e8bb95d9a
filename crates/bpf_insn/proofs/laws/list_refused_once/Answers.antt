use Rattle.bpf_insn.proofs.ListLaws.{list_refused_once}
use Rattle.bpf_insn.proofs.laws.list_refused_once.Goals as goal

pub returns : goal.returns
returns c = list_refused_once
