use Rattle.bpf_insn.proofs.ListLaws.{list_never_both}
use Rattle.bpf_insn.proofs.laws.list_never_both.Goals as goal

pub returns : goal.returns
returns c = list_never_both
