use Rattle.bpf_insn.proofs.ListIsOne.{list_is_one_of_both}
use Rattle.bpf_insn.proofs.laws.list_is_one_of_both.Goals as goal

pub returns : goal.returns
returns c = list_is_one_of_both
