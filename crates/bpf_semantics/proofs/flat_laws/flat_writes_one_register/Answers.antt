use Rattle.bpf_semantics.proofs.FlatRegistersLaw.{flat_writes_one_register}
use Rattle.bpf_semantics.proofs.flat_laws.flat_writes_one_register.Goals as goal

pub returns : goal.returns
returns c = flat_writes_one_register
