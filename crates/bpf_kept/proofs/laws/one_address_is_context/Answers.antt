use Rattle.bpf_kept.proofs.FarLaw.{one_address_is_context}
use Rattle.bpf_kept.proofs.laws.one_address_is_context.Goals as goal

pub returns : goal.returns
returns c = one_address_is_context
