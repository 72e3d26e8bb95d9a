use Rattle.bpf_cert.proofs.FaultsStay.{stays}
use Rattle.bpf_cert.proofs.laws.fault_stays.Goals as goal

pub returns : goal.returns
returns c = stays
