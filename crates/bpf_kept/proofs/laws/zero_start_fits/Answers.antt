use Rattle.bpf_kept.proofs.ZeroLaw.{zero_start_fits}
use Rattle.bpf_kept.proofs.laws.zero_start_fits.Goals as goal

pub returns : goal.returns
returns c = zero_start_fits
