use Rattle.bpf_state.proofs.LaneLemmas.{zero_of_mask}
use Rattle.bpf_state.proofs.lanes.is_zero.Goals as goal

pub returns : goal.returns
returns c = zero_of_mask c.args.block c.fits-block.0
