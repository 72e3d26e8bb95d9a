use Rattle.bpf_text.proofs.RoundTripLemmas.{listing_back}
use Rattle.bpf_text.proofs.laws.listing_assembles.Goals as goal

pub returns : goal.returns
returns c = listing_back
