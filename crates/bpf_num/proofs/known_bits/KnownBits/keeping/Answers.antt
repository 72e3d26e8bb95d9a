use Rattle.bpf_num.proofs.Parts.{keeping_is_tristate}
use Rattle.bpf_num.proofs.known_bits.KnownBits.keeping.Goals as goal

pub invariant_of-result : goal.invariant_of-result
invariant_of-result c = keeping_is_tristate c.args.value c.args.mask c.ranges.value.fits c.ranges.mask.fits
