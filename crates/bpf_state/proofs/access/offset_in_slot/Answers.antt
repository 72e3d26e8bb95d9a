use Rattle.std.proofs.Common.{arith}
use Rattle.std.proofs.lemmas.Int.{ints}
use Rattle.bpf_state.proofs.AccessLemmas.{place_is, held}
use Rattle.bpf_state.proofs.access.offset_in_slot.Goals as goal

pub returns : goal.returns
returns c =
    let low = c.requires.above in
    let high = c.requires.below in
    let slot = c.requires.slot in
    place_is c.args.index c.args.offset (held c.above_slot.result) c.clamp.result c.clamp.ensures.lower_bound c.clamp.ensures.upper_bound c.clamp.ensures.value (omega (arith, ints))
