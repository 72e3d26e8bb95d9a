use Rattle.std.proofs.Common.{◌-◌, ◌<◌, length, arith}
use Rattle.bpf_cert.specs.View.{label_view}
use Rattle.bpf_check.proofs.EdgeLemmas.{tagged_place}
use Rattle.bpf_check.proofs.arrival.set_label_state.Goals as goal

pub set_tag-requires : goal.set_tag-requires
set_tag-requires c =
    let within : c.terms.j - 1 < length c.as_slice-terms.result.now = omega arith in
    tagged_place (label_view c.args.label.now) c.as_slice-terms.result.now (c.terms.j - 1) _ _ c.requires c.as_slice-terms.ensures.value within c.place_of.ensures
