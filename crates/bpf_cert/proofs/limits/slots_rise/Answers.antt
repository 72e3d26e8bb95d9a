use Rattle.std.proofs.Common.{◌∙◌, sym}
use Rattle.bpf_cert.specs.View.{label_view}
use Rattle.bpf_cert.specs.Limits.{slot_before}
use Rattle.bpf_cert.proofs.LimitLemmas.{rising_short_map}
use Rattle.bpf_cert.proofs.limits.slots_rise.Goals as goal

pub returns : goal.returns
returns c = sym (c.labels.invariant ∙ rising_short_map slot_before label_view c.labels.rest.now c.labels-test.false)
