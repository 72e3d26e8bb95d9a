use Rattle.std.proofs.Common.{◌≡◌, length, map}
use Rattle.bpf_cert.specs.View.{label_view}
use Rattle.bpf_cert.specs.Limits.{is_rising}
use Rattle.bpf_cert.specs.Limits as limits
use Rattle.bpf_cert.proofs.limits.slots_rise.Given as goal

abbrev pub invariant-labels : goal.invariant-labels
invariant-labels l = is_rising limits.slot_before (map label_view l.labels) ≡ is_rising limits.slot_before (map label_view l.rest)

abbrev pub decreases-labels : goal.decreases-labels
decreases-labels l = length l.rest
