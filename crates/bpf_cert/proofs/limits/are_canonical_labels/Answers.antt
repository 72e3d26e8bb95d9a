use Rattle.std.proofs.Common.{sym}
use Rattle.bpf_cert.specs.View.{label_view}
use Rattle.bpf_cert.specs.Limits.{is_canonical_label}
use Rattle.bpf_cert.proofs.LimitLemmas.{all_taken}
use Rattle.bpf_cert.proofs.limits.are_canonical_labels.Goals as goal

pub returns : goal.returns
returns c = sym (all_taken is_canonical_label label_view c.args.labels.now c.loop-label.label-index c.loop-label-test.false c.loop-label.invariant)
