use Rattle.std.proofs.Common.{◌≡◌, drop}
use Rattle.bpf_safety.specs.Labels.{label_at}
use Rattle.bpf_check.proofs.CertificateFacts.{labels_of}
use Rattle.bpf_check.proofs.labels.first_label.Given as goal

abbrev pub invariant-loop-function : goal.invariant-loop-function
invariant-loop-function l = labels_of l.slot (drop l.function-index l.functions) ≡ label_at l.certificate l.slot
