use Rattle.std.proofs.Common.{◌≡◌, ℕ, Option, Some, None, sym, option_map, option_copied, IfSome, IsTrue, Bor}
use Rattle.bpf_cert.specs.declared.certificate.Label.{Label}
use Rattle.bpf_cert.specs.View.{CertificateView, label_view}
use Rattle.bpf_cert.specs.Limits.{IsCertificate, is_limited_label}
use Rattle.bpf_safety.specs.Labels.{label_at}
use Rattle.bpf_check.proofs.CertificateFacts.{label_at_limited}
use Rattle.bpf_check.proofs.labels.label_given.Goals as goal

limited : (c : CertificateView) (slot : ℕ) (o : Option (Bor Label)) → IsCertificate c → option_map label_view (option_copied o) ≡ label_at c slot → IfSome o (λ l. IsTrue (is_limited_label (label_view l.now)))
limited c slot None valid e = tt
limited c slot (Some l) valid e = label_at_limited c slot (label_view l.now) valid (sym e)

pub returns-then-is_in_place-clause-limited : goal.returns-then-is_in_place-clause-limited
returns-then-is_in_place-clause-limited c = limited c.args.certificate.now c.args.slot c.label_in_place.result.0 c.valid.ensures c.label_in_place.ensures.label

pub returns-else-is_in_place-clause-limited : goal.returns-else-is_in_place-clause-limited
returns-else-is_in_place-clause-limited c = limited c.args.certificate.now c.args.slot c.first_label.result c.valid.ensures c.first_label.ensures
