-- Where a certificate's labels lie.
use Rattle.std.specs.Prelude.{Bool, not}
use Rattle.std.specs.List.{list_all}
use Rattle.bpf_cert.specs.View.{FunctionView, CertificateView}
use Rattle.bpf_safety.specs.Flaw.{is_outside}

-- each label of a function lies in it
abbrev pub holds_labels : CertificateView → FunctionView → Bool
holds_labels c f = list_all (λ l. not (is_outside c f l)) f.labels

-- each label lies in its function
abbrev pub are_in_place : CertificateView → Bool
are_in_place c = list_all (holds_labels c) c.functions
