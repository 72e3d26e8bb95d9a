-- A certificate without where it lies in memory.
use Rattle.std.specs.Prelude.{ℕ, List, map}
use Rattle.bpf_num.specs.Number.{Number as AbstractNumber}
use Rattle.bpf_state.specs.State.{AbstractState}
use Rattle.bpf_cert.specs.declared.certificate.Term.{Term}
use Rattle.bpf_cert.specs.declared.certificate.Label.{Label}
use Rattle.bpf_cert.specs.declared.certificate.Function.{Function}
use Rattle.bpf_cert.specs.declared.header.Header.{Header}

pub record LabelView : Type 0 where
  pub slot : ℕ
  pub state : AbstractState
  pub base : ℕ
  pub terms : List Term

pub record FunctionView : Type 0 where
  pub first : ℕ
  pub depth : ℕ
  pub ret : AbstractNumber
  pub labels : List LabelView

-- for all contexts of `least` to `most` bytes
pub record CertificateView : Type 0 where
  pub version : ℕ
  pub least : ℕ
  pub most : ℕ
  pub steps : ℕ
  pub functions : List FunctionView

abbrev pub label_view : Label → LabelView
label_view l = record { slot = l.slot; state = l.state; base = l.budget.base; terms = l.budget.terms.items }

abbrev pub function_view : Function → FunctionView
function_view f = record { first = f.first; depth = f.depth; ret = f.ret; labels = map label_view f.labels.items }

abbrev pub certificate_view : ℕ → ℕ → ℕ → ℕ → List Function → CertificateView
certificate_view version least most steps fs = record { version = version; least = least; most = most; steps = steps; functions = map function_view fs }

-- the certificate of a first line and functions
abbrev pub certificate_of : Header → List FunctionView → CertificateView
certificate_of h fs = record { version = h.version; least = h.least; most = h.most; steps = h.steps; functions = fs }

-- its first line
abbrev pub header_of : CertificateView → Header
header_of c = record { version = c.version; least = c.least; most = c.most; steps = c.steps }
