-- What is answered behind `end`.
use Rattle.std.specs.Prelude.{◌≡◌, ℕ, List, Bool, true, Result, Err}
use Rattle.bpf_cert.specs.Line.{Line}
use Rattle.bpf_cert.specs.View.{CertificateView}
use Rattle.bpf_cert.specs.declared.error.CertError.{CertError}
use Rattle.bpf_cert.specs.declared.error.CertError.TheVariants as errors
use Rattle.bpf_streams.specs.declared.line_reader.LineStop.{LineStop}
use Rattle.bpf_streams.specs.declared.line_reader.LineStop.TheVariants as stop
use Rattle.bpf_cert.specs.code.Building.{Finishes}

abbrev pub AnswersBehindEnd : LineStop → Bool → ℕ → List Line → Result CertificateView CertError → Type 0
AnswersBehindEnd stop.End true n before r = Finishes before r
AnswersBehindEnd stop.Failed true n before r = r ≡ Err (errors.Read n)
AnswersBehindEnd _ _ n before r = r ≡ Err (errors.Syntax n)
