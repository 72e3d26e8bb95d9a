-- What was put at OUT is the text of a certified program.
use Rattle.std.proofs.Common.{◌≡◌, Bool, subst}
use Rattle.bpf_insn.specs.Instruction.{Instructions}
use Rattle.bpf_cert.specs.View.{CertificateView}
use Rattle.bpf_check.specs.CheckedProgram.{IsCertifiedBy}
use Rattle.bpf_c.specs.Unit.{unit_text}
use Rattle.bpf_c.specs.declared.bounds.Promise.{Promise}
use Rattle.bpf_answers.specs.Opened.{Opening}
use Rattle.bpf_answers.specs.Made.{Making}
use Rattle.bpf_command.specs.declared.request.emitting.Emitting.{Emitting}
use Rattle.bpf_answers.specs.Loaded.{CertificateAt}
use Rattle.bpf_command.specs.Emitted.{Puts, promise_of}

pub puts_of : {S : Type 0} (o : Opening S) (m : Making S) (old : S) (p : Instructions) (e : Emitting) (between : S) (c : CertificateView) (promise : Promise) (is_put : Bool) (new : S)
    → CertificateAt o old e.certificate.now between c → IsCertifiedBy p c → promise ≡ promise_of c → m between e.output.now (unit_text e.name.now promise p) is_put new → Puts o m old p e is_put new
puts_of o m old p e between c promise is_put new read by same made =
    record { between = between; certificate = c; read = read; certified = by; put = subst (λ q. m between e.output.now (unit_text e.name.now q p) is_put new) same made }
