use Rattle.std.proofs.Common.{◌≡◌, ℕ, refl, Option, Some, None, sym, ap, ◌∙◌, option_map, option_copied, IfSome, IsTrue, Bor}
use Rattle.bpf_cert.specs.declared.certificate.Function.{Function}
use Rattle.bpf_cert.specs.View.{CertificateView, function_view}
use Rattle.bpf_cert.specs.Limits.{is_rising, IsCertificate, first_before, is_limited_function}
use Rattle.bpf_safety.specs.Labels.{function_at}
use Rattle.bpf_check.proofs.CertificateFacts.{function_at_is, function_at_limited, functions_rise}
use Rattle.bpf_check.proofs.SearchLemmas.{is_rising-map}
use Rattle.bpf_check.proofs.labels.function_among.Goals as goal

pub last_from-requires : goal.last_from-requires
last_from-requires c = sym (is_rising-map first_before function_view c.functions.result.now) ∙ ap (is_rising first_before) c.functions.ensures ∙ functions_rise c.args.certificate.now c.valid.ensures

pub returns-clause-value : goal.returns-clause-value
returns-clause-value c = function_at_is c.args.certificate.now c.args.slot c.functions.result.now _ c.functions.ensures c.last_from.ensures.last

limited : (c : CertificateView) (slot : ℕ) (o : Option (Bor Function)) → IsCertificate c → option_map function_view (option_copied o) ≡ function_at c slot → IfSome o (λ f. IsTrue (is_limited_function (function_view f.now)))
limited c slot None valid e = tt
limited c slot (Some f) valid e = function_at_limited c slot (function_view f.now) valid (sym e)

pub returns-clause-limited : goal.returns-clause-limited
returns-clause-limited c = limited c.args.certificate.now c.args.slot c.last_from.result.0 c.valid.ensures (returns-clause-value c)

pub returns-clause-until : goal.returns-clause-until
returns-clause-until c n low high =
    sym (function_at_is c.args.certificate.now n c.functions.result.now _ c.functions.ensures refl)
    ∙ ap (option_map function_view) (c.last_from.ensures.until n low high)
    ∙ function_at_is c.args.certificate.now c.args.slot c.functions.result.now _ c.functions.ensures refl
