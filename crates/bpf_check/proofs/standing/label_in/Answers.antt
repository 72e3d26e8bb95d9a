use Rattle.std.proofs.Common.{◌≡◌, ℕ, true, map, Option, Some, None, sym, ap, ◌∙◌, option_map, option_copied, IfSome, IsTrue, Bor}
use Rattle.std.specs.Prelude.{◌==◌}
use Rattle.bpf_cert.specs.declared.certificate.Label.{Label}
use Rattle.bpf_cert.specs.View.{FunctionView, label_view, function_view}
use Rattle.bpf_cert.specs.Limits.{is_rising, slot_before, is_limited_function, is_limited_label}
use Rattle.bpf_safety.specs.Labels.{first_with}
use Rattle.bpf_check.proofs.CertificateFacts.{labels_limited}
use Rattle.bpf_check.proofs.SearchLemmas.{first_with_passes}
use Rattle.bpf_check.proofs.standing.label_in.Goals as goal

pub label_among-requires : goal.label_among-requires
label_among-requires c = ap (λ ls. is_rising slot_before (map label_view ls)) c.deref.ensures.value ∙ c.requires.rising

pub returns-clause-value : goal.returns-clause-value
returns-clause-value c = c.label_among.ensures.label ∙ ap (λ ls. first_with (λ l. l.slot == c.args.slot) (map label_view ls)) c.deref.ensures.value

limited : (f : FunctionView) (slot : ℕ) (o : Option (Bor Label)) → is_limited_function f ≡ true → option_map label_view (option_copied o) ≡ first_with (λ l. l.slot == slot) f.labels → IfSome o (λ l. IsTrue (is_limited_label (label_view l.now)))
limited f slot None all e = tt
limited f slot (Some l) all e = first_with_passes is_limited_label (λ x. x.slot == slot) f.labels (label_view l.now) (labels_limited f all) (sym e)

pub returns-clause-limited : goal.returns-clause-limited
returns-clause-limited c = limited (function_view c.args.function.now) c.args.slot c.label_among.result.0 c.requires.limited (returns-clause-value c)
