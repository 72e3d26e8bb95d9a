use Rattle.std.proofs.Common.{Some, sym, ap, ◌∙◌}
use Rattle.std.specs.Prelude.{option_map, option_copied}
use Rattle.bpf_cert.specs.View.{label_view}
use Rattle.bpf_check.proofs.standing.label_seen.Goals as goal

pub returns-in-Some-clause-label : goal.returns-in-Some-clause-label
returns-in-Some-clause-label g c =
    ap (λ l. Some (label_view l)) c.see_label.ensures.label
    ∙ sym (ap (λ o. option_map label_view (option_copied o)) c.in-Some.is)
    ∙ c.label_in.ensures.value
