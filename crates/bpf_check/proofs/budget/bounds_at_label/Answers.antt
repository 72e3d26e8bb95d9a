use Rattle.std.proofs.Common.{Some, ap, ◌∙◌}
use Rattle.bpf_state.specs.Transfer.{number_state}
use Rattle.bpf_cert.specs.View.{label_view}
use Rattle.bpf_state.specs.Held.{held}
use Rattle.bpf_check.proofs.AtLabel.{no_number_at, number_at}
use Rattle.bpf_check.proofs.budget.bounds_at_label.Goals as goal

pub returns-in_default : goal.returns-in_default
returns-in_default c = no_number_at (label_view c.args.label.now) c.args.term.now c.requires.alive (c.in_default.ensures ∙ ap number_state c.held.ensures ∙ ap (λ p. number_state (held c.args.label.now.state p)) c.place_of.ensures)

pub returns-in-Some-tighten : goal.returns-in-Some-tighten
returns-in-Some-tighten c =
    ap (λ u. Some u) c.unsigned.ensures
    ∙ number_at (label_view c.args.label.now) c.args.term.now c.in-Some.number _ c.requires.alive (c.in-Some.ensures ∙ ap number_state c.held.ensures ∙ ap (λ p. number_state (held c.args.label.now.state p)) c.place_of.ensures) c.in-Some-tighten.ensures.exact

pub returns-in-None : goal.returns-in-None
returns-in-None c =
    number_at (label_view c.args.label.now) c.args.term.now c.in-Some.number _ c.requires.alive (c.in-Some.ensures ∙ ap number_state c.held.ensures ∙ ap (λ p. number_state (held c.args.label.now.state p)) c.place_of.ensures) c.in-None.ensures.exact
