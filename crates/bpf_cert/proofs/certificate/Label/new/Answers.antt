use Rattle.std.proofs.Common.{◌≡◌, ◌∙◌, true, sym, ap}
use Rattle.bpf_cert.specs.Limits.{is_canonical_state}
use Rattle.bpf_cert.proofs.BareStates.{bare_canonical}
use Rattle.bpf_cert.proofs.certificate.Label.new.Goals as goal

pub returns-in-Ok-clause-ok : goal.returns-in-Ok-clause-ok
returns-in-Ok-clause-ok c =
    let canonical : is_canonical_state c.args.state.now ≡ true = sym c.is_canonical_state.ensures ∙ c.if-not-is_canonical_state.false in
    ap (λ s. record { slot = c.args.slot; state = s; base = c.args.budget.base; terms = c.args.budget.terms.items }) (c.in-Ok.ensures ∙ bare_canonical c.args.state.now c.valid.ensures.state canonical)
