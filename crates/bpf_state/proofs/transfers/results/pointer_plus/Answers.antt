use Rattle.std.proofs.Common.{◌+ℤ◌, rules, ap, ap₂, ◌∙◌}
use Rattle.bpf_num.specs.SignedInterval.{SignedInterval}
use Rattle.bpf_state.specs.declared.known.RegState.TheVariants.{Ptr}
use Rattle.bpf_state.proofs.AluLemmas.{sum_is}
use Rattle.bpf_state.proofs.transfers.results.pointer_plus.Goals as goal

pub returns-clause-value : goal.returns-clause-value
returns-clause-value c =
    ap₂ (λ x y. Ptr (record { area = c.args.p.area; lo = x; hi = y }))
    (sum_is c.args.p.lo c.lo.result (search rules) (search rules) ∙ ap (λ z. c.args.p.lo +ℤ z) (c.lo.ensures ∙ ap (λ (s : SignedInterval). s.lo) c.signed-by.ensures))
    (sum_is c.args.p.hi c.hi.result (search rules) (search rules) ∙ ap (λ z. c.args.p.hi +ℤ z) (c.hi.ensures ∙ ap (λ (s : SignedInterval). s.hi) c.signed-by.ensures))
