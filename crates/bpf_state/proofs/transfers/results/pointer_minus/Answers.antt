use Rattle.std.proofs.Common.{◌-ℤ◌, arith, rules, ap, ap₂, ◌∙◌}
use Rattle.std.proofs.lemmas.Int.{ints}
use Rattle.bpf_num.specs.SignedInterval.{SignedInterval}
use Rattle.bpf_state.specs.declared.known.RegState.TheVariants.{Ptr}
use Rattle.bpf_state.proofs.AluLemmas.{rest_is}
use Rattle.bpf_state.proofs.transfers.results.pointer_minus.Goals as goal

pub returns-clause-ordered : goal.returns-clause-ordered
returns-clause-ordered c = let ok = c.valid.ensures.signed in omega (arith, ints)

pub returns-clause-value : goal.returns-clause-value
returns-clause-value c =
    ap₂ (λ x y. Ptr (record { area = c.args.p.area; lo = x; hi = y }))
    (rest_is c.args.p.lo c.hi.result (search rules) (search rules) ∙ ap (λ z. c.args.p.lo -ℤ z) (c.hi.ensures ∙ ap (λ (s : SignedInterval). s.hi) c.signed-by.ensures))
    (rest_is c.args.p.hi c.lo.result (search rules) (search rules) ∙ ap (λ z. c.args.p.hi -ℤ z) (c.lo.ensures ∙ ap (λ (s : SignedInterval). s.lo) c.signed-by.ensures))
