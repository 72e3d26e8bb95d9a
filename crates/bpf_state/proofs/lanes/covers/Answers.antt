use Rattle.std.proofs.Common.{sym, ◌∙◌}
use Rattle.bpf_state.proofs.LaneLemmas.{lacks_at}
use Rattle.bpf_state.proofs.lanes.covers.Goals as goal

pub returns : goal.returns
returns c =
    let at = lacks_at _ c.args.want.now c.args.have.now c.missing.ensures c.told-want c.told-have in
    (λ t i lt. sym (at i lt) ∙ c.is_zero.ensures.0 t i lt, λ covers. c.is_zero.ensures.1 (λ i lt. at i lt ∙ covers i lt))
