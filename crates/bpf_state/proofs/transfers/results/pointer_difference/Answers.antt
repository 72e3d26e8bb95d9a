use Rattle.std.proofs.Common.{rules, ◌∙◌, sym}
use Rattle.bpf_state.proofs.AluLemmas.{difference_held, same_rest}
use Rattle.bpf_state.proofs.transfers.results.pointer_difference.Goals as goal

pub returns-then-is_same-clause-value : goal.returns-then-is_same-clause-value
returns-then-is_same-clause-value c =
    let p = c.args.p in
    let q = c.args.q in
    same_rest p q c.difference.result (sym c.is_same.ensures ∙ c.if-is_same.true)
    (c.difference.ensures.value ∙ difference_held p.lo p.hi q.lo q.hi (search rules) (search rules) (search rules) (search rules))
