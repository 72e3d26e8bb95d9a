use Rattle.bpf_cert.specs.View.{label_view}
use Rattle.bpf_check.proofs.BudgetLemmas.{limited_here}
use Rattle.bpf_check.proofs.shape.bad_term.Goals as goal

pub is_bad_term-requires-clause-limited : goal.is_bad_term-requires-clause-limited
is_bad_term-requires-clause-limited c = limited_here (label_view c.args.label.now) c.as_slice-terms.result.now c.loop-term.term-index _ c.requires.limited c.as_slice-terms.ensures.value c.loop-term-test.true
