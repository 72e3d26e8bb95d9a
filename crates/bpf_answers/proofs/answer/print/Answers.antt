use Rattle.std.proofs.Common.{sym, ◌∙◌}
use Rattle.bpf_answers.proofs.MadeLemmas.{written_says}
use Rattle.bpf_answers.proofs.answer.print.Goals as goal

pub returns-then-is_written-clause-ok : goal.returns-then-is_written-clause-ok
returns-then-is_written-clause-ok g c = written_says c.args.answer.now _ (sym c.is_written.ensures ∙ c.if-is_written.true)
