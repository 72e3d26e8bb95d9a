use Rattle.std.proofs.Common.{refl}
use Rattle.bpf_answers.specs.Answer.{work_line, yes_line}
use Rattle.bpf_answers.proofs.ToldLemmas.{first_piece, second_piece}
use Rattle.bpf_answers.proofs.lines.write_counted.Goals as goal

pub returns-in_err-write_yes-clause-err : goal.returns-in_err-write_yes-clause-err
returns-in_err-write_yes-clause-err g c = first_piece c.from_residual.result _ _ (yes_line c.args.least c.args.most c.args.bound) (work_line c.args.work.now) _ refl c.in_err-write_yes.ensures.err

pub returns-clause-err : goal.returns-clause-err
returns-clause-err g c = second_piece c.write_work.result _ _ _ (yes_line c.args.least c.args.most c.args.bound) (work_line c.args.work.now) _ refl c.in_ok-write_yes.ensures.ok c.write_work.ensures.err
