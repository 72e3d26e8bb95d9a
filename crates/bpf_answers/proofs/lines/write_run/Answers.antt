use Rattle.std.proofs.Common.{subst}
use Rattle.bpf_insn.specs.Written.{Gathers}
use Rattle.bpf_insn.proofs.WriteLemmas.{gathered_some, on_err_map}
use Rattle.bpf_answers.specs.Answer.{run_line}
use Rattle.bpf_answers.proofs.lines.write_run.Goals as goal

pub returns-clause-err : goal.returns-clause-err
returns-clause-err g c =
    let before = g.W.Write.contents c.args.out.now in
    let mid = g.W.Write.contents c.put_run.new.out in
    on_err_map c.flush.result (gathered_some before mid (g.W.Write.contents c.flush.new.out) c.put_run.new.pending (run_line c.args.outcome)
    (subst (λ p. Gathers before mid p c.put_run.new.pending (run_line c.args.outcome)) c.new-pending.ensures c.in_ok-put_run.ensures.ok)) c.flush.ensures.err
