use Rattle.bpf_insn.proofs.WriteLemmas.{gathered_some}
use Rattle.bpf_captures.proofs.ReplayLemmas.{anyway}
use Rattle.bpf_captures.proofs.answers.replay.Goals as goal

pub returns-in-Err-flush-clause-err : goal.returns-in-Err-flush-clause-err
returns-in-Err-flush-clause-err g c =
    let h = c.in-Ok.ensures.ok in
    let contents = g.W.Write.contents in (
      h.0,
      h.1,
      anyway (g.Q.Answerer.gives c.args.answerer.now) c.args.blocks (g.R.Read.remaining c.args.reader.now) c.in-Ok.stop h.0 h.2,
      h.3,
      gathered_some (contents c.args.out.now) (contents c.tell_each.new.out) (contents c.flush.new.out) c.tell_each.new.pending h.1 h.4 c.in-Err-flush.ensures.err,
    )
