use Rattle.std.proofs.Common.{[], inl, refl}
use Rattle.bpf_captures.specs.declared.turn.CaptureEnd.TheVariants.{Failed}
use Rattle.bpf_captures.proofs.CountLemmas.{none_counted}
use Rattle.bpf_captures.proofs.PutLemmas.{none_begun}
use Rattle.bpf_captures.proofs.ReplayLemmas.{headless}
use Rattle.bpf_captures.proofs.answers.tell_counts.Goals as goal

pub count_each-requires-clause-nothing : goal.count_each-requires-clause-nothing
count_each-requires-clause-nothing g c = none_counted c.new-counts.result.entries c.new-counts.ensures.empty

pub returns-in-Err-clause-err : goal.returns-in-Err-clause-err
returns-in-Err-clause-err g c = (
  [],
  [],
  headless (g.Q.Answerer.gives c.args.answerer.now) c.args.blocks (g.R.Read.remaining c.args.reader.now) Failed (inl refl),
  ([], none_counted [] refl, refl),
  none_begun (g.W.Write.contents c.args.out.now) [],
)
