use Rattle.std.proofs.Common.{arith, ap, ◌∙◌}
use Rattle.std.specs.Prelude.{set}
use Rattle.bpf_kept.specs.Calls.{counter_waits}
use Rattle.bpf_kept.proofs.CallLemmas.{mapped_step, all_mapped}
use Rattle.bpf_kept.proofs.calls.returned_counters.Goals as goal

pub loop-n-preserved : goal.loop-n-preserved
loop-n-preserved c = ap (set c.loop-n.all c.loop-n.n) c.counter_waits.ensures ∙ mapped_step (counter_waits c.args.left) c.args.counters c.loop-n.n _ (omega arith) c.loop-n.invariant

pub returns : goal.returns
returns c = c.loop-n.invariant ∙ all_mapped (counter_waits c.args.left) c.args.counters c.loop-n.n (omega arith)
