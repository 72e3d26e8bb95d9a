use Rattle.std.proofs.Common.{ap}
use Rattle.std.specs.Prelude.{flat_map}
use Rattle.std.proofs.lemmas.List.{take_all}
use Rattle.bpf_c.proofs.SaysLemmas.{says_nothing, says_of, says_item}
use Rattle.bpf_c.proofs.unit.put_each.Goals as goal

pub loop-line-init : goal.loop-line-init
loop-line-init g c = says_nothing _ _

pub loop-line-preserved : goal.loop-line-preserved
loop-line-preserved g c = says_item (λ line. line.now) c.args.lines.now c.loop-line.line-index _ c.loop-line-test.true c.loop-line.invariant c.put.ensures

pub returns : goal.returns
returns g c = says_of (ap (flat_map (λ line. line.now)) (take_all c.loop-line.line-index c.args.lines.now c.loop-line-test.false)) c.loop-line.invariant
