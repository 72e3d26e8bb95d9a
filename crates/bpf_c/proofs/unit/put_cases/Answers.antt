use Rattle.bpf_c.specs.Unit.{case_text}
use Rattle.bpf_c.proofs.SaysLemmas.{says_nothing, says_next}
use Rattle.bpf_c.proofs.unit.put_cases.Goals as goal

pub loop-part-init : goal.loop-part-init
loop-part-init g c = says_nothing _ _

pub loop-part-preserved : goal.loop-part-preserved
loop-part-preserved g c = says_next (case_text c.args.name.now) c.loop-part.part c.loop-part.invariant c.put_case.ensures
