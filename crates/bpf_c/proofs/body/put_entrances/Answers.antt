use Rattle.bpf_c.specs.Unit.{way_in_text}
use Rattle.bpf_c.proofs.SaysLemmas.{says_nothing, says_next}
use Rattle.bpf_c.proofs.body.put_entrances.Goals as goal

pub loop-slot-init : goal.loop-slot-init
loop-slot-init g c = says_nothing _ _

pub loop-slot-preserved : goal.loop-slot-preserved
loop-slot-preserved g c = says_next (way_in_text (g.C.Code.program c.args.program.now) c.args.part) c.loop-slot.slot c.loop-slot.invariant c.put_way_in.ensures
