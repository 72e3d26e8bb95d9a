use Rattle.bpf_c.specs.code.Says.{Says}
use Rattle.bpf_c.specs.Unit.{each, way_in_text}
use Rattle.bpf_c.proofs.body.put_entrances.Given as goal

abbrev pub invariant-loop-slot : goal.invariant-loop-slot
invariant-loop-slot g l = Says (g.W.Write.contents l.fn.out) l.fn.page (each (way_in_text (g.C.Code.program l.program) l.part) l.slot) (g.W.Write.contents l.out) l.page
