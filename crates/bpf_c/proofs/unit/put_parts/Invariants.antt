use Rattle.bpf_c.specs.code.Says.{Says}
use Rattle.bpf_c.specs.Unit.{each, part_text}
use Rattle.bpf_c.proofs.unit.put_parts.Given as goal

abbrev pub invariant-loop-part : goal.invariant-loop-part
invariant-loop-part g l = Says (g.W.Write.contents l.fn.out) l.fn.page (each (part_text l.name (g.C.Code.program l.program)) l.part) (g.W.Write.contents l.out) l.page
