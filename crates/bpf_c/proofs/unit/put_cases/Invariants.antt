use Rattle.bpf_c.specs.code.Says.{Says}
use Rattle.bpf_c.specs.Unit.{each, case_text}
use Rattle.bpf_c.proofs.unit.put_cases.Given as goal

abbrev pub invariant-loop-part : goal.invariant-loop-part
invariant-loop-part g l = Says (g.W.Write.contents l.fn.out) l.fn.page (each (case_text l.name) l.part) (g.W.Write.contents l.out) l.page
