use Rattle.bpf_c.specs.code.Says.{Says}
use Rattle.std.proofs.Common.{◌+◌}
use Rattle.bpf_c.specs.Unit.{each, line_text}
use Rattle.bpf_c.proofs.body.put_lines.Given as goal

abbrev pub invariant-loop-index : goal.invariant-loop-index
invariant-loop-index g l = Says (g.W.Write.contents l.fn.out) l.fn.page (each (λ index. line_text l.name (g.C.Code.program l.program) (l.first + index)) l.index) (g.W.Write.contents l.out) l.page
