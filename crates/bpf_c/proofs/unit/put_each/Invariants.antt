use Rattle.bpf_c.specs.code.Says.{Says}
use Rattle.std.proofs.Common.{take, flat_map}
use Rattle.bpf_c.proofs.unit.put_each.Given as goal

abbrev pub invariant-loop-line : goal.invariant-loop-line
invariant-loop-line g l = Says (g.W.Write.contents l.fn.out) l.fn.page (flat_map (λ line. line.now) (take l.line-index l.lines)) (g.W.Write.contents l.out) l.page
