use Rattle.std.proofs.Common.{◌+◌}
use Rattle.bpf_c.specs.Unit.{line_text}
use Rattle.bpf_c.proofs.SaysLemmas.{says_nothing, says_next}
use Rattle.bpf_c.proofs.body.put_lines.Goals as goal

pub loop-index-init : goal.loop-index-init
loop-index-init g c = says_nothing _ _

pub loop-index-preserved : goal.loop-index-preserved
loop-index-preserved g c = says_next (λ index. line_text c.args.name.now (g.C.Code.program c.args.program.now) (c.args.first + index)) c.loop-index.index c.loop-index.invariant c.put_line.ensures
