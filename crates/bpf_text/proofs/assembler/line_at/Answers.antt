use Rattle.std.proofs.Common.{arith}
use Rattle.std.proofs.lemmas.Grind.{common_steps}
use Rattle.bpf_text.proofs.assembler.line_at.Goals as goal

pub returns-then-statement-slot : goal.returns-then-statement-slot
returns-then-statement-slot c = grind (arith, common_steps)

pub loop-statement-preserved : goal.loop-statement-preserved
loop-statement-preserved c = grind (arith, common_steps)
