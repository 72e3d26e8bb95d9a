use Rattle.std.proofs.Common.{subst}
use Rattle.bpf_text.specs.code.Puts.{Puts}
use Rattle.bpf_text.proofs.PutLemmas.{puts_more}
use Rattle.bpf_text.proofs.listed_line.ListedLine.decimal_behind.Goals as goal

pub returns : goal.returns
returns c = puts_more _ _ _ _ _ c.put_text.ensures (subst (λ t. Puts c.put_text.new.self t c.put_text-2.new.self) c.format.ensures.text c.put_text-2.ensures)
