use Rattle.bpf_text.proofs.PutLemmas.{puts_more}
use Rattle.bpf_text.proofs.listed_line.ListedLine.hex.Goals as goal

pub returns : goal.returns
returns c = puts_more _ _ _ _ _ c.put_text.ensures c.digits.ensures
