use Rattle.bpf_text.proofs.PutLemmas.{puts_front}
use Rattle.bpf_text.proofs.listed_line.ListedLine.put.Goals as goal

pub returns : goal.returns
returns c = puts_front _ _ _ _ c.remaining_capacity.result _ c.self.view_is c.remaining_capacity.ensures c.min-count.ensures c.in-Ok.ensures.ok
