use Rattle.bpf_text.proofs.PutLemmas.{puts_more}
use Rattle.bpf_text.proofs.lister.put_constant.Goals as goal

pub returns : goal.returns
returns c = puts_more _ _ _ _ _ c.register.ensures (puts_more _ _ _ _ _ c.put_text.ensures (puts_more _ _ _ _ _ c.hex.ensures c.put_text-2.ensures))
