use Rattle.bpf_text.proofs.PutLemmas.{puts_more}
use Rattle.bpf_text.proofs.lister.put_swap.Goals as goal

pub returns : goal.returns
returns c = puts_more _ _ _ _ _ c.register.ensures (puts_more _ _ _ _ _ c.put_text.ensures (puts_more _ _ _ _ _ c.spelled.ensures (puts_more _ _ _ _ _ c.put_text-2.ensures (puts_more _ _ _ _ _ c.register-2.ensures c.put_text-3.ensures))))
