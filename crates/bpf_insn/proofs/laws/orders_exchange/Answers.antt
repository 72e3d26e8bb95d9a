use Rattle.bpf_insn.proofs.OrderLaw.{orders_exchange}
use Rattle.bpf_insn.proofs.laws.orders_exchange.Goals as goal

pub returns : goal.returns
returns c = orders_exchange
