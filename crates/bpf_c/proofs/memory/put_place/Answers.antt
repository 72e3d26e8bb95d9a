use Rattle.std.proofs.Common.{rules}
use Rattle.bpf_c.specs.Statements.{constant_text}
use Rattle.bpf_c.specs.code.Says.{Says}
use Rattle.bpf_c.proofs.SaysLemmas.{says_more}
use Rattle.bpf_c.proofs.memory.put_place.Goals as goal

pub returns : goal.returns
returns g c =
    let constant : Says (g.W.Write.contents c.put.new.out) c.put.new.self (constant_text c.args.cell.off) (g.W.Write.contents c.put_constant.new.out) c.put_constant.new.page = search rules in
    says_more c.put_register.ensures (says_more c.put.ensures constant)
