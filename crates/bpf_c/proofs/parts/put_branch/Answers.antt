use Rattle.std.proofs.Common.{rules}
use Rattle.bpf_c.specs.Parts.{way_text}
use Rattle.bpf_c.specs.code.Says.{Says}
use Rattle.bpf_c.proofs.SaysLemmas.{says_more, says_of}
use Rattle.bpf_c.proofs.parts.put_branch.Goals as goal

pub returns : goal.returns
returns g c =
    let way : Says (g.W.Write.contents c.put-4.new.out) c.put-4.new.self (way_text c.args.slot c.args.off) (g.W.Write.contents c.put_way.new.out) c.put_way.new.page = search rules in
    says_more (says_of c.cond_word.ensures c.put.ensures) (says_more (says_of c.width_word.ensures c.put-2.ensures) (says_more c.put_register.ensures (says_more c.put-3.ensures (says_more c.put_operand.ensures (says_more c.put-4.ensures way)))))
