use Rattle.std.proofs.Common.{rules}
use Rattle.bpf_c.specs.Parts.{way_text}
use Rattle.bpf_c.specs.code.Says.{Says}
use Rattle.bpf_c.proofs.SaysLemmas.{says_more}
use Rattle.bpf_c.proofs.parts.put_jump.Goals as goal

pub returns : goal.returns
returns g c =
    let way : Says (g.W.Write.contents c.put.new.out) c.put.new.self (way_text c.args.slot c.args.off) (g.W.Write.contents c.put_way.new.out) c.put_way.new.page = search rules in
    says_more c.put.ensures way
