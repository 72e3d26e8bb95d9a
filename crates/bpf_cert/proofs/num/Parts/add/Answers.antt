use Rattle.bpf_cert.specs.code.Seen.{part_seen}
use Rattle.bpf_cert.proofs.PartLemmas.{sum_more}
use Rattle.bpf_cert.proofs.num.Parts.add.Goals as goal

pub returns : goal.returns
returns c = λ done sum. sum_more done (part_seen c.args.part) c.args.self.now c.keep-kept.new.self c.tested-in_order.result c.keep-kept.result c.joined.result c.joined-self.result c.rank-rank.result sum c.rank-rank.ensures.rank c.tested-in_order.ensures
    c.keep-kept.ensures.found c.keep-kept.ensures.rest c.keep-kept.ensures.kept c.joined.ensures c.joined-self.ensures
