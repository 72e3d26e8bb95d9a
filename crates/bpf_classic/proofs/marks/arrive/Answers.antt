use Rattle.std.proofs.Common.{rules, ◌≡◌, get_or}
use Rattle.bpf_classic.proofs.Tables.{insns_kept}
use Rattle.bpf_classic.proofs.marks.arrive.Goals as goal

pub returns : goal.returns
returns c =
    let list = c.args.list.now.items in
    let old = c.index.result.now in
    let is : old ≡ get_or list c.args.at old = search rules in
    insns_kept list c.args.at c.joined-new.result old is c.joined-new.ensures
