use Rattle.std.proofs.Common.{rules, ◌≡◌, length, arith}
use Rattle.bpf_classic.specs.Template.{entry}
use Rattle.bpf_classic.proofs.Tables.{entry_few}
use Rattle.bpf_classic.proofs.converter.written.Goals as goal

pub starts_of-requires : goal.starts_of-requires
starts_of-requires c =
    let few = entry_few c.args.layout c.args.list.items in
    let e : c.in-Ok-put_all.first ≡ length (entry c.args.layout c.args.list.items) = search rules in
    omega (arith, e, few)
