use Rattle.std.proofs.Common.{rules, ◌≡◌, ◌-◌, length, subst}
use Rattle.bpf_classic.proofs.Tables.{TableFrom, table_whole}
use Rattle.bpf_classic.proofs.writing.slots_from.Goals as goal

pub returns : goal.returns
returns c =
    let l = c.args.layout.now in
    let list = c.args.list.now in
    let table = c.back.table.items in
    let done : length list - c.back.back ≡ 0 = search rules in
    table_whole l list table c.back.slots c.requires.few (subst (λ from. TableFrom l list from table c.back.slots) done c.back.invariant)
