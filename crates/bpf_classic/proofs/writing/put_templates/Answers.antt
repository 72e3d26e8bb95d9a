use Rattle.std.proofs.Common.{rules, ◌<◌, length}
use Rattle.bpf_classic.proofs.Tables.{templates_more}
use Rattle.bpf_classic.proofs.writing.put_templates.Goals as goal

pub loop-at-preserved : goal.loop-at-preserved
loop-at-preserved c =
    let l = c.args.layout.now in
    let list = c.args.list.now in
    let at = c.loop-at.at in
    let low : at < length list = search rules in
    templates_more l list c.args.table.now c.loop-at.out.items c.emit.new.out.items _ at _ c.requires.table low c.in_ok-emit.ensures c.loop-at.invariant
