use Rattle.std.proofs.Common.{rules, ◌≡◌, ◌<◌, ◌++◌}
use Rattle.bpf_classic.specs.Template.{zero_cell}
use Rattle.bpf_classic.proofs.Tables.{cells_more}
use Rattle.bpf_classic.proofs.writing.put_cells.Goals as goal

pub loop-cell-preserved : goal.loop-cell-preserved
loop-cell-preserved c =
    let list = c.args.list.now in
    let before = c.loop-cell.out.items in
    let after = c.put_cell.new.out.items in
    let low : c.loop-cell.cell < 16 = search rules in
    let here : after ≡ before ++ zero_cell list c.loop-cell.cell = search rules in
    cells_more list before after _ c.loop-cell.cell low here c.loop-cell.invariant
