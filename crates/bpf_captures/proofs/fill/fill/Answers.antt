use Rattle.std.proofs.Common.{◌≤◌, length, arith}
use Rattle.bpf_captures.proofs.FillLemmas.{more_put}
use Rattle.bpf_captures.proofs.fill.fill.Goals as goal

pub reads-preserved : goal.reads-preserved
reads-preserved g c =
    let inv = c.reads.invariant in
    let few : c.in-Ok.more ≤ length c.read.new.buf = grind arith in
    (more_put _ _ _ c.reads.room c.read.new.buf _ c.reads.count c.in-Ok.more inv.1 few inv.0 c.in-Ok.ensures.bytes.0, grind arith)
