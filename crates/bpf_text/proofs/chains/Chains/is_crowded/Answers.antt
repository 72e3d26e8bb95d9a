use Rattle.std.proofs.Common.{◌≤◌, ◌-◌, length, arith}
use Rattle.bpf_text.proofs.ChainLemmas.{entry_below}
use Rattle.bpf_text.proofs.chains.Chains.is_crowded.Goals as goal

pub loop-preserved : goal.loop-preserved
loop-preserved c =
    let s = c.args.self.now in
    let below : c.index.result.now.link ≤ c.loop.at - 1 = entry_below (length s.heads.items) s.entries.items s.heads.items s.chained (c.loop.at - 1) c.index.result.now (omega (arith, c.if-at-eq0.false, c.loop.invariant)) c.index.ensures in
    omega (arith, below, c.loop.invariant)
