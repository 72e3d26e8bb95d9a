use Rattle.std.proofs.Common.{◌≤◌, ◌-◌, length, sym, ◌∙◌, arith}
use Rattle.bpf_text.proofs.ChainLemmas.{entry_found, entry_passed, entry_below, entry_inside}
use Rattle.bpf_text.proofs.chains.Chains.find.Goals as goal

pub returns-then-eq : goal.returns-then-eq
returns-then-eq c = let s = c.args.self.now in entry_found (length s.heads.items) s.entries.items s.heads.items s.chained c.args.name.now c.chain.at c.index.result.now c.chain.invariant c.chain-test.true c.index.ensures (sym c.eq.ensures ∙ c.if-eq.true)

pub overflow_cast-at-in-chain : goal.overflow_cast-at-in-chain
overflow_cast-at-in-chain c =
    let s = c.args.self.now in
    let below : c.index.result.now.link ≤ c.chain.at - 1 = entry_below (length s.heads.items) s.entries.items s.heads.items s.chained (c.chain.at - 1) c.index.result.now (omega (arith, c.chain-test.true, entry_inside (length s.heads.items) s.entries.items c.args.name.now c.chain.at c.chain.invariant)) c.index.ensures in
    omega (arith, below, c.chain.auto.at-fits)

pub chain-smaller : goal.chain-smaller
chain-smaller c =
    let s = c.args.self.now in
    let below : c.index.result.now.link ≤ c.chain.at - 1 = entry_below (length s.heads.items) s.entries.items s.heads.items s.chained (c.chain.at - 1) c.index.result.now (omega (arith, c.chain-test.true, entry_inside (length s.heads.items) s.entries.items c.args.name.now c.chain.at c.chain.invariant)) c.index.ensures in
    omega (arith, below, c.chain-test.true)

pub chain-preserved : goal.chain-preserved
chain-preserved c = let s = c.args.self.now in entry_passed (length s.heads.items) s.entries.items s.heads.items s.chained c.args.name.now c.chain.at c.index.result.now c.chain.invariant c.chain-test.true c.index.ensures (sym c.eq.ensures ∙ c.if-eq.false)
