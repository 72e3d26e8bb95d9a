use Rattle.std.proofs.Common.{sym}
use Rattle.bpf_cert.proofs.CutLemmas.{cut_at, cut_none}
use Rattle.bpf_cert.proofs.fields.cut.Goals as goal

pub returns-then-byte-mark-clause-parts : goal.returns-then-byte-mark-clause-parts
returns-then-byte-mark-clause-parts c = sym (cut_at c.args.mark c.args.text.now c.loop-at.at c.loop-at-test.true c.loop-at.invariant c.if-byte-mark.true)

pub returns-clause-parts : goal.returns-clause-parts
returns-clause-parts c = sym (cut_none c.args.mark c.args.text.now c.loop-at.at c.loop-at-test.false c.loop-at.invariant)
