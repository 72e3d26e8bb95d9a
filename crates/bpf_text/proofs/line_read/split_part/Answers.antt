use Rattle.std.proofs.Common.{length, arith}
use Rattle.bpf_text.proofs.PartedLemmas.{parted, ends_at, ends_nowhere}
use Rattle.bpf_text.proofs.line_read.split_part.Goals as goal

pub returns-in-Some : goal.returns-in-Some
returns-in-Some c =
    let found = c.in-Some.ensures in
    rw (c.split_at.ensures.front, c.split_at.ensures.back)
    (parted c.args.text.now c.in-Some.count found.0.before (let high = found.0.high in omega arith) (ends_at c.args.text.now c.in-Some.count found.0.high found.1))

pub returns-in-None : goal.returns-in-None
returns-in-None c =
    rw (c.split_at-in-None.ensures.front, c.split_at-in-None.ensures.back)
    (parted c.args.text.now (length c.args.text.now) c.in-None.ensures (omega arith) (ends_nowhere c.args.text.now))
