use Rattle.std.proofs.Common.{sym}
use Rattle.bpf_cert.proofs.HeaderValues.{one_ok}
use Rattle.bpf_cert.proofs.header.one_value.Goals as goal

pub returns-in-Ok-clause-value : goal.returns-in-Ok-clause-value
returns-in-Ok-clause-value c = one_ok c.args.len.now c.args.steps.now c.number-bytes.result c.number-most.result c.are_plain.result c.between.result c.both-limited.result c.in-Ok.field-0 c.requires.len c.requires.steps
    c.number-bytes.ensures c.number-most.ensures c.are_plain.ensures c.between.ensures c.both-limited.ensures (sym c.in-Ok.ensures)
