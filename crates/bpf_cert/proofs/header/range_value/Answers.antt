use Rattle.std.proofs.Common.{sym, ap, ◌∙◌}
use Rattle.std.specs.Prelude.{◌&&◌}
use Rattle.bpf_cert.proofs.HeaderValues.{range_ok}
use Rattle.bpf_cert.proofs.header.range_value.Goals as goal

pub returns-in-Ok-clause-value : goal.returns-in-Ok-clause-value
returns-in-Ok-clause-value c = range_ok c.args.least.now c.args.most.now c.args.steps.now c.number-low.result c.number-high.result c.number-count.result c.are_plain.result c.both-canonical.result c.both-lengths.result c.between.result c.both-limited.result
    c.in-Ok.field-0 c.requires.least c.requires.most c.requires.steps
    c.number-low.ensures c.number-high.ensures c.number-count.ensures c.are_plain.ensures (c.both-canonical.ensures ∙ ap (λ b. c.are_plain.result && b) c.is_plain.ensures) c.both-lengths.ensures c.between.ensures c.both-limited.ensures (sym c.in-Ok.ensures)
