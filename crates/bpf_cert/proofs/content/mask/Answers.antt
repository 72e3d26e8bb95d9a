use Rattle.std.proofs.Common.{sym}
use Rattle.bpf_cert.proofs.ContentLemmas.{mask_ok}
use Rattle.bpf_cert.proofs.content.mask.Goals as goal

pub returns-in-Ok-clause-value : goal.returns-in-Ok-clause-value
returns-in-Ok-clause-value c = mask_ok c.args.digits.now c.number-mask.result c.is_plain.result c.says_some.result c.in-Ok.field-0 c.requires c.number-mask.ensures c.is_plain.ensures c.says_some.ensures (sym c.in-Ok.ensures)
