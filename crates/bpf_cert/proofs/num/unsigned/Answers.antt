use Rattle.std.proofs.Common.{sym, ◌∙◌}
use Rattle.bpf_cert.proofs.NumLemmas.{unsigned_ok}
use Rattle.bpf_cert.proofs.num.unsigned.Goals as goal

pub returns : goal.returns
returns c = rw c.new.ensures (unsigned_ok c.args.low.now c.args.high.now c.number-lo.result c.number-hi.result c.are_plain.result c.is_whole.result c.is_range.result c.says_some.result c.in_ok-tested.field-0 c.requires.low c.requires.high
    c.number-lo.ensures c.number-hi.ensures c.are_plain.ensures c.is_whole.ensures c.says_some.ensures c.is_range.ensures (sym c.tested.ensures ∙ c.in_ok-tested.was))
