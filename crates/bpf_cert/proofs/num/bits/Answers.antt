use Rattle.std.proofs.Common.{sym, ◌∙◌}
use Rattle.bpf_cert.proofs.NumLemmas.{bits_ok}
use Rattle.bpf_cert.proofs.num.bits.Goals as goal

pub returns : goal.returns
returns c = rw c.new.ensures (bits_ok c.args.value.now c.args.mask.now c.number-known.result c.number-unknown.result c.are_plain.result c.is_whole-whole.result c.is_bits.result c.says_some.result c.in_ok-tested.field-0 c.requires.value c.requires.mask
    c.number-known.ensures c.number-unknown.ensures c.are_plain.ensures c.is_whole-whole.ensures c.says_some.ensures c.is_bits.ensures (sym c.tested.ensures ∙ c.in_ok-tested.was))
