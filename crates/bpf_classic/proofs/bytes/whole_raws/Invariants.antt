use Rattle.std.proofs.Common.{◌≡◌, map}
use Rattle.std.specs.List.{range_with_len}
use Rattle.bpf_classic.specs.Bytes.{raw_at}
use Rattle.bpf_classic.proofs.bytes.whole_raws.Given as goal

abbrev pub invariant-raws : goal.invariant-raws
invariant-raws l = l.raws.items ≡ map (raw_at l.order l.bytes) (range_with_len 0 l.at)
