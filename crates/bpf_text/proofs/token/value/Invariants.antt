use Rattle.std.proofs.Common.{◌≡◌, ◌<◌, ◌^◌, drop}
use Rattle.bpf_text.specs.Numerals.{value_after}
use Rattle.bpf_text.proofs.token.value.Given as goal

abbrev pub invariant-loop-byte : goal.invariant-loop-byte
invariant-loop-byte l = record {
  same : value_after l.base l.value (drop l.byte-index l.digits) ≡ value_after l.base 0 l.digits;
  small : l.value < 16 ^ l.byte-index;
}
