use Rattle.std.proofs.Common.{◌+◌, ◌*◌, ◌<◌, ◌^◌, arith}
use Rattle.bpf_text.proofs.NumberLemmas.{twenty_digits, one_more}
use Rattle.bpf_text.proofs.token.value.Goals as goal

pub overflow_mul-value : goal.overflow_mul-value
overflow_mul-value c =
    let small : c.loop-byte.value < 2 ^ 80 = twenty_digits c.loop-byte.value c.loop-byte.byte-index c.loop-byte.invariant.small (omega arith) in
    let fits : c.loop-byte.value * c.from.result + 0 < 2 ^ 128 = one_more c.loop-byte.value c.from.result 0 small (omega arith) (omega arith) in
    omega (arith, fits)

pub overflow_add-value : goal.overflow_add-value
overflow_add-value c =
    let small : c.loop-byte.value < 2 ^ 80 = twenty_digits c.loop-byte.value c.loop-byte.byte-index c.loop-byte.invariant.small (omega arith) in
    let fits : c.loop-byte.value * c.from.result + c.from-in-loop-byte.result < 2 ^ 128 = one_more c.loop-byte.value c.from.result c.from-in-loop-byte.result small (omega arith) (omega arith) in
    omega (arith, fits)

pub returns-clause-small : goal.returns-clause-small
returns-clause-small c = twenty_digits c.loop-byte.value c.loop-byte.byte-index c.loop-byte.invariant.small (omega arith)
