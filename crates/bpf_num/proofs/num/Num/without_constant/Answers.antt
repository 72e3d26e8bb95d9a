use Rattle.std.proofs.Common.{rules}
use Rattle.bpf_num.proofs.num.Num.without_constant.Goals as goal

pub is_constant-requires : goal.is_constant-requires
is_constant-requires c = search rules

pub returns-then-not-is_constant : goal.returns-then-not-is_constant
returns-then-not-is_constant c = search rules

pub bits-requires : goal.bits-requires
bits-requires c = search rules

pub value-number-requires : goal.value-number-requires
value-number-requires c = search rules

pub bits-requires-2 : goal.bits-requires-2
bits-requires-2 c = search rules

pub unsigned-requires : goal.unsigned-requires
unsigned-requires c = search rules

pub without-requires : goal.without-requires
without-requires c = search rules

pub branch-without-requires : goal.branch-without-requires
branch-without-requires c = search rules

pub from_residual-requires : goal.from_residual-requires
from_residual-requires c = search rules

pub returns-in_err-without : goal.returns-in_err-without
returns-in_err-without c = search rules

pub signed-requires : goal.signed-requires
signed-requires c = search rules

pub cast_signed-requires : goal.cast_signed-requires
cast_signed-requires c = search rules

pub without-requires-2 : goal.without-requires-2
without-requires-2 c = search rules

pub branch-without-requires-2 : goal.branch-without-requires-2
branch-without-requires-2 c = search rules

pub from_residual-requires-in_err-without-2 : goal.from_residual-requires-in_err-without-2
from_residual-requires-in_err-without-2 c = search rules

pub returns-in_err-without-2 : goal.returns-in_err-without-2
returns-in_err-without-2 c = search rules

pub of-requires : goal.of-requires
of-requires c = search rules

pub returns : goal.returns
returns c = search rules
