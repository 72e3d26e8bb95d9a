use Rattle.std.proofs.Common.{rules}
use Rattle.bpf_num.proofs.num.Num.signed_above.Goals as goal

pub signed-requires : goal.signed-requires
signed-requires c = search rules

pub signed-requires-2 : goal.signed-requires-2
signed-requires-2 c = search rules

pub lo-requires : goal.lo-requires
lo-requires c = search rules

pub above-requires : goal.above-requires
above-requires c = search rules

pub branch-above-requires : goal.branch-above-requires
branch-above-requires c = search rules

pub from_residual-requires : goal.from_residual-requires
from_residual-requires c = search rules

pub returns-in_err-above : goal.returns-in_err-above
returns-in_err-above c = search rules

pub signed-requires-3 : goal.signed-requires-3
signed-requires-3 c = search rules

pub signed-requires-4 : goal.signed-requires-4
signed-requires-4 c = search rules

pub hi-requires : goal.hi-requires
hi-requires c = search rules

pub below-requires : goal.below-requires
below-requires c = search rules

pub branch-below-requires : goal.branch-below-requires
branch-below-requires c = search rules

pub from_residual-requires-in_err-below : goal.from_residual-requires-in_err-below
from_residual-requires-in_err-below c = search rules

pub returns-in_err-below : goal.returns-in_err-below
returns-in_err-below c = search rules

pub bits-requires : goal.bits-requires
bits-requires c = search rules

pub unsigned-requires : goal.unsigned-requires
unsigned-requires c = search rules

pub of-requires : goal.of-requires
of-requires c = search rules

pub bits-requires-2 : goal.bits-requires-2
bits-requires-2 c = search rules

pub unsigned-requires-2 : goal.unsigned-requires-2
unsigned-requires-2 c = search rules

pub of-requires-2 : goal.of-requires-2
of-requires-2 c = search rules

pub returns : goal.returns
returns c = search rules
