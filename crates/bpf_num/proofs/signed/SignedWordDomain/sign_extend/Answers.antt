use Rattle.std.proofs.Common.{rules}
use Rattle.bpf_num.proofs.signed.SignedWordDomain.sign_extend.Goals as goal

pub from-requires : goal.from-requires
from-requires c = search rules

pub from-requires-in-B8 : goal.from-requires-in-B8
from-requires-in-B8 c = search rules

pub from-requires-in-B16 : goal.from-requires-in-B16
from-requires-in-B16 c = search rules

pub from-requires-in-B16-2 : goal.from-requires-in-B16-2
from-requires-in-B16-2 c = search rules

pub from-requires-in-B32 : goal.from-requires-in-B32
from-requires-in-B32 c = search rules

pub from-requires-in-B32-2 : goal.from-requires-in-B32-2
from-requires-in-B32-2 c = search rules

pub invariant_of-t-13 : goal.invariant_of-t-13
invariant_of-t-13 c = search rules

pub invariant_of-result : goal.invariant_of-result
invariant_of-result c = search rules

pub returns-then-self-hi : goal.returns-then-self-hi
returns-then-self-hi c = search rules

pub returns-else-lo-self : goal.returns-else-lo-self
returns-else-lo-self c = search rules
