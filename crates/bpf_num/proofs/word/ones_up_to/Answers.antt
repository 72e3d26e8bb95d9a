use Rattle.std.proofs.Common.{refl}
use lib.Count.{count_leading_zeros}
use Rattle.bpf_num.specs.Laws.WordLaws.{ones_of_length}
use Rattle.bpf_num.proofs.word.ones_up_to.Goals as goal

pub returns-then-number-eq0 : goal.returns-then-number-eq0
unfolding count_leading_zeros
returns-then-number-eq0 c = rw c.if-number-eq0.true refl

pub returns-else-number-eq0 : goal.returns-else-number-eq0
returns-else-number-eq0 c = ones_of_length c.args.number
