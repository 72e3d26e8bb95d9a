use Rattle.std.proofs.Common.{rules}
use Rattle.bpf_semantics.proofs.numbers.atomic_result.Goals as goal

pub returns-then-old-expected : goal.returns-then-old-expected
returns-then-old-expected c = search rules

pub returns-else-old-expected : goal.returns-else-old-expected
returns-else-old-expected c = search rules
