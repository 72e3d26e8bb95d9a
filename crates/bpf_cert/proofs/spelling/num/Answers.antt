use Rattle.std.proofs.Common.{rules}
use Rattle.std.proofs.Common.{arith}
use Rattle.std.proofs.lemmas.Grind.{common_steps}
use Rattle.bpf_cert.proofs.spelling.num.Goals as goal

pub returns-then-has_unsigned-clause-text : goal.returns-then-has_unsigned-clause-text
returns-then-has_unsigned-clause-text c = grind (arith, common_steps)

pub returns-then-has_unsigned-clause-grows : goal.returns-then-has_unsigned-clause-grows
returns-then-has_unsigned-clause-grows c = search rules

pub returns-then-has_signed-clause-text : goal.returns-then-has_signed-clause-text
returns-then-has_signed-clause-text c = grind (arith, common_steps)

pub returns-then-has_signed-clause-grows : goal.returns-then-has_signed-clause-grows
returns-then-has_signed-clause-grows c = search rules

pub returns-then-has_bits-clause-text : goal.returns-then-has_bits-clause-text
returns-then-has_bits-clause-text c = search rules

pub returns-then-has_bits-clause-grows : goal.returns-then-has_bits-clause-grows
returns-then-has_bits-clause-grows c = search rules

pub returns-else-has_bits-clause-text : goal.returns-else-has_bits-clause-text
returns-else-has_bits-clause-text c = search rules

pub returns-else-has_bits-clause-grows : goal.returns-else-has_bits-clause-grows
returns-else-has_bits-clause-grows c = search rules
