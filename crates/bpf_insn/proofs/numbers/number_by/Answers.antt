use Rattle.std.proofs.Common.{rules}
use Rattle.bpf_insn.proofs.numbers.number_by.Goals as goal

pub returns-in-W-clause-number : goal.returns-in-W-clause-number
returns-in-W-clause-number g c = search rules
