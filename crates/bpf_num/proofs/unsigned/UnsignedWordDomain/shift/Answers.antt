use Rattle.std.proofs.Common.{rules}
use Rattle.bpf_num.proofs.unsigned.UnsignedWordDomain.shift.Goals as goal

pub returns-in-Rsh-Some : goal.returns-in-Rsh-Some
returns-in-Rsh-Some c = search rules
