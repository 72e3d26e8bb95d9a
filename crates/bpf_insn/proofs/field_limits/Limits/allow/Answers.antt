use Rattle.std.proofs.Common.{rules}
use Rattle.bpf_insn.proofs.field_limits.Limits.allow.Goals as goal

pub returns-then-offset-self : goal.returns-then-offset-self
returns-then-offset-self c = search rules
