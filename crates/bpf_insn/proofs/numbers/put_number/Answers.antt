use Rattle.std.proofs.Common.{rules}
use Rattle.bpf_insn.proofs.numbers.put_number.Goals as goal

pub write_u64-requires : goal.write_u64-requires
write_u64-requires c = search rules

pub returns-in-Little-W : goal.returns-in-Little-W
returns-in-Little-W c = search rules
