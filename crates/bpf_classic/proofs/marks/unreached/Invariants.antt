use Rattle.std.proofs.Common.{◌≡◌, ◌++◌, drop}
use Rattle.bpf_classic.specs.Meaning.{insns}
use Rattle.bpf_classic.proofs.marks.unreached.Given as goal

-- the instructions so far and those that are left are all
abbrev pub invariant-loop-insn : goal.invariant-loop-insn
invariant-loop-insn l = insns l.list.items ++ drop l.insn-index l.filter ≡ l.filter
