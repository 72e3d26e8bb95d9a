use Rattle.std.proofs.Common.{◌≡◌}
use Rattle.bpf_insn.specs.Instruction.{groups_in}
use Rattle.bpf_insn.proofs.LayoutLemmas.{insns_below}
use Rattle.bpf_insn.proofs.groups.groups_of.Given as goal

abbrev pub invariant-loop-slot : goal.invariant-loop-slot
invariant-loop-slot g l = l.groups ≡ groups_in (insns_below l.slot (g.C.Code.program l.code).list)
