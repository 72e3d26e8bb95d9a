use Rattle.std.proofs.Common.{◌≡◌}
use Rattle.bpf_classic.specs.Meaning.{insns}
use Rattle.bpf_classic.proofs.marks.set_backs.Given as goal

-- the instructions stay as they are
abbrev pub invariant-loop-at : goal.invariant-loop-at
invariant-loop-at l = insns l.list.items ≡ insns l.initial.list.items
