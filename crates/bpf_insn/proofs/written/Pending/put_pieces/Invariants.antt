use Rattle.std.proofs.Common.{◌≡◌, ◌++◌, ◌+◌, List, ℕ, length}
use Rattle.bpf_insn.specs.Written.{Gathers}
use Rattle.bpf_insn.proofs.written.Pending.put_pieces.Given as goal

abbrev pub invariant-pieces : goal.invariant-pieces
invariant-pieces g l = record {
  taken : List ℕ;
  whole : l.bytes ≡ taken ++ l.rest;
  gathers : Gathers (g.W.Write.contents l.fn.out) (g.W.Write.contents l.out) l.fn.self l.self taken;
}

abbrev pub decreases-pieces : goal.decreases-pieces
decreases-pieces g l = length l.rest + length l.self
