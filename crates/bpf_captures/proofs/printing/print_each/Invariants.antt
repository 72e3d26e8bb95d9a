use Rattle.std.proofs.Common.{ℕ, List, [], flat_map}
use Rattle.bpf_insn.specs.Written.{Gathers}
use Rattle.bpf_captures.specs.Lines.{value_line}
use Rattle.bpf_captures.proofs.ReplayLemmas.{SoFar}
use Rattle.bpf_captures.proofs.printing.print_each.Given as goal

abbrev pub invariant-packets : goal.invariant-packets
invariant-packets g l =
    (values : List ℕ)
    × SoFar (g.Q.Answerer.gives l.fn.answerer) l.fn.blocks l.order (g.R.Read.remaining l.fn.reader) (g.R.Read.remaining l.reader) values l.before l.byte
    × Gathers (g.W.Write.contents l.fn.out) (g.W.Write.contents l.out) [] l.pending (flat_map value_line values)
