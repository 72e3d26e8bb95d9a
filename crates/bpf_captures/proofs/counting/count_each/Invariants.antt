use Rattle.std.proofs.Common.{ℕ, List}
use Rattle.bpf_captures.specs.Lines.{AreCounts}
use Rattle.bpf_captures.proofs.ReplayLemmas.{SoFar}
use Rattle.bpf_captures.proofs.counting.count_each.Given as goal

abbrev pub invariant-packets : goal.invariant-packets
invariant-packets g l =
    (values : List ℕ)
    × SoFar (g.Q.Answerer.gives l.fn.answerer) l.fn.blocks l.order (g.R.Read.remaining l.fn.reader) (g.R.Read.remaining l.reader) values l.before l.byte
    × AreCounts values l.counts.entries
