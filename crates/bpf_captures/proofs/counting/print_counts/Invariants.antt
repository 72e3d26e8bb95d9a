use Rattle.std.proofs.Common.{◌≡◌, ℕ, List, [], ◌++◌, flat_map}
use Rattle.bpf_insn.specs.Written.{Gathers}
use Rattle.bpf_captures.specs.Lines.{count_line}
use Rattle.bpf_captures.proofs.counting.print_counts.Given as goal

abbrev pub invariant-counts : goal.invariant-counts
invariant-counts g l =
    (done : List (ℕ × ℕ)) × (done ++ l.value-iterator ≡ l.fn.counts.entries)
    × Gathers (g.W.Write.contents l.fn.out) (g.W.Write.contents l.out) [] l.pending (flat_map count_line done)
