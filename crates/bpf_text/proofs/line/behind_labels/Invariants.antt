use Rattle.std.proofs.Common.{◌≡◌, length}
use Rattle.bpf_text.specs.code.LineReading.{last_part, parts_of}
use Rattle.bpf_text.proofs.line.behind_labels.Given as goal

abbrev pub invariant-labels : goal.invariant-labels
invariant-labels l = last_part (parts_of l.rest) ≡ last_part (parts_of l.line)

abbrev pub decreases-labels : goal.decreases-labels
decreases-labels l = length l.rest
