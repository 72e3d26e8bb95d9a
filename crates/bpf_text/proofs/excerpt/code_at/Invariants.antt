use Rattle.std.proofs.Common.{◌≡◌, ◌-◌, [], get_or}
use Rattle.bpf_text.specs.Sources.{lines_of}
use Rattle.bpf_text.proofs.excerpt.code_at.Given as goal

abbrev pub invariant-above : goal.invariant-above
invariant-above l = get_or (lines_of l.rest) l.left [] ≡ get_or (lines_of l.text) (l.line - 1) []

abbrev pub decreases-above : goal.decreases-above
decreases-above l = l.left
