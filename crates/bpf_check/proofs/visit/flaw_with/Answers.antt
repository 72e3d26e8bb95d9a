use Rattle.bpf_check.proofs.LeastLemmas.{least_beside}
use Rattle.bpf_check.proofs.visit.flaw_with.Goals as goal

pub returns-then-not-is_flawed : goal.returns-then-not-is_flawed
returns-then-not-is_flawed c xs h = least_beside c.args.slot 1 10 11 12 c.args.shape.lacks_label c.args.shape.no_deeper c.args.shape.never c.args.shape.leaves xs _ c.if-not-is_flawed.true h

pub returns : goal.returns
returns c xs h = c.lesser-4.ensures _ _ (c.lesser-3.ensures _ _ (c.lesser-2.ensures _ _ (c.lesser.ensures _ _ c.refused_if-label.ensures h) c.refused_if-depth.ensures) c.refused_if-never.ensures) c.refused_if-elsewhere.ensures
