use Rattle.std.proofs.Common.{refl}
use Rattle.bpf_check.proofs.LeastLemmas.{least_three}
use Rattle.bpf_check.proofs.shape.flaw_of_label.Goals as goal

pub returns : goal.returns
returns c =
    least_three c.args.seen.now.label.now.slot 2 9 13 _ _ _ _ _ _ _ refl c.is_some.ensures refl
    (c.lesser-2.ensures _ _ (c.lesser.ensures _ _ c.refused_if-misplaced.ensures c.refused_if-bad.ensures) c.refused_if-misshapen.ensures)
