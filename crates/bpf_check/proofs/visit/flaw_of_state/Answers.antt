use Rattle.bpf_check.proofs.visit.flaw_of_state.Goals as goal

pub returns : goal.returns
returns c = c.lesser-2.ensures _ _ (c.lesser.ensures _ _ c.refused_if-state.ensures c.refused_if-budget.ensures) c.refused_if-end.ensures
