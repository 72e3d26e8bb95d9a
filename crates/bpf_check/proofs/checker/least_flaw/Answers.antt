use Rattle.bpf_check.proofs.checker.least_flaw.Goals as goal

pub returns-clause-flaw : goal.returns-clause-flaw
returns-clause-flaw g c = c.lesser-2.ensures _ _ (c.lesser.ensures _ _ c.start_flaw-start.ensures.refusal c.visit_flaw-visits.ensures.refusal) c.label_flaw-labels.ensures
