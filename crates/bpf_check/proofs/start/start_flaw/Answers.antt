use Rattle.std.proofs.Common.{ap₂, ◌||◌, ◌∙◌}
use Rattle.bpf_check.proofs.LeastLemmas.{least_two}
use Rattle.bpf_check.proofs.start.start_flaw.Goals as goal

pub returns-clause-refusal : goal.returns-clause-refusal
returns-clause-refusal c =
    least_two 0 13 9 _ _ _ _ _ (ap₂ (λ a b. a || b) c.see_start-seen.ensures.elsewhere c.see_start-seen.ensures.outside) (c.is_some.ensures ∙ c.see_start-seen.ensures.over)
    (c.lesser.ensures _ _ c.refused_if-misshapen.ensures c.refused_if-over.ensures)
