use Rattle.bpf_safety.proofs.FlatRuns.{program_is_flat_safe}
use Rattle.bpf_safety.proofs.laws.program_is_flat_safe.Goals as goal

pub returns : goal.returns
returns c =
    program_is_flat_safe
    (record {
      follows = c.flat_follows.ensures;
      finishes = c.flat_finishes.ensures;
      keeps_context = c.step_keeps_context.ensures;
      keep_states = c.runs_keep_states.ensures;
    })
