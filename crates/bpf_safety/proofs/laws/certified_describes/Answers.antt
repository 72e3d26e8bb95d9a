use Rattle.bpf_safety.proofs.SafetyLaw.{describing}
use Rattle.bpf_safety.proofs.laws.certified_describes.Goals as goal

pub returns : goal.returns
returns c =
    describing
    (record {
      stuck_has_reason = c.stuck_has_reason.ensures;
      finish_is_last = c.finish_is_last.ensures;
      step_keeps_states = c.step_keeps_states.ensures;
      start_is_state = c.start_is_state.ensures;
      not_stuck_inside = c.not_stuck_inside.ensures;
      step_keeps = c.step_keeps.ensures;
      branch_keeps = c.branch_keeps.ensures;
      waiting_frames_stay = c.waiting_frames_stay.ensures;
      start_describes = c.start_describes.ensures;
      start_is_abstract = c.start_is_abstract.ensures;
      tightened_describes = c.tightened_describes.ensures;
      entails_describes = c.entails_describes.ensures;
      enter_keeps = c.enter_keeps.ensures;
      leave_keeps = c.leave_keeps.ensures;
      entails_includes = c.entails_includes.ensures;
    })
