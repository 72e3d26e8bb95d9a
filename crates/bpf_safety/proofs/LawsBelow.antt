-- What the safety theorem rests on.
use Rattle.bpf_semantics.specs.MachineLaws as insn
use Rattle.bpf_num.specs.Laws.{EntailsIncludes}
use Rattle.bpf_safety.specs.Laws as abstract

pub record Laws : Type 0 where
  pub stuck_has_reason : insn.StuckHasReason
  pub finish_is_last : insn.FinishIsLast
  pub step_keeps_states : insn.StepKeepsStates
  pub start_is_state : insn.StartIsState
  pub not_stuck_inside : abstract.NotStuckInside
  pub step_keeps : abstract.StepKeeps
  pub branch_keeps : abstract.BranchKeeps
  pub waiting_frames_stay : abstract.WaitingFramesStay
  pub start_describes : abstract.StartDescribes
  pub start_is_abstract : abstract.StartIsAbstract
  pub tightened_describes : abstract.TightenedDescribes
  pub entails_describes : abstract.EntailsDescribes
  pub enter_keeps : abstract.EnterKeeps
  pub leave_keeps : abstract.LeaveKeeps
  pub entails_includes : EntailsIncludes
