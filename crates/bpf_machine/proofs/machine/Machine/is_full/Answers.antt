use Rattle.std.proofs.Common.{◌∙◌, length}
use Rattle.bpf_machine.proofs.FrameLemmas.{live_is, full_is}
use Rattle.bpf_machine.proofs.machine.Machine.is_full.Goals as goal

pub returns : goal.returns
returns g c = c.is_full.ensures.value ∙ full_is (length c.self.inside.callers.items) _ c.self.invariant.few (live_is _ _ _ _ _ _ _ c.self.view_is c.self.invariant)
