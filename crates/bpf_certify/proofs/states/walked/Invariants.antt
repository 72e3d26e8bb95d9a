use Rattle.std.proofs.Common.{◌-◌}
use Rattle.std.specs.Prelude.{IfSome}
use Rattle.bpf_insn.specs.Instruction.{slots}
use Rattle.bpf_check.specs.code.Arrivals.{IsReaching}
use Rattle.bpf_check.specs.code.Sites.{IsSpot}
use Rattle.bpf_certify.proofs.states.walked.Given as goal

-- where the walk stands
abbrev pub invariant-insns : goal.invariant-insns
invariant-insns l = record {
  valid : IfSome l.walk.here (λ h. IsReaching l.here.slot h);
  spot : IsSpot l.certificate l.here;
}

abbrev pub decreases-insns : goal.decreases-insns
decreases-insns l = slots l.new.list - l.here.slot
