use Rattle.std.proofs.Common.{◌-◌}
use Rattle.std.specs.Prelude.{IfSome}
use Rattle.bpf_insn.specs.Instruction.{slots}
use Rattle.bpf_check.specs.code.Arrivals.{walk_of, IsReaching}
use Rattle.bpf_check.specs.code.Sites.{IsSpot}
use Rattle.bpf_check.proofs.PassLemmas.{IsAt}
use Rattle.bpf_check.proofs.pass.visit_flaw.Given as goal

abbrev pub invariant-visits : goal.invariant-visits
invariant-visits g l = record {
  here : IsAt (g.P.Code.program l.program) l.certificate l.fn.work l.here.slot (walk_of l.walk) l.work;
  valid : IfSome l.walk.here (λ h. IsReaching l.here.slot h);
  spot : IsSpot l.certificate l.here;
}

abbrev pub decreases-visits : goal.decreases-visits
decreases-visits g l = slots (g.P.Code.program l.program).list - l.here.slot
