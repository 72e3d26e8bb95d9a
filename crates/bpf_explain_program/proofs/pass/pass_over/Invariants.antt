use Rattle.std.specs.Prelude.{IfSome}
use Rattle.bpf_check.specs.code.Arrivals.{IsReaching}
use Rattle.bpf_check.specs.code.Sites.{IsSpot}
use Rattle.bpf_explain_program.proofs.pass.pass_over.Given as goal

abbrev pub invariant-visits : goal.invariant-visits
invariant-visits g l = record {
  valid : IfSome l.walk.here (λ h. IsReaching l.here.slot h);
  spot : IsSpot l.certificate l.here;
}
