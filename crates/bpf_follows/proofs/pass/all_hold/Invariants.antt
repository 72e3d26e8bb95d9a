use Rattle.std.proofs.Common.{◌-◌, ◌<◌, ℕ}
use Rattle.std.specs.Prelude.{◌↔◌, IsTrue, IfSome}
use Rattle.bpf_insn.specs.Instruction.{slots}
use Rattle.bpf_check.specs.code.Arrivals.{walk_of, IsReaching}
use Rattle.bpf_check.specs.code.Sites.{IsSpot}
use Rattle.bpf_kept.specs.Matching.{HoldsAt}
use Rattle.bpf_kept.specs.States.{states_of}
use Rattle.bpf_follows.proofs.Course.{IsThere}
use Rattle.bpf_follows.proofs.EndLemmas.{EndsBefore}
use Rattle.bpf_follows.proofs.pass.all_hold.Given as goal

-- where the walk stands, that what is noted holds at all slots before, and whether an exit was reached there
abbrev pub invariant-insns : goal.invariant-insns
invariant-insns g l = record {
  there : IsThere (g.N.Code.program l.new) l.certificate l.here.slot (walk_of l.walk);
  valid : IfSome l.walk.here (λ h. IsReaching l.here.slot h);
  spot : IsSpot l.certificate l.here;
  holds : (slot : ℕ) → slot < l.here.slot → HoldsAt (g.O.Code.program l.old) (g.N.Code.program l.new) l.notes l.bounds (states_of (g.N.Code.program l.new) l.certificate slot) slot;
  ends : IsTrue l.ends ↔ EndsBefore (g.O.Code.program l.old) l.notes (states_of (g.N.Code.program l.new) l.certificate) l.here.slot;
}

abbrev pub decreases-insns : goal.decreases-insns
decreases-insns g l = slots (g.N.Code.program l.new).list - l.here.slot
