use Rattle.std.proofs.Common.{◌≡◌, ◌+◌, ap, subst}
use Rattle.std.specs.Prelude.{IfSome}
use Rattle.bpf_insn.specs.Instruction.{slot_count}
use Rattle.bpf_check.specs.code.Arrivals.{walk_of, IsReaching}
use Rattle.bpf_check.specs.code.Counting.{worked_at}
use Rattle.bpf_check.specs.code.Least.{IsLeastRefusal}
use Rattle.bpf_check.specs.code.Sites.{IsSpot}
use Rattle.bpf_check.specs.code.Visits.{passed_after, visit_of, visit_flaws}
use Rattle.bpf_check.proofs.PassLemmas.{along}
use Rattle.bpf_check.proofs.pass.visit_spot.Goals as goal

pub returns-clause-refusal : goal.returns-clause-refusal
returns-clause-refusal g c = along (λ k n i. IsLeastRefusal (visit_flaws (g.P.Code.program c.args.program.now) k (visit_of k n i (walk_of c.args.walk.now))) c.visit-refusal.result) c.of-site.result.certificate.now c.args.certificate.now c.of-site.result.here.slot c.args.here.now.slot c.of-site.result.insn c.args.insn c.of-site.ensures.certificate (ap (λ h. h.slot) c.of-site.ensures.here) c.of-site.ensures.insn c.visit-refusal.ensures.refusal

pub returns-clause-passed : goal.returns-clause-passed
returns-clause-passed g c = along (λ k n i. walk_of c.visit-refusal.new.walk ≡ passed_after (g.P.Code.program c.args.program.now) k n i (walk_of c.args.walk.now)) c.of-site.result.certificate.now c.args.certificate.now c.of-site.result.here.slot c.args.here.now.slot c.of-site.result.insn c.args.insn c.of-site.ensures.certificate (ap (λ h. h.slot) c.of-site.ensures.here) c.of-site.ensures.insn c.visit-refusal.ensures.passed

pub returns-clause-work : goal.returns-clause-work
returns-clause-work g c = along (λ k n i. c.visit-refusal.new.work ≡ worked_at (g.P.Code.program c.args.program.now) k (visit_of k n i (walk_of c.args.walk.now)) c.args.work.now) c.of-site.result.certificate.now c.args.certificate.now c.of-site.result.here.slot c.args.here.now.slot c.of-site.result.insn c.args.insn c.of-site.ensures.certificate (ap (λ h. h.slot) c.of-site.ensures.here) c.of-site.ensures.insn c.visit-refusal.ensures.work

pub returns-clause-valid : goal.returns-clause-valid
returns-clause-valid g c = along (λ k n i. IfSome c.visit-refusal.new.walk.here (λ h. IsReaching (n + slot_count i) h)) c.of-site.result.certificate.now c.args.certificate.now c.of-site.result.here.slot c.args.here.now.slot c.of-site.result.insn c.args.insn c.of-site.ensures.certificate (ap (λ h. h.slot) c.of-site.ensures.here) c.of-site.ensures.insn c.visit-refusal.ensures.valid

pub returns-clause-slot : goal.returns-clause-slot
returns-clause-slot g c = along (λ k n i. c.of-site.result.next.slot ≡ n + slot_count i) c.of-site.result.certificate.now c.args.certificate.now c.of-site.result.here.slot c.args.here.now.slot c.of-site.result.insn c.args.insn c.of-site.ensures.certificate (ap (λ h. h.slot) c.of-site.ensures.here) c.of-site.ensures.insn c.of-site.ensures.value.next_slot

pub returns-clause-spot : goal.returns-clause-spot
returns-clause-spot g c = subst (λ k. IsSpot k c.of-site.result.next) c.of-site.ensures.certificate c.of-site.ensures.value.next
