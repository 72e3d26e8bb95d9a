use Rattle.std.proofs.Common.{◌≡◌, ◌+◌, refl, sym, ◌∙◌}
use Rattle.std.specs.Prelude.{IfSome}
use Rattle.bpf_insn.specs.Instruction.{slot_count}
use Rattle.bpf_check.specs.code.Arrivals.{walk_of, IsReaching}
use Rattle.bpf_check.specs.code.Counting.{worked_at}
use Rattle.bpf_check.specs.code.Least.{IsLeastRefusal}
use Rattle.bpf_check.specs.code.Visits.{passed_after, visit_of, visit_flaws}
use Rattle.bpf_check.proofs.PassLemmas.{along}
use Rattle.bpf_check.proofs.StraightLemmas.{reached_so, step_spot}
use Rattle.bpf_check.proofs.pass.pass_over.Goals as goal

pub returns-in-Some-clause-refusal : goal.returns-in-Some-clause-refusal
returns-in-Some-clause-refusal g c = along (λ k n i. IsLeastRefusal (visit_flaws (g.P.Code.program c.args.program.now) k (visit_of k n i (walk_of c.args.walk.now))) c.visit_straight-refusal.result) c.in-Some.step.certificate.now c.args.certificate.now c.in-Some.step.slot c.args.here.now.slot c.in-Some.step.insn c.args.insn c.in-Some.ensures.from.certificate c.in-Some.ensures.from.slot_is c.in-Some.ensures.from.insn c.visit_straight-refusal.ensures.refusal

pub returns-in-Some-clause-passed : goal.returns-in-Some-clause-passed
returns-in-Some-clause-passed g c = along (λ k n i. walk_of c.visit_straight-refusal.new.walk ≡ passed_after (g.P.Code.program c.args.program.now) k n i (walk_of c.args.walk.now)) c.in-Some.step.certificate.now c.args.certificate.now c.in-Some.step.slot c.args.here.now.slot c.in-Some.step.insn c.args.insn c.in-Some.ensures.from.certificate c.in-Some.ensures.from.slot_is c.in-Some.ensures.from.insn c.visit_straight-refusal.ensures.passed

pub returns-in-Some-clause-work : goal.returns-in-Some-clause-work
returns-in-Some-clause-work g c = along (λ k n i. c.visit_straight-refusal.new.work ≡ worked_at (g.P.Code.program c.args.program.now) k (visit_of k n i (walk_of c.args.walk.now)) c.args.work.now) c.in-Some.step.certificate.now c.args.certificate.now c.in-Some.step.slot c.args.here.now.slot c.in-Some.step.insn c.args.insn c.in-Some.ensures.from.certificate c.in-Some.ensures.from.slot_is c.in-Some.ensures.from.insn c.visit_straight-refusal.ensures.work

pub returns-in-Some-clause-valid : goal.returns-in-Some-clause-valid
returns-in-Some-clause-valid g c = along (λ k n i. IfSome c.visit_straight-refusal.new.walk.here (λ h. IsReaching (n + slot_count i) h)) c.in-Some.step.certificate.now c.args.certificate.now c.in-Some.step.slot c.args.here.now.slot c.in-Some.step.insn c.args.insn c.in-Some.ensures.from.certificate c.in-Some.ensures.from.slot_is c.in-Some.ensures.from.insn c.visit_straight-refusal.ensures.valid

pub returns-in-Some-clause-slot : goal.returns-in-Some-clause-slot
returns-in-Some-clause-slot g c = c.in-Some.ensures.step.next_slot ∙ along (λ k n i. c.in-Some.step.slot + slot_count c.in-Some.step.insn ≡ n + slot_count i) c.in-Some.step.certificate.now c.args.certificate.now c.in-Some.step.slot c.args.here.now.slot c.in-Some.step.insn c.args.insn c.in-Some.ensures.from.certificate c.in-Some.ensures.from.slot_is c.in-Some.ensures.from.insn refl

pub returns-in-Some-clause-spot : goal.returns-in-Some-clause-spot
returns-in-Some-clause-spot g c = step_spot c.args.certificate.now c.args.here.now c.in-Some.step _ c.args.insn _ c.requires.here c.in-Some.ensures.step c.in-Some.ensures.from

pub visit_straight-refusal-requires-clause-reached : goal.visit_straight-refusal-requires-clause-reached
visit_straight-refusal-requires-clause-reached g c = c.in-Some.ensures.from.here

pub visit_straight-refusal-requires-clause-valid : goal.visit_straight-refusal-requires-clause-valid
visit_straight-refusal-requires-clause-valid g c = reached_so c.args.walk.now.here c.in-Some.step.reached c.args.here.now.slot c.in-Some.step.slot c.in-Some.ensures.from.here (sym c.in-Some.ensures.from.slot_is) c.requires.valid
