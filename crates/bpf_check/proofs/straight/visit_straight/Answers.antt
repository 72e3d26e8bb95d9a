use Rattle.std.proofs.Common.{refl, ap, ap₂, ◌∙◌}
use Rattle.std.specs.Prelude.{option_map}
use Rattle.bpf_state.specs.Transfer.{transfer}
use Rattle.bpf_check.specs.code.Arrivals.{arrival_of, walk_of}
use Rattle.bpf_check.specs.RefusalNumbers.{flaw_of}
use Rattle.bpf_check.proofs.ArrivalLemmas.{faulty_least}
use Rattle.bpf_check.proofs.VisitLemmas.{transfer_fault, next_cost}
use Rattle.bpf_check.proofs.StraightLemmas.{straight_least, straight_sound, straight_passed, straight_stopped, ends_dead, ends_live, fault_counted, dead_counted, live_counted}
use Rattle.bpf_check.proofs.straight.visit_straight.Goals as goal

pub returns-in-Err-clause-refusal : goal.returns-in-Err-clause-refusal
returns-in-Err-clause-refusal g c = straight_least (g.P.Code.program c.args.program.now) c.args.step.now c.requires.step (walk_of c.args.walk.now) (arrival_of c.args.walk.now.state c.args.step.now.reached) (option_map flaw_of c.refused_if.result) (ap (option_map (arrival_of c.args.walk.now.state)) c.requires.reached) (faulty_least (g.P.Code.program c.args.program.now) c.args.step.now.certificate.now c.args.step.now.slot c.args.step.now.insn (arrival_of c.args.walk.now.state c.args.step.now.reached) _ _ (option_map flaw_of c.refused_if.result) (transfer_fault (g.P.Code.program c.args.program.now).order c.args.step.now.insn c.args.step.now.certificate.now.least c.args.walk.now.state c.transfer_counted.new.state c.in-Err.fault (c.in-Err.ensures.outcome ∙ ap₂ (λ n o. transfer o c.args.step.now.insn n c.args.walk.now.state) c.least.ensures c.order.ensures)) refl c.refused_if.ensures)

pub returns-in-Err-clause-passed : goal.returns-in-Err-clause-passed
returns-in-Err-clause-passed g c = straight_stopped (g.P.Code.program c.args.program.now) c.args.step.now c.requires.step (walk_of c.args.walk.now) (arrival_of c.args.walk.now.state c.args.step.now.reached) _ (ap (option_map (arrival_of c.args.walk.now.state)) c.requires.reached) (transfer_fault (g.P.Code.program c.args.program.now).order c.args.step.now.insn c.args.step.now.certificate.now.least c.args.walk.now.state c.transfer_counted.new.state c.in-Err.fault (c.in-Err.ensures.outcome ∙ ap₂ (λ n o. transfer o c.args.step.now.insn n c.args.walk.now.state) c.least.ensures c.order.ensures))

pub returns-in-Err-clause-work : goal.returns-in-Err-clause-work
returns-in-Err-clause-work g c = fault_counted (g.P.Code.program c.args.program.now) c.args.step.now c.requires.step (walk_of c.args.walk.now) (arrival_of c.args.walk.now.state c.args.step.now.reached) c.args.work.now _ _ (ap (option_map (arrival_of c.args.walk.now.state)) c.requires.reached) c.in-Err.ensures.counts (transfer_fault (g.P.Code.program c.args.program.now).order c.args.step.now.insn c.args.step.now.certificate.now.least c.args.walk.now.state c.transfer_counted.new.state c.in-Err.fault (c.in-Err.ensures.outcome ∙ ap₂ (λ n o. transfer o c.args.step.now.insn n c.args.walk.now.state) c.least.ensures c.order.ensures))

pub returns-then-not-alive-clause-refusal : goal.returns-then-not-alive-clause-refusal
returns-then-not-alive-clause-refusal g c = straight_sound (g.P.Code.program c.args.program.now) c.args.step.now c.requires.step (walk_of c.args.walk.now) (arrival_of c.args.walk.now.state c.args.step.now.reached) _ (ap (option_map (arrival_of c.args.walk.now.state)) c.requires.reached) (ends_dead (g.P.Code.program c.args.program.now) c.args.step.now c.requires.step c.args.walk.now.state c.transfer_counted.new.state c.transfer_counted.new.state c.args.step.now.reached c.in-Ok.alive c.if-not-alive.true (c.in-Ok.ensures.outcome ∙ ap₂ (λ n o. transfer o c.args.step.now.insn n c.args.walk.now.state) c.least.ensures c.order.ensures))

pub returns-then-not-alive-clause-passed : goal.returns-then-not-alive-clause-passed
returns-then-not-alive-clause-passed g c = straight_passed (g.P.Code.program c.args.program.now) c.args.step.now c.requires.step (walk_of c.args.walk.now) (arrival_of c.args.walk.now.state c.args.step.now.reached) _ (ap (option_map (arrival_of c.args.walk.now.state)) c.requires.reached) (ends_dead (g.P.Code.program c.args.program.now) c.args.step.now c.requires.step c.args.walk.now.state c.transfer_counted.new.state c.transfer_counted.new.state c.args.step.now.reached c.in-Ok.alive c.if-not-alive.true (c.in-Ok.ensures.outcome ∙ ap₂ (λ n o. transfer o c.args.step.now.insn n c.args.walk.now.state) c.least.ensures c.order.ensures))

pub returns-then-not-alive-clause-work : goal.returns-then-not-alive-clause-work
returns-then-not-alive-clause-work g c = dead_counted (g.P.Code.program c.args.program.now) c.args.step.now c.requires.step (walk_of c.args.walk.now) (arrival_of c.args.walk.now.state c.args.step.now.reached) c.transfer_counted.new.state c.in-Ok.alive c.args.work.now _ (ap (option_map (arrival_of c.args.walk.now.state)) c.requires.reached) c.in-Ok.ensures.counts c.if-not-alive.true (c.in-Ok.ensures.outcome ∙ ap₂ (λ n o. transfer o c.args.step.now.insn n c.args.walk.now.state) c.least.ensures c.order.ensures)

pub returns-clause-refusal : goal.returns-clause-refusal
returns-clause-refusal g c = straight_sound (g.P.Code.program c.args.program.now) c.args.step.now c.requires.step (walk_of c.args.walk.now) (arrival_of c.args.walk.now.state c.args.step.now.reached) _ (ap (option_map (arrival_of c.args.walk.now.state)) c.requires.reached) (ends_live (g.P.Code.program c.args.program.now) c.args.step.now c.requires.step c.args.walk.now.state c.transfer_counted.new.state c.args.step.now.reached c.in-Ok.alive c.one_more-cost.result c.if-not-alive.false (c.in-Ok.ensures.outcome ∙ ap₂ (λ n o. transfer o c.args.step.now.insn n c.args.walk.now.state) c.least.ensures c.order.ensures) c.one_more-cost.ensures.value (record { limited = c.requires.valid.limited; alive = c.requires.valid.alive; cost = next_cost c.args.step.now.slot c.args.step.now.insn c.one_more-cost.result c.one_more-cost.ensures.small }))

pub returns-clause-passed : goal.returns-clause-passed
returns-clause-passed g c = straight_passed (g.P.Code.program c.args.program.now) c.args.step.now c.requires.step (walk_of c.args.walk.now) (arrival_of c.args.walk.now.state c.args.step.now.reached) _ (ap (option_map (arrival_of c.args.walk.now.state)) c.requires.reached) (ends_live (g.P.Code.program c.args.program.now) c.args.step.now c.requires.step c.args.walk.now.state c.transfer_counted.new.state c.args.step.now.reached c.in-Ok.alive c.one_more-cost.result c.if-not-alive.false (c.in-Ok.ensures.outcome ∙ ap₂ (λ n o. transfer o c.args.step.now.insn n c.args.walk.now.state) c.least.ensures c.order.ensures) c.one_more-cost.ensures.value (record { limited = c.requires.valid.limited; alive = c.requires.valid.alive; cost = next_cost c.args.step.now.slot c.args.step.now.insn c.one_more-cost.result c.one_more-cost.ensures.small }))

pub returns-clause-work : goal.returns-clause-work
returns-clause-work g c = live_counted (g.P.Code.program c.args.program.now) c.args.step.now c.requires.step (walk_of c.args.walk.now) (arrival_of c.args.walk.now.state c.args.step.now.reached) c.transfer_counted.new.state c.in-Ok.alive c.args.work.now _ (ap (option_map (arrival_of c.args.walk.now.state)) c.requires.reached) c.in-Ok.ensures.counts c.if-not-alive.false (c.in-Ok.ensures.outcome ∙ ap₂ (λ n o. transfer o c.args.step.now.insn n c.args.walk.now.state) c.least.ensures c.order.ensures)

pub returns-clause-valid : goal.returns-clause-valid
returns-clause-valid g c = record { limited = c.requires.valid.limited; alive = c.requires.valid.alive; cost = next_cost c.args.step.now.slot c.args.step.now.insn c.one_more-cost.result c.one_more-cost.ensures.small }
