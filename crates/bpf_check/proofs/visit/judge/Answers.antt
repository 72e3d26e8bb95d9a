use Rattle.std.proofs.Common.{refl, ap₂, ◌∙◌, nat_eq}
use Rattle.bpf_state.specs.Transfer.{transfer}
use Rattle.bpf_check.specs.code.Arrivals.{arrival_of}
use Rattle.bpf_cert.specs.View.{label_view}
use Rattle.bpf_check.proofs.EdgeLemmas.{all_refused, all_unpaid}
use Rattle.bpf_check.proofs.VisitLemmas.{dead_alive, live_alive, dead_jump, live_jump, dead_next, live_next, cost_fits, transfer_fault, dead_seen, stop_judged, pass_judged, next_cost, fault_worked, dead_worked, live_worked}
use Rattle.bpf_check.proofs.visit.judge.Goals as goal

pub left_at_exit-exits-requires-clause-cost : goal.left_at_exit-exits-requires-clause-cost
left_at_exit-exits-requires-clause-cost g c = cost_fits c.args.site.now.here.slot c.cost_after-cost.result c.requires.site.few c.cost_after-cost.ensures.small

pub judge_edges-requires-clause-cost : goal.judge_edges-requires-clause-cost
judge_edges-requires-clause-cost g c = cost_fits c.args.site.now.here.slot c.cost_after-cost.result c.requires.site.few c.cost_after-cost.ensures.small

pub returns-in-Err-clause-err : goal.returns-in-Err-clause-err
returns-in-Err-clause-err g c = transfer_fault (g.P.Code.program c.args.program.now).order c.args.site.now.insn c.args.site.now.certificate.now.least c.args.walk.now.state c.transfer_counted.new.state c.in-Err.fault (c.in-Err.ensures.outcome ∙ ap₂ (λ n o. transfer o c.args.site.now.insn n c.args.walk.now.state) c.least.ensures c.order.ensures)

pub returns-then-not-alive-clause-ok : goal.returns-then-not-alive-clause-ok
returns-then-not-alive-clause-ok g c = dead_seen (g.P.Code.program c.args.program.now) c.args.site.now.certificate.now c.args.site.now.here.slot c.args.site.now.insn c.args.walk.now.state c.args.here c.transfer_counted.new.state _ c.in-Ok.alive c.enters_wrongly-enters.result c.returns_wrongly-returns.result c.left_at_exit-exits.result c.cost_after-cost.result c.dead.result _ (c.dead.ensures.seen c.args.site.now.certificate.now (label_view c.args.here.label.now) c.cost_after-cost.result c.requires.site.next) c.if-not-alive.true (c.in-Ok.ensures.outcome ∙ ap₂ (λ n o. transfer o c.args.site.now.insn n c.args.walk.now.state) c.least.ensures c.order.ensures) c.cost_after-cost.ensures.value (c.enters_wrongly-enters.ensures.answer (arrival_of c.args.walk.now.state c.args.here) refl) (c.returns_wrongly-returns.ensures.answer (arrival_of c.args.walk.now.state c.args.here) refl) (c.left_at_exit-exits.ensures.unpaid c.args.walk.now.state)

pub returns-then-not-next-clause-ok : goal.returns-then-not-next-clause-ok
returns-then-not-next-clause-ok g c = stop_judged (g.P.Code.program c.args.program.now) c.args.site.now.certificate.now c.args.site.now.here.slot c.args.site.now.insn c.args.walk.now.state c.args.here c.transfer_counted.new.state c.judge_edges.new.state _ c.in-Ok.alive _ _ _ _ _ _ c.cost_after-cost.result c.if-not-alive.false (c.in-Ok.ensures.outcome ∙ ap₂ (λ n o. transfer o c.args.site.now.insn n c.args.walk.now.state) c.least.ensures c.order.ensures) c.cost_after-cost.ensures.value (c.enters_wrongly-enters.ensures.answer (arrival_of c.args.walk.now.state c.args.here) refl) (c.returns_wrongly-returns.ensures.answer (arrival_of c.args.walk.now.state c.args.here) refl) (c.left_at_exit-exits.ensures.unpaid c.args.walk.now.state) (all_refused c.args.site.now.certificate.now (label_view c.args.here.label.now) c.cost_after-cost.result c.args.site.now.here.slot c.args.site.now.insn c.transfer_counted.new.state _ _ c.judge_edges.ensures.jump c.judge_edges.ensures.next) (all_unpaid c.args.site.now.certificate.now (label_view c.args.here.label.now) c.cost_after-cost.result c.args.site.now.here.slot c.args.site.now.insn c.transfer_counted.new.state _ _ c.judge_edges.ensures.jump c.judge_edges.ensures.next) c.judge_edges.ensures.goes c.if-not-next.true

pub returns-clause-ok : goal.returns-clause-ok
returns-clause-ok g c = pass_judged (g.P.Code.program c.args.program.now) c.args.site.now.certificate.now c.args.site.now.here.slot c.args.site.now.insn c.args.walk.now.state c.args.here c.transfer_counted.new.state c.judge_edges.new.state c.in-Ok.alive _ _ _ _ _ _ _ c.cost_after-cost.result c.if-not-alive.false (c.in-Ok.ensures.outcome ∙ ap₂ (λ n o. transfer o c.args.site.now.insn n c.args.walk.now.state) c.least.ensures c.order.ensures) c.cost_after-cost.ensures.value (c.enters_wrongly-enters.ensures.answer (arrival_of c.args.walk.now.state c.args.here) refl) (c.returns_wrongly-returns.ensures.answer (arrival_of c.args.walk.now.state c.args.here) refl) (c.left_at_exit-exits.ensures.unpaid c.args.walk.now.state) (all_refused c.args.site.now.certificate.now (label_view c.args.here.label.now) c.cost_after-cost.result c.args.site.now.here.slot c.args.site.now.insn c.transfer_counted.new.state _ _ c.judge_edges.ensures.jump c.judge_edges.ensures.next) (all_unpaid c.args.site.now.certificate.now (label_view c.args.here.label.now) c.cost_after-cost.result c.args.site.now.here.slot c.args.site.now.insn c.transfer_counted.new.state _ _ c.judge_edges.ensures.jump c.judge_edges.ensures.next) c.judge_edges.ensures.goes c.if-not-next.false (ap₂ nat_eq c.requires.site.next_slot c.slots.ensures.count) (record { limited = c.requires.valid.limited; alive = c.requires.valid.alive; cost = next_cost c.args.site.now.here.slot c.args.site.now.insn c.cost_after-cost.result c.cost_after-cost.ensures.small })

pub returns-then-not-alive-clause-alive : goal.returns-then-not-alive-clause-alive
returns-then-not-alive-clause-alive g c = dead_alive (g.P.Code.program c.args.program.now).order c.args.site.now.insn c.args.site.now.certificate.now.least c.args.walk.now.state c.transfer_counted.new.state c.in-Ok.alive c.if-not-alive.true (c.in-Ok.ensures.outcome ∙ ap₂ (λ n o. transfer o c.args.site.now.insn n c.args.walk.now.state) c.least.ensures c.order.ensures)

pub returns-then-not-alive-clause-jump : goal.returns-then-not-alive-clause-jump
returns-then-not-alive-clause-jump g c = dead_jump (g.P.Code.program c.args.program.now).order c.args.site.now.certificate.now (label_view c.args.here.label.now) c.cost_after-cost.result c.args.site.now.here.slot c.args.site.now.insn c.args.walk.now.state c.transfer_counted.new.state c.in-Ok.alive c.if-not-alive.true (c.in-Ok.ensures.outcome ∙ ap₂ (λ n o. transfer o c.args.site.now.insn n c.args.walk.now.state) c.least.ensures c.order.ensures)

pub returns-then-not-alive-clause-next : goal.returns-then-not-alive-clause-next
returns-then-not-alive-clause-next g c = c.dead.ensures.seen c.args.site.now.certificate.now (label_view c.args.here.label.now) c.cost_after-cost.result c.requires.site.next ∙ dead_next (g.P.Code.program c.args.program.now) c.args.site.now.certificate.now (label_view c.args.here.label.now) c.cost_after-cost.result c.args.site.now.here.slot c.args.site.now.next.slot c.args.site.now.insn c.args.walk.now.state c.transfer_counted.new.state c.in-Ok.alive c.if-not-alive.true (c.in-Ok.ensures.outcome ∙ ap₂ (λ n o. transfer o c.args.site.now.insn n c.args.walk.now.state) c.least.ensures c.order.ensures) c.requires.site.next_slot

pub returns-then-not-next-clause-alive : goal.returns-then-not-next-clause-alive
returns-then-not-next-clause-alive g c = live_alive (g.P.Code.program c.args.program.now).order c.args.site.now.insn c.args.site.now.certificate.now.least c.args.walk.now.state c.transfer_counted.new.state c.in-Ok.alive c.if-not-alive.false (c.in-Ok.ensures.outcome ∙ ap₂ (λ n o. transfer o c.args.site.now.insn n c.args.walk.now.state) c.least.ensures c.order.ensures)

pub returns-then-not-next-clause-jump : goal.returns-then-not-next-clause-jump
returns-then-not-next-clause-jump g c = c.judge_edges.ensures.jump ∙ live_jump (g.P.Code.program c.args.program.now).order c.args.site.now.certificate.now (label_view c.args.here.label.now) c.cost_after-cost.result c.args.site.now.here.slot c.args.site.now.insn c.args.walk.now.state c.transfer_counted.new.state c.in-Ok.alive c.if-not-alive.false (c.in-Ok.ensures.outcome ∙ ap₂ (λ n o. transfer o c.args.site.now.insn n c.args.walk.now.state) c.least.ensures c.order.ensures)

pub returns-then-not-next-clause-next : goal.returns-then-not-next-clause-next
returns-then-not-next-clause-next g c = c.judge_edges.ensures.next ∙ live_next (g.P.Code.program c.args.program.now) c.args.site.now.certificate.now (label_view c.args.here.label.now) c.cost_after-cost.result c.args.site.now.here.slot c.args.site.now.insn c.args.walk.now.state c.transfer_counted.new.state c.in-Ok.alive c.if-not-alive.false (c.in-Ok.ensures.outcome ∙ ap₂ (λ n o. transfer o c.args.site.now.insn n c.args.walk.now.state) c.least.ensures c.order.ensures)

pub returns-clause-alive : goal.returns-clause-alive
returns-clause-alive g c = live_alive (g.P.Code.program c.args.program.now).order c.args.site.now.insn c.args.site.now.certificate.now.least c.args.walk.now.state c.transfer_counted.new.state c.in-Ok.alive c.if-not-alive.false (c.in-Ok.ensures.outcome ∙ ap₂ (λ n o. transfer o c.args.site.now.insn n c.args.walk.now.state) c.least.ensures c.order.ensures)

pub returns-clause-jump : goal.returns-clause-jump
returns-clause-jump g c = c.judge_edges.ensures.jump ∙ live_jump (g.P.Code.program c.args.program.now).order c.args.site.now.certificate.now (label_view c.args.here.label.now) c.cost_after-cost.result c.args.site.now.here.slot c.args.site.now.insn c.args.walk.now.state c.transfer_counted.new.state c.in-Ok.alive c.if-not-alive.false (c.in-Ok.ensures.outcome ∙ ap₂ (λ n o. transfer o c.args.site.now.insn n c.args.walk.now.state) c.least.ensures c.order.ensures)

pub returns-clause-next : goal.returns-clause-next
returns-clause-next g c = c.judge_edges.ensures.next ∙ live_next (g.P.Code.program c.args.program.now) c.args.site.now.certificate.now (label_view c.args.here.label.now) c.cost_after-cost.result c.args.site.now.here.slot c.args.site.now.insn c.args.walk.now.state c.transfer_counted.new.state c.in-Ok.alive c.if-not-alive.false (c.in-Ok.ensures.outcome ∙ ap₂ (λ n o. transfer o c.args.site.now.insn n c.args.walk.now.state) c.least.ensures c.order.ensures)

pub returns-then-not-alive-clause-enters : goal.returns-then-not-alive-clause-enters
returns-then-not-alive-clause-enters g c = c.enters_wrongly-enters.ensures.answer (arrival_of c.args.walk.now.state c.args.here) refl

pub returns-then-not-alive-clause-returns : goal.returns-then-not-alive-clause-returns
returns-then-not-alive-clause-returns g c = c.returns_wrongly-returns.ensures.answer (arrival_of c.args.walk.now.state c.args.here) refl

pub returns-then-not-next-clause-enters : goal.returns-then-not-next-clause-enters
returns-then-not-next-clause-enters g c = c.enters_wrongly-enters.ensures.answer (arrival_of c.args.walk.now.state c.args.here) refl

pub returns-then-not-next-clause-returns : goal.returns-then-not-next-clause-returns
returns-then-not-next-clause-returns g c = c.returns_wrongly-returns.ensures.answer (arrival_of c.args.walk.now.state c.args.here) refl

pub returns-clause-enters : goal.returns-clause-enters
returns-clause-enters g c = c.enters_wrongly-enters.ensures.answer (arrival_of c.args.walk.now.state c.args.here) refl

pub returns-clause-returns : goal.returns-clause-returns
returns-clause-returns g c = c.returns_wrongly-returns.ensures.answer (arrival_of c.args.walk.now.state c.args.here) refl

pub returns-in-Err-clause-work : goal.returns-in-Err-clause-work
returns-in-Err-clause-work g c = fault_worked (g.P.Code.program c.args.program.now) c.args.site.now.certificate.now c.args.site.now.here.slot c.args.site.now.insn (arrival_of c.args.walk.now.state c.args.here) _ _ _ _ _ c.enters_wrongly-enters.ensures.work c.returns_wrongly-returns.ensures.work c.in-Err.ensures.counts (returns-in-Err-clause-err g c)

pub returns-then-not-alive-clause-work : goal.returns-then-not-alive-clause-work
returns-then-not-alive-clause-work g c = dead_worked (g.P.Code.program c.args.program.now) c.args.site.now.certificate.now c.args.site.now.here.slot c.args.site.now.insn (arrival_of c.args.walk.now.state c.args.here) c.transfer_counted.new.state c.in-Ok.alive _ _ _ _ c.enters_wrongly-enters.ensures.work c.returns_wrongly-returns.ensures.work c.in-Ok.ensures.counts c.if-not-alive.true (c.in-Ok.ensures.outcome ∙ ap₂ (λ n o. transfer o c.args.site.now.insn n c.args.walk.now.state) c.least.ensures c.order.ensures)

pub returns-then-not-next-clause-work : goal.returns-then-not-next-clause-work
returns-then-not-next-clause-work g c = live_worked (g.P.Code.program c.args.program.now) c.args.site.now.certificate.now c.args.site.now.here.slot c.args.site.now.insn (arrival_of c.args.walk.now.state c.args.here) c.transfer_counted.new.state c.in-Ok.alive _ _ _ _ _ c.enters_wrongly-enters.ensures.work c.returns_wrongly-returns.ensures.work c.in-Ok.ensures.counts c.if-not-alive.false (c.in-Ok.ensures.outcome ∙ ap₂ (λ n o. transfer o c.args.site.now.insn n c.args.walk.now.state) c.least.ensures c.order.ensures) c.judge_edges.ensures.work

pub returns-clause-work : goal.returns-clause-work
returns-clause-work g c = live_worked (g.P.Code.program c.args.program.now) c.args.site.now.certificate.now c.args.site.now.here.slot c.args.site.now.insn (arrival_of c.args.walk.now.state c.args.here) c.transfer_counted.new.state c.in-Ok.alive _ _ _ _ _ c.enters_wrongly-enters.ensures.work c.returns_wrongly-returns.ensures.work c.in-Ok.ensures.counts c.if-not-alive.false (c.in-Ok.ensures.outcome ∙ ap₂ (λ n o. transfer o c.args.site.now.insn n c.args.walk.now.state) c.least.ensures c.order.ensures) c.judge_edges.ensures.work
