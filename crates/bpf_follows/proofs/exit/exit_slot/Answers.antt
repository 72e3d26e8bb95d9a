use Rattle.std.proofs.Common.{◌≡◌, suc, ◌+◌, ◌<◌, subst, arith}
use Rattle.bpf_semantics.specs.State.{start}
use Rattle.bpf_semantics.specs.Run.{Steps}
use Rattle.bpf_follows.proofs.ExitLemmas.{step_on}
use Rattle.bpf_follows.proofs.exit.exit_slot.Goals as goal

pub steps-preserved : goal.steps-preserved
steps-preserved g c =
    let p = g.C.Code.program c.args.code.now in
    let i = c.steps.invariant in
    let ends = c.requires.ends in
    let test = c.steps-test.true in
    let last = c.saturating_sub-last.ensures in
    let less : suc c.steps.done < c.args.steps = omega (arith, test, last) in
    let next : suc c.steps.done ≡ c.steps.done + 1 = omega arith in
    let on = step_on c.finish_is_last.ensures c.stuck_has_reason.ensures c.runs_are_one.ensures p c.args.context.now ends.0 c.steps.done c.args.steps
    c.steps.machine c.step.new.self c.step.result c.slots-slots.ensures.valid i.program i.made less ends.1 c.step.ensures in
    record { program = on.0; made = subst (λ k. Steps p k (start c.args.context.now) c.step.new.self.state) next on.1 }
