use Rattle.std.proofs.Common.{◌≡◌, sym, subst, ◌∙◌, ap, refl}
use Rattle.bpf_semantics.specs.Run.{IsDone}
use Rattle.bpf_machine.specs.declared.outcome.Outcome.TheVariants.{Done}
use Rattle.bpf_follows.specs.Exits.{IsDoneAt}
use Rattle.bpf_follows.proofs.ExitLemmas.{done_steps, not_done}
use Rattle.bpf_follows.proofs.trap.ends_at_trap.Goals as goal

pub returns-in-Done-clause-run : goal.returns-in-Done-clause-run
returns-in-Done-clause-run g c =
    let run = c.in-Done.ensures.outcome in
    (Done c.in-Done.value c.in-Done.steps, run, (c.exit_slot.result, c.exit_slot.ensures c.in-Done.value run.0, c.is_trap.ensures))

pub returns-in-Done-clause-ends : goal.returns-in-Done-clause-ends
returns-in-Done-clause-ends g c = λ v k done few.
    let p = g.C.Code.program c.args.code.now in
    let context = c.args.context.now in
    let slot = c.exit_slot.result in
    let same : k ≡ c.in-Done.steps = ap done_steps (c.run.ensures.only (Done v k) (done, few) ∙ c.in-Done.is) in
    (slot, subst (λ n. IsDoneAt p context slot v n) (sym same) (c.exit_slot.ensures v (subst (λ n. IsDone p context v n) same done)), c.is_trap.ensures)

pub returns-in-Fault-clause-ends : goal.returns-in-Fault-clause-ends
returns-in-Fault-clause-ends g c = λ v k done few. absurd (not_done v k _ (c.run.ensures.only (Done v k) (done, few) ∙ c.in-Fault.is) refl)

pub returns-in-OutOfFuel-clause-ends : goal.returns-in-OutOfFuel-clause-ends
returns-in-OutOfFuel-clause-ends g c = λ v k done few. absurd (not_done v k _ (c.run.ensures.only (Done v k) (done, few) ∙ c.in-OutOfFuel.is) refl)
