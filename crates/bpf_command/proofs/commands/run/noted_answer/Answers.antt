use Rattle.std.proofs.Common.{sym, subst, ◌∙◌}
use Rattle.bpf_machine.specs.Answers.{IsRun}
use Rattle.bpf_machine.specs.declared.outcome.Outcome.TheVariants.{Done}
use Rattle.bpf_command.proofs.commands.run.noted_answer.Goals as goal

pub returns-then-is_trap : goal.returns-then-is_trap
returns-then-is_trap g c =
    let p = g.C.Code.program c.args.program.now in
    let run : IsRun p c.args.context.now c.args.fuel (Done c.in-Done.value c.in-Done.steps) = subst (IsRun p c.args.context.now c.args.fuel) c.in-Done.is c.requires.run in
    (run, (c.in-Done.steps, (c.exit_slot.result, c.exit_slot.ensures c.in-Done.value run.0, sym c.if-is_trap.true ∙ c.is_trap.ensures)))

pub returns-else-is_trap : goal.returns-else-is_trap
returns-else-is_trap g c =
    let p = g.C.Code.program c.args.program.now in
    let run : IsRun p c.args.context.now c.args.fuel (Done c.in-Done.value c.in-Done.steps) = subst (IsRun p c.args.context.now c.args.fuel) c.in-Done.is c.requires.run in
    (run, (c.in-Done.steps, (c.exit_slot.result, c.exit_slot.ensures c.in-Done.value run.0, sym c.if-is_trap.false ∙ c.is_trap.ensures)))
