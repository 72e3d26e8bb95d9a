use Rattle.std.proofs.Common.{refl, sym, subst}
use Rattle.bpf_insn.specs.Laws.{IsImageOfProgram}
use Rattle.bpf_check.specs.Verdicts.{program_in}
use Rattle.bpf_machine.specs.Answers.{IsRun}
use Rattle.bpf_host_calls.proofs.runs.outcome_of_prepared.Goals as goal

pub outcome_of-requires-clause-image : goal.outcome_of-requires-clause-image
outcome_of-requires-clause-image c =
    let f = c.in_ok-found.found in
    let known = c.in_ok-found.ensures.known.0 refl in
    let holds = c.requires.program known.0 known.1 in
    let is = c.in_ok-found.ensures.found holds.order holds.image holds.is_prepared in
    (holds.program, subst (λ i. IsImageOfProgram f.order i holds.program) (sym is.0) (subst (λ o. IsImageOfProgram o holds.image holds.program) (sym is.1) holds.is_image))

pub returns-clause-run : goal.returns-clause-run
returns-clause-run c = λ order image program prepared is_image.
    let f = c.in_ok-found.found in
    let is = c.in_ok-found.ensures.found order image prepared in
    let given : IsImageOfProgram f.order f.image.now program = subst (λ i. IsImageOfProgram f.order i program) (sym is.0) (subst (λ o. IsImageOfProgram o image program) (sym is.1) is_image) in
    subst (λ o. IsRun (program_in o program) c.args.context.now c.args.fuel c.outcome_of.result) is.1 (c.outcome_of.ensures program given)
