use Rattle.std.proofs.Common.{◌≤◌, sym, subst, rules}
use Rattle.bpf_semantics.specs.Run.{IsDone}
use Rattle.bpf_follows.specs.Traps.{EndsByNotes}
use Rattle.bpf_command.proofs.commands.noted.is_trapped.Goals as goal

pub returns-in-Some : goal.returns-in-Some
returns-in-Some g c = rw c.in-Some.is (λ v runs.
    let p = g.C.Code.program c.args.program.now in
    let context = c.args.context.now in
    let done : IsDone p context v runs.steps = subst (λ q. IsDone q context v runs.steps) c.requires.same runs.done in
    let few : runs.steps ≤ c.bound.result = subst (λ n. runs.steps ≤ n) (sym c.bound.ensures) runs.in_time in
    (runs.steps, subst (λ q. EndsByNotes q context c.in-Some.notes.now v runs.steps c.ends_at_trap.result) (sym c.requires.same) (c.ends_at_trap.ensures.ends v runs.steps done (search rules))))
