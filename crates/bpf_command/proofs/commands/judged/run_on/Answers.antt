use Rattle.std.proofs.Common.{◌≡◌, ◌≤◌, subst, sym, arith, rules, true, false}
use Rattle.bpf_check.proofs.CertificateFacts.{most_fits}
use Rattle.bpf_check.specs.CheckedProgram.{CheckedProgram}
use Rattle.bpf_flat.specs.Runs.{RunsTo}
use Rattle.bpf_safety.specs.Describes.{LengthWithin}
use Rattle.bpf_command.specs.Noted.{EndsAsNoted, noted_in}
use Rattle.bpf_command.proofs.commands.judged.run_on.Goals as goal

pub is_trapped-requires-clause-short : goal.is_trapped-requires-clause-short
is_trapped-requires-clause-short g c =
    let k = c.checked-checked.result.now.certificate in
    let within : LengthWithin k.least k.most c.args.context.now = search rules in
    let most : k.most ≤ 4096 = most_fits k c.valid.ensures.certified.certificate in
    omega (arith, within.1, most)

pub returns-then-is_trapped : goal.returns-then-is_trapped
returns-then-is_trapped g c =
    let v = c.run-value.result in
    let k : CheckedProgram = c.checked-checked.result.now in
    let same : k ≡ c.args.runnable.now = c.checked-checked.ensures in
    let runs : RunsTo k.program k.certificate.steps c.args.context.now v
    = subst (λ (q : CheckedProgram). RunsTo q.program q.certificate.steps c.args.context.now v) (sym same) c.run-value.ensures in
    let told : EndsAsNoted (noted_in c.args.notes) k.program c.args.context.now v true
    = subst (EndsAsNoted (noted_in c.args.notes) k.program c.args.context.now v) c.if-is_trapped.true (c.is_trapped.ensures v runs) in
    (c.run-value.ensures, subst (λ (q : CheckedProgram). EndsAsNoted (noted_in c.args.notes) q.program c.args.context.now v true) same told)

pub returns-else-is_trapped : goal.returns-else-is_trapped
returns-else-is_trapped g c =
    let v = c.run-value.result in
    let k : CheckedProgram = c.checked-checked.result.now in
    let same : k ≡ c.args.runnable.now = c.checked-checked.ensures in
    let runs : RunsTo k.program k.certificate.steps c.args.context.now v
    = subst (λ (q : CheckedProgram). RunsTo q.program q.certificate.steps c.args.context.now v) (sym same) c.run-value.ensures in
    let told : EndsAsNoted (noted_in c.args.notes) k.program c.args.context.now v false
    = subst (EndsAsNoted (noted_in c.args.notes) k.program c.args.context.now v) c.if-is_trapped.false (c.is_trapped.ensures v runs) in
    (c.run-value.ensures, subst (λ (q : CheckedProgram). EndsAsNoted (noted_in c.args.notes) q.program c.args.context.now v false) same told)
