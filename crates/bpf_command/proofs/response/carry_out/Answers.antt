use Rattle.std.proofs.Common.{◌≡◌, None, subst}
use Rattle.bpf_answers.specs.declared.reply.Reply.TheVariants.{Each}
use Rattle.bpf_answers.proofs.MadeLemmas.{on_failure}
use Rattle.bpf_command.specs.declared.finding.Finding.TheVariants.{Given, Inferred, Hardened, Certified, Converted}
use Rattle.bpf_command.specs.Conflicts.{conflict_of}
use Rattle.bpf_command.proofs.ResponseLemmas.{answered, carried, fits, silent, unprinted}
use Rattle.bpf_command.proofs.response.carry_out.Goals as goal

pub returns-in-Groups : goal.returns-in-Groups
returns-in-Groups g c = rw c.in-Groups.is (answered _ _ _ _ c.grouped.result c.finding_of.result c.finding_of.ensures.ok c.finding_of.ensures.err c.grouped.ensures.ok c.grouped.ensures.err (on_failure c.grouped.result _ c.grouped.ensures.opened))

pub returns-in-Asm : goal.returns-in-Asm
returns-in-Asm g c = rw c.in-Asm.is (answered _ _ _ _ c.assembled.result c.finding_of-in-Asm.result c.finding_of-in-Asm.ensures.ok c.finding_of-in-Asm.ensures.err c.assembled.ensures.ok c.assembled.ensures.err c.assembled.ensures.names)

pub returns-in-List : goal.returns-in-List
returns-in-List g c = rw c.in-List.is (answered _ _ _ _ c.listed.result c.finding_of-in-List.result c.finding_of-in-List.ensures.ok c.finding_of-in-List.ensures.err c.listed.ensures.ok c.listed.ensures.err (on_failure c.listed.result _ c.listed.ensures.opened))

pub returns-in-Run : goal.returns-in-Run
returns-in-Run g c = rw c.in-Run.is (carried (λ x. Given x) _ _ _ _ c.ran_on.result c.finding_of-in-Run.result c.finding_of-in-Run.ensures.ok c.finding_of-in-Run.ensures.err c.ran_on.ensures.ok c.ran_on.ensures.err c.ran_on.ensures.begun (on_failure c.ran_on.result _ c.ran_on.ensures.opened))

pub returns-in-Check : goal.returns-in-Check
returns-in-Check g c = rw c.in-Check.is (answered _ _ _ _ c.checked.result c.finding_of-in-Check.result c.finding_of-in-Check.ensures.ok c.finding_of-in-Check.ensures.err c.checked.ensures.ok c.checked.ensures.err (on_failure c.checked.result _ c.checked.ensures.opened))

pub returns-in-RunChecked : goal.returns-in-RunChecked
returns-in-RunChecked g c = rw c.in-RunChecked.is (carried (λ x. Given x) _ _ _ _ c.ran_checked_on.result c.finding_of-in-RunChecked.result c.finding_of-in-RunChecked.ensures.ok c.finding_of-in-RunChecked.ensures.err c.ran_checked_on.ensures.ok c.ran_checked_on.ensures.err c.ran_checked_on.ensures.begun (on_failure c.ran_checked_on.result _ c.ran_checked_on.ensures.opened))

pub returns-in-Replay : goal.returns-in-Replay
returns-in-Replay g c = rw c.in-Replay.is (carried (λ x. Given x) _ _ _ _ c.replayed.result c.finding_of-in-Replay.result c.finding_of-in-Replay.ensures.ok c.finding_of-in-Replay.ensures.err c.replayed.ensures.ok c.replayed.ensures.err c.replayed.ensures.begun (on_failure c.replayed.result _ c.replayed.ensures.opened))

pub returns-in-Infer : goal.returns-in-Infer
returns-in-Infer g c = rw c.in-Infer.is (carried (λ x. Inferred x) _ _ _ _ c.inferred.result c.finding_of-in-Infer.result c.finding_of-in-Infer.ensures.ok c.finding_of-in-Infer.ensures.err (silent _ c.inferred.result _ c.inferred.ensures.ok) c.inferred.ensures.err (unprinted c.inferred.result _) c.inferred.ensures.names)

pub returns-in-Harden : goal.returns-in-Harden
returns-in-Harden g c = rw c.in-Harden.is (carried (λ x. Hardened x) _ _ _ _ c.hardened.result c.finding_of-in-Harden.result c.finding_of-in-Harden.ensures.ok c.finding_of-in-Harden.ensures.err (silent _ c.hardened.result _ c.hardened.ensures.ok) c.hardened.ensures.err (unprinted c.hardened.result _) c.hardened.ensures.names)

pub returns-in-Certify : goal.returns-in-Certify
returns-in-Certify g c = rw c.in-Certify.is (carried (λ x. Certified x) _ _ _ _ c.certified.result c.finding_of-in-Certify.result c.finding_of-in-Certify.ensures.ok c.finding_of-in-Certify.ensures.err (silent _ c.certified.result _ c.certified.ensures.ok) c.certified.ensures.err (unprinted c.certified.result _) c.certified.ensures.names)

pub returns-in-Convert : goal.returns-in-Convert
returns-in-Convert g c = rw c.in-Convert.is (carried (λ x. Converted x) _ _ _ _ c.converted.result c.finding_of-in-Convert.result c.finding_of-in-Convert.ensures.ok c.finding_of-in-Convert.ensures.err (silent _ c.converted.result _ c.converted.ensures.ok) c.converted.ensures.err (unprinted c.converted.result _) c.converted.ensures.names)

pub returns-in-ToC : goal.returns-in-ToC
returns-in-ToC g c = rw c.in-ToC.is (answered _ _ _ _ c.emitted.result c.finding_of-in-ToC.result c.finding_of-in-ToC.ensures.ok c.finding_of-in-ToC.ensures.err c.emitted.ensures.ok c.emitted.ensures.err c.emitted.ensures.names)

pub returns-in-Follows : goal.returns-in-Follows
returns-in-Follows g c = rw c.in-Follows.is (answered _ _ _ _ c.followed.result c.finding_of-in-Follows.result c.finding_of-in-Follows.ensures.ok c.finding_of-in-Follows.ensures.err c.followed.ensures.ok c.followed.ensures.err (on_failure c.followed.result _ c.followed.ensures.opened))

pub returns-in-Explain : goal.returns-in-Explain
returns-in-Explain g c = rw c.in-Explain.is (carried (λ x. Given (Each x)) _ _ _ _ c.explained.result c.finding_of-in-Explain.result c.finding_of-in-Explain.ensures.ok c.finding_of-in-Explain.ensures.err c.explained.ensures.ok c.explained.ensures.err (on_failure c.explained.result _ tt) (on_failure c.explained.result _ c.explained.ensures.opened))

pub returns-in-Migrate : goal.returns-in-Migrate
returns-in-Migrate g c = rw c.in-Migrate.is (answered _ _ _ _ c.migrated.result c.finding_of-in-Migrate.result c.finding_of-in-Migrate.ensures.ok c.finding_of-in-Migrate.ensures.err c.migrated.ensures.ok c.migrated.ensures.err c.migrated.ensures.names)

pub converted-requires : goal.converted-requires
converted-requires g c = fits c.in-Convert.asked (subst (λ r. conflict_of r ≡ None) c.in-Convert.is c.requires)
