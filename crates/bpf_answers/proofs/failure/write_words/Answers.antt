use Rattle.std.proofs.Common.{ap, refl, ◌≡◌, ◌++◌, ◌∙◌}
use Rattle.bpf_answers.specs.Told.{failure_text, failure_words, reason_of}
use Rattle.bpf_answers.proofs.ToldLemmas.{both_pieces, first_piece, second_piece}
use Rattle.bpf_answers.proofs.failure.write_words.Goals as goal

pub returns-in_err-write_failure-clause-err : goal.returns-in_err-write_failure-clause-err
returns-in_err-write_failure-clause-err g c = first_piece c.from_residual.result _ _ (failure_text c.args.failure) (reason_of c.args.failure c.args.cause) _ refl c.in_err-write_failure.ensures.err

pub returns-clause-ok : goal.returns-clause-ok
returns-clause-ok g c =
    let pieces : failure_text c.args.failure ++ c.as_bytes.result.now ≡ failure_words c.args.failure c.args.cause = ap (λ y. failure_text c.args.failure ++ y) (c.as_bytes.ensures.value ∙ c.reason.ensures) in
    both_pieces c.write_bytes.result _ _ _ _ _ _ pieces c.in_ok-write_failure.ensures.ok c.write_bytes.ensures.ok

pub returns-clause-err : goal.returns-clause-err
returns-clause-err g c =
    let pieces : failure_text c.args.failure ++ c.as_bytes.result.now ≡ failure_words c.args.failure c.args.cause = ap (λ y. failure_text c.args.failure ++ y) (c.as_bytes.ensures.value ∙ c.reason.ensures) in
    second_piece c.write_bytes.result _ _ _ _ _ _ pieces c.in_ok-write_failure.ensures.ok c.write_bytes.ensures.err
