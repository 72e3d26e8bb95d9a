use Rattle.std.proofs.Common.{ap₂, refl, ◌≡◌, ◌++◌, ◌∙◌}
use Rattle.bpf_answers.specs.Told.{failure_text, told_of}
use Rattle.bpf_answers.proofs.ToldLemmas.{both_pieces, first_piece, second_piece}
use Rattle.bpf_answers.proofs.failure.write_failure.Goals as goal

pub returns-in_err-write_bytes-clause-err : goal.returns-in_err-write_bytes-clause-err
returns-in_err-write_bytes-clause-err g c =
    let pieces : c.as_bytes.result.now ++ told_of c.args.failure c.text.result.1.now ≡ failure_text c.args.failure = ap₂ (λ x y. x ++ y) c.as_bytes.ensures.value refl ∙ c.text.ensures in
    first_piece c.from_residual.result _ _ _ _ _ pieces c.in_err-write_bytes.ensures.err

pub returns-clause-ok : goal.returns-clause-ok
returns-clause-ok g c =
    let pieces : c.as_bytes.result.now ++ told_of c.args.failure c.as_bytes-2.result.now ≡ failure_text c.args.failure = ap₂ (λ x y. x ++ told_of c.args.failure y) c.as_bytes.ensures.value c.as_bytes-2.ensures.value ∙ c.text.ensures in
    both_pieces c.write_what.result _ _ _ _ _ _ pieces c.in_ok-write_bytes.ensures.ok c.write_what.ensures.ok

pub returns-clause-err : goal.returns-clause-err
returns-clause-err g c =
    let pieces : c.as_bytes.result.now ++ told_of c.args.failure c.as_bytes-2.result.now ≡ failure_text c.args.failure = ap₂ (λ x y. x ++ told_of c.args.failure y) c.as_bytes.ensures.value c.as_bytes-2.ensures.value ∙ c.text.ensures in
    second_piece c.write_what.result _ _ _ _ _ _ pieces c.in_ok-write_bytes.ensures.ok c.write_what.ensures.err
