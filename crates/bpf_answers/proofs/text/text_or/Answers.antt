use Rattle.std.proofs.Common.{refl, inr}
use Rattle.std.proofs.lemmas.Bool.{false≢true}
use Rattle.bpf_answers.proofs.TextLemmas.{not_text}
use Rattle.bpf_answers.proofs.text.text_or.Goals as goal

pub returns-in_default-clause-err : goal.returns-in_default-clause-err
returns-in_default-clause-err g c =
    let read = c.in-Ok.ensures.ok in
    inr (refl, (read.0.0, read.0.1, not_text read.0.0 c.in-Ok.bytes.items (λ valid. false≢true (c.in_default.ensures.succeeds valid)) read.0.2))
