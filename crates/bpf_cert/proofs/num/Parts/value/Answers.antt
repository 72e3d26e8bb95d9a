use Rattle.std.proofs.Common.{◌∙◌, ◌∷◌, sym, ap, Ok}
use Rattle.bpf_cert.specs.Line.{Number}
use Rattle.bpf_cert.specs.code.Findings.{valued}
use Rattle.bpf_cert.proofs.PartLemmas.{sum_found, sum_value}
use Rattle.bpf_cert.proofs.num.Parts.value.Goals as goal

pub returns-in-Ok : goal.returns-in-Ok
returns-in-Ok c = λ p ps sum. rw c.of.ensures (ap Ok (sum_value p ps c.args.self.now c.in-Ok.field-0 sum c.in-Ok.is) ∙ sym (sum_found p ps c.args.self.now sum ∙ ap (valued (λ (u : Unit {0}). Number.parts (p ∷ ps))) c.in-Ok.is))

pub returns-in-Err : goal.returns-in-Err
returns-in-Err c = λ p ps sum. sym (sum_found p ps c.args.self.now sum ∙ ap (valued (λ (u : Unit {0}). Number.parts (p ∷ ps))) c.in-Err.is)
