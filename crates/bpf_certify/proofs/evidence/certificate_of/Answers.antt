use Rattle.std.proofs.Common.{rules, sym, subst, ◌∙◌}
use Rattle.std.proofs.lemmas.Option.{same_Some}
use Rattle.bpf_check.specs.CheckedProgram.{IsCertifiedBy}
use Rattle.bpf_check.specs.RefusalNumbers.{refusal_number, refusal_slot}
use Rattle.bpf_safety.specs.Certified.{IsLeastFlaw}
use Rattle.bpf_certify.proofs.evidence.certificate_of.Goals as goal

-- what is refused has a flaw
pub returns-in-Err : goal.returns-in-Err
returns-in-Err c d found certifies =
    let p = c.args.new.now.program in
    let k = c.in-Some.certificate in
    let r = c.in-Err._refusal in
    let flaw : IsLeastFlaw p k (refusal_slot r) (refusal_number r) = search rules in
    let here : IsCertifiedBy p k = subst (IsCertifiedBy p) (same_Some d k (sym found ∙ c.in-Some.is)) certifies in
    here.certified (refusal_slot r) (refusal_number r) flaw.is_flaw
