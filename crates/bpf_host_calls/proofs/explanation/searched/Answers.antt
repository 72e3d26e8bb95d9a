use Rattle.std.proofs.Common.{◌≡◌, IfNone, IfSome, rules}
use Rattle.bpf_safety.specs.Certified.{IsLeastFlaw}
use Rattle.bpf_check.specs.CheckedProgram.{IsCertifiedBy}
use Rattle.bpf_check.specs.RefusalNumbers.{refusal_slot, refusal_number}
use Rattle.bpf_host_calls.proofs.ExplainedLemmas.{by_found, by_refusal}
use Rattle.bpf_host_calls.proofs.explanation.searched.Goals as goal

pub returns-in-Ok-Ok : goal.returns-in-Ok-Ok
returns-in-Ok-Ok c =
    let k = c.in-Ok-Ok.found.certificate in
    let o = c.in-Ok-Ok.found.refusal in
    let least : k.least ≡ c.args.asked.wanted.least = search rules in
    let most : k.most ≡ c.args.asked.wanted.most = search rules in
    let certifies : IfNone o (IsCertifiedBy c.in-Ok.program k) = search rules in
    let flaw : IfSome o (λ r. IsLeastFlaw c.in-Ok.program k (refusal_slot r) (refusal_number r)) = search rules in
    by_found c.args.given.order c.args.given.image.now c.in-Ok.program k c.args.asked.wanted.least c.args.asked.wanted.most c.told_of.result c.in-Ok.ensures.ok.0 c.in-Ok.ensures.ok.1 c.in-Ok.ensures.program least most (by_refusal c.in-Ok.program k o c.told_of.result certifies flaw c.told_of.ensures.accepted c.told_of.ensures.refused)
