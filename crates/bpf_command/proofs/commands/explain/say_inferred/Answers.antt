use Rattle.std.proofs.Common.{◌<◌, IfNone, IfSome, refl, rules}
use Rattle.bpf_insn.specs.Instruction.{slots}
use Rattle.bpf_safety.specs.Certified.{IsLeastFlaw}
use Rattle.bpf_check.specs.CheckedProgram.{IsCertifiedBy}
use Rattle.bpf_check.specs.RefusalNumbers.{refusal_number, refusal_slot}
use Rattle.bpf_infer_base.specs.RefusalNumbers.{infer_slot}
use Rattle.bpf_answers.specs.declared.answer.Answer.TheVariants.{NotProposed}
use Rattle.bpf_command.specs.Inferred.{IsProposal}
use Rattle.bpf_command.proofs.ExplainedLemmas.{judges_by, sought}
use Rattle.bpf_command.proofs.commands.explain.say_inferred.Goals as goal

pub returns-in-Ok-Ok-clause-ok : goal.returns-in-Ok-Ok-clause-ok
returns-in-Ok-Ok-clause-ok g c =
    let k = c.in-Ok-Ok.found.certificate in
    let o = c.in-Ok-Ok.found.refusal in
    let found : IsProposal c.args.asked.wanted.least c.args.asked.wanted.most k = search rules in
    let certifies : IfNone o (IsCertifiedBy c.args.program.now k) = search rules in
    let flaw : IfSome o (λ r. IsLeastFlaw c.args.program.now k (refusal_slot r) (refusal_number r)) = search rules in
    sought c.args.asked.wanted.least c.args.asked.wanted.most c.args.program.now k c.status_by.result found (judges_by c.args.program.now k o c.status_by.result certifies flaw c.status_by.ensures.yes c.status_by.ensures.no)

pub returns-in-Ok-Err-clause-ok : goal.returns-in-Ok-Err-clause-ok
returns-in-Ok-Err-clause-ok g c =
    let inside : infer_slot c.in-Ok-Err._error < slots c.args.program.now.list = search rules in
    (NotProposed c.in-Ok-Err._error, refl, inside)
