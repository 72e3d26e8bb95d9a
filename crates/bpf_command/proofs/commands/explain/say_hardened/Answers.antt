use Rattle.std.proofs.Common.{◌≡◌, IfNone, IfSome, min, rules}
use Rattle.bpf_insn.specs.Limits.{max_context}
use Rattle.bpf_safety.specs.Certified.{IsLeastFlaw}
use Rattle.bpf_check.specs.CheckedProgram.{IsCertifiedBy}
use Rattle.bpf_check.specs.RefusalNumbers.{refusal_number, refusal_slot}
use Rattle.bpf_explain.specs.Hardened.{IsMade, IsUnhardened}
use Rattle.bpf_explain.specs.declared.hardened.HardeningAsked.{HardeningAsked}
use Rattle.bpf_command.proofs.ExplainedLemmas.{hardened_so, is_hardened, judges_by, unhardened_so}
use Rattle.bpf_command.proofs.commands.explain.say_hardened.Goals as goal

pub returns-in-Ok-Ok-clause-ok : goal.returns-in-Ok-Ok-clause-ok
returns-in-Ok-Ok-clause-ok g c =
    let asked = c.args.asked in
    let m = c.in-Ok-Ok._made in
    let o = c.in-Ok-Ok.refusal in
    let within : HardeningAsked = record asked { length = c.min-length.result } in
    let same : within.length ≡ min asked.length max_context = search rules in
    let made : IsMade c.args.program.now within m = search rules in
    let certifies : IfNone o (IsCertifiedBy m.program m.certificate) = search rules in
    let flaw : IfSome o (λ r. IsLeastFlaw m.program m.certificate (refusal_slot r) (refusal_number r)) = search rules in
    hardened_so asked.length asked.padded asked.turns c.args.program.now m.program m.certificate c.status_by.result (is_hardened within asked.length c.args.program.now m same made)
    (judges_by m.program m.certificate o c.status_by.result certifies flaw c.status_by.ensures.yes c.status_by.ensures.no)

pub returns-in-Ok-Err-clause-ok : goal.returns-in-Ok-Err-clause-ok
returns-in-Ok-Err-clause-ok g c =
    let asked = c.args.asked in
    let within : HardeningAsked = record asked { length = c.min-length.result } in
    let same : within.length ≡ min asked.length max_context = search rules in
    let why : IsUnhardened c.args.program.now within c.in-Ok-Err._why = search rules in
    unhardened_so within asked.length c.args.program.now c.in-Ok-Err._why same why
