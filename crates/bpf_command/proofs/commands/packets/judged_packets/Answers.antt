use Rattle.std.proofs.Common.{rules, ◌≡◌, ◌<◌, ◌∙◌, ap, inl, refl}
use Rattle.bpf_semantics.specs.Blocks.{head_bytes}
use Rattle.bpf_safety.specs.Certified.{IsLeastFlaw}
use Rattle.bpf_check.specs.CheckedProgram.{CheckedProgram, IsCertifiedBy, checked}
use Rattle.bpf_check.specs.RefusalNumbers.{refusal_slot, refusal_number}
use Rattle.bpf_answers.specs.Loaded.{CertificateAt}
use Rattle.bpf_answers.proofs.MadeLemmas.{keeps}
use Rattle.bpf_command.proofs.ReplayedLemmas.{judged_packets_fail}
use Rattle.bpf_command.proofs.commands.packets.judged_packets.Goals as goal

pub returns-in-Err-check-clause-ok : goal.returns-in-Err-check-clause-ok
returns-in-Err-check-clause-ok g c =
    let p = g.C.Code.program c.args.program.now in
    let read : CertificateAt g.P.Places.opens c.args.places.now c.args.packets.certificate.now c.certificate_at.new.places c.in-Ok.certificate = search rules in
    let flaw : IsLeastFlaw p c.in-Ok.certificate (refusal_slot c.in-Err-check.refusal) (refusal_number c.in-Err-check.refusal) = search rules in
    inl ((c.in-Ok.certificate, read, flaw), keeps _)

pub returns-then-most-lt-HEAD_BYTES-clause-ok : goal.returns-then-most-lt-HEAD_BYTES-clause-ok
returns-then-most-lt-HEAD_BYTES-clause-ok g c =
    let p = g.C.Code.program c.args.program.now in
    let read : CertificateAt g.P.Places.opens c.args.places.now c.args.packets.certificate.now c.certificate_at.new.places c.in-Ok.certificate = search rules in
    let by : IsCertifiedBy p c.in-Ok.certificate = search rules in
    let same : c.in-Ok-check.checked ≡ checked p c.in-Ok.certificate = c.in-Ok-check.ensures.ok in
    let short : c.most-most.result < head_bytes = search rules in
    let least = c.least.ensures ∙ ap (λ (k : CheckedProgram). k.certificate.least) same in
    let most = c.most-most.ensures ∙ ap (λ (k : CheckedProgram). k.certificate.most) same in
    inl ((c.in-Ok.certificate, read, by, (refl, least, most, short)), keeps _)

pub returns-clause-err : goal.returns-clause-err
returns-clause-err g c =
    let at = g.P.Places.opens in
    let p = g.C.Code.program c.args.program.now in
    let read : CertificateAt at c.args.places.now c.args.packets.certificate.now c.certificate_at.new.places c.in-Ok.certificate = search rules in
    let by : IsCertifiedBy p c.in-Ok.certificate = search rules in
    let same : c.in-Ok-check.checked ≡ checked p c.in-Ok.certificate = c.in-Ok-check.ensures.ok in
    judged_packets_fail c.replay_at.result at c.args.places.now c.args.packets c.certificate_at.new.places c.replay_at.new.places p c.in-Ok.certificate c.in-Ok-check.checked _ _ read by same c.replay_at.ensures.err
