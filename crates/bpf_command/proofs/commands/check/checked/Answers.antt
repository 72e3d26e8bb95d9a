use Rattle.std.proofs.Common.{rules, ◌≡◌}
use Rattle.bpf_cert.specs.View.{CertificateView}
use Rattle.bpf_check.specs.CheckedProgram.{IsCertifiedBy}
use Rattle.bpf_check.specs.Verdicts.{Verified}
use Rattle.bpf_answers.specs.Loaded.{LoadsImage}
use Rattle.bpf_command.specs.Printed.{CheckSays, YesSays, IsPromised}
use Rattle.bpf_answers.proofs.LoadedLemmas.{read_of}
use Rattle.bpf_command.proofs.JudgedLemmas.{verified, promised, said_more, loaded_says, says_so}
use Rattle.bpf_command.proofs.commands.check.checked.Goals as goal

pub returns-in-Ok-of-clause-ok : goal.returns-in-Ok-of-clause-ok
returns-in-Ok-of-clause-ok g c =
    let at = g.P.Places.opens in
    let bytes = c.deref.result.now in
    let p = c.in-Ok-of.program in
    let same : c.in-Ok.bytes.items ≡ c.deref.result.now = search rules in
    let read = read_of at (λ v. v.items) c.args.places.now c.args.asked.input.now c.image_at.new.places c.in_ok-bytes.field-0 c.in-Ok.bytes c.deref.result.now c.in-Ok.is same c.in_ok-bytes.ensures.ok in
    let image : LoadsImage at c.args.asked.order c.args.places.now c.args.asked.input.now c.image_at.new.places c.in-Ok-of.program
    = record { bytes = c.deref.result.now; read = read; is_image = record { program = c.in-Ok-of.ensures.program; bytes_are = c.in-Ok-of.ensures.ok.0.bytes_are }; order_is = c.in-Ok-of.ensures.ok.1 } in
    let safe : (d : CertificateView) → IsCertifiedBy c.in-Ok-of.program d → Verified c.args.asked.order c.deref.result.now d.least d.most d.steps
    = λ d by. verified c.image_is_injective.ensures c.certified_is_safe.ensures c.certified_is_flat_safe.ensures c.args.asked.order c.deref.result.now c.in-Ok-of.program d image.is_image image.order_is by in
    says_so c.judged.result _ (CheckSays at c.args.asked.order c.args.places.now c.args.asked.input.now c.args.asked.certificate.now c.judged.new.places c.args.asked.work)
    (λ x h. loaded_says at c.args.asked.order c.args.places.now c.args.asked.input.now c.args.asked.certificate.now c.image_at.new.places c.judged.new.places p image (λ b k y. YesSays c.args.asked.work k y × IsPromised c.args.asked.order b y) (λ k e n. n.0) x
    (said_more at c.image_at.new.places c.args.asked.certificate.now c.judged.new.places p (YesSays c.args.asked.work) (λ k y. YesSays c.args.asked.work k y × IsPromised c.args.asked.order bytes y) (λ d by y m. promised c.args.asked.order bytes c.args.asked.work p d (safe d by) y m) x h))
    c.judged.ensures.ok
