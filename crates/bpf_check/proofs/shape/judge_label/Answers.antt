use Rattle.std.proofs.Common.{subst}
use Rattle.bpf_cert.specs.View.{label_view, function_view}
use Rattle.bpf_safety.specs.Flaw.{at}
use Rattle.bpf_check.specs.code.Least.{IsLeastRefusal}
use Rattle.bpf_check.specs.code.Standing.{label_flaws}
use Rattle.bpf_check.proofs.StandingLemmas.{numbers_seen}
use Rattle.bpf_check.proofs.shape.judge_label.Goals as goal

pub returns : goal.returns
returns g c =
    let p = g.C.Code.program c.args.program.now in
    let f = function_view c.args.function.now in
    subst (λ l. IsLeastRefusal (label_flaws p c.args.certificate.now f (label_view l)) c.flaw_of_label.result) c.see_label-seen.ensures.label
    (subst (λ ns. IsLeastRefusal (at c.see_label-seen.result.label.now.slot ns) c.flaw_of_label.result) (numbers_seen p c.args.certificate.now f c.see_label-seen.result c.see_label-seen.ensures.seen) c.flaw_of_label.ensures)
