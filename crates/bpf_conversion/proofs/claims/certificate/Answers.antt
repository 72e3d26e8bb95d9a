use Rattle.std.proofs.Common.{rules, ◌≡◌, None, subst, sym, ap, ◌∙◌}
use Rattle.std.proofs.lemmas.Result.{IfErr-weaker}
use Rattle.std.proofs.lemmas.Option.{none-some}
use Rattle.bpf_insn.specs.Instruction.{Instructions}
use Rattle.bpf_insn.specs.Image.{IsProgram}
use Rattle.bpf_cert.specs.View.{certificate_view}
use Rattle.bpf_cert.specs.Limits.{refusal_of}
use Rattle.bpf_cert.specs.declared.error.CertError.TheVariants.{Memory}
use Rattle.bpf_conversion.specs.Claim.{claim}
use Rattle.bpf_conversion.proofs.PartLemmas.{narrow}
use Rattle.bpf_conversion.proofs.LimitLemmas.{is_certificate, no_refusal}
use Rattle.bpf_conversion.proofs.claims.certificate.Goals as goal

pub of-requires : goal.of-requires
of-requires c = rw c.program.ensures (narrow c.args.converted.now c.requires)

pub returns-clause-err : goal.returns-clause-err
returns-clause-err c =
    let now = c.args.converted.now in
    let refused : refusal_of (claim now) ≡ None = no_refusal (claim now) (is_certificate now c.requires (subst (λ (p : Instructions). IsProgram p.list) c.program-2.ensures c.valid.ensures)) in
    let length = c.layout-layout.result.now.length in
    let view : certificate_view 2 length length c.min-bound.result c.push.new.self.items ≡ claim now = search rules in
    IfErr-weaker c.new.result _ (λ e. e ≡ Memory) (λ e h. absurd (none-some e (sym refused ∙ ap refusal_of (sym view) ∙ h))) c.new.ensures.err
