use Rattle.std.proofs.Common.{sym, ap, ◌∙◌, rules}
use mir.Val.{SFits}
use mir.Syntax.{w64}
use Rattle.std.proofs.lemmas.Int.{to_z-of_z}
use Rattle.bpf_cert.specs.code.Findings.{valued}
use Rattle.bpf_cert.specs.code.Seen.{signed_seen}
use Rattle.bpf_cert.specs.Spelling.{bounds_in}
use Rattle.bpf_cert.proofs.ContentLemmas.{bounds_form, bounds_found}
use Rattle.bpf_cert.proofs.content.pointer_value.Goals as goal

pub bounds-requires-clause-low : goal.bounds-requires-clause-low
bounds-requires-clause-low c = (bounds_form c.args.form.area (signed_seen c.args.form.low) (signed_seen c.args.form.high) c.requires).0

pub bounds-requires-clause-high : goal.bounds-requires-clause-high
bounds-requires-clause-high c = (bounds_form c.args.form.area (signed_seen c.args.form.low) (signed_seen c.args.form.high) c.requires).1

pub returns-in-Ok-clause-value : goal.returns-in-Ok-clause-value
returns-in-Ok-clause-value c =
    let low : SFits w64 c.in-Ok.lo = search rules in
    let high : SFits w64 c.in-Ok.hi = search rules in
    simp to_z-of_z (ap (valued (λ b. bounds_in c.args.form.area b.0 b.1)) c.in-Ok.ensures.value
    ∙ sym (bounds_found c.args.form.area (signed_seen c.args.form.low) (signed_seen c.args.form.high)))

pub returns-in-Err-clause-value : goal.returns-in-Err-clause-value
returns-in-Err-clause-value c =
    ap (valued (λ b. bounds_in c.args.form.area b.0 b.1)) c.in-Err.ensures.value
    ∙ sym (bounds_found c.args.form.area (signed_seen c.args.form.low) (signed_seen c.args.form.high))
