use Rattle.std.proofs.Common.{sym}
use Rattle.bpf_cert.specs.Reading.{line_in}
use Rattle.bpf_cert.specs.code.Standing.{value_line}
use Rattle.bpf_cert.proofs.BuiltLemmas.{takes_flaw, takes_line, fine_itself}
use Rattle.bpf_cert.proofs.building.Builder.take.Goals as goal

pub returns-in-Err : goal.returns-in-Err
returns-in-Err c = λ lines built more. rw c.at_line.ensures (takes_flaw c.args.line lines c.args.text.now c.args.self.now c.in-Err.flaw c.requires.short (sym (c.in-Err.ensures.value lines built.stands)))

pub returns-in-Ok-push : goal.returns-in-Ok-push
returns-in-Ok-push c = λ lines built more. takes_line c.args.line lines c.args.text.now (value_line c.in-Ok.value) c.push.new.self c.in-Ok-push.field-0 c.requires.short (sym (c.in-Ok.ensures.value lines built.stands)) (c.in-Ok-push.ensures lines built more)

pub push-requires-clause-built : goal.push-requires-clause-built
push-requires-clause-built c =
    let lines = c.requires.built.0 in
    let built = c.requires.built.1 in
    (lines, built, fine_itself lines (line_in c.args.text.now) (value_line c.in-Ok.value) (sym (c.in-Ok.ensures.value lines built.stands)))
