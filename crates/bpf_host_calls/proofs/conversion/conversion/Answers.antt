use Rattle.std.proofs.Common.{◌≡◌, ◌∙◌, Ok, length, sym, ap, subst, rules}
use Rattle.bpf_insn.specs.Image.{IsProgram, image}
use Rattle.bpf_host_calls.proofs.ConvertedLemmas.{converted_as}
use Rattle.bpf_host_calls.proofs.conversion.conversion.Goals as goal

pub returns-clause-ok : goal.returns-clause-ok
returns-clause-ok c =
    let given = c.args.given in
    let wanted = c.args.wanted in
    let raws = c.deref.result.now in
    let made = c.in-Ok-converted.made in
    let bytes = c.in-Some.image.items in
    let text = c.in-Some-text_of.text.items in
    let spelled = c.in-Ok.ensures.ok ∙ ap Ok (sym c.deref.ensures.value) in
    let program = subst (λ q. IsProgram q.list) c.program.ensures c.in-Some.ensures.program in
    let bytes_are = subst (λ q. bytes ≡ image q.order q.list) c.program.ensures c.in-Some.ensures.bytes in
    let image_length : c.len.result ≡ length bytes = search rules in
    let text_length : c.len-2.result ≡ length text = search rules in
    let bound_is : c.steps.result ≡ made.certificate.steps = search rules in
    converted_as given.order given.filter.now wanted
    (record { image_len = c.len.result; certificate_len = c.len-2.result; bound = c.steps.result }) raws made bytes text
    spelled c.in-Ok-converted.ensures.ok program bytes_are c.in-Some-text_of.ensures image_length text_length bound_is
