use Rattle.std.proofs.Common.{map, ◌∙◌, refl}
use Rattle.std.proofs.lemmas.Result.{err_from_is_err_and}
use Rattle.bpf_cert.specs.View.{function_view}
use Rattle.bpf_cert.specs.Spelling.{lines_text, body_lines}
use Rattle.bpf_cert.proofs.WritingLemmas.{stops_first, then_puts, header_first}
use Rattle.bpf_cert.proofs.writing.put_certificate.Goals as goal

pub returns-in_err-put_bytes : goal.returns-in_err-put_bytes
returns-in_err-put_bytes g c =
    let p = err_from_is_err_and c.from_residual.result c.from_residual.ensures.1 in
    let view = c.args.certificate.now in
    rw p.1 (stops_first _ c.as_slice.result.now (lines_text (body_lines view.functions)) (header_first c.header.result view view.functions c.as_slice.result.now (c.as_slice.ensures.value ∙ c.header_text.ensures) c.header.ensures refl) c.in_err-put_bytes.ensures)

pub returns : goal.returns
returns g c =
    let functions = map function_view c.functions.result.now in
    then_puts _ _ c.put_body.result c.as_slice.result.now (lines_text (body_lines functions)) (header_first c.header.result c.args.certificate.now functions c.as_slice.result.now (c.as_slice.ensures.value ∙ c.header_text.ensures) c.header.ensures c.functions.ensures) c.in_ok-put_bytes.ensures c.put_body.ensures
