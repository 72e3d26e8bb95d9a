use Rattle.std.proofs.Common.{◌++◌, sym, ap, ◌∙◌}
use Rattle.std.proofs.lemmas.Result.{err_from_is_err_and}
use Rattle.bpf_cert.specs.Spelling.{lines_text, lines_from, contents}
use Rattle.bpf_cert.proofs.WritingLemmas.{stops_first, then_puts}
use Rattle.bpf_cert.proofs.writing.put_label.Goals as goal

pub returns-in_err-put_bytes : goal.returns-in_err-put_bytes
returns-in_err-put_bytes g c =
    let p = err_from_is_err_and c.from_residual.result c.from_residual.ensures.1 in
    let entries = lines_text (lines_from 0 (contents c.args.label.now.state)) in
    rw p.1 (stops_first _ c.as_slice.result.now entries (ap (λ z. z ++ entries) (sym (c.as_slice.ensures.value ∙ c.label_text.ensures))) c.in_err-put_bytes.ensures)

pub returns : goal.returns
returns g c =
    let entries = lines_text (lines_from 0 (contents c.args.label.now.state)) in
    then_puts _ _ c.put_entries.result c.as_slice.result.now entries (ap (λ z. z ++ entries) (sym (c.as_slice.ensures.value ∙ c.label_text.ensures))) c.in_ok-put_bytes.ensures c.put_entries.ensures
