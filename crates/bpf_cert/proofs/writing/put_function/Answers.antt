use Rattle.std.proofs.Common.{◌++◌, map, sym, ap, ◌∙◌}
use Rattle.std.specs.Prelude.{flat_map}
use Rattle.std.proofs.lemmas.Result.{err_from_is_err_and}
use Rattle.bpf_cert.specs.View.{label_view}
use Rattle.bpf_cert.specs.Spelling.{lines_text, label_lines}
use Rattle.bpf_cert.proofs.WritingLemmas.{stops_first, then_puts}
use Rattle.bpf_cert.proofs.writing.put_function.Goals as goal

pub returns-in_err-put_bytes : goal.returns-in_err-put_bytes
returns-in_err-put_bytes g c =
    let p = err_from_is_err_and c.from_residual.result c.from_residual.ensures.1 in
    let labels = lines_text (flat_map label_lines (map label_view c.args.function.now.labels.items)) in
    rw p.1 (stops_first _ c.as_slice.result.now labels (ap (λ z. z ++ labels) (sym (c.as_slice.ensures.value ∙ c.function_text.ensures))) c.in_err-put_bytes.ensures)

pub returns : goal.returns
returns g c =
    let labels = lines_text (flat_map label_lines (map label_view c.args.function.now.labels.items)) in
    then_puts _ _ c.put_labels.result c.as_slice.result.now labels (ap (λ z. z ++ labels) (sym (c.as_slice.ensures.value ∙ c.function_text.ensures))) c.in_ok-put_bytes.ensures (rw (c.deref.ensures.value) at c.put_labels.ensures)
