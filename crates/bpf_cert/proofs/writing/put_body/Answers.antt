use Rattle.std.proofs.Common.{[], ◌∷◌, map}
use Rattle.std.specs.Prelude.{flat_map}
use Rattle.std.proofs.lemmas.Grind.{flat_map-append}
use Rattle.std.proofs.lemmas.Result.{err_from_is_err_and}
use Rattle.bpf_cert.specs.View.{function_view}
use Rattle.bpf_cert.specs.Line.{Line}
use Rattle.bpf_cert.specs.Spelling.{line_with_end, lines_text, function_lines}
use Rattle.bpf_cert.proofs.WritingLemmas.{stops_first, then_puts}
use Rattle.bpf_cert.proofs.writing.put_body.Goals as goal

pub returns-in_err-put_functions : goal.returns-in_err-put_functions
returns-in_err-put_functions g c =
    let p = err_from_is_err_and c.from_residual.result c.from_residual.ensures.1 in
    let lines = flat_map function_lines (map function_view c.args.functions.now) in
    rw p.1 (stops_first _ (lines_text lines) (lines_text (Line.end ∷ [])) (flat_map-append line_with_end lines (Line.end ∷ [])) c.in_err-put_functions.ensures)

pub returns : goal.returns
returns g c =
    let lines = flat_map function_lines (map function_view c.args.functions.now) in
    then_puts _ _ c.put_bytes.result (lines_text lines) (lines_text (Line.end ∷ [])) (flat_map-append line_with_end lines (Line.end ∷ [])) c.in_ok-put_functions.ensures c.put_bytes.ensures
