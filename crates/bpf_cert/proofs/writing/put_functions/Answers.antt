use Rattle.std.proofs.Common.{◌+◌, map, drop}
use Rattle.std.specs.Prelude.{flat_map}
use Rattle.std.proofs.lemmas.Result.{err_from_is_err_and}
use Rattle.bpf_cert.specs.View.{function_view}
use Rattle.bpf_cert.specs.Spelling.{lines_text, function_lines}
use Rattle.bpf_cert.proofs.WritingLemmas.{left_step, left_stop, next_lines}
use Rattle.bpf_cert.proofs.writing.put_functions.Goals as goal

pub returns-in_err-put_function : goal.returns-in_err-put_function
returns-in_err-put_function g c = let p = err_from_is_err_and c.from_residual.result c.from_residual.ensures.1 in rw p.1
    (left_stop (lines_text (function_lines (function_view c.function-item.result))) (lines_text (flat_map function_lines (map function_view (drop (c.loop-function.function-index + 1) c.args.functions.now)))) (next_lines function_lines function_view c.args.functions.now c.loop-function.function-index c.function-item.result c.loop-function-test.true c.function-item.is) c.loop-function.invariant c.in_err-put_function.ensures)

pub loop-function-preserved : goal.loop-function-preserved
loop-function-preserved g c = left_step (lines_text (function_lines (function_view c.function-item.result))) (lines_text (flat_map function_lines (map function_view (drop (c.loop-function.function-index + 1) c.args.functions.now)))) (next_lines function_lines function_view c.args.functions.now c.loop-function.function-index c.function-item.result c.loop-function-test.true c.function-item.is) c.loop-function.invariant c.in_ok-put_function.ensures
