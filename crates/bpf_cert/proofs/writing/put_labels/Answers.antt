use Rattle.std.proofs.Common.{◌+◌, map, drop}
use Rattle.std.specs.Prelude.{flat_map}
use Rattle.std.proofs.lemmas.Result.{err_from_is_err_and}
use Rattle.bpf_cert.specs.View.{label_view}
use Rattle.bpf_cert.specs.Spelling.{lines_text, label_lines}
use Rattle.bpf_cert.proofs.WritingLemmas.{left_step, left_stop, next_lines}
use Rattle.bpf_cert.proofs.writing.put_labels.Goals as goal

pub returns-in_err-put_label : goal.returns-in_err-put_label
returns-in_err-put_label g c = let p = err_from_is_err_and c.from_residual.result c.from_residual.ensures.1 in rw p.1
    (left_stop (lines_text (label_lines (label_view c.label-item.result))) (lines_text (flat_map label_lines (map label_view (drop (c.loop-label.label-index + 1) c.args.labels.now)))) (next_lines label_lines label_view c.args.labels.now c.loop-label.label-index c.label-item.result c.loop-label-test.true c.label-item.is) c.loop-label.invariant c.in_err-put_label.ensures)

pub loop-label-preserved : goal.loop-label-preserved
loop-label-preserved g c = left_step (lines_text (label_lines (label_view c.label-item.result))) (lines_text (flat_map label_lines (map label_view (drop (c.loop-label.label-index + 1) c.args.labels.now)))) (next_lines label_lines label_view c.args.labels.now c.loop-label.label-index c.label-item.result c.loop-label-test.true c.label-item.is) c.loop-label.invariant c.in_ok-put_label.ensures
