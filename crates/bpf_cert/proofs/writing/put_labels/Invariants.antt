use Rattle.std.proofs.Common.{drop, map}
use Rattle.std.specs.Prelude.{flat_map}
use Rattle.bpf_cert.specs.View.{label_view}
use Rattle.bpf_cert.specs.Spelling.{lines_text, label_lines}
use Rattle.bpf_cert.proofs.WritingLemmas.{Left}
use Rattle.bpf_cert.proofs.writing.put_labels.Given as goal

abbrev pub invariant-loop-label : goal.invariant-loop-label
invariant-loop-label g l = Left (g.W.Write.contents l.fn.out) (g.W.Write.contents l.out) l.fn.pending l.pending (lines_text (flat_map label_lines (map label_view l.labels))) (lines_text (flat_map label_lines (map label_view (drop l.label-index l.labels))))
