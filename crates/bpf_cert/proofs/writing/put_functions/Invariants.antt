use Rattle.std.proofs.Common.{drop, map}
use Rattle.std.specs.Prelude.{flat_map}
use Rattle.bpf_cert.specs.View.{function_view}
use Rattle.bpf_cert.specs.Spelling.{lines_text, function_lines}
use Rattle.bpf_cert.proofs.WritingLemmas.{Left}
use Rattle.bpf_cert.proofs.writing.put_functions.Given as goal

abbrev pub invariant-loop-function : goal.invariant-loop-function
invariant-loop-function g l = Left (g.W.Write.contents l.fn.out) (g.W.Write.contents l.out) l.fn.pending l.pending (lines_text (flat_map function_lines (map function_view l.functions))) (lines_text (flat_map function_lines (map function_view (drop l.function-index l.functions))))
