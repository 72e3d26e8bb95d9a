use Rattle.std.proofs.Common.{drop}
use Rattle.bpf_cert.specs.Spelling.{lines_text, lines_from, contents}
use Rattle.bpf_cert.proofs.WritingLemmas.{Left}
use Rattle.bpf_cert.proofs.writing.put_entries.Given as goal

abbrev pub invariant-loop-j : goal.invariant-loop-j
invariant-loop-j g l = Left (g.W.Write.contents l.fn.out) (g.W.Write.contents l.out) l.fn.pending l.pending (lines_text (lines_from 0 (contents l.state))) (lines_text (lines_from l.j (drop l.j (contents l.state))))
