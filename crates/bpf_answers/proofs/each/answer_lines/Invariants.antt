use Rattle.bpf_answers.proofs.LinesLemmas.{SoFar}
use Rattle.bpf_answers.proofs.each.answer_lines.Given as goal

abbrev pub invariant-answers : goal.invariant-answers
invariant-answers g l = SoFar (g.Q.Runner.says l.fn.runner) l.fn.lines l.lines (g.W.Write.contents l.fn.out) (g.W.Write.contents l.out) l.pending l.status l.before
