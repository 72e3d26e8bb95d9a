use Rattle.std.proofs.Common.{[]}
use Rattle.bpf_insn.specs.Written.{Gathers}
use Rattle.bpf_insn.proofs.LayoutLemmas.{insns_below}
use Rattle.bpf_text.specs.Annotated.{annotated}
use Rattle.bpf_text.proofs.annotated.annotate.Given as goal

abbrev pub invariant-loop-slot : goal.invariant-loop-slot
invariant-loop-slot g l = Gathers (g.W.Write.contents l.fn.out) (g.W.Write.contents l.out) [] l.pending (annotated l.notes (g.C.Code.program l.program).order (insns_below l.slot (g.C.Code.program l.program).list))
