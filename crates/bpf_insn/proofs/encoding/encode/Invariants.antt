use Rattle.std.proofs.Common.{[]}
use Rattle.bpf_insn.specs.Written.{Gathers}
use Rattle.bpf_insn.specs.Image.{image}
use Rattle.bpf_insn.proofs.LayoutLemmas.{insns_below}
use Rattle.bpf_insn.proofs.encoding.encode.Given as goal

abbrev pub invariant-loop-slot : goal.invariant-loop-slot
invariant-loop-slot g l = Gathers (g.W.Write.contents l.fn.out) (g.W.Write.contents l.out) [] l.pending (image (g.C.Code.program l.code).order (insns_below l.slot (g.C.Code.program l.code).list))
