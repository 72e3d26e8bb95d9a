use Rattle.std.proofs.Common.{[], take, flat_map}
use Rattle.bpf_insn.specs.Written.{Gathers}
use Rattle.bpf_insn.specs.Instruction.{layout}
use Rattle.bpf_text.proofs.ListingLemmas.{cell_text}
use Rattle.bpf_text.proofs.lister.list.Given as goal

abbrev pub invariant-loop-slot : goal.invariant-loop-slot
invariant-loop-slot g l = Gathers (g.W.Write.contents l.fn.out) (g.W.Write.contents l.out) [] l.pending (flat_map cell_text (take l.slot (layout l.program.list)))
