use Rattle.std.proofs.Common.{◌∙◌}
use Rattle.bpf_insn.specs.declared.instruction.Size.TheVariants.{B, H, W, DW}
use Rattle.bpf_state.proofs.MemoryLemmas.{any_number_is}
use Rattle.bpf_state.proofs.transfers.load.any_number.Goals as goal
use Rattle.bpf_state.proofs.transfers.load.any_number.Goals.{in-B, in-H, in-W, in-DW}

pub returns : goal.returns
returns c = elim c.match-size.branch [
  | in-B w ↦ any_number_is c.args.size B _ _ _ _ _ c.tighten.ensures.exact c.of.ensures c.top.ensures (w.unsigned-is ∙ w.new-unsigned.ensures) c.top-2.ensures w.in-B.is
  | in-H w ↦ any_number_is c.args.size H _ _ _ _ _ c.tighten.ensures.exact c.of.ensures c.top.ensures (w.unsigned-is ∙ w.new-unsigned-in-H.ensures) c.top-2.ensures w.in-H.is
  | in-W w ↦ any_number_is c.args.size W _ _ _ _ _ c.tighten.ensures.exact c.of.ensures c.top.ensures (w.unsigned-is ∙ w.new-unsigned-in-W.ensures) c.top-2.ensures w.in-W.is
  | in-DW w ↦ any_number_is c.args.size DW _ _ _ _ _ c.tighten.ensures.exact c.of.ensures c.top.ensures (w.unsigned-is ∙ w.new-unsigned-in-DW.ensures) c.top-2.ensures w.in-DW.is
]
