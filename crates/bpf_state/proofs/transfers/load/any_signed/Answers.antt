use Rattle.std.proofs.Common.{◌∙◌}
use Rattle.bpf_insn.specs.declared.instruction.Size.TheVariants.{B, H, W, DW}
use Rattle.bpf_state.proofs.MemoryLemmas.{any_signed_is}
use Rattle.bpf_state.proofs.transfers.load.any_signed.Goals as goal
use Rattle.bpf_state.proofs.transfers.load.any_signed.Goals.{in-B, in-H, in-W, in-DW}

pub returns : goal.returns
returns c = elim c.match-size.branch [
  | in-B w ↦ any_signed_is c.args.size B _ _ _ _ _ c.tighten.ensures.exact c.of.ensures c.top.ensures c.top-2.ensures (w.signed-is ∙ w.new-signed.ensures) w.in-B.is
  | in-H w ↦ any_signed_is c.args.size H _ _ _ _ _ c.tighten.ensures.exact c.of.ensures c.top.ensures c.top-2.ensures (w.signed-is ∙ w.new-signed-in-H.ensures) w.in-H.is
  | in-W w ↦ any_signed_is c.args.size W _ _ _ _ _ c.tighten.ensures.exact c.of.ensures c.top.ensures c.top-2.ensures (w.signed-is ∙ w.new-signed-in-W.ensures) w.in-W.is
  | in-DW w ↦ any_signed_is c.args.size DW _ _ _ _ _ c.tighten.ensures.exact c.of.ensures c.top.ensures c.top-2.ensures (w.signed-is ∙ w.new-signed-in-DW.ensures) w.in-DW.is
]
