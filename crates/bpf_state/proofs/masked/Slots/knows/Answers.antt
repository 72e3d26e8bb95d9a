use Rattle.std.proofs.Common.{◌∙◌, ap, arith}
use Rattle.std.specs.Prelude.{bit_and, ◌==◌}
use Rattle.bpf_state.proofs.MaskedLemmas.{known_by_mask}
use Rattle.bpf_state.proofs.masked.Slots.knows.Goals as goal

pub returns : goal.returns
returns c = ap (λ m. bit_and c.args.bytes m == c.args.bytes) c.mask.ensures ∙ known_by_mask c.args.bytes _ (omega arith)
