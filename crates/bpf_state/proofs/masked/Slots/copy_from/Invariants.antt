use Rattle.std.proofs.Common.{◌≡◌, length}
use Rattle.bpf_state.proofs.MaskedLemmas.{SameTo}
use Rattle.bpf_state.proofs.masked.Slots.copy_from.Given as goal

abbrev pub invariant-loop-i : goal.invariant-loop-i
invariant-loop-i l = record {
  masks : l.self-inside.masks ≡ l.other-inside.masks;
  mask_count : length l.self-inside.masks ≡ 64;
  whole_count : length l.self-inside.wholes ≡ 64;
  same : SameTo l.i l.other-inside.masks l.self-inside.wholes l.other-inside.wholes;
}
