use Rattle.std.proofs.Common.{◌≡◌, drop}
use Rattle.bpf_state.specs.Entails.{all_pairs, slot_entails}
use Rattle.bpf_state.proofs.entailment.slots_entail.Given as goal

abbrev pub invariant-loop-i : goal.invariant-loop-i
invariant-loop-i l = all_pairs slot_entails (drop l.i l.slots) (drop l.i l.others) ≡ all_pairs slot_entails l.slots l.others
