use Rattle.std.proofs.Common.{◌≡◌, drop}
use Rattle.bpf_state.specs.Entails.{all_pairs, register_entails}
use Rattle.bpf_state.proofs.entailment.registers_entail.Given as goal

abbrev pub invariant-loop-i : goal.invariant-loop-i
invariant-loop-i l = all_pairs register_entails (drop l.i l.registers) (drop l.i l.others) ≡ all_pairs register_entails l.registers l.others
