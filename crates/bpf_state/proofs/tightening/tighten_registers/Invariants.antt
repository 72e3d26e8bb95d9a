use Rattle.std.proofs.Common.{◌≡◌, length}
use Rattle.std.specs.Prelude.{All}
use Rattle.bpf_state.specs.State.{each_if, tightened_register, IsRegister}
use Rattle.bpf_state.proofs.ListLemmas.{done_to}
use Rattle.bpf_state.proofs.tightening.tighten_registers.Given as goal

abbrev pub invariant-loop-i : goal.invariant-loop-i
invariant-loop-i l = (done_to tightened_register l.i l.registers ≡ each_if tightened_register l.initial.registers) × All IsRegister l.registers × (length l.registers ≡ 11)
