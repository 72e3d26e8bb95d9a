use Rattle.std.proofs.Common.{◌≡◌}
use Rattle.bpf_state.specs.State.{blank}
use Rattle.bpf_state.proofs.MixLemmas.{mix}
use Rattle.bpf_state.proofs.entries.put_registers.Given as goal

abbrev pub invariant-loop-i : goal.invariant-loop-i
invariant-loop-i l = l.entries ≡ record blank { registers = mix l.i l.state.registers blank.registers }
