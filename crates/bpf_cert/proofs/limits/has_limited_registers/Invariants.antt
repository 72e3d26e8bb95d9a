use Rattle.std.proofs.Common.{◌≡◌, true, take}
use Rattle.std.specs.List.{list_all}
use Rattle.bpf_cert.specs.Limits as limits
use Rattle.bpf_cert.proofs.limits.has_limited_registers.Given as goal

abbrev pub invariant-loop-i : goal.invariant-loop-i
invariant-loop-i l = list_all limits.is_limited_register (take l.i l.state.registers) ≡ true
