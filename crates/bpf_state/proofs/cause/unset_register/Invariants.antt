use Rattle.std.proofs.Common.{◌≡◌, drop}
use Rattle.std.specs.Prelude.{find, filter_map}
use Rattle.bpf_insn.specs.Effects.{registers_read}
use Rattle.bpf_state.specs.State.{register}
use Rattle.bpf_state.specs.Fault.{is_any}
use Rattle.bpf_state.proofs.cause.unset_register.Given as goal

abbrev pub invariant-read : goal.invariant-read
invariant-read l = find (λ r. is_any (register l.state r)) (filter_map (λ r. r) (drop l.i l.read)) ≡ find (λ r. is_any (register l.state r)) (registers_read l.insn)
