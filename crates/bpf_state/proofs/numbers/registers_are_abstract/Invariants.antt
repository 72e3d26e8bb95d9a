use Rattle.std.proofs.Common.{ℕ, ◌<◌, get_or}
use Rattle.bpf_state.specs.declared.known.RegState.TheVariants.{Any}
use Rattle.bpf_state.specs.State.{IsAbstractRegister}
use Rattle.bpf_state.proofs.numbers.registers_are_abstract.Given as goal

abbrev pub invariant-loop-i : goal.invariant-loop-i
invariant-loop-i l = (k : ℕ) → k < l.i → IsAbstractRegister (get_or l.registers k Any)
