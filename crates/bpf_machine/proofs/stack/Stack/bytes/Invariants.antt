use Rattle.std.proofs.Common.{◌≡◌, ℕ, ◌<◌, ◌+◌, Some, get_or, length}
use Rattle.bpf_semantics.specs.State.{cell}
use Rattle.bpf_semantics.specs.State.Cell.{Byte}
use Rattle.bpf_machine.proofs.stack.Stack.bytes.Given as goal

abbrev pub invariant-loop-i : goal.invariant-loop-i
invariant-loop-i l = record {
  eight : length l.bytes ≡ 8;
  found : (k : ℕ) → k < l.i → cell l.self (l.at + k) ≡ Some (Byte (get_or l.bytes k 0));
}
