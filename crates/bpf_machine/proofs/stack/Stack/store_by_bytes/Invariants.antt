use Rattle.std.proofs.Common.{◌≡◌, take}
use Rattle.bpf_insn.specs.Order.{bytes_of}
use Rattle.bpf_insn.specs.Instruction.{byte_count}
use Rattle.bpf_semantics.specs.Memory.{with_bytes}
use Rattle.bpf_machine.proofs.stack.Stack.store_by_bytes.Given as goal

abbrev pub invariant-loop-i : goal.invariant-loop-i
invariant-loop-i l = l.self ≡ with_bytes (take l.i (bytes_of l.fn.order (byte_count l.fn.size) l.x)) l.at l.fn.self
