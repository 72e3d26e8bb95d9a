use Rattle.std.proofs.Common.{take, flat_map}
use Rattle.bpf_insn.specs.Written.{Gathers}
use Rattle.bpf_text.specs.Annotated.{byte_text}
use Rattle.bpf_text.proofs.annotated.put_bytes.Given as goal

abbrev pub invariant-loop-byte : goal.invariant-loop-byte
invariant-loop-byte g l = Gathers (g.W.Write.contents l.fn.out) (g.W.Write.contents l.out) l.fn.pending l.pending (flat_map byte_text (take l.byte-index l.bytes))
