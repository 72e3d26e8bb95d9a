use Rattle.std.proofs.Common.{take}
use Rattle.bpf_insn.specs.Written.{Gathers}
use Rattle.bpf_answers.specs.Pieces.{pieces_text}
use Rattle.bpf_answers.proofs.pieces.put_pieces.Given as goal

abbrev pub invariant-pieces : goal.invariant-pieces
invariant-pieces g l = Gathers (g.W.Write.contents l.fn.out) (g.W.Write.contents l.out) l.fn.pending l.pending (pieces_text (take l.piece-index l.fn.pieces))
