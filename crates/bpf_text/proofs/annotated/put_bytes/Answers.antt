use Rattle.std.proofs.Common.{◌++◌, subst}
use Rattle.bpf_insn.specs.Written.{AppendsBeginning, Gathers}
use Rattle.bpf_insn.proofs.WriteLemmas.{gathers_nothing}
use Rattle.bpf_text.specs.Annotated.{byte_text}
use Rattle.bpf_text.proofs.WriteLemmas.{put_more, began_more}
use Rattle.bpf_text.proofs.annotated.put_bytes.Goals as goal

pub loop-byte-init : goal.loop-byte-init
loop-byte-init g c = gathers_nothing _ c.args.pending.now

pub returns-in-Err-clause-err : goal.returns-in-Err-clause-err
returns-in-Err-clause-err g c =
    began_more _ _ _ _ c.loop-byte.pending byte_text c.args.bytes.now c.loop-byte.byte-index 0 c.loop-byte-test.true c.loop-byte.invariant
    (subst (λ t. AppendsBeginning (g.W.Write.contents c.loop-byte.out) (g.W.Write.contents c.put.new.out) (c.loop-byte.pending ++ t)) c.byte_text.ensures c.in-Err.ensures.err)

pub loop-byte-preserved : goal.loop-byte-preserved
loop-byte-preserved g c =
    put_more _ _ _ _ c.loop-byte.pending _ byte_text c.args.bytes.now c.loop-byte.byte-index 0 c.loop-byte-test.true c.loop-byte.invariant
    (subst (λ t. Gathers (g.W.Write.contents c.loop-byte.out) (g.W.Write.contents c.put.new.out) c.loop-byte.pending c.put.new.self t) c.byte_text.ensures c.in-Ok.ensures.ok)
