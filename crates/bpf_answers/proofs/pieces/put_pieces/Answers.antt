use Rattle.std.proofs.Common.{◌≡◌, ◌<◌, ◌++◌, length, get_or, take, ap, sym, ◌∙◌, subst, arith}
use Rattle.std.proofs.Math.Seq.{take-length}
use Rattle.bpf_insn.specs.Written.{AppendsBeginning, Gathers}
use Rattle.bpf_insn.proofs.WriteLemmas.{gathers_nothing, on_err}
use Rattle.bpf_text.proofs.WriteLemmas.{put_more, began_more}
use Rattle.bpf_answers.specs.Pieces.{pieces_text, text_in}
use Rattle.bpf_answers.proofs.PiecesLemmas.{piece_at}
use Rattle.bpf_answers.proofs.pieces.put_pieces.Goals as goal

pub pieces-init : goal.pieces-init
pieces-init g c = gathers_nothing _ _

pub returns-in_err-put-clause-err : goal.returns-in_err-put-clause-err
returns-in_err-put-clause-err g c =
    let xs = c.args.pieces.now in
    let i = c.pieces.piece-index in
    let inside : i < length xs = omega arith in
    let at = piece_at xs i inside in
    let here : c.as_bytes.result.now ≡ text_in (get_or xs i at.0) = c.as_bytes.ensures.value ∙ ap text_in (at.1 _) ∙ ap text_in (sym (at.1 at.0)) in
    on_err c.from_residual.result (began_more _ _ _ c.args.pending.now c.pieces.pending text_in xs i at.0 inside c.pieces.invariant
    (subst (λ t. AppendsBeginning (g.W.Write.contents c.pieces.out) (g.W.Write.contents c.put.new.out) (c.pieces.pending ++ t)) here c.in_err-put.ensures.err))

pub pieces-preserved : goal.pieces-preserved
pieces-preserved g c =
    let xs = c.args.pieces.now in
    let i = c.pieces.piece-index in
    let inside : i < length xs = omega arith in
    let at = piece_at xs i inside in
    let here : c.as_bytes.result.now ≡ text_in (get_or xs i at.0) = c.as_bytes.ensures.value ∙ ap text_in (at.1 _) ∙ ap text_in (sym (at.1 at.0)) in
    put_more _ _ _ c.args.pending.now c.pieces.pending c.put.new.self text_in xs i at.0 inside c.pieces.invariant
    (subst (λ t. Gathers (g.W.Write.contents c.pieces.out) (g.W.Write.contents c.put.new.out) c.pieces.pending c.put.new.self t) here c.in_ok-put.ensures.ok)

pub returns-clause-ok : goal.returns-clause-ok
returns-clause-ok g c =
    let end : c.pieces.piece-index ≡ length c.args.pieces.now = omega arith in
    subst (λ t. Gathers (g.W.Write.contents c.args.out.now) (g.W.Write.contents c.pieces.out) c.args.pending.now c.pieces.pending (pieces_text t)) (ap (λ n. take n c.args.pieces.now) end ∙ take-length c.args.pieces.now) c.pieces.invariant
