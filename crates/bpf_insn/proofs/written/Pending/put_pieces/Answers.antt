use Rattle.std.proofs.Common.{◌≡◌, ℕ, [], ◌++◌, sym, ap, ◌∙◌, subst, refl, append_assoc, length, length-take, arith}
use Rattle.bpf_insn.specs.Written.{AppendsBeginning, Gathers}
use Rattle.bpf_insn.proofs.WriteLemmas.{gathers_nothing, gathers_more, gathers_sent, gathers_kept, waits_first, waits_later, on_err}
use Rattle.bpf_insn.proofs.written.Pending.put_pieces.Goals as goal

pub pieces-init : goal.pieces-init
pieces-init g c = record { taken = []; whole = refl; gathers = gathers_nothing _ c.args.self.now }

pub returns-in_err-flush-clause-err : goal.returns-in_err-flush-clause-err
returns-in_err-flush-clause-err g c =
    let begun : AppendsBeginning (g.W.Write.contents c.pieces.out) (g.W.Write.contents c.flush.new.out) (c.pieces.self ++ c.split_at.result.0.now) = subst (AppendsBeginning (g.W.Write.contents c.pieces.out) (g.W.Write.contents c.flush.new.out)) c.keep.ensures c.in_err-flush.ensures.err in
    let whole : c.args.bytes.now ≡ c.pieces.invariant.taken ++ (c.split_at.result.0.now ++ c.split_at.result.1.now) = c.pieces.invariant.whole ∙ ap (λ l. c.pieces.invariant.taken ++ l) c.split_at.ensures.by_index.0 in
    on_err c.from_residual.result (subst (λ l. AppendsBeginning (g.W.Write.contents c.args.out.now) (g.W.Write.contents c.flush.new.out) (c.args.self.now ++ l)) (sym whole)
    (waits_later _ _ _ _ c.pieces.self c.pieces.invariant.taken (c.split_at.result.0.now ++ c.split_at.result.1.now) c.pieces.invariant.gathers (waits_first _ _ _ _ c.split_at.result.1.now begun)))

pub pieces-smaller : goal.pieces-smaller
pieces-smaller g c = omega (arith, ap length c.in_ok-flush.ensures.none_waits, ap length c.self.view_is, length-take {A = ℕ})

pub pieces-preserved : goal.pieces-preserved
pieces-preserved g c = record {
  taken = c.pieces.invariant.taken ++ c.split_at.result.0.now;
  whole = c.pieces.invariant.whole ∙ ap (λ l. c.pieces.invariant.taken ++ l) c.split_at.ensures.by_index.0 ∙ sym (append_assoc c.pieces.invariant.taken c.split_at.result.0.now c.split_at.result.1.now);
  gathers = gathers_more _ _ _ _ c.pieces.self _ _ _ c.pieces.invariant.gathers (gathers_sent _ _ _ c.keep.new.self _ _ c.keep.ensures c.in_ok-flush.ensures.none_waits c.in_ok-flush.ensures.ok);
}

pub returns-clause-ok : goal.returns-clause-ok
returns-clause-ok g c =
    subst (Gathers (g.W.Write.contents c.args.out.now) (g.W.Write.contents c.pieces.out) c.args.self.now c.keep-2.new.self) (sym c.pieces.invariant.whole)
    (gathers_more _ _ _ _ c.pieces.self _ _ _ c.pieces.invariant.gathers (gathers_kept _ _ _ _ c.keep-2.ensures))
