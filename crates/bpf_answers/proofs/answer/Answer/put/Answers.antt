use Rattle.std.proofs.Common.{◌++◌, [], refl, rules}
use Rattle.std.proofs.KnownBytes.{Appends-trans}
use Rattle.bpf_insn.proofs.WriteLemmas.{gathers_sent, on_err, on_err_map, on_ok_map, waits_later}
use Rattle.bpf_answers.specs.Answer.{text_of}
use Rattle.bpf_answers.proofs.PiecesLemmas.{begins_longer}
use Rattle.bpf_answers.proofs.answer.Answer.put.Goals as goal

pub returns-in_err-flush-in_default : goal.returns-in_err-flush-in_default
returns-in_err-flush-in_default g c = record {
  ok = search rules;
  err = on_err c.from_residual.result (begins_longer (g.W.Write.contents c.args.out.now) (g.W.Write.contents c.flush.new.out) c.args.pending.now (text_of c.args.self.now) c.in_err-flush-in_default.ensures.err);
}

pub returns-in_ok-flush-in_default : goal.returns-in_ok-flush-in_default
returns-in_ok-flush-in_default g c =
    let before = g.W.Write.contents c.args.out.now in
    let mid = g.W.Write.contents c.flush.new.out in
    let after = g.W.Write.contents c.write.new.out in
    let waits = c.args.pending.now in
    let text = text_of c.args.self.now in
    let gone = c.in_ok-flush-in_default.ensures in
    record {
      ok = on_ok_map c.write.result (λ h. gathers_sent before after waits (waits ++ text) c.flush.new.self text refl gone.none_waits (Appends-trans before mid after waits text gone.ok h)) c.write.ensures.ok;
      err = on_err_map c.write.result (λ h. waits_later before mid after waits [] [] text (record { sent = waits; parts = refl; appends = gone.ok }) h) c.write.ensures.err;
    }
