use Rattle.std.proofs.Common.{OnOk, [], ◌∷◌, subst}
use Rattle.std.specs.Prelude.{codes, decimal}
use Rattle.std.specs.Io.KnownBytes.{Appends}
use Rattle.std.specs.List.{concat}
use Rattle.bpf_answers.specs.Answer.{padded_word, turns_word, untouched_number, untouched_word}
use Rattle.bpf_answers.proofs.PiecesLemmas.{three}
use Rattle.bpf_answers.proofs.lines.write_rewritten.Goals as goal

pub returns-clause-ok : goal.returns-clause-ok
returns-clause-ok g c =
    let r = c.args.rewriting in
    let before = g.W.Write.contents c.args.out.now in
    let after = g.W.Write.contents c.write_pieces.new.out in
    subst
    (λ end. OnOk c.write_pieces.result (Appends before after (concat (codes "yes length " ∷ decimal c.args.length ∷ codes " bound " ∷ decimal c.args.bound ∷ codes " hardened turns " ∷ turns_word r.told ∷ padded_word r.padded ∷ untouched_word r.untouched ∷ untouched_number r.untouched ∷ end ∷ []))))
    c.proved_end-end.ensures
    (three
    (λ word front count. OnOk c.write_pieces.result (Appends before after (concat (codes "yes length " ∷ decimal c.args.length ∷ codes " bound " ∷ decimal c.args.bound ∷ codes " hardened turns " ∷ turns_word r.told ∷ word ∷ front ∷ count ∷ c.proved_end-end.result.now ∷ []))))
    _ _ _ _ _ _ c.padded_word-word.ensures c.untouched_word-front.ensures c.untouched_number-count.ensures
    (three
    (λ length bound turns. OnOk c.write_pieces.result (Appends before after (concat (codes "yes length " ∷ length ∷ codes " bound " ∷ bound ∷ codes " hardened turns " ∷ turns ∷ c.padded_word-word.result.now ∷ c.untouched_word-front.result.now ∷ c.untouched_number-count.result.now ∷ c.proved_end-end.result.now ∷ []))))
    _ _ _ _ _ _ c.format-length.ensures.text c.format-bound.ensures.text c.turns_word-turns.ensures c.write_pieces.ensures.ok))
