use Rattle.std.proofs.Common.{OnOk, [], ◌∷◌}
use Rattle.std.specs.Prelude.{codes, decimal}
use Rattle.std.specs.Io.KnownBytes.{Appends}
use Rattle.std.specs.List.{concat}
use Rattle.bpf_answers.specs.Answer.{turns_word}
use Rattle.bpf_answers.proofs.PiecesLemmas.{three}
use Rattle.bpf_answers.proofs.lines.write_followed.Goals as goal

pub returns-clause-ok : goal.returns-clause-ok
returns-clause-ok g c =
    let r = c.args.runs in
    let before = g.W.Write.contents c.args.out.now in
    let after = g.W.Write.contents c.write_pieces.new.out in
    three
    (λ word front count. OnOk c.write_pieces.result (Appends before after (concat (codes "yes length " ∷ decimal r.length ∷ codes " turns " ∷ turns_word c.args.turns ∷ codes " bound " ∷ decimal c.args.bound ∷ word ∷ front ∷ count ∷ codes "\n" ∷ []))))
    _ _ _ _ _ _ c.padded_word-word.ensures c.untouched_word-front.ensures c.untouched_number-count.ensures
    (three
    (λ length turns bound. OnOk c.write_pieces.result (Appends before after (concat (codes "yes length " ∷ length ∷ codes " turns " ∷ turns ∷ codes " bound " ∷ bound ∷ c.padded_word-word.result.now ∷ c.untouched_word-front.result.now ∷ c.untouched_number-count.result.now ∷ codes "\n" ∷ []))))
    _ _ _ _ _ _ c.format-length.ensures.text c.turns_word-turns.ensures c.format-bound.ensures.text c.write_pieces.ensures.ok)
