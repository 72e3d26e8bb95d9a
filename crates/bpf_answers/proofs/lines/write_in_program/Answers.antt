use Rattle.std.proofs.Common.{OnOk, [], ◌∷◌, ap, ◌∙◌}
use Rattle.std.specs.Prelude.{codes, decimal}
use Rattle.std.specs.Io.KnownBytes.{Appends}
use Rattle.std.specs.List.{concat}
use Rattle.bpf_answers.proofs.PiecesLemmas.{three}
use Rattle.bpf_answers.proofs.lines.write_in_program.Goals as goal

pub returns-clause-ok : goal.returns-clause-ok
returns-clause-ok g c =
    three
    (λ line number slot. OnOk c.write_pieces.result (Appends (g.W.Write.contents c.args.out.now) (g.W.Write.contents c.write_pieces.new.out)
    (concat (codes "no A6 at line " ∷ line ∷ codes " (E" ∷ number ∷ codes " at slot " ∷ slot ∷ codes ")\n" ∷ []))))
    _ _ _ _ _ _ c.format-line.ensures.text (c.format-number.ensures.text ∙ ap decimal c.number.ensures) (c.format-slot.ensures.text ∙ ap decimal c.slot.ensures)
    c.write_pieces.ensures.ok
