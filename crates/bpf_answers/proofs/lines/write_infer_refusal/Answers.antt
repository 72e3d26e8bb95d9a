use Rattle.std.proofs.Common.{OnOk, ℕ, List, [], ◌∷◌, sym, subst}
use Rattle.std.specs.Prelude.{codes, decimal}
use Rattle.std.specs.Io.KnownBytes.{Appends}
use Rattle.std.specs.List.{concat}
use Rattle.bpf_answers.specs.Answer.{infer_refusal_line}
use Rattle.bpf_answers.proofs.lines.write_infer_refusal.Goals as goal

pub returns-in-Unstable-clause-ok : goal.returns-in-Unstable-clause-ok
returns-in-Unstable-clause-ok g c =
    let Writes : List ℕ → Type 0 = λ text. OnOk c.write_at.result (Appends (g.W.Write.contents c.args.out.now) (g.W.Write.contents c.write_at.new.out) text) in
    subst (λ e. Writes (infer_refusal_line e)) (sym c.in-Unstable.is) (subst (λ n. Writes (concat (codes "no I1 at slot " ∷ decimal n ∷ codes "\n" ∷ []))) c.from.ensures c.write_at.ensures.ok)

pub returns-in-NoBudget-clause-ok : goal.returns-in-NoBudget-clause-ok
returns-in-NoBudget-clause-ok g c =
    let Writes : List ℕ → Type 0 = λ text. OnOk c.write_at-in-NoBudget.result (Appends (g.W.Write.contents c.args.out.now) (g.W.Write.contents c.write_at-in-NoBudget.new.out) text) in
    subst (λ e. Writes (infer_refusal_line e)) (sym c.in-NoBudget.is) (subst (λ n. Writes (concat (codes "no I2 at slot " ∷ decimal n ∷ codes "\n" ∷ []))) c.from-in-NoBudget.ensures c.write_at-in-NoBudget.ensures.ok)

pub returns-in-Recursion-clause-ok : goal.returns-in-Recursion-clause-ok
returns-in-Recursion-clause-ok g c =
    let Writes : List ℕ → Type 0 = λ text. OnOk c.write_at-in-Recursion.result (Appends (g.W.Write.contents c.args.out.now) (g.W.Write.contents c.write_at-in-Recursion.new.out) text) in
    subst (λ e. Writes (infer_refusal_line e)) (sym c.in-Recursion.is) (subst (λ n. Writes (concat (codes "no I3 at slot " ∷ decimal n ∷ codes "\n" ∷ []))) c.from-in-Recursion.ensures c.write_at-in-Recursion.ensures.ok)

pub returns-in-Memory-clause-ok : goal.returns-in-Memory-clause-ok
returns-in-Memory-clause-ok g c =
    let Writes : List ℕ → Type 0 = λ text. OnOk c.write_bytes.result (Appends (g.W.Write.contents c.args.out.now) (g.W.Write.contents c.write_bytes.new.out) text) in
    subst (λ e. Writes (infer_refusal_line e)) (sym c.in-Memory.is) (subst Writes c.as_bytes.ensures.value c.write_bytes.ensures.ok)
