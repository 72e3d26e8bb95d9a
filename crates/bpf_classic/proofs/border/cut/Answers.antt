use Rattle.std.proofs.Common.{◌≡◌, ◌+◌, ◌-◌, ◌∷◌, true, length, get_or, take, drop, ap, sym, ◌∙◌, arith}
use Rattle.std.proofs.lemmas.Grind.{common_steps}
use Rattle.bpf_classic.specs.Text.{is_border, parts}
use Rattle.bpf_classic.proofs.PartLemmas.{parts_at, parts_none}
use Rattle.bpf_classic.proofs.border.cut.Goals as goal

pub returns-then-is_border-clause-split : goal.returns-then-is_border-clause-split
returns-then-is_border-clause-split c =
    let border = c.args.border in
    let text = c.args.text.now in
    let at = c.loop-at.at in
    let is : is_border border (get_or text at 0) ≡ true = sym c.is_border.ensures ∙ c.if-is_border.true in
    let rest : take (length text - (at + 1)) (drop (at + 1) text) ≡ drop (at + 1) text = grind (arith, common_steps) in
    parts_at border text at c.loop-at-test.true is c.loop-at.invariant ∙ ap (λ r. take at text ∷ parts border r) (sym rest)

pub returns-clause-split : goal.returns-clause-split
returns-clause-split c = parts_none c.args.border c.args.text.now (λ k lt. c.loop-at.invariant k (omega arith))
