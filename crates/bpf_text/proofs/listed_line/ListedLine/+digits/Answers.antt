use Rattle.std.proofs.Common.{[], ◌∷◌, arith, subst}
use Rattle.bpf_text.specs.code.Puts.{Puts}
use Rattle.bpf_text.proofs.HexLemmas.{puts_digit, puts_digits}
use Rattle.bpf_text.proofs.listed_line.ListedLine.+digits.Goals as goal

pub returns-then-value-ge16 : goal.returns-then-value-ge16
returns-then-value-ge16 t c = puts_digits _ _ _ _ c.if-value-ge16.true c.ranges.value.fits c.digits.ensures
    (subst (λ d. Puts c.digits.new.self (d ∷ []) c.put.new.self) c.glyph.ensures c.put.ensures)

pub returns-else-value-ge16 : goal.returns-else-value-ge16
returns-else-value-ge16 t c = puts_digit _ _ _ (omega (arith, c.if-value-ge16.false))
    (subst (λ d. Puts c.args.self.now (d ∷ []) c.put-else-value-ge16.new.self) c.glyph-else-value-ge16.ensures c.put-else-value-ge16.ensures)
