-- What the code tries first, and then.
use Rattle.std.proofs.Common.{◌≡◌, Bool, false, sym, ap, ◌∙◌}
use Rattle.std.specs.Prelude.{◌||◌}

-- a test that fails leaves the other one
pub or_else : (a b c r : Bool) → a ≡ c → a ≡ false → r ≡ b → r ≡ (c || b)
or_else a b c r is none e = e ∙ ap (λ x. x || b) (sym none ∙ is)
