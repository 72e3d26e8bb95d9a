-- What was read up to a limit.
use Rattle.std.proofs.Common.{◌≡◌, ◌<◌, ℕ, List, ◌++◌, length, length-append, Option, Some, None, IfSome, ap, sym, ◌∙◌, subst, append-nil, arith}
use Rattle.std.specs.Io.KnownBytes.{Consumes, IsAtEnd}

-- behind the last byte, all were taken
pub at_end : (known rest : Option (List ℕ)) (got : List ℕ) → Consumes known rest got → IsAtEnd rest → IfSome known (λ bytes. got ≡ bytes)
at_end None rest got took end = tt
at_end (Some xs) None got took end = absurd took
at_end (Some xs) (Some ys) got took end = sym (took ∙ ap (λ zs. got ++ zs) end ∙ append-nil got)

-- where so many were taken, there are as many
pub too_many : (known rest : Option (List ℕ)) (got : List ℕ) (n : ℕ) → Consumes known rest got → n < length got → IfSome known (λ text. n < length text)
too_many None rest got n took h = tt
too_many (Some xs) None got n took h = absurd took
too_many (Some xs) (Some ys) got n took h =
    let all = ap (λ zs. length zs) took ∙ length-append got ys in omega (arith, all, h)

pub some_is : {V : Type 0} (read : Option V) (v : V) (P : V → Type 0) → read ≡ Some v → IfSome read P → P v
some_is read v P is h = subst (λ r. IfSome r P) is h
