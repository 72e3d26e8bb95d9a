-- Reads one behind the other.
use Rattle.std.proofs.Common.{◌≡◌, ℕ, ◌+◌, ◌≤◌, List, ◌++◌, length, take, Option, Some, None, sym, ap, ◌∙◌, subst, length-append, arith}
use Rattle.std.proofs.Math.Seq.{take-append-add}
use Rattle.std.proofs.lemmas.List.{append_assoc, length-take-le, take-append-le}
use Rattle.std.specs.Io.KnownBytes.{Consumes}
use Rattle.bpf_captures.specs.Taken.{Passes}

pub joined : (old mid new : Option (List ℕ)) (xs ys : List ℕ) → Consumes old mid xs → Consumes mid new ys → Consumes old new (xs ++ ys)
joined None mid new xs ys a b = tt
joined (Some o) None new xs ys a b = absurd a
joined (Some o) (Some m) None xs ys a b = absurd b
joined (Some o) (Some m) (Some n) xs ys a b = a ∙ ap (λ z. xs ++ z) b ∙ sym (append_assoc xs ys n)

-- what stands in the room behind a read of n bytes to the place behind the first c
filled : (room buf : List ℕ) (c n : ℕ) → c ≤ length room → take (c + n) (take c room ++ buf) ≡ take c room ++ take n buf
filled room buf c n fits =
    let e : length (take c room) ≡ c = length-take-le c room fits in
    subst (λ k. take (k + n) (take c room ++ buf) ≡ take c room ++ take n buf) e (take-append-add (take c room) buf n)

-- bytes were read to the place behind the first c, and more stands behind them
pub more_put : (old mid new : Option (List ℕ)) (room buf post : List ℕ) (c n : ℕ) → c ≤ length room → n ≤ length buf → Consumes old mid (take c room) → Consumes mid new (take n buf)
    → Consumes old new (take (c + n) (take c room ++ (buf ++ post)))
more_put old mid new room buf post c n fits few a b =
    let same : take (c + n) (take c room ++ (buf ++ post)) ≡ take c room ++ take n buf = filled room (buf ++ post) c n fits ∙ ap (λ z. take c room ++ z) (take-append-le n buf post few) in
    subst (λ xs. Consumes old new xs) (sym same) (joined old mid new (take c room) (take n buf) a b)

-- so many more were passed over
pub passes_more : (old mid new : Option (List ℕ)) (room : List ℕ) (passed n : ℕ) → Passes old mid passed → n ≤ length room → Consumes mid new (take n room) → Passes old new (passed + n)
passes_more old mid new room passed n h fits took =
    let whole = length-append h.0 (take n room) in
    let before = h.2 in
    let more = length-take-le n room fits in
    (h.0 ++ take n room, joined old mid new h.0 (take n room) h.1 took, omega (arith, whole, before, more))
