-- Byte masks that cover others.
use Rattle.std.specs.Prelude.{◌≡◌, ◌-◌, ◌<◌, ℕ, List, get_or, bit_and}

-- each bit of the 64 wanted masks is one of the masks that there are
abbrev pub Covers : List ℕ → List ℕ → Type 0
Covers have want = (i : ℕ) → i < 64 → bit_and (get_or want i 0) (255 - get_or have i 0) ≡ 0
