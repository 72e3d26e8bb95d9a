-- Words at the front of a text.
use Rattle.std.specs.Prelude.{ℕ, List, [], ◌∷◌, Option, Some, None, ◌==◌, if◌then◌else◌}

-- what stands behind the word
unfoldable pub behind : List ℕ → List ℕ → Option (List ℕ)
behind [] text = Some text
behind (c ∷ word) [] = None
behind (c ∷ word) (x ∷ text) = if x == c then behind word text else None
