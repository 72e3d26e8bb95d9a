-- Texts, one behind the other.
use Rattle.std.specs.Prelude.{ℕ, List, flat_map}
use Rattle.std.specs.Borrow.{Bor}

abbrev pub text_in : Bor (List ℕ) → List ℕ
text_in piece = piece.now

abbrev pub pieces_text : List (Bor (List ℕ)) → List ℕ
pieces_text pieces = flat_map text_in pieces
