-- The characters of a text, and which words are names.
use Rattle.std.specs.Prelude.{ℕ, Bool, false, ◌&&◌, ◌||◌, List, [], ◌∷◌, length, nat_le, nat_lt, ◌==◌, not}

abbrev pub is_between : ℕ → ℕ → ℕ → Bool
is_between low high c = nat_le low c && nat_le c high

abbrev pub is_digit : ℕ → Bool
is_digit c = is_between 48 57 c

-- A to Z and a to z
abbrev pub is_letter : ℕ → Bool
is_letter c = is_between 65 90 c || is_between 97 122 c

-- 95 is the underscore
abbrev pub is_word_part : ℕ → Bool
is_word_part c = is_letter c || is_digit c || (c == 95)

-- space, tab and carriage return
abbrev pub is_blank : ℕ → Bool
is_blank c = (c == 32) || (c == 9) || (c == 13)

-- 1 to 64 word parts, with no digit in front
abbrev pub is_name : List ℕ → Bool
is_name [] = false
is_name (c ∷ cs) = not (is_digit c) && nat_lt (length cs) 64
