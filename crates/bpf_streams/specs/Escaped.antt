-- Text of others as a terminal is shown it: a control character is told by its bytes, and not done.
use Rattle.std.specs.Prelude.{ℕ, ◌+◌, ◌/◌, ◌%◌, Bool, not, ◌&&◌, ◌||◌, ◌==◌, nat_lt, nat_le, List, [], ◌∷◌, ◌++◌, if◌then◌else◌}

-- a digit of a hexadecimal number
abbrev pub hex_digit : ℕ → ℕ
hex_digit d = if nat_lt d 10 then 48 + d else 87 + d

-- `\x1b`
abbrev pub code : ℕ → List ℕ
code b = 92 ∷ 120 ∷ hex_digit (b / 16) ∷ hex_digit (b % 16) ∷ []

-- U+0000 to U+001F and U+007F; a tab and the end of a line are none where text has them of its own
abbrev pub is_low_control : Bool → ℕ → Bool
is_low_control layout b = (nat_lt b 32 || (b == 127)) && not (layout && ((b == 9) || (b == 10)))

-- U+0080 to U+009F, two bytes of UTF-8
abbrev pub is_high_control : ℕ → ℕ → Bool
is_high_control b c = (b == 194) && (nat_le 128 c && nat_lt c 160)

-- whether a byte, between two others, is part of a control character
abbrev pub is_control : Bool → ℕ → ℕ → ℕ → Bool
is_control layout before b after = is_low_control layout b || (is_high_control b after || is_high_control before b)

abbrev pub first_or : ℕ → List ℕ → ℕ
first_or d [] = d
first_or d (b ∷ bs) = b

abbrev pub shown : Bool → ℕ → List ℕ
shown control b = if control then code b else b ∷ []

-- bytes behind another one
abbrev pub escaped_behind : Bool → ℕ → List ℕ → List ℕ
escaped_behind layout before [] = []
escaped_behind layout before (b ∷ bs) = shown (is_control layout before b (first_or 0 bs)) b ++ escaped_behind layout b bs

abbrev pub escaped : Bool → List ℕ → List ℕ
escaped layout bytes = escaped_behind layout 0 bytes
