-- Numbers as a certificate's text writes them: in decimal digits, and a `-` before some signed ones.
use Rattle.std.specs.Prelude.{ℕ, suc, ◌+◌, ◌*◌, ◌-◌, Bool, true, false, not, ◌&&◌, List, [], ◌∷◌, ℤ, pos, negsuc, neg_ℤ, int_le, nat_le, ◌==◌, if◌then◌else◌, decimal}
use Rattle.std.specs.List.{list_all}

-- an ASCII digit
abbrev pub is_decimal_digit : ℕ → Bool
is_decimal_digit c = nat_le 48 c && nat_le c 57

-- one digit or more, and nothing else
abbrev pub is_numeral : List ℕ → Bool
is_numeral [] = false
is_numeral (d ∷ ds) = list_all is_decimal_digit (d ∷ ds)

-- the number that the digits write behind the number n
abbrev pub number_after : ℕ → List ℕ → ℕ
number_after n [] = n
number_after n (d ∷ ds) = number_after (n * 10 + (d - 48)) ds

abbrev pub number : List ℕ → ℕ
number ds = number_after 0 ds

-- no zero stands in front of another digit
abbrev pub is_plain : List ℕ → Bool
is_plain [] = true
is_plain (d ∷ []) = true
is_plain (d ∷ e ∷ ds) = not (d == 48)

-- digits, behind a `-` where there is one
pub record SignedDigits : Type 0 where
  pub minus : Bool
  pub digits : List ℕ

-- the number that they write
abbrev pub signed_number : SignedDigits → ℤ
signed_number s = if s.minus then neg_ℤ (pos (number s.digits)) else pos (number s.digits)

-- no needless zero, and no `-` before the number 0
abbrev pub is_plain_signed : SignedDigits → Bool
is_plain_signed s = is_plain s.digits && not (s.minus && (number s.digits == 0))

-- the one plain way to write a number is `decimal`, and this is that of a signed one
abbrev pub digits_of_int : ℤ → SignedDigits
digits_of_int (pos n) = record { minus = false; digits = decimal n }
digits_of_int (negsuc n) = record { minus = true; digits = decimal (suc n) }

-- a number from low up to high
abbrev pub is_from_to : ℕ → ℕ → ℕ → Bool
is_from_to low high n = nat_le low n && nat_le n high

abbrev pub int_eq : ℤ → ℤ → Bool
int_eq y z = int_le y z && int_le z y
