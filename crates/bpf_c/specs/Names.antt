-- Names of functions of C (C11, 6.4.2.1).
use Rattle.std.specs.Prelude.{ℕ, List, [], ◌∷◌, Bool, false, ◌&&◌, ◌||◌, not, nat_eq, nat_le, nat_lt, length}
use Rattle.std.specs.List.{list_all, list_any}
use Rattle.std.specs.Str.{bytes_eq}
use Rattle.bpf_c.specs.declared.name.TheConstants.{MAX_NAME, TAKEN}

-- `A` to `Z`, `a` to `z`
abbrev pub is_letter : ℕ → Bool
is_letter c = (nat_le 65 c && nat_le c 90) || (nat_le 97 c && nat_le c 122)

-- a letter, a digit or `_`
abbrev pub is_later : ℕ → Bool
is_later c = is_letter c || (nat_le 48 c && nat_le c 57) || nat_eq c 95

abbrev pub all_later : List ℕ → Bool
all_later cs = list_all is_later cs

-- a word that names no function: a keyword, or `main`
abbrev pub is_taken : List ℕ → Bool
is_taken name = list_any (λ word. bytes_eq word.now name) TAKEN

-- a letter, fewer letters, digits and `_` behind it than a name is long at most, and all not taken
abbrev pub is_name : List ℕ → Bool
is_name [] = false
is_name (c ∷ cs) = is_letter c && all_later cs && nat_lt (length cs) MAX_NAME && not (is_taken (c ∷ cs))
