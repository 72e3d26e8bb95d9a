-- The parts of instructions looked up by the word in front of a text, which is read once, or by its first character.
use Rattle.std.specs.Prelude.{ℕ, Bool, true, false, List, [], ◌∷◌, Option, Some, None, option_map, ◌==◌, ◌&&◌, if◌then◌else◌}
use Rattle.std.specs.Str.{bytes_eq}
use Rattle.bpf_insn.specs.declared.instruction.Reg.{Reg}
use Rattle.bpf_insn.specs.declared.instruction.Reg.TheVariants.{R0, R1, R2, R3, R4, R5, R6, R7, R8, R9, R10}
use Rattle.bpf_insn.specs.declared.instruction.Width.{Width}
use Rattle.bpf_insn.specs.declared.instruction.Width.TheVariants.{W32, W64}
use Rattle.bpf_text.specs.declared.spelling.Register.{Register}
use Rattle.bpf_text.specs.Parts.{register}
use Rattle.bpf_text.specs.code.WordReading.{Read, ◌>>=◌, word_in}

-- the first of these things that a word spells
abbrev pub first_named : {A : Type 0} → (A → List ℕ) → List A → List ℕ → Option A
first_named spelling [] w = None
first_named spelling (x ∷ xs) w = if bytes_eq w (spelling x) then Some x else first_named spelling xs w

-- what the word in front names, and what stands behind it
abbrev pub by_word : {A : Type 0} → (List ℕ → Option A) → List ℕ → Read A
by_word find text = word_in text >>= λ w. option_map (λ x. (x, w.1)) (find w.0)

-- whether a spelling may stand in front of a text without blanks in front, by their first characters
abbrev pub may_begin : List ℕ → List ℕ → Bool
may_begin [] text = true
may_begin (s ∷ ss) [] = false
may_begin (s ∷ ss) (c ∷ cs) = s == c

-- those of these things whose spelling begins with a character
abbrev pub begun : {A : Type 0} → (A → List ℕ) → ℕ → List A → List A
begun spelling c [] = []
begun spelling c (x ∷ xs) = if may_begin (spelling x) (c ∷ []) then x ∷ begun spelling c xs else begun spelling c xs

-- ---- registers: 114 is `r` and 119 `w`, 48 to 57 are the digits

abbrev pub width_named : ℕ → Option Width
width_named c = if c == 114 then Some W64 else if c == 119 then Some W32 else None

abbrev pub digit_named : ℕ → Option Reg
digit_named d =
    if d == 48 then Some R0
    else if d == 49 then Some R1
    else if d == 50 then Some R2
    else if d == 51 then Some R3
    else if d == 52 then Some R4
    else if d == 53 then Some R5
    else if d == 54 then Some R6
    else if d == 55 then Some R7
    else if d == 56 then Some R8
    else if d == 57 then Some R9
    else None

abbrev pub number_named : List ℕ → Option Reg
number_named (d ∷ []) = digit_named d
number_named (d ∷ e ∷ []) = if (d == 49) && (e == 48) then Some R10 else None
number_named _ = None

abbrev pub register_named : List ℕ → Option Register
register_named [] = None
register_named (c ∷ digits) = width_named c >>= λ width. option_map (register width) (number_named digits)
