-- What is looked up by a word or by a first character is what is found one after another.
use Rattle.std.proofs.Common.{◌≡◌, ℕ, Bool, true, false, List, [], ◌∷◌, Option, Some, None, refl, ap, sym, ◌∙◌, map, rules, drop, get_or, length, ◌<◌, arith}
use Rattle.std.specs.Prelude.{option_map, option_and_then, ◌==◌, ◌&&◌, if◌then◌else◌}
use Rattle.std.specs.Str.{bytes_eq}
use Rattle.std.proofs.lemmas.Slice.Eq.{bytes_eq-Decides}
use Rattle.std.proofs.lemmas.Bool.Decides.{Decides-eqb, nat_tests}
use Rattle.bpf_insn.specs.declared.instruction.Reg.{Reg}
use Rattle.bpf_insn.specs.declared.instruction.Reg.TheVariants.{R0, R1, R2, R3, R4, R5, R6, R7, R8, R9, R10}
use Rattle.bpf_insn.specs.declared.instruction.Width.{Width}
use Rattle.bpf_insn.specs.declared.instruction.Width.TheVariants.{W32, W64}
use Rattle.bpf_text.specs.declared.spelling.Register.{Register}
use Rattle.bpf_text.specs.Spelling.{sign_bits_text, register_text}
use Rattle.bpf_text.specs.Characters.{is_word_part}
use Rattle.bpf_text.specs.Parts.{registers, register, register_spelling, swaps, swap_spelling, extensions, memories, memory_text, keywords, keyword_text}
use Rattle.bpf_text.specs.code.WordReading.{Read, skip_blanks, word_in, word_of, word_front, word_rest, behind, behind_word, behind_mark, behind_first, behind_marks, behind_front, first_spelled, found_here, or_else}
use Rattle.bpf_text.specs.code.StatementReading.{any_register_in}
use Rattle.bpf_text.specs.Lookup.{first_named, by_word, may_begin, begun, width_named, digit_named, number_named, register_named}

-- ---- words

-- what stands behind a word, by the word that is read
abbrev behind_read : List ℕ → Option (List ℕ × List ℕ) → Option (List ℕ)
behind_read w o = option_and_then (λ found. if bytes_eq found.0 w then Some found.1 else None) o

abbrev pub name_read : {A : Type 0} → (List ℕ → Option A) → Option (List ℕ × List ℕ) → Read A
name_read find o = option_and_then (λ w. option_map (λ x. (x, w.1)) (find w.0)) o

one_more : {A : Type 0} (spelling : A → List ℕ) (x : A) (xs : List A) (o : Option (List ℕ × List ℕ))
    → or_else (found_here x (behind_read (spelling x) o)) (name_read (first_named spelling xs) o) ≡ name_read (first_named spelling (x ∷ xs)) o
one_more spelling x xs None = refl
one_more spelling x xs (Some w) = go (bytes_eq w.0 (spelling x))
  where
    go : (b : Bool) → or_else (found_here x (if b then Some w.1 else None)) (option_map (λ y. (y, w.1)) (first_named spelling xs w.0)) ≡ option_map (λ y. (y, w.1)) (if b then Some x else first_named spelling xs w.0)
    go true = refl
    go false = refl

-- each thing is spelled by a word alone
abbrev pub Words : {A : Type 0} → (A → List ℕ) → List A → List ℕ → Type 0
Words spelling [] text = Unit
Words spelling (x ∷ xs) text = (behind (spelling x) text ≡ behind_word (spelling x) text) × Words spelling xs text

pub words_found : {A : Type 0} (spelling : A → List ℕ) (xs : List A) (text : List ℕ) → Words spelling xs text → first_spelled spelling xs text ≡ by_word (first_named spelling xs) text
unfolding behind_word word_in
words_found spelling [] text h = go (word_in text)
  where
    go : {A : Type 0} (o : Option (List ℕ × List ℕ)) → (let none : Read A = None in none) ≡ name_read (λ w. None) o
    go None = refl
    go (Some w) = refl
words_found spelling (x ∷ xs) text h = ap (λ o. or_else (found_here x o) (first_spelled spelling xs text)) h.0 ∙ ap (or_else (found_here x (behind_word (spelling x) text))) (words_found spelling xs text h.1) ∙ one_more spelling x xs (word_in text)

pub swap_found : (text : List ℕ) → first_spelled swap_spelling swaps text ≡ by_word (first_named swap_spelling swaps) text
unfolding behind
swap_found text = words_found swap_spelling swaps text (search rules)

pub extension_found : (text : List ℕ) → first_spelled sign_bits_text extensions text ≡ by_word (first_named sign_bits_text extensions) text
unfolding behind
extension_found text = words_found sign_bits_text extensions text (search rules)

pub memory_found : (text : List ℕ) → first_spelled memory_text memories text ≡ by_word (first_named memory_text memories) text
unfolding behind
memory_found text = words_found memory_text memories text (search rules)

pub keyword_found : (text : List ℕ) → first_spelled keyword_text keywords text ≡ by_word (first_named keyword_text keywords) text
unfolding behind
keyword_found text = words_found keyword_text keywords text (search rules)

-- ---- registers

-- what a lookup doesn't find is not there, where it finds each thing by its spelling
none_named : {A : Type 0} (spelling : A → List ℕ) (find : List ℕ → Option A) (xs : List A) (w : List ℕ) → map (λ x. find (spelling x)) xs ≡ map Some xs → find w ≡ None → first_named spelling xs w ≡ None
none_named spelling find [] w each none = refl
none_named {A = A} spelling find (x ∷ xs) w each none = step (bytes_eq w (spelling x)) refl (none_named spelling find xs w (cc) none)
  where
    here : find (spelling x) ≡ Some x
    here = cc

    step : (b : Bool) → bytes_eq w (spelling x) ≡ b → first_named spelling xs w ≡ None → (if b then Some x else first_named spelling xs w) ≡ None
    step true e rest = let same : w ≡ spelling x = (bytes_eq-Decides w (spelling x)).0 e in let both : (let n : Option A = None in n) ≡ Some x = sym none ∙ ap find same ∙ here in cc
    step false e rest = rest

-- a lookup that finds each thing by its spelling, and nothing by another word, finds what is found one after another
pub found_by : {A : Type 0} (spelling : A → List ℕ) (find : List ℕ → Option A) (xs : List A) (w : List ℕ) → map (λ x. find (spelling x)) xs ≡ map Some xs
    → ((x : A) → find w ≡ Some x → first_named spelling xs w ≡ Some x) → first_named spelling xs w ≡ find w
found_by {A = A} spelling find xs w each only = go (find w) refl
  where
    go : (o : Option A) → find w ≡ o → first_named spelling xs w ≡ o
    go None e = none_named spelling find xs w each e
    go (Some x) e = only x e

-- the digits of a register's number
abbrev digits_text : Reg → List ℕ
digits_text r = drop 1 (register_text W64 r)

-- one digit after another is tried
try_digit : (d k : ℕ) (s r : Reg) (rest : Option Reg) → digits_text s ≡ k ∷ [] → (if d == k then Some s else rest) ≡ Some r → (rest ≡ Some r → d ∷ [] ≡ digits_text r) → d ∷ [] ≡ digits_text r
try_digit d k s r rest spelled h others = go (d == k) refl h
  where
    go : (b : Bool) → (d == k) ≡ b → (if b then Some s else rest) ≡ Some r → d ∷ [] ≡ digits_text r
    go true e found = let same : d ≡ k = (Decides-eqb d k).0 e in let is : s ≡ r = cc in ap (λ x. x ∷ []) same ∙ sym spelled ∙ ap digits_text is
    go false e found = others found

digit_spelled : (d : ℕ) (r : Reg) → digit_named d ≡ Some r → d ∷ [] ≡ digits_text r
digit_spelled d r h =
    try_digit d 48 R0 r _ refl h (λ h. try_digit d 49 R1 r _ refl h (λ h. try_digit d 50 R2 r _ refl h (λ h. try_digit d 51 R3 r _ refl h (λ h. try_digit d 52 R4 r _ refl h
    (λ h. try_digit d 53 R5 r _ refl h (λ h. try_digit d 54 R6 r _ refl h (λ h. try_digit d 55 R7 r _ refl h (λ h. try_digit d 56 R8 r _ refl h (λ h. try_digit d 57 R9 r None refl h
    (λ h. let both : (let n : Option Reg = None in n) ≡ Some r = h in cc))))))))))

ten_spelled : (d e : ℕ) (r : Reg) → (if (d == 49) && (e == 48) then Some R10 else None) ≡ Some r → d ∷ e ∷ [] ≡ digits_text r
ten_spelled d e r h = go (d == 49) refl (e == 48) refl h
  where
    go : (a : Bool) → (d == 49) ≡ a → (b : Bool) → (e == 48) ≡ b → (if a && b then Some R10 else None) ≡ Some r → d ∷ e ∷ [] ≡ digits_text r
    go true p true q h = let tens : d ≡ 49 = (Decides-eqb d 49).0 p in let ones : e ≡ 48 = (Decides-eqb e 48).0 q in let is : R10 ≡ r = cc in ap (λ x. x ∷ e ∷ []) tens ∙ ap (λ x. 49 ∷ x ∷ []) ones ∙ ap digits_text is
    go true p false q h = let both : (let n : Option Reg = None in n) ≡ Some r = h in cc
    go false p b q h = let both : (let n : Option Reg = None in n) ≡ Some r = h in cc

number_spelled : (ds : List ℕ) (r : Reg) → number_named ds ≡ Some r → ds ≡ digits_text r
number_spelled [] r h = let both : (let n : Option Reg = None in n) ≡ Some r = h in cc
number_spelled (d ∷ []) r h = digit_spelled d r h
number_spelled (d ∷ e ∷ []) r h = ten_spelled d e r h
number_spelled (d ∷ e ∷ f ∷ ds) r h = let both : (let n : Option Reg = None in n) ≡ Some r = h in cc

-- each register is found by its spelling
named_spelled : (width : Width) (r : Reg) → first_named register_spelling registers (register_text width r) ≡ Some (register width r)
named_spelled W32 R0 = refl
named_spelled W32 R1 = refl
named_spelled W32 R2 = refl
named_spelled W32 R3 = refl
named_spelled W32 R4 = refl
named_spelled W32 R5 = refl
named_spelled W32 R6 = refl
named_spelled W32 R7 = refl
named_spelled W32 R8 = refl
named_spelled W32 R9 = refl
named_spelled W32 R10 = refl
named_spelled W64 R0 = refl
named_spelled W64 R1 = refl
named_spelled W64 R2 = refl
named_spelled W64 R3 = refl
named_spelled W64 R4 = refl
named_spelled W64 R5 = refl
named_spelled W64 R6 = refl
named_spelled W64 R7 = refl
named_spelled W64 R8 = refl
named_spelled W64 R9 = refl
named_spelled W64 R10 = refl

-- the letter in front of the digits
abbrev letter : Width → ℕ
letter W32 = 119
letter W64 = 114

letter_digits : (width : Width) (r : Reg) → letter width ∷ digits_text r ≡ register_text width r
letter_digits W32 R0 = refl
letter_digits W32 R1 = refl
letter_digits W32 R2 = refl
letter_digits W32 R3 = refl
letter_digits W32 R4 = refl
letter_digits W32 R5 = refl
letter_digits W32 R6 = refl
letter_digits W32 R7 = refl
letter_digits W32 R8 = refl
letter_digits W32 R9 = refl
letter_digits W32 R10 = refl
letter_digits W64 r = letter_digits_64 r
  where
    letter_digits_64 : (r : Reg) → 114 ∷ digits_text r ≡ register_text W64 r
    letter_digits_64 R0 = refl
    letter_digits_64 R1 = refl
    letter_digits_64 R2 = refl
    letter_digits_64 R3 = refl
    letter_digits_64 R4 = refl
    letter_digits_64 R5 = refl
    letter_digits_64 R6 = refl
    letter_digits_64 R7 = refl
    letter_digits_64 R8 = refl
    letter_digits_64 R9 = refl
    letter_digits_64 R10 = refl

width_spelled : (c : ℕ) (width : Width) → width_named c ≡ Some width → c ≡ letter width
width_spelled c width h = go (c == 114) refl (c == 119) refl h
  where
    go : (a : Bool) → (c == 114) ≡ a → (b : Bool) → (c == 119) ≡ b → (if a then Some W64 else if b then Some W32 else None) ≡ Some width → c ≡ letter width
    go true p b q h = let is : W64 ≡ width = cc in (Decides-eqb c 114).0 p ∙ ap letter is
    go false p true q h = let is : W32 ≡ width = cc in (Decides-eqb c 119).0 q ∙ ap letter is
    go false p false q h = let both : (let n : Option Width = None in n) ≡ Some width = h in cc

register_spelled : (c : ℕ) (ds : List ℕ) (x : Register) → register_named (c ∷ ds) ≡ Some x → first_named register_spelling registers (c ∷ ds) ≡ Some x
register_spelled c ds x h = go (width_named c) refl (number_named ds) refl h
  where
    go : (o : Option Width) → width_named c ≡ o → (p : Option Reg) → number_named ds ≡ p → option_and_then (λ width. option_map (register width) p) o ≡ Some x → first_named register_spelling registers (c ∷ ds) ≡ Some x
    go None e p f h = let both : (let n : Option Register = None in n) ≡ Some x = h in cc
    go (Some width) e None f h = let both : (let n : Option Register = None in n) ≡ Some x = h in cc
    go (Some width) e (Some r) f h =
        let is : register width r ≡ x = cc in
        let word : c ∷ ds ≡ register_text width r = ap (λ y. y ∷ ds) (width_spelled c width e) ∙ ap (λ ys. letter width ∷ ys) (number_spelled ds r f) ∙ letter_digits width r in
        ap (first_named register_spelling registers) word ∙ named_spelled width r ∙ ap Some is

only_registers : (w : List ℕ) (x : Register) → register_named w ≡ Some x → first_named register_spelling registers w ≡ Some x
only_registers [] x h = let both : (let n : Option Register = None in n) ≡ Some x = h in cc
only_registers (c ∷ ds) x h = register_spelled c ds x h

pub registers_named : (w : List ℕ) → first_named register_spelling registers w ≡ register_named w
registers_named w = found_by register_spelling register_named registers w refl (only_registers w)

by_same : {A : Type 0} (f g : List ℕ → Option A) (o : Option (List ℕ × List ℕ)) → ((w : List ℕ) → f w ≡ g w) → name_read f o ≡ name_read g o
by_same f g None h = refl
by_same f g (Some w) h = ap (option_map (λ x. (x, w.1))) (h w.0)

pub register_found_by_word : (text : List ℕ) → any_register_in text ≡ by_word register_named text
unfolding any_register_in behind
register_found_by_word text = words_found register_spelling registers text (search rules) ∙ by_same (first_named register_spelling registers) register_named (word_in text) registers_named

-- ---- first characters

turned : (c d : ℕ) → (c == d) ≡ false → (d == c) ≡ false
turned c d h = grind (arith, nat_tests)

-- another mark than the one in front
mark_not : (c : ℕ) (t : List ℕ) (ms : List ℕ) → may_begin (c ∷ ms) t ≡ false → option_and_then (behind_marks ms) (behind_first c t) ≡ None
mark_not c [] ms h = refl
mark_not c (d ∷ ds) ms h = let differs : (d == c) ≡ false = turned c d h in rw differs refl

-- another word than the one in front
word_not : (c : ℕ) (t w ms : List ℕ) → may_begin (c ∷ ms) t ≡ false → behind_read (c ∷ w) (word_of (word_front t) (word_rest t)) ≡ None
word_not c [] w ms h = refl
word_not c (d ∷ ds) w ms h = go (is_word_part d)
  where
    go : (b : Bool) → behind_read (c ∷ w) (word_of (if b then d ∷ word_front ds else []) (if b then word_rest ds else d ∷ ds)) ≡ None
    go true = let differs : (d == c) ≡ false = turned c d h in rw differs refl
    go false = refl

-- a spelling that begins with another character does not stand in front
pub begins_not : (s text : List ℕ) → may_begin s (skip_blanks text) ≡ false → behind s text ≡ None
unfolding behind behind_word behind_mark word_in
begins_not [] text h = let both : true ≡ false = h in cc
begins_not (c ∷ cs) text h = go (is_word_part c)
  where
    go : (b : Bool) → option_and_then (behind_marks (if b then word_rest cs else c ∷ cs)) (behind_front (if b then c ∷ word_front cs else []) text) ≡ None
    go true = ap (option_and_then (behind_marks (word_rest cs))) (word_not c (skip_blanks text) (word_front cs) cs h)
    go false = mark_not c (skip_blanks text) cs h

-- a spelling begins as the text does by its first character alone
by_head : (s : List ℕ) (c : ℕ) (cs : List ℕ) → may_begin s (c ∷ cs) ≡ may_begin s (c ∷ [])
by_head [] c cs = refl
by_head (x ∷ xs) c cs = refl

-- only those things are found whose spelling begins with the first character
begun_found : {A : Type 0} (spelling : A → List ℕ) (xs : List A) (text : List ℕ) (c : ℕ) (cs : List ℕ) → skip_blanks text ≡ c ∷ cs
    → first_spelled spelling (begun spelling c xs) text ≡ first_spelled spelling xs text
begun_found spelling [] text c cs e = refl
begun_found {A = A} spelling (x ∷ xs) text c cs e = go (may_begin (spelling x) (c ∷ [])) refl (begun_found spelling xs text c cs e)
  where
    go : (b : Bool) → may_begin (spelling x) (c ∷ []) ≡ b → first_spelled spelling (begun spelling c xs) text ≡ first_spelled spelling xs text
        → first_spelled spelling (if b then x ∷ begun spelling c xs else begun spelling c xs) text ≡ or_else (found_here x (behind (spelling x) text)) (first_spelled spelling xs text)
    go true is rest = ap (or_else (found_here x (behind (spelling x) text))) rest
    go false is rest =
        let other : behind (spelling x) text ≡ None = begins_not (spelling x) text (ap (may_begin (spelling x)) e ∙ by_head (spelling x) c cs ∙ is) in
        rest ∙ ap (λ o. or_else (found_here x o) (first_spelled spelling xs text)) (sym other)

-- two lists in which the same begin with the first character give the same
pub by_first_found : {A : Type 0} (spelling : A → List ℕ) (xs ys : List A) (begin text : List ℕ) → begin ≡ skip_blanks text → 0 < length begin → begun spelling (get_or begin 0 0) xs ≡ begun spelling (get_or begin 0 0) ys
    → first_spelled spelling xs text ≡ first_spelled spelling ys text
by_first_found spelling xs ys [] text e some same = absurd (omega arith)
by_first_found spelling xs ys (c ∷ cs) text e some same =
    sym (begun_found spelling xs text c cs (sym e)) ∙ ap (λ zs. first_spelled spelling zs text) same ∙ begun_found spelling ys text c cs (sym e)
