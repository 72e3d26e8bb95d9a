-- The listing with comments, read again.
use Rattle.std.proofs.Common.{◌≡◌, ℕ, zero, suc, ◌+◌, ◌-◌, ◌*◌, ◌/◌, ◌%◌, ◌<◌, ◌≤◌, min, Bool, true, false, cond, eqb, nat_lt, List, [], ◌∷◌, ◌++◌, length, replicate, Some, None, refl, sym, ap, subst, ◌∙◌, append_assoc, append-nil, length-append, arith}
use Rattle.std.specs.Prelude.{decimal, not, ◌==◌, option_map}
use Rattle.std.specs.List.{concat, list_all}
use Rattle.std.specs.Fmt.{digits, digits_onto, digit_glyph}
use Rattle.std.proofs.lemmas.List.{length-replicate}
use Rattle.bpf_insn.specs.Instruction.{layout, slots, slots_of, slot_count}
use Rattle.bpf_insn.specs.Image.{HasEncoding, AllHaveEncoding, instruction_bytes}
use Rattle.bpf_insn.specs.declared.order.Order.{Order}
use Rattle.bpf_insn.specs.declared.order.Order.TheVariants.{Little, Big}
use Rattle.bpf_insn.specs.declared.instruction.Insn.{Insn}
use Rattle.bpf_insn.specs.declared.instruction.Insn.TheVariants.{LoadImm64}
use Rattle.bpf_text.specs.Grammar.{Form, IsLine, tokens, tokens_after, word_ends, form_tokens, form_said}
use Rattle.bpf_text.specs.Statements.{plain}
use Rattle.bpf_text.specs.Sources.{IsSource, before, lines_of, without_comment, ends_with}
use Rattle.bpf_text.specs.Sources.IsSource.{nothing, says}
use Rattle.bpf_text.specs.Listing.{pieces}
use Rattle.bpf_text.specs.Laws.{AnnotatedAssembles}
use Rattle.bpf_text.specs.declared.annotated.Notes.{Notes}
use Rattle.bpf_text.specs.declared.annotated.Notes.TheVariants.{Slots, Bytes, Both}
use Rattle.bpf_text.specs.Annotated.{annotated_from, annotated_line, byte_text, bytes_text, comment, padding}
use Rattle.bpf_text.proofs.WordLemmas.{both_true}
use Rattle.bpf_text.proofs.ListedLemmas.{apart, is_inside, line_inside}
use Rattle.bpf_text.proofs.LengthLemmas.{digits_short, text_short}
use Rattle.bpf_text.proofs.RoundTripLemmas.{line_says, said_from, source_with, linked_back}
use Rattle.bpf_text.proofs.TokenReading.{whole_same}
use Rattle.bpf_text.proofs.FormsRead.{whole_gives}

-- ---- no line end in a comment

abbrev is_other : ℕ → Bool
is_other c = not (c == 10)

other : (c : ℕ) → 10 < c → is_other c ≡ true
other c h = grind arith

both : (a b : Bool) → a ≡ true → b ≡ true → (let r : Bool = cond a b false in r) ≡ true
both true b e f = f
both false b e f = cc

joined : (xs ys : List ℕ) → list_all is_other xs ≡ true → list_all is_other ys ≡ true → list_all is_other (xs ++ ys) ≡ true
joined [] ys h k = k
joined (x ∷ xs) ys h k = let parts = both_true (is_other x) (list_all is_other xs) h in rw (parts.0, joined xs ys parts.1 k) refl

glyph_other : (d : ℕ) → is_other (digit_glyph false d) ≡ true
glyph_other d = go (nat_lt d 10)
  where
    go : (b : Bool) → is_other (cond b (48 + d) (87 + d)) ≡ true
    go true = other (48 + d) (omega arith)
    go false = other (87 + d) (omega arith)

onto_other : (k base n : ℕ) (ds : List ℕ) → list_all is_other ds ≡ true → list_all is_other (digits_onto k base false n ds) ≡ true
onto_other zero base n ds h = h
onto_other (suc k) base n ds h =
    let grown : list_all is_other (digit_glyph false (n % base) ∷ ds) ≡ true = joined (digit_glyph false (n % base) ∷ []) ds (rw (glyph_other (n % base)) refl) h in
    go (eqb (n / base) 0) grown (onto_other k base (n / base) (digit_glyph false (n % base) ∷ ds) grown)
  where
    go : (b : Bool) → list_all is_other (digit_glyph false (n % base) ∷ ds) ≡ true → list_all is_other (digits_onto k base false (n / base) (digit_glyph false (n % base) ∷ ds)) ≡ true
        → list_all is_other (cond b (digit_glyph false (n % base) ∷ ds) (digits_onto k base false (n / base) (digit_glyph false (n % base) ∷ ds))) ≡ true
    go true h k = h
    go false h k = k

decimal_other : (n : ℕ) → list_all is_other (decimal n) ≡ true
unfolding digits
decimal_other n = onto_other 64 10 n [] refl

byte_other : (b : ℕ) → list_all is_other (byte_text b) ≡ true
byte_other b = rw (glyph_other (b / 16), glyph_other (b % 16)) refl

bytes_other : (bytes : List ℕ) → list_all is_other (bytes_text bytes) ≡ true
bytes_other [] = refl
bytes_other (b ∷ bytes) = joined (byte_text b) (bytes_text bytes) (byte_other b) (bytes_other bytes)

comment_other : (notes : Notes) (slot : ℕ) (bytes : List ℕ) → list_all is_other (comment notes slot bytes) ≡ true
comment_other Slots slot bytes = decimal_other slot
comment_other Bytes slot bytes = bytes_other bytes
comment_other Both slot bytes = joined (decimal slot) (58 ∷ bytes_text bytes) (decimal_other slot) (bytes_other bytes)

blanks_other : (n : ℕ) → list_all is_other (replicate n 32) ≡ true
blanks_other zero = refl
blanks_other (suc n) = blanks_other n

inside_other : (xs : List ℕ) → list_all is_inside xs ≡ true → list_all is_other xs ≡ true
inside_other [] h = refl
inside_other (x ∷ xs) h = let parts = both_true (is_inside x) (list_all is_inside xs) h in rw ((apart (eqb x 10) (eqb x 58) (eqb x 59) parts.0).0, inside_other xs parts.1) refl

not_true : (a : Bool) → not a ≡ true → a ≡ false
not_true true e = cc
not_true false e = refl

first_line : (line rest : List ℕ) → list_all is_other line ≡ true → lines_of (line ++ 10 ∷ rest) ≡ line ∷ lines_of rest
first_line [] rest h = refl
first_line (c ∷ cs) rest h = let parts = both_true (is_other c) (list_all is_other cs) h in rw (not_true (eqb c 10) parts.0, first_line cs rest parts.1) refl

-- ---- the text in front of a comment

before_mark : (xs more : List ℕ) → list_all is_inside xs ≡ true → before 59 (xs ++ 59 ∷ more) ≡ xs
before_mark [] more h = refl
before_mark (c ∷ cs) more h = let parts = both_true (is_inside c) (list_all is_inside cs) h in rw ((apart (eqb c 10) (eqb c 58) (eqb c 59) parts.0).2, before_mark cs more parts.1) refl

blanks_inside : (n : ℕ) → list_all is_inside (replicate n 32) ≡ true
blanks_inside zero = refl
blanks_inside (suc n) = blanks_inside n

padded_inside : (xs ys : List ℕ) → list_all is_inside xs ≡ true → list_all is_inside ys ≡ true → list_all is_inside (xs ++ ys) ≡ true
padded_inside [] ys h k = k
padded_inside (x ∷ xs) ys h k = let parts = both_true (is_inside x) (list_all is_inside xs) h in rw (parts.0, padded_inside xs ys parts.1 k) refl

note_opens : (notes : Notes) (slot : ℕ) (bytes : List ℕ) → (more : List ℕ) × (comment notes slot bytes ≡ 59 ∷ more)
note_opens Slots slot bytes = (_, refl)
note_opens Bytes slot bytes = (_, refl)
note_opens Both slot bytes = (_, refl)

blanks_nothing : (n : ℕ) → tokens_after [] (replicate n 32) ≡ []
blanks_nothing zero = refl
blanks_nothing (suc n) = blanks_nothing n

-- blanks at the end are nothing
tokens_padded : (text w : List ℕ) (n : ℕ) → tokens_after w (text ++ replicate n 32) ≡ tokens_after w text
tokens_padded [] w zero = refl
tokens_padded [] w (suc n) = ap (λ t. word_ends w ++ t) (blanks_nothing n) ∙ append-nil (word_ends w)
tokens_padded (c ∷ cs) w n = rw (tokens_padded cs (w ++ c ∷ []) n, tokens_padded cs [] n) refl

-- ---- lines

-- the form that an instruction's line spells
pub record Spells (i : Insn) : Type 0 where
  pub form : Form
  pub spelled : tokens (concat (pieces i)) ≡ form_tokens form
  pub said : form_said form ≡ Some (plain i)

spells : (i : Insn) → HasEncoding i → Spells i
spells i fits =
    let found = (whole_gives (tokens (concat (pieces i)))).holds (Some (plain i)) (sym (whole_same (concat (pieces i))) ∙ line_says i fits) in
    record { form = found.0; spelled = found.1; said = found.2 }

-- a line in two parts: what is read, and the comment
abbrev code_part : Insn → List ℕ
code_part i = concat (pieces i) ++ padding (concat (pieces i))

line_parts : (notes : Notes) (order : Order) (slot : ℕ) (i : Insn) (rest : List ℕ)
    → annotated_line notes order slot i ++ rest ≡ (code_part i ++ comment notes slot (instruction_bytes order i)) ++ 10 ∷ rest
line_parts notes order slot i rest =
    let text = concat (pieces i) in
    let note = comment notes slot (instruction_bytes order i) in
    append_assoc text (padding text ++ (note ++ 10 ∷ [])) rest ∙ ap (λ t. text ++ t) (append_assoc (padding text) (note ++ 10 ∷ []) rest ∙ ap (λ t. padding text ++ t) (append_assoc note (10 ∷ []) rest))
    ∙ sym (append_assoc (text ++ padding text) note (10 ∷ rest) ∙ append_assoc text (padding text) (note ++ 10 ∷ rest))

code_inside : (i : Insn) → HasEncoding i → list_all is_inside (code_part i) ≡ true
code_inside i fits = padded_inside (concat (pieces i)) (padding (concat (pieces i))) (line_inside i fits) (blanks_inside (32 - min (length (concat (pieces i))) 31))

line_cut : (notes : Notes) (order : Order) (slot : ℕ) (i : Insn) (rest : List ℕ) → HasEncoding i
    → lines_of (annotated_line notes order slot i ++ rest) ≡ (code_part i ++ comment notes slot (instruction_bytes order i)) ∷ lines_of rest
line_cut notes order slot i rest fits =
    let note = comment notes slot (instruction_bytes order i) in
    ap lines_of (line_parts notes order slot i rest)
    ∙ first_line (code_part i ++ note) rest (joined (code_part i) note (inside_other (code_part i) (code_inside i fits)) (comment_other notes slot (instruction_bytes order i)))

code_read : (notes : Notes) (slot : ℕ) (bytes : List ℕ) (i : Insn) → HasEncoding i → without_comment (code_part i ++ comment notes slot bytes) ≡ code_part i
code_read notes slot bytes i fits =
    let opens = note_opens notes slot bytes in
    ap (λ t. without_comment (code_part i ++ t)) opens.1 ∙ before_mark (code_part i) opens.0 (code_inside i fits)

is_line : (notes : Notes) (slot : ℕ) (bytes : List ℕ) (i : Insn) (fits : HasEncoding i) → IsLine (without_comment (code_part i ++ comment notes slot bytes)) [] (Some (spells i fits).form)
is_line notes slot bytes i fits = record {
  spelled = ap tokens (code_read notes slot bytes i fits) ∙ tokens_padded (concat (pieces i)) [] (32 - min (length (concat (pieces i))) 31) ∙ (spells i fits).spelled;
}

line_source : (line slot : ℕ) (notes : Notes) (bytes : List ℕ) (i : Insn) (is : List Insn) (texts : List (List ℕ)) → HasEncoding i
    → IsSource (line + 1) (slot + slot_count i) texts (source_with (said_from (line + 1) (slot + slot_count i) is))
    → IsSource line slot ((code_part i ++ comment notes slot bytes) ∷ texts) (source_with (said_from line slot (i ∷ is)))
line_source line slot notes bytes i is texts fits rest =
    says {names = []} {form = Some (spells i fits).form} {s = Some (plain i)} (is_line notes slot bytes i fits) (ap (λ o. option_map Some o) (spells i fits).said) rest

source_lines : (notes : Notes) (order : Order) (line slot : ℕ) (is : List Insn) → AllHaveEncoding is → IsSource line slot (lines_of (annotated_from notes order slot is)) (source_with (said_from line slot is))
source_lines notes order line slot [] fits = says {names = []} {form = None} {s = None} {rest = ends_with None} (record { spelled = refl }) refl nothing
source_lines notes order line slot (i ∷ is) fits =
    subst (λ ls. IsSource line slot ls (source_with (said_from line slot (i ∷ is)))) (sym (line_cut notes order slot i (annotated_from notes order (slot + slot_count i) is) fits.0))
    (line_source line slot notes (instruction_bytes order i) i is (lines_of (annotated_from notes order (slot + slot_count i) is)) fits.0 (source_lines notes order (line + 1) (slot + slot_count i) is fits.1))

-- ---- the length

bytes_length : (bytes : List ℕ) → length (bytes_text bytes) ≡ 3 * length bytes
bytes_length [] = refl
bytes_length (b ∷ bytes) = let ih = bytes_length bytes in omega (arith, ih)

insn_length : (order : Order) (i : Insn) → length (instruction_bytes order i) ≡ 8 * slot_count i
insn_length Little (LoadImm64 dst value) = refl
insn_length Big (LoadImm64 dst value) = refl
insn_length Little i = refl
insn_length Big i = refl

comment_short : (notes : Notes) (slot : ℕ) (bytes : List ℕ) → length (comment notes slot bytes) ≤ 67 + 3 * length bytes
comment_short Slots slot bytes = let d : length (decimal slot) ≤ 64 = digits_short 10 slot in omega (arith, d)
comment_short Bytes slot bytes = let b = bytes_length bytes in omega (arith, b)
comment_short Both slot bytes =
    let d : length (decimal slot) ≤ 64 = digits_short 10 slot in
    let b = bytes_length bytes in
    let both = length-append (decimal slot) (58 ∷ bytes_text bytes) in
    omega (arith, d, b, both)

padded_short : (text : List ℕ) → length text ≤ 162 → length text + length (padding text) ≤ 163
padded_short text h = let n = length-replicate {A = ℕ} (32 - min (length text) 31) 32 in omega (arith, n, h)

count_some : (i : Insn) → 1 ≤ slot_count i
count_some (LoadImm64 dst value) = omega arith
count_some i = omega arith

line_length : (notes : Notes) (order : Order) (slot : ℕ) (i : Insn) → length (annotated_line notes order slot i) ≤ 256 * slot_count i
line_length notes order slot i =
    let text = concat (pieces i) in
    let bytes = instruction_bytes order i in
    let note = comment notes slot bytes in
    let a = length-append text (padding text ++ (note ++ 10 ∷ [])) in
    let b = length-append (padding text) (note ++ 10 ∷ []) in
    let c = length-append note (10 ∷ []) in
    let d = padded_short text (text_short i) in
    let e = comment_short notes slot bytes in
    let f = insn_length order i in
    let g = count_some i in
    omega (arith, a, b, c, d, e, f, g)

pub lines_length : (notes : Notes) (order : Order) (slot : ℕ) (is : List Insn) → length (annotated_from notes order slot is) ≤ 256 * slots is
lines_length notes order slot [] = omega arith
lines_length notes order slot (i ∷ is) =
    let a = length-append (annotated_line notes order slot i) (annotated_from notes order (slot + slot_count i) is) in
    let b = length-append (slots_of i) (layout is) in
    let c = line_length notes order slot i in
    let d = lines_length notes order (slot + slot_count i) is in
    omega (arith, a, b, c, d)

-- ---- the text

pub annotated_back : AnnotatedAssembles
annotated_back notes order is program = record {
  source = source_with (said_from 1 0 is);
  says = source_lines notes order 1 0 is program.encoding;
  instructions = linked_back is 1 0;
  program = program;
}
