-- A program's listing, read again.
use Rattle.std.proofs.Common.{◌≡◌, ℕ, ◌+◌, List, [], ◌∷◌, ◌++◌, Some, None, Ok, refl, ap, ◌∙◌}
use Rattle.std.specs.Prelude.{codes}
use Rattle.std.specs.List.{concat}
use Rattle.bpf_insn.specs.Instruction.{slot_count}
use Rattle.bpf_insn.specs.Image.{HasEncoding, AllHaveEncoding}
use Rattle.bpf_insn.specs.declared.instruction.Reg.{Reg}
use Rattle.bpf_insn.specs.declared.instruction.Size.TheVariants.{B, H, W, DW}
use Rattle.bpf_insn.specs.declared.instruction.Width.{Width}
use Rattle.bpf_insn.specs.declared.instruction.Width.TheVariants.{W32, W64}
use Rattle.bpf_insn.specs.declared.instruction.Operand.TheVariants.{Imm, Reg as FromReg}
use Rattle.bpf_insn.specs.declared.instruction.AluOp.TheVariants.{Mov}
use Rattle.bpf_insn.specs.declared.instruction.SignBits.{SignBits}
use Rattle.bpf_insn.specs.declared.instruction.SignBits.TheVariants.{B8 as S8, B16 as S16, B32 as S32}
use Rattle.bpf_insn.specs.declared.instruction.Insn.{Insn}
use Rattle.bpf_insn.specs.declared.instruction.Insn.TheVariants.{Alu, Neg, MovSx, End, LoadImm64, Load, LoadSx, Store, StoreImm, Atomic, Ja, JaLong, JumpIf, CallLocal, Exit}
use Rattle.bpf_text.specs.declared.statement.Jump.TheVariants.{Goto as ToSlot, GotoLong as FarToSlot, Call as CallSlot}
use Rattle.bpf_text.specs.declared.spelling.Keyword.TheVariants as keyword
use Rattle.bpf_text.specs.code.WordReading.{word_in, behind, behind_word, first_spelled}
use Rattle.bpf_text.specs.Statements.{plain}
use Rattle.bpf_text.specs.Spelling.{register_text}
use Rattle.bpf_text.specs.Parts.{keywords, keyword_text}
use Rattle.bpf_text.specs.code.StatementReading.{any_register_in, assignment_in, atomic_in, branch_in, target_in, store_in, statement_in, whole_statement}
use Rattle.bpf_text.specs.Listing.{pieces, listing, operand_text}
use Rattle.bpf_text.specs.Sources.{Said, Source, lines_of}
use Rattle.bpf_text.specs.code.LineReading.{parts_of, last_part, part_said, said_in, checked, line_in, source_from, source_of}
use Rattle.bpf_text.specs.Assembly.{linked, slot_of, instructions_of}
use Rattle.bpf_text.specs.Laws.{ListingAssembles}
use Rattle.bpf_text.proofs.TextsRead.{text_says}
use Rattle.bpf_text.proofs.PartLemmas.{register_word, register_found}
use Rattle.bpf_text.proofs.StatementLemmas.{at_blank, calculated, assigned_by, negated, extended, IsExtension, swapped, long_moved, in_16, in_32}
use Rattle.bpf_text.proofs.ListedLemmas.{first_line, no_comment, no_label, line_inside, line_first, Opens, line_opens}
use Rattle.bpf_text.proofs.AccessLemmas.{loaded, loaded_signed, stored, locked, aimed, branched, short_16, short_32}

-- ---- statements

-- the instruction that a line says
abbrev pub Says : List ℕ → Insn → Type 0
Says text i = whole_statement text ≡ Some (Some (plain i))

assigns : (width : Width) (dst : Reg) (text : List ℕ) (i : Insn) → assignment_in width dst (32 ∷ text) ≡ Some (Some i, []) → Says (register_text width dst ++ 32 ∷ text) i
unfolding whole_statement statement_in
assigns width dst text i e = rw (register_found width dst (register_text width dst ++ 32 ∷ text) (32 ∷ text) (register_word width dst (32 ∷ text) (at_blank text)), e) refl

-- no register and no keyword stands in front of a store
store_ahead : (text : List ℕ) → (any_register_in (42 ∷ 40 ∷ text) ≡ None) × (first_spelled keyword_text keywords (42 ∷ 40 ∷ text) ≡ None)
unfolding any_register_in behind behind_word word_in
store_ahead text = (refl, refl)

stores : (text : List ℕ) (i : Insn) → store_in (42 ∷ 40 ∷ text) ≡ Some (Some i, []) → Says (42 ∷ 40 ∷ text) i
unfolding whole_statement statement_in
stores text i e = let none = store_ahead text in rw (none.0, none.1, e) refl

lock_ahead : (text : List ℕ) → (any_register_in (codes "lock " ++ text) ≡ None) × (first_spelled keyword_text keywords (codes "lock " ++ text) ≡ Some (keyword.Lock, 32 ∷ text))
unfolding any_register_in behind behind_word word_in
lock_ahead text = (refl, refl)

if_ahead : (text : List ℕ) → (any_register_in (codes "if " ++ text) ≡ None) × (first_spelled keyword_text keywords (codes "if " ++ text) ≡ Some (keyword.If, 32 ∷ text))
unfolding any_register_in behind behind_word word_in
if_ahead text = (refl, refl)

goto_ahead : (text : List ℕ) → (any_register_in (codes "goto " ++ text) ≡ None) × (first_spelled keyword_text keywords (codes "goto " ++ text) ≡ Some (keyword.Goto, 32 ∷ text))
unfolding any_register_in behind behind_word word_in
goto_ahead text = (refl, refl)

gotol_ahead : (text : List ℕ) → (any_register_in (codes "gotol " ++ text) ≡ None) × (first_spelled keyword_text keywords (codes "gotol " ++ text) ≡ Some (keyword.GotoLong, 32 ∷ text))
unfolding any_register_in behind behind_word word_in
gotol_ahead text = (refl, refl)

call_ahead : (text : List ℕ) → (any_register_in (codes "call " ++ text) ≡ None) × (first_spelled keyword_text keywords (codes "call " ++ text) ≡ Some (keyword.Call, 32 ∷ text))
unfolding any_register_in behind behind_word word_in
call_ahead text = (refl, refl)

locks : (text : List ℕ) (i : Insn) → atomic_in (32 ∷ text) ≡ Some (Some i, []) → Says (codes "lock " ++ text) i
unfolding whole_statement statement_in
locks text i e = let words = lock_ahead text in rw (words.0, words.1, e) refl

tests : (text : List ℕ) (i : Insn) → branch_in (32 ∷ text) ≡ Some (Some (plain i), []) → Says (codes "if " ++ text) i
unfolding whole_statement statement_in
tests text i e = let words = if_ahead text in rw (words.0, words.1, e) refl

goes : (text : List ℕ) (i : Insn) → target_in ToSlot (32 ∷ text) ≡ Some (Some (plain i), []) → Says (codes "goto " ++ text) i
unfolding whole_statement statement_in
goes text i e = let words = goto_ahead text in rw (words.0, words.1, e) refl

goes_far : (text : List ℕ) (i : Insn) → target_in FarToSlot (32 ∷ text) ≡ Some (Some (plain i), []) → Says (codes "gotol " ++ text) i
unfolding whole_statement statement_in
goes_far text i e = let words = gotol_ahead text in rw (words.0, words.1, e) refl

calls : (text : List ℕ) (i : Insn) → target_in CallSlot (32 ∷ text) ≡ Some (Some (plain i), []) → Says (codes "call " ++ text) i
unfolding whole_statement statement_in
calls text i e = let words = call_ahead text in rw (words.0, words.1, e) refl

exits : Says (codes "exit") Exit
unfolding whole_statement statement_in any_register_in behind behind_word word_in
exits = refl

extends : (width : Width) (bits : SignBits) (dst src : Reg) → IsExtension width bits → Says (concat (pieces (MovSx width bits dst src))) (MovSx width bits dst src)
extends width bits dst src is = assigns width dst _ (MovSx width bits dst src) (assigned_by Mov width dst _ ∙ extended width bits dst src is)

-- each instruction's line says it
pub line_says : (i : Insn) → HasEncoding i → Says (concat (pieces i)) i
line_says (Alu op width dst src) fits = assigns width dst _ (Alu op width dst src) (assigned_by op width dst (operand_text width src ++ []) ∙ calculated op width dst src fits)
line_says (Neg width dst) fits = assigns width dst _ (Neg width dst) (assigned_by Mov width dst (45 ∷ (register_text width dst ++ [])) ∙ negated width dst)
line_says (MovSx W32 S8 dst src) fits = extends W32 S8 dst src tt
line_says (MovSx W32 S16 dst src) fits = extends W32 S16 dst src tt
line_says (MovSx W32 S32 dst src) fits = absurd fits
line_says (MovSx W64 S8 dst src) fits = extends W64 S8 dst src tt
line_says (MovSx W64 S16 dst src) fits = extends W64 S16 dst src tt
line_says (MovSx W64 S32 dst src) fits = extends W64 S32 dst src tt
line_says (End kind bits dst) fits = assigns W64 dst _ (End kind bits dst) (assigned_by Mov W64 dst _ ∙ swapped kind bits dst)
line_says (LoadImm64 dst value) fits = assigns W64 dst _ (LoadImm64 dst value) (assigned_by Mov W64 dst _ ∙ long_moved dst value fits)
line_says (Load size dst src off) fits = assigns W64 dst _ (Load size dst src off) (assigned_by Mov W64 dst _ ∙ loaded size dst src off fits)
line_says (LoadSx DW dst src off) fits = absurd fits
line_says (LoadSx B dst src off) fits = assigns W64 dst _ (LoadSx B dst src off) (assigned_by Mov W64 dst _ ∙ loaded_signed B dst src off tt fits)
line_says (LoadSx H dst src off) fits = assigns W64 dst _ (LoadSx H dst src off) (assigned_by Mov W64 dst _ ∙ loaded_signed H dst src off tt fits)
line_says (LoadSx W dst src off) fits = assigns W64 dst _ (LoadSx W dst src off) (assigned_by Mov W64 dst _ ∙ loaded_signed W dst src off tt fits)
line_says (Store size dst off src) fits = stores _ (Store size dst off src) (stored size dst off (FromReg src) (Store size dst off src) fits tt refl)
line_says (StoreImm size dst off imm) fits = stores _ (StoreImm size dst off imm) (stored size dst off (Imm imm) (StoreImm size dst off imm) fits.0 fits.1 refl)
line_says (Atomic wide op dst off src) fits = locks _ (Atomic wide op dst off src) (locked wide op dst src off fits)
line_says (Ja off) fits = goes _ (Ja off) (aimed ToSlot off (Ja off) (short_16 off fits) (rw (in_16 off fits) refl))
line_says (JaLong off) fits = goes_far _ (JaLong off) (aimed FarToSlot off (JaLong off) (short_32 off fits) (rw (in_32 off fits) refl))
line_says (JumpIf test width dst src off) fits = tests _ (JumpIf test width dst src off) (branched test width dst src off fits.0 fits.1)
line_says (CallLocal off) fits = calls _ (CallLocal off) (aimed CallSlot off (CallLocal off) (short_32 off fits) (rw (in_32 off fits) refl))
line_says Exit fits = exits

-- ---- the lines of a listing

line_is : (i : Insn) → HasEncoding i → line_in (concat (pieces i)) ≡ Ok (Some (plain i))
unfolding line_in
line_is i fits =
    let part : parts_of (concat (pieces i)) ≡ concat (pieces i) ∷ [] = no_label (concat (pieces i)) (line_inside i fits) in
    let opens : Opens (concat (pieces i)) = line_opens i in
    ap (λ ps. part_said (last_part ps)) part ∙ ap (said_in (concat (pieces i))) opens.is ∙ ap checked (line_says i fits)

-- what the lines say, one instruction after another
abbrev pub said_from : ℕ → ℕ → List Insn → List Said
said_from line slot [] = []
said_from line slot (i ∷ is) = record { statement = plain i; slot = slot; line = line } ∷ said_from (line + 1) (slot + slot_count i) is

abbrev pub source_with : List Said → Source
source_with said = record { labels = []; said = said; fault = None }

no_lines : (line slot : ℕ) → source_from line slot (lines_of []) ≡ source_with []
unfolding line_in
no_lines line slot = refl

source_lines : (is : List Insn) (line slot : ℕ) → AllHaveEncoding is → source_from line slot (lines_of (listing is)) ≡ source_with (said_from line slot is)
source_lines [] line slot fits = no_lines line slot
source_lines (i ∷ is) line slot fits =
    let cut : lines_of (listing (i ∷ is)) ≡ concat (pieces i) ∷ lines_of (listing is) = ap lines_of (line_first i (listing is)) ∙ first_line (concat (pieces i)) (listing is) (line_inside i fits.0) in
    let ih : source_from (line + 1) (slot + slot_count i) (lines_of (listing is)) ≡ source_with (said_from (line + 1) (slot + slot_count i) is) = source_lines is (line + 1) (slot + slot_count i) fits.1 in
    ap (source_from line slot) cut
    ∙ rw (no_comment (concat (pieces i)) (line_inside i fits.0), line_is i fits.0, no_label (concat (pieces i)) (line_inside i fits.0), ih) refl

pub linked_back : (is : List Insn) (line slot : ℕ) → linked (slot_of []) (said_from line slot is) ≡ Ok is
linked_back [] line slot = refl
linked_back (i ∷ is) line slot = rw (linked_back is (line + 1) (slot + slot_count i)) refl

source_listed : (is : List Insn) → AllHaveEncoding is → source_of (listing is) ≡ source_with (said_from 1 0 is)
unfolding source_of
source_listed is fits = source_lines is 1 0 fits

pub listing_back : ListingAssembles
listing_back is program = record {
  source = source_of (listing is);
  says = text_says (listing is);
  instructions = ap instructions_of (source_listed is program.encoding) ∙ linked_back is 1 0;
  program = program;
}
