-- Loads, stores, atomic operations and jumps, read from their lines in the listing.
use Rattle.std.proofs.Common.{◌≡◌, ℕ, suc, ◌^◌, ◌<◌, Bool, true, false, List, [], ◌∷◌, ◌++◌, Some, None, refl, ◌∙◌, arith}
use Rattle.std.specs.Prelude.{codes, decimal, ℤ, pos, negsuc, FitsSigned}
use Rattle.std.specs.Int.{w16, w32}
use Rattle.std.proofs.lemmas.Int.{ints}
use Rattle.bpf_insn.specs.Instruction.{word_size}
use Rattle.bpf_insn.specs.Image.{OperandFits}
use Rattle.bpf_insn.specs.declared.instruction.Reg.{Reg}
use Rattle.bpf_insn.specs.declared.instruction.Reg.TheVariants.{R0, R1, R2, R3, R4, R5, R6, R7, R8, R9, R10}
use Rattle.bpf_insn.specs.declared.instruction.Size.{Size}
use Rattle.bpf_insn.specs.declared.instruction.Width.{Width}
use Rattle.bpf_insn.specs.declared.instruction.Width.TheVariants.{W32, W64}
use Rattle.bpf_insn.specs.declared.instruction.Operand.{Operand}
use Rattle.bpf_insn.specs.declared.instruction.Operand.TheVariants.{Imm, Reg as FromReg}
use Rattle.bpf_insn.specs.declared.instruction.Cond.{Cond}
use Rattle.bpf_insn.specs.declared.instruction.Modify.{Modify}
use Rattle.bpf_insn.specs.declared.instruction.Modify.TheVariants.{Add as AddTo, Or as OrTo, And as AndTo, Xor as XorTo}
use Rattle.bpf_insn.specs.declared.instruction.AtomicOp.{AtomicOp}
use Rattle.bpf_insn.specs.declared.instruction.AtomicOp.TheVariants.{Modify as Changes, Xchg, CmpXchg}
use Rattle.bpf_insn.specs.declared.instruction.Insn.{Insn}
use Rattle.bpf_insn.specs.declared.instruction.Insn.TheVariants.{Load, LoadSx, Atomic, JumpIf}
use Rattle.bpf_text.specs.declared.spelling.Memory.{Memory}
use Rattle.bpf_text.specs.declared.spelling.Memory.TheVariants.{Unsigned, Signed}
use Rattle.bpf_text.specs.declared.statement.Jump.{Jump}
use Rattle.bpf_text.specs.declared.statement.Jump.TheVariants.{If as OnTest}
use Rattle.bpf_text.specs.code.WordReading.{word_in, behind, behind_word, behind_mark, first_spelled, signed_in}
use Rattle.bpf_text.specs.Statements.{plain}
use Rattle.bpf_text.specs.Spelling.{register_text, cond_text, modify_text, unsigned_text, signed_text}
use Rattle.bpf_text.specs.Parts.{memories, memory_text}
use Rattle.bpf_text.specs.code.StatementReading.{load_in, memory_operand_in, assigned_in, store_in, change_in, exchange_in, atomic_in, wide_of, target_in, branch_in, register_in}
use Rattle.bpf_text.specs.Statements.{store_of, jump_by}
use Rattle.bpf_text.specs.Listing.{r_text, offset_text, distance_text, operand_text, atomic_word, atomic_sign}
use Rattle.bpf_text.proofs.WordLemmas.{Stops, decimal_number, unsigned_here, unsigned_behind_blank, word_behind_blank}
use Rattle.bpf_text.proofs.PartLemmas.{register_word, register_found, register_here, cond_found, modify_found, unsigned_found, signed_found, IsSigned}
use Rattle.bpf_text.proofs.StatementLemmas.{at_end, at_blank, at_parenthesis, in_16, small, small_below, operand_here, no_mark_before}

-- ---- offsets and distances

short : (n : ℕ) → FitsSigned w16 (pos n) → n < 2 ^ 64
short n h = omega (arith, ints)

short_below : (n : ℕ) → FitsSigned w16 (negsuc n) → suc n < 2 ^ 64
short_below n h = omega (arith, ints)

-- whether a number is small enough to be read
abbrev pub IsShort : ℤ → Type 0
IsShort (pos n) = n < 2 ^ 64
IsShort (negsuc n) = suc n < 2 ^ 64

pub short_16 : (z : ℤ) → FitsSigned w16 z → IsShort z
short_16 (pos n) h = short n h
short_16 (negsuc n) h = short_below n h

pub short_32 : (z : ℤ) → FitsSigned w32 z → IsShort z
short_32 (pos n) h = small n h
short_32 (negsuc n) h = small_below n h

plus_ahead : (text : List ℕ) → (behind_mark 45 (32 ∷ 43 ∷ text) ≡ None) × (behind_mark 43 (32 ∷ 43 ∷ text) ≡ Some text) × (behind_mark 45 (32 ∷ 45 ∷ text) ≡ Some text)
unfolding behind_mark
plus_ahead text = (refl, refl, refl)

pub offset_here : (z : ℤ) (text : List ℕ) → IsShort z → Stops text → signed_in (32 ∷ (offset_text z ++ text)) ≡ Some (z, text)
unfolding signed_in
offset_here (pos n) text h stops =
    let marks = plus_ahead (32 ∷ (decimal n ++ text)) in
    rw (marks.0, marks.1, unsigned_behind_blank (decimal n ++ text), unsigned_here (decimal n) n text (decimal_number n h) stops) refl
offset_here (negsuc n) text h stops =
    let marks = plus_ahead (32 ∷ (decimal (suc n) ++ text)) in
    rw (marks.2, unsigned_behind_blank (decimal (suc n) ++ text), unsigned_here (decimal (suc n)) (suc n) text (decimal_number (suc n) h) stops) refl

pub distance_here : (z : ℤ) (text : List ℕ) → IsShort z → Stops text → signed_in (32 ∷ (distance_text z ++ text)) ≡ Some (z, text)
unfolding signed_in
distance_here (pos n) text h stops =
    let marks = plus_ahead (decimal n ++ text) in
    rw (marks.0, marks.1, unsigned_here (decimal n) n text (decimal_number n h) stops) refl
distance_here (negsuc n) text h stops =
    let marks = plus_ahead (decimal (suc n) ++ text) in
    rw (marks.2, unsigned_here (decimal (suc n)) (suc n) text (decimal_number (suc n) h) stops) refl

-- ---- places in memory

-- what stands behind the name of a size
abbrev pub pointer_text : Reg → ℤ → List ℕ → List ℕ
pointer_text base off text = codes " *)(" ++ (register_text W64 base ++ (codes " " ++ (offset_text off ++ 41 ∷ text)))

pointer_ahead : (text : List ℕ) → (behind (codes "*)(") (codes " *)(" ++ text) ≡ Some text) × (behind_mark 41 (41 ∷ text) ≡ Some text)
unfolding behind behind_mark
pointer_ahead text = (refl, refl)

pub place_here : (memory : Memory) (spelled : List ℕ) (base : Reg) (off : ℤ) (text behind_it : List ℕ) → FitsSigned w16 off
    → behind (codes "*(") text ≡ Some (spelled ++ pointer_text base off behind_it)
    → first_spelled memory_text memories (spelled ++ pointer_text base off behind_it) ≡ Some (memory, pointer_text base off behind_it)
    → memory_operand_in text ≡ Some (record { memory = memory; base = base; off = Some off }, behind_it)
unfolding memory_operand_in
place_here memory spelled base off text behind_it fits star size =
    let marks = pointer_ahead (register_text W64 base ++ (codes " " ++ (offset_text off ++ 41 ∷ behind_it))) in
    let closing = pointer_ahead behind_it in
    let name : register_in W64 (register_text W64 base ++ (codes " " ++ (offset_text off ++ 41 ∷ behind_it))) ≡ Some (base, codes " " ++ (offset_text off ++ 41 ∷ behind_it))
    = register_here W64 base (register_text W64 base ++ (codes " " ++ (offset_text off ++ 41 ∷ behind_it))) (codes " " ++ (offset_text off ++ 41 ∷ behind_it))
    (register_word W64 base (codes " " ++ (offset_text off ++ 41 ∷ behind_it)) (at_blank (offset_text off ++ 41 ∷ behind_it))) in
    rw (star, size, marks.0, name, offset_here off (41 ∷ behind_it) (short_16 off fits) (at_parenthesis behind_it), closing.1, in_16 off fits) refl

star_ahead : (text : List ℕ) → (behind (codes "*(") (32 ∷ 42 ∷ 40 ∷ text) ≡ Some text) × (behind (codes "*(") (42 ∷ 40 ∷ text) ≡ Some text)
unfolding behind behind_mark
star_ahead text = (refl, refl)

unsigned_place : (size : Size) (base : Reg) (off : ℤ) (text behind_it : List ℕ) → FitsSigned w16 off → behind (codes "*(") text ≡ Some (unsigned_text size ++ pointer_text base off behind_it)
    → memory_operand_in text ≡ Some (record { memory = Unsigned size; base = base; off = Some off }, behind_it)
unsigned_place size base off text behind_it fits star =
    place_here (Unsigned size) (unsigned_text size) base off text behind_it fits star
    (unsigned_found size (codes "*)(" ++ (register_text W64 base ++ (codes " " ++ (offset_text off ++ 41 ∷ behind_it)))))

signed_place : (size : Size) (base : Reg) (off : ℤ) (text behind_it : List ℕ) → IsSigned size → FitsSigned w16 off → behind (codes "*(") text ≡ Some (signed_text size ++ pointer_text base off behind_it)
    → memory_operand_in text ≡ Some (record { memory = Signed size; base = base; off = Some off }, behind_it)
signed_place size base off text behind_it is fits star =
    place_here (Signed size) (signed_text size) base off text behind_it fits star
    (signed_found size (codes "*)(" ++ (register_text W64 base ++ (codes " " ++ (offset_text off ++ 41 ∷ behind_it)))) is)

-- ---- loads

load_ahead : (text : List ℕ) → (behind_mark 45 (32 ∷ 42 ∷ text) ≡ None) × (behind_mark 40 (32 ∷ 42 ∷ text) ≡ None) × (behind_mark 42 (32 ∷ 42 ∷ text) ≡ Some text)
unfolding behind_mark
load_ahead text = (refl, refl, refl)

pub loaded : (size : Size) (dst src : Reg) (off : ℤ) → FitsSigned w16 off
    → assigned_in W64 dst (32 ∷ 42 ∷ 40 ∷ (unsigned_text size ++ pointer_text src off [])) ≡ Some (Some (Load size dst src off), [])
unfolding assigned_in load_in
loaded size dst src off fits =
    let marks = load_ahead (40 ∷ (unsigned_text size ++ pointer_text src off [])) in
    let star = star_ahead (unsigned_text size ++ pointer_text src off []) in
    rw (marks.0, marks.1, marks.2, unsigned_place size src off (32 ∷ 42 ∷ 40 ∷ (unsigned_text size ++ pointer_text src off [])) [] fits star.0) refl

pub loaded_signed : (size : Size) (dst src : Reg) (off : ℤ) → IsSigned size → FitsSigned w16 off
    → assigned_in W64 dst (32 ∷ 42 ∷ 40 ∷ (signed_text size ++ pointer_text src off [])) ≡ Some (Some (LoadSx size dst src off), [])
unfolding assigned_in load_in
loaded_signed size dst src off is fits =
    let marks = load_ahead (40 ∷ (signed_text size ++ pointer_text src off [])) in
    let star = star_ahead (signed_text size ++ pointer_text src off []) in
    rw (marks.0, marks.1, marks.2, signed_place size src off (32 ∷ 42 ∷ 40 ∷ (signed_text size ++ pointer_text src off [])) [] is fits star.0) refl

-- ---- stores

equals_ahead : (text : List ℕ) → behind_mark 61 (32 ∷ 61 ∷ text) ≡ Some text
unfolding behind_mark
equals_ahead text = refl

pub stored : (size : Size) (dst : Reg) (off : ℤ) (src : Operand) (i : Insn) → FitsSigned w16 off → OperandFits src → store_of size dst (Some off) (Some src) ≡ Some i
    → store_in (42 ∷ 40 ∷ (unsigned_text size ++ pointer_text dst off (32 ∷ 61 ∷ 32 ∷ (operand_text W64 src ++ [])))) ≡ Some (Some i, [])
unfolding store_in
stored size dst off src i fits operand is =
    let star = star_ahead (unsigned_text size ++ pointer_text dst off (32 ∷ 61 ∷ 32 ∷ (operand_text W64 src ++ []))) in
    rw (
      unsigned_place size dst off (42 ∷ 40 ∷ (unsigned_text size ++ pointer_text dst off (32 ∷ 61 ∷ 32 ∷ (operand_text W64 src ++ [])))) (32 ∷ 61 ∷ 32 ∷ (operand_text W64 src ++ [])) fits star.1,
      equals_ahead (32 ∷ (operand_text W64 src ++ [])),
      operand_here W64 src [] operand at_end,
      is,
    ) refl

-- ---- atomic operations

-- the first word behind `lock` is none of these
abbrev pub LockAhead : List ℕ → Type 0
LockAhead text = (behind (codes "fetch") text ≡ None) × (behind (codes "xchg") text ≡ None) × (behind (codes "cmpxchg") text ≡ None)

lock_ahead : (text : List ℕ) → LockAhead (32 ∷ 42 ∷ 40 ∷ text)
unfolding behind behind_word word_in
lock_ahead text = (refl, refl, refl)

word_ahead : (text : List ℕ) → (behind (codes "fetch") (codes " fetch " ++ text) ≡ Some (32 ∷ text)) × (behind (codes "fetch") (codes " xchg " ++ text) ≡ None) × (behind (codes "xchg") (codes " xchg " ++ text) ≡ Some (32 ∷ text))
    × (behind (codes "fetch") (codes " cmpxchg " ++ text) ≡ None) × (behind (codes "xchg") (codes " cmpxchg " ++ text) ≡ None) × (behind (codes "cmpxchg") (codes " cmpxchg " ++ text) ≡ Some (32 ∷ text))
unfolding behind behind_word word_in
word_ahead text = (refl, refl, refl, refl, refl, refl)

comma_ahead : (text : List ℕ) → behind_mark 44 (44 ∷ text) ≡ Some text
unfolding behind_mark
comma_ahead text = refl

wide_word : (wide : Bool) → wide_of (Unsigned (word_size wide)) ≡ Some wide
wide_word true = refl
wide_word false = refl

register_last : (r : Reg) → register_in W64 (32 ∷ (register_text W64 r ++ [])) ≡ Some (r, [])
register_last r = register_here W64 r (32 ∷ (register_text W64 r ++ [])) [] (word_behind_blank (register_text W64 r ++ []) ∙ register_word W64 r [] at_end)

-- the place behind the word, and the operation
abbrev pub changed_text : Bool → Reg → ℤ → List ℕ → List ℕ
changed_text wide dst off text = 42 ∷ 40 ∷ (unsigned_text (word_size wide) ++ pointer_text dst off text)

change_here : (fetch wide : Bool) (by : Modify) (dst src : Reg) (off : ℤ) → FitsSigned w16 off
    → change_in fetch (32 ∷ changed_text wide dst off (32 ∷ (modify_text by ++ 32 ∷ (register_text W64 src ++ [])))) ≡ Some (Some (Atomic wide (Changes by fetch) dst off src), [])
unfolding change_in
change_here fetch wide by dst src off fits =
    let star = star_ahead (unsigned_text (word_size wide) ++ pointer_text dst off (32 ∷ (modify_text by ++ 32 ∷ (register_text W64 src ++ [])))) in
    rw (
      unsigned_place (word_size wide) dst off (32 ∷ changed_text wide dst off (32 ∷ (modify_text by ++ 32 ∷ (register_text W64 src ++ [])))) (32 ∷ (modify_text by ++ 32 ∷ (register_text W64 src ++ []))) fits star.0,
      wide_word wide,
      modify_found by (register_text W64 src ++ []),
      register_last src,
    ) refl

exchange_here : (op : AtomicOp) (wide : Bool) (dst src : Reg) (off : ℤ) → FitsSigned w16 off
    → exchange_in op (32 ∷ changed_text wide dst off (44 ∷ 32 ∷ (register_text W64 src ++ []))) ≡ Some (Some (Atomic wide op dst off src), [])
unfolding exchange_in
exchange_here op wide dst src off fits =
    let star = star_ahead (unsigned_text (word_size wide) ++ pointer_text dst off (44 ∷ 32 ∷ (register_text W64 src ++ []))) in
    rw (
      unsigned_place (word_size wide) dst off (32 ∷ changed_text wide dst off (44 ∷ 32 ∷ (register_text W64 src ++ []))) (44 ∷ 32 ∷ (register_text W64 src ++ [])) fits star.0,
      wide_word wide,
      comma_ahead (32 ∷ (register_text W64 src ++ [])),
      register_last src,
    ) refl

-- behind `lock`
abbrev pub locked_text : Bool → AtomicOp → Reg → ℤ → Reg → List ℕ
locked_text wide op dst off src = 32 ∷ (atomic_word op ++ (codes "*(" ++ (unsigned_text (word_size wide) ++ (codes " *)(" ++ (r_text dst ++ (codes " " ++ (offset_text off ++ (atomic_sign op ++ (r_text src ++ [])))))))))

pub locked : (wide : Bool) (op : AtomicOp) (dst src : Reg) (off : ℤ) → FitsSigned w16 off → atomic_in (locked_text wide op dst off src) ≡ Some (Some (Atomic wide op dst off src), [])
unfolding atomic_in
locked wide Xchg dst src off fits =
    let words = word_ahead (changed_text wide dst off (44 ∷ 32 ∷ (register_text W64 src ++ []))) in
    rw (words.1, words.2) (exchange_here Xchg wide dst src off fits)
locked wide CmpXchg dst src off fits =
    let words = word_ahead (changed_text wide dst off (44 ∷ 32 ∷ (register_text W64 src ++ []))) in
    rw (words.3, words.4, words.5) (exchange_here CmpXchg wide dst src off fits)
locked wide (Changes AddTo true) dst src off fits =
    let words = word_ahead (changed_text wide dst off (32 ∷ (modify_text AddTo ++ 32 ∷ (register_text W64 src ++ [])))) in
    rw words.0 (change_here true wide AddTo dst src off fits)
locked wide (Changes AddTo false) dst src off fits =
    let words = lock_ahead (unsigned_text (word_size wide) ++ pointer_text dst off (32 ∷ (modify_text AddTo ++ 32 ∷ (register_text W64 src ++ [])))) in
    rw (words.0, words.1, words.2) (change_here false wide AddTo dst src off fits)
locked wide (Changes OrTo true) dst src off fits =
    let words = word_ahead (changed_text wide dst off (32 ∷ (modify_text OrTo ++ 32 ∷ (register_text W64 src ++ [])))) in
    rw words.0 (change_here true wide OrTo dst src off fits)
locked wide (Changes OrTo false) dst src off fits =
    let words = lock_ahead (unsigned_text (word_size wide) ++ pointer_text dst off (32 ∷ (modify_text OrTo ++ 32 ∷ (register_text W64 src ++ [])))) in
    rw (words.0, words.1, words.2) (change_here false wide OrTo dst src off fits)
locked wide (Changes AndTo true) dst src off fits =
    let words = word_ahead (changed_text wide dst off (32 ∷ (modify_text AndTo ++ 32 ∷ (register_text W64 src ++ [])))) in
    rw words.0 (change_here true wide AndTo dst src off fits)
locked wide (Changes AndTo false) dst src off fits =
    let words = lock_ahead (unsigned_text (word_size wide) ++ pointer_text dst off (32 ∷ (modify_text AndTo ++ 32 ∷ (register_text W64 src ++ [])))) in
    rw (words.0, words.1, words.2) (change_here false wide AndTo dst src off fits)
locked wide (Changes XorTo true) dst src off fits =
    let words = word_ahead (changed_text wide dst off (32 ∷ (modify_text XorTo ++ 32 ∷ (register_text W64 src ++ [])))) in
    rw words.0 (change_here true wide XorTo dst src off fits)
locked wide (Changes XorTo false) dst src off fits =
    let words = lock_ahead (unsigned_text (word_size wide) ++ pointer_text dst off (32 ∷ (modify_text XorTo ++ 32 ∷ (register_text W64 src ++ [])))) in
    rw (words.0, words.1, words.2) (change_here false wide XorTo dst src off fits)

-- ---- jumps

pub aimed : (jump : Jump) (off : ℤ) (i : Insn) → IsShort off → jump_by jump off ≡ Some i → target_in jump (32 ∷ (distance_text off ++ [])) ≡ Some (Some (plain i), [])
unfolding target_in
aimed jump off i h is = rw (distance_here off [] h at_end, is) refl

-- no equals sign comes next
no_equals : (width : Width) (src : Operand) (text : List ℕ) → OperandFits src → behind_mark 61 (32 ∷ (operand_text width src ++ text)) ≡ None
unfolding behind_mark
no_equals W32 (FromReg R0) text fits = refl
no_equals W32 (FromReg R1) text fits = refl
no_equals W32 (FromReg R2) text fits = refl
no_equals W32 (FromReg R3) text fits = refl
no_equals W32 (FromReg R4) text fits = refl
no_equals W32 (FromReg R5) text fits = refl
no_equals W32 (FromReg R6) text fits = refl
no_equals W32 (FromReg R7) text fits = refl
no_equals W32 (FromReg R8) text fits = refl
no_equals W32 (FromReg R9) text fits = refl
no_equals W32 (FromReg R10) text fits = refl
no_equals W64 (FromReg R0) text fits = refl
no_equals W64 (FromReg R1) text fits = refl
no_equals W64 (FromReg R2) text fits = refl
no_equals W64 (FromReg R3) text fits = refl
no_equals W64 (FromReg R4) text fits = refl
no_equals W64 (FromReg R5) text fits = refl
no_equals W64 (FromReg R6) text fits = refl
no_equals W64 (FromReg R7) text fits = refl
no_equals W64 (FromReg R8) text fits = refl
no_equals W64 (FromReg R9) text fits = refl
no_equals W64 (FromReg R10) text fits = refl
no_equals width (Imm (negsuc n)) text fits = refl
no_equals width (Imm (pos n)) text fits = no_mark_before 61 (decimal n) n text (decimal_number n (small n fits)) refl

goto_ahead : (text : List ℕ) → behind (codes "goto") (codes " goto " ++ text) ≡ Some (32 ∷ text)
unfolding behind behind_word word_in
goto_ahead text = refl

pub branched : (test : Cond) (width : Width) (dst : Reg) (src : Operand) (off : ℤ) → OperandFits src → FitsSigned w16 off
    → branch_in (32 ∷ (register_text width dst ++ 32 ∷ (cond_text test ++ 32 ∷ (operand_text width src ++ (codes " goto " ++ (distance_text off ++ [])))))) ≡ Some (Some (plain (JumpIf test width dst src off)), [])
unfolding branch_in
branched test width dst src off operand fits =
    let word : word_in (32 ∷ (register_text width dst ++ 32 ∷ (cond_text test ++ 32 ∷ (operand_text width src ++ (codes " goto " ++ (distance_text off ++ []))))))
    ≡ Some (register_text width dst, 32 ∷ (cond_text test ++ 32 ∷ (operand_text width src ++ (codes " goto " ++ (distance_text off ++ [])))))
    = word_behind_blank (register_text width dst ++ 32 ∷ (cond_text test ++ 32 ∷ (operand_text width src ++ (codes " goto " ++ (distance_text off ++ [])))))
    ∙ register_word width dst (32 ∷ (cond_text test ++ 32 ∷ (operand_text width src ++ (codes " goto " ++ (distance_text off ++ []))))) (at_blank (cond_text test ++ 32 ∷ (operand_text width src ++ (codes " goto " ++ (distance_text off ++ []))))) in
    rw (
      register_found width dst (32 ∷ (register_text width dst ++ 32 ∷ (cond_text test ++ 32 ∷ (operand_text width src ++ (codes " goto " ++ (distance_text off ++ [])))))) (32 ∷ (cond_text test ++ 32 ∷ (operand_text width src ++ (codes " goto " ++ (distance_text off ++ []))))) word,
      cond_found test (operand_text width src ++ (codes " goto " ++ (distance_text off ++ []))) (no_equals width src (codes " goto " ++ (distance_text off ++ [])) operand),
      operand_here width src (codes " goto " ++ (distance_text off ++ [])) operand (at_blank (codes "goto " ++ (distance_text off ++ []))),
      goto_ahead (distance_text off ++ []),
    )
    (aimed (OnTest test width dst src) off (JumpIf test width dst src off) (short_16 off fits) (rw (in_16 off fits) refl))
