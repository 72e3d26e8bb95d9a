-- The template that loads a cell: each cell that may be loaded is known to hold a number.
use Rattle.std.proofs.Common.{◌≡◌, ℕ, zero, suc, ◌+◌, List, [], ◌∷◌, length, drop, get_or, Bool, true, false, Option, refl, sym, ap, ◌∙◌, subst, arith}
use Rattle.std.specs.Prelude.{nat_lt, ◌%◌, ◌||◌, slice_get, slice_set}
use Rattle.std.proofs.lemmas.Bool.{cond-true, cond_both, le-ltb}
use Rattle.std.proofs.lemmas.List.{get_or-set_same}
use Rattle.bpf_insn.specs.Instruction.{Instructions}
use Rattle.bpf_insn.specs.Effects.{is_frame_pointer}
use Rattle.bpf_insn.specs.declared.instruction.Reg.TheVariants.{R10}
use Rattle.bpf_insn.specs.declared.instruction.Size.TheVariants.{DW}
use Rattle.bpf_insn.specs.declared.instruction.Insn.{Insn}
use Rattle.bpf_insn.specs.declared.instruction.Insn.TheVariants.{Load}
use Rattle.bpf_num.specs.Number.{top}
use Rattle.bpf_state.specs.State.{AbstractState}
use Rattle.bpf_state.specs.declared.known.SlotState.{SlotState}
use Rattle.bpf_state.specs.declared.known.SlotState.TheVariants.{Bytes, Word}
use Rattle.bpf_safety.specs.Flow.{Arrival}
use Rattle.bpf_classic.specs.declared.instruction.Register.{Register}
use Rattle.bpf_classic.specs.declared.instruction.Register.TheVariants.{A, X}
use Rattle.bpf_classic.specs.declared.instruction.Classic.{Classic}
use Rattle.bpf_classic.specs.declared.instruction.Classic.TheVariants.{Constant, Length, Cell, Store, At, Index, Header, Extension, Alu, Neg, Jump, Back, JumpIf, Return, ReturnA, Tax, Txa}
use Rattle.bpf_classic.specs.Template.{room, is_beyond, reg_of, cell_offset, code_of, code}
use Rattle.bpf_classic.specs.Flow.{sets_a, sets_x, leads_to, leads_on}
use Rattle.bpf_classic.specs.declared.layout.Layout.{Layout}
use Rattle.bpf_classic.specs.declared.layout.Annotated.{Annotated}
use Rattle.bpf_conversion.specs.Known.{cell_known, cells_known, no_cells}
use Rattle.bpf_conversion.specs.Claim.{claim_of}
use Rattle.bpf_conversion.specs.Outline.{IsNarrow}
use Rattle.bpf_conversion.proofs.Numbers.{IsIn}
use Rattle.bpf_conversion.proofs.TemplateStates.{IsCell, Sat, cells_long}
use Rattle.bpf_conversion.proofs.LabelStates.{AreSmall}
use Rattle.bpf_conversion.proofs.Steps.{Gives}
use Rattle.bpf_conversion.proofs.Cells.{load_cell}
use Rattle.bpf_conversion.proofs.Visits.{Clean}
use Rattle.bpf_conversion.proofs.Starts.{agreed}
use Rattle.bpf_conversion.proofs.Plain.{Ready}
use Rattle.bpf_conversion.proofs.Words.{Place, Going, Makes, makes_a, makes_x, one_plain}
use Rattle.bpf_conversion.proofs.Contexts.{plain_load}

not_beyond : (l : Layout) (b : Bool) → (nat_lt (room l) 0 || b) ≡ true → b ≡ true
not_beyond l b h = sym (ap (λ t. t || b) (le-ltb (room l) 0 (omega arith))) ∙ h

-- ---- what the entry sets is known of

set_stays : (slots : List SlotState) (m n : ℕ) → get_or slots n (Bytes 0) ≡ Word top → get_or (slice_set slots m (Word top)) n (Bytes 0) ≡ Word top
set_stays [] m n h = h
set_stays (s ∷ slots) zero zero h = refl
set_stays (s ∷ slots) zero (suc n) h = h
set_stays (s ∷ slots) (suc m) zero h = h
set_stays (s ∷ slots) (suc m) (suc n) h = set_stays slots m n h

one_stays : (reached : Bool) (i : Classic) (slots : List SlotState) (n : ℕ) → get_or slots n (Bytes 0) ≡ Word top → get_or (cell_known reached i slots) n (Bytes 0) ≡ Word top
one_stays reached (Cell to cell) slots n h = cond_both reached (slice_set slots (cell % 16) (Word top)) slots (λ xs. get_or xs n (Bytes 0) ≡ Word top) (λ _. set_stays slots (cell % 16) n h) (λ _. h)
one_stays reached (Constant to k) slots n h = h
one_stays reached (Length to) slots n h = h
one_stays reached (Store from cell) slots n h = h
one_stays reached (At size k) slots n h = h
one_stays reached (Index size k) slots n h = h
one_stays reached (Header k) slots n h = h
one_stays reached (Extension word) slots n h = h
one_stays reached (Alu op source) slots n h = h
one_stays reached Neg slots n h = h
one_stays reached (Jump k) slots n h = h
one_stays reached (Back k) slots n h = h
one_stays reached (JumpIf test source jt jf) slots n h = h
one_stays reached (Return k) slots n h = h
one_stays reached ReturnA slots n h = h
one_stays reached Tax slots n h = h
one_stays reached Txa slots n h = h

all_stay : (marked : List Annotated) (slots : List SlotState) (n : ℕ) → get_or slots n (Bytes 0) ≡ Word top → get_or (cells_known marked slots) n (Bytes 0) ≡ Word top
all_stay [] slots n h = h
all_stay (a ∷ rest) slots n h = all_stay rest (cell_known a.reached a.insn slots) n (one_stays a.reached a.insn slots n h)

known_from : (marked : List Annotated) (slots : List SlotState) (k cell : ℕ) (to : Register) (b : Annotated) (behind : List Annotated) → length slots ≡ 64 → drop k marked ≡ b ∷ behind → b.reached ≡ true → b.insn ≡ Cell to cell → get_or (cells_known marked slots) (cell % 16) (Bytes 0) ≡ Word top
known_from marked slots zero cell to b behind sixty e reached is =
    let set : cell_known b.reached b.insn slots ≡ slice_set slots (cell % 16) (Word top) = ap (λ i. cell_known b.reached i slots) is ∙ cond-true b.reached (slice_set slots (cell % 16) (Word top)) slots reached in
    let here : get_or (cell_known b.reached b.insn slots) (cell % 16) (Bytes 0) ≡ Word top = ap (λ xs. get_or xs (cell % 16) (Bytes 0)) set ∙ get_or-set_same slots (cell % 16) (Word top) (Bytes 0) (omega (arith, sixty)) in
    subst (λ marked. get_or (cells_known marked slots) (cell % 16) (Bytes 0) ≡ Word top) (sym e) (all_stay behind (cell_known b.reached b.insn slots) (cell % 16) here)
known_from [] slots (suc k) cell to b behind sixty e reached is = cc
known_from (a ∷ rest) slots (suc k) cell to b behind sixty e reached is = known_from rest (cell_known a.reached a.insn slots) k cell to b behind (cells_long (a ∷ []) slots ∙ sixty) e reached is

module _ (l : Layout) (marked : List Annotated) (p : Instructions) (narrow : IsNarrow p.list) (small : AreSmall l) where
  abbrev Ends : ℕ → ℕ → Annotated → List Annotated → Option Arrival → Type 0
  Ends slot k b behind passed = Place l marked p slot k b behind → Ready l marked p slot (b ∷ behind) passed → Going l marked p (slot + 1) behind → Clean p (claim_of l marked p.list) slot passed (code l (b ∷ behind))

  loads : (slot k cell : ℕ) (to : Register) (b : Annotated) (behind : List Annotated) (passed : Option Arrival) → b.insn ≡ Cell to cell → is_frame_pointer (reg_of to) ≡ false
      → ((i : Insn) (s : AbstractState) → Sat IsIn l marked b.a b.x s → Gives p.order l.length i s (reg_of to) → Makes l marked p i b s) → Ends slot k b behind passed
  loads slot k cell to b behind passed is ten makes h ready go =
      let i : Insn = Load DW (reg_of to) R10 (cell_offset cell) in
      let there : IsCell marked (cell % 16) = known_from marked no_cells k cell to b behind refl h.stands.rest_is h.reached is in
      one_plain l marked p narrow small slot k i b behind passed h (λ f out. ap (λ j. code_of l b j f out) is)
      (not_beyond l (leads_to b (slice_get behind 0)) (subst (λ j. (is_beyond l j || leads_on b j behind) ≡ true) is (agreed l b behind h.reached h.agree).leads))
      (plain_load p (claim_of l marked p.list) DW (reg_of to) R10 (cell_offset cell))
      (λ s sat. makes i s sat (load_cell p.order l.length s (reg_of to) cell ten sat.frame (sat.cells (cell % 16) there))) ready go

  pub cell_a : (slot k cell : ℕ) (b : Annotated) (behind : List Annotated) (passed : Option Arrival) → b.insn ≡ Cell A cell → Ends slot k b behind passed
  cell_a slot k cell b behind passed is = loads slot k cell A b behind passed is refl (λ i s sat g. makes_a l marked p i b s (ap sets_x is) sat g)

  pub cell_x : (slot k cell : ℕ) (b : Annotated) (behind : List Annotated) (passed : Option Arrival) → b.insn ≡ Cell X cell → Ends slot k b behind passed
  cell_x slot k cell b behind passed is = loads slot k cell X b behind passed is refl (λ i s sat g. makes_x l marked p i b s (ap sets_a is) sat g)
