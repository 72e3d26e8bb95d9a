-- What is at fault where an instruction is refused: which slot is read so, and what each mistake of kinds says.
use Rattle.std.specs.Prelude.{◌≡◌, ℕ, Bool, true, false, not, ◌&&◌, List, [], ◌∷◌, Contains, Option, Some, None, option_map}
use Rattle.bpf_insn.specs.Effects.{operand_register, atomic_registers, access_of}
use Rattle.bpf_insn.specs.declared.instruction.Reg.{Reg}
use Rattle.bpf_insn.specs.declared.instruction.Reg.TheVariants.{R0}
use Rattle.bpf_insn.specs.declared.instruction.Width.TheVariants.{W32, W64}
use Rattle.bpf_insn.specs.declared.instruction.AluOp.TheVariants.{Add, Sub, Mov}
use Rattle.bpf_insn.specs.declared.instruction.Insn.{Insn}
use Rattle.bpf_insn.specs.declared.instruction.Insn.TheVariants.{Alu, Neg, MovSx, End, Store, Atomic, JumpIf, Exit}
use Rattle.bpf_state.specs.declared.known.RegState.{RegState}
use Rattle.bpf_state.specs.declared.known.RegState.TheVariants.{Ptr}
use Rattle.bpf_state.specs.declared.known.Moved.{Moved}
use Rattle.bpf_state.specs.declared.cause.Mistake.{Mistake}
use Rattle.bpf_state.specs.declared.cause.Mistake.TheVariants.{NotNumber, NotPointer, PointersAdded, PointerSubtracted, OtherAreas, WrongTest, StoredInPart, ReadInPart}
use Rattle.bpf_state.specs.State.{AbstractState, register, same_area}
use Rattle.bpf_state.specs.Access.{Span, span_of, is_slot, touches, touched_bytes, is_pointer_slot, are_known_bytes, IsFirstSlot}
use Rattle.bpf_state.specs.Fault.{operand, alu_of_kinds, is_number, is_pointer, can_test, loads_slot, reads_memory, on_span}

-- ---- slots that are read

-- the first slot with a pointer of which a part may be read
pub record IsReadInPart (s : AbstractState) (i : Insn) (k : ℕ) : Type 0 where
  pub span : Span
  pub lies : span_of s i ≡ Some span
  pub reads : reads_memory i ≡ true
  pub part : loads_slot i span ≡ false
  pub slot : IsFirstSlot (λ j held. touches span j && is_pointer_slot held) s.slots k

-- the first slot of which a byte may be read that isn't known as initialised
pub record IsReadUnknown (s : AbstractState) (i : Insn) (k : ℕ) : Type 0 where
  pub span : Span
  pub lies : span_of s i ≡ Some span
  pub reads : reads_memory i ≡ true
  pub slot : IsFirstSlot (λ j held. touches span j && not (are_known_bytes (touched_bytes span j) held)) s.slots k

-- ---- kinds

-- the registers that have to hold numbers, whatever the others hold
abbrev pub numbers_taken : Insn → List Reg
numbers_taken (Alu Mov W64 dst src) = []
numbers_taken (Alu Mov W32 dst src) = operand_register src
numbers_taken (Alu Add W64 dst src) = []
numbers_taken (Alu Sub W64 dst src) = []
numbers_taken (Alu op width dst src) = dst ∷ operand_register src
numbers_taken (Neg width dst) = dst ∷ []
numbers_taken (MovSx width bits dst src) = src ∷ []
numbers_taken (End kind bits dst) = dst ∷ []
numbers_taken (Atomic wide op dst off src) = src ∷ atomic_registers op
numbers_taken Exit = R0 ∷ []
numbers_taken _ = []

abbrev pub adds_pointers : AbstractState → Insn → Bool
adds_pointers s (Alu Add W64 dst src) = is_pointer (register s dst) && is_pointer (operand s src)
adds_pointers s _ = false

-- from what is no pointer
abbrev pub subtracts_pointer : AbstractState → Insn → Bool
subtracts_pointer s (Alu Sub W64 dst src) = not (is_pointer (register s dst)) && is_pointer (operand s src)
subtracts_pointer s _ = false

-- one pointer into the context and one into the frame
abbrev pub have_other_areas : RegState → RegState → Bool
have_other_areas (Ptr p) (Ptr q) = not (same_area p.area q.area)
have_other_areas _ _ = false

abbrev pub subtracts_other : AbstractState → Insn → Bool
subtracts_other s (Alu Sub W64 dst src) = have_other_areas (register s dst) (operand s src)
subtracts_other s _ = false

abbrev pub tests_wrongly : AbstractState → Insn → Bool
tests_wrongly s (JumpIf cond width dst src off) = not (can_test width cond (register s dst) (operand s src))
tests_wrongly s _ = false

-- a pointer goes elsewhere than into one slot as a whole
abbrev pub stores_part : AbstractState → Insn → Bool
stores_part s (Store size dst off src) = is_pointer (register s src) && on_span s (Store size dst off src) (λ p. not (is_slot p))
stores_part s _ = false

-- what a mistake says
abbrev pub Shows : AbstractState → Insn → Mistake → Type 0
Shows s i (NotNumber r) = Contains (numbers_taken i) r × (is_number (register s r) ≡ false)
Shows s i (NotPointer r) = (option_map (λ a. a.base) (access_of i) ≡ Some r) × (is_pointer (register s r) ≡ false)
Shows s i PointersAdded = adds_pointers s i ≡ true
Shows s i PointerSubtracted = subtracts_pointer s i ≡ true
Shows s i OtherAreas = subtracts_other s i ≡ true
Shows s i WrongTest = tests_wrongly s i ≡ true
Shows s i StoredInPart = stores_part s i ≡ true
Shows s i (ReadInPart k) = IsReadInPart s i k

-- ---- pointers that go too far

-- a pointer with any bounds
abbrev pub pointer_of : Moved → RegState
pointer_of made = Ptr (record { area = made.area; lo = made.lo; hi = made.hi })

-- what arithmetic makes of its operands
abbrev pub made : AbstractState → Insn → Option (Option RegState)
made s (Alu op width dst src) = alu_of_kinds width op (register s dst) (operand s src)
made s _ = None
