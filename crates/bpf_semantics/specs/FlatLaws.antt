-- The laws of the flat machine (RFC 9669, sections 4 and 5). Each is proved as the contract of a function of its own.
use Rattle.std.specs.Prelude.{◌≡◌, ◌≢◌, ℕ, ◌+◌, ◌%◌, ◌<◌, true, List, length, get_or, Some}
use Rattle.std.specs.List.{AllByRecursion}
use Rattle.bpf_insn.specs.Instruction.{Instructions, register_number, byte_count}
use Rattle.bpf_insn.specs.Image.{IsProgram}
use Rattle.bpf_semantics.specs.State.{State, IsState}
use Rattle.bpf_semantics.specs.Step.{Step, Finish}
use Rattle.bpf_insn.specs.Effects.{Access, access_of, registers_read, register_written}
use Rattle.bpf_semantics.specs.Flat.{Placement, FlatState, FlatStep, FlatFinish, addresses, address, flat_register, flat_does}
use Rattle.bpf_semantics.specs.Placement.{IsPlacement, Fits, StaysInside}
use Rattle.bpf_insn.specs.declared.order.Order.{Order}
use Rattle.bpf_insn.specs.declared.instruction.Reg.{Reg}
use Rattle.bpf_insn.specs.declared.instruction.Insn.{Insn}

-- Where the machine steps, each flat state that fits it has a step; each of these leads to a flat state that fits the
-- next state; and what it touches lies inside the placed context and the live frames.
pub record Follows (place : Placement) (p : Instructions) (s t : State) (f : FlatState) : Type 0 where
  pub has_step : (g : FlatState) × FlatStep place p f g
  pub fits : (g : FlatState) → FlatStep place p f g → Fits p.order place t g
  pub inside : StaysInside place (length s.context) p f

abbrev pub FlatFollows : Type 0
FlatFollows =
    (place : Placement) (p : Instructions) (s t : State) (f : FlatState)
    (program : IsProgram p.list) (state : IsState s) (placed : IsPlacement (length s.context) place)
    (fits : Fits p.order place s f) (step : Step p s t) → Follows place p s t f

-- and where it ends, so does the flat machine, with the same number
abbrev pub FlatFinishes : Type 0
FlatFinishes =
    (place : Placement) (p : Instructions) (s : State) (f : FlatState) (v : ℕ)
    (fits : Fits p.order place s f) (finish : Finish p s v) → FlatFinish p f v × ((g : FlatState) → FlatStep place p f g → ⊥)

-- ---- the bytes that an instruction touches are those of its access

abbrev pub Touches : FlatState → Access → ℕ → Type 0
Touches f access a = (j : ℕ) × (j < byte_count access.size) × (a ≡ (address f access.base access.offset + j) % addresses)

-- An instruction, calls and exits aside, changes no byte but those that it writes.
abbrev pub FlatWritesOnly : Type 0
FlatWritesOnly =
    (order : Order) (i : Insn) (f g : FlatState) (a : ℕ)
    (does : flat_does order i f ≡ Some g) (address : a < addresses)
    (unwritten : (w : Access) → access_of i ≡ Some w → w.writes ≡ true → Touches f w a → ⊥) → g.memory a ≡ f.memory a

abbrev pub in_memory : (ℕ → ℕ) → FlatState → FlatState
in_memory memory f = record { slot = f.slot; registers = f.registers; memory = memory; returns = f.returns }

-- slot, registers and returns are the same, and so is each byte where the memories before had the same
pub record DoesAlike (order : Order) (i : Insn) (memory : ℕ → ℕ) (f g : FlatState) : Type 0 where
  pub after : FlatState
  pub does : flat_does order i (in_memory memory f) ≡ Some after
  pub same : after ≡ in_memory after.memory g
  pub bytes : (a : ℕ) → memory a ≡ f.memory a → after.memory a ≡ g.memory a

-- And it depends on no byte but those that it reads: in another memory that agrees on them it does the same.
abbrev pub FlatReadsOnly : Type 0
FlatReadsOnly =
    (order : Order) (i : Insn) (f g : FlatState) (memory : ℕ → ℕ)
    (does : flat_does order i f ≡ Some g)
    (agrees : (r : Access) (a : ℕ) → access_of i ≡ Some r → r.reads ≡ true → Touches f r a → memory a ≡ f.memory a)
    → DoesAlike order i memory f g

-- ---- the registers that an instruction reads and writes

-- It changes no register but the one that it writes.
abbrev pub FlatWritesOneRegister : Type 0
FlatWritesOneRegister =
    (order : Order) (i : Insn) (f g : FlatState) (r : Reg)
    (does : flat_does order i f ≡ Some g)
    (unwritten : (w : Reg) → register_written i ≡ Some w → register_number r ≢ register_number w) → flat_register g r ≡ flat_register f r

abbrev pub in_registers : List ℕ → FlatState → FlatState
in_registers registers f = record { slot = f.slot; registers = registers; memory = f.memory; returns = f.returns }

-- slot, memory and returns are the same, and so is the number in the register that is written
pub record DoesAlikeIn (order : Order) (i : Insn) (registers : List ℕ) (f g : FlatState) : Type 0 where
  pub after : FlatState
  pub does : flat_does order i (in_registers registers f) ≡ Some after
  pub same : in_registers g.registers after ≡ g
  pub result : (w : Reg) → register_written i ≡ Some w → flat_register after w ≡ flat_register g w

-- And it depends on no register but those that it reads: in others that agree on them it does the same.
abbrev pub FlatReadsRegisters : Type 0
FlatReadsRegisters =
    (order : Order) (i : Insn) (f g : FlatState) (registers : List ℕ)
    (does : flat_does order i f ≡ Some g) (eleven : length f.registers ≡ 11) (as_many : length registers ≡ 11)
    (agrees : AllByRecursion (λ r. get_or registers (register_number r) 0 ≡ flat_register f r) (registers_read i))
    → DoesAlikeIn order i registers f g
