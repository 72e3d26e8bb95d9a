-- The run of the flat machine that takes 0 for all that a start, a call and a return leave open: it is one of the machine's runs, and it is computed.
use Rattle.std.specs.Prelude.{◌≡◌, ℕ, zero, suc, ◌+◌, ◌-◌, ◌%◌, nat_le, nat_lt, ◌&&◌, List, [], ◌∷◌, ◌++◌, length, take, drop, slice_index, Option, Some, None, option_map, if◌then◌else◌}
use Rattle.std.specs.List.{AllByRecursion}
use Rattle.bpf_insn.specs.Options.{◌>>=◌}
use Rattle.bpf_insn.specs.Instruction.{Instructions, insn_at, target}
use Rattle.bpf_insn.specs.declared.order.Order.{Order}
use Rattle.bpf_insn.specs.declared.instruction.Reg.TheVariants.{R0}
use Rattle.bpf_insn.specs.declared.instruction.Insn.{Insn}
use Rattle.bpf_insn.specs.declared.instruction.Insn.TheVariants.{CallLocal, Exit}
use Rattle.bpf_semantics.specs.State.{frame_bytes, max_frames}
use Rattle.bpf_semantics.specs.Flat.{Placement, Return, FlatState, IsFlat, addresses, frame_start, frame_end, flat_register, flat_does}

-- ---- the start: the context's bytes at its place, r1, r2 and r10, and 0 in all else

abbrev pub zero_memory : Placement → List ℕ → ℕ → ℕ
zero_memory place context a = if nat_le place.context a && nat_lt a (place.context + length context) then slice_index context (a - place.context) else 0

abbrev pub zero_start : Placement → List ℕ → FlatState
zero_start place context =
    record {
      slot = 0;
      registers = 0 ∷ place.context % addresses ∷ length context ∷ 0 ∷ 0 ∷ 0 ∷ 0 ∷ 0 ∷ 0 ∷ 0 ∷ frame_end place 0 ∷ [];
      memory = zero_memory place context;
      returns = [];
    }

-- ---- steps

-- the bytes of a new frame are 0
abbrev pub cleared : ℕ → (ℕ → ℕ) → ℕ → ℕ
cleared first memory a = if nat_le first a && nat_lt a (first + frame_bytes) then 0 else memory a

-- a call gives r1 to r5, the new frame's end in r10, and 0 in the other registers
abbrev pub zero_entered : Placement → FlatState → ℕ → FlatState
zero_entered place f slot =
    record {
      slot = slot;
      registers = 0 ∷ take 5 (drop 1 f.registers) ++ 0 ∷ 0 ∷ 0 ∷ 0 ∷ frame_end place (suc (length f.returns)) ∷ [];
      memory = cleared (frame_start place (suc (length f.returns))) f.memory;
      returns = (record { slot = f.slot + 1; saved = drop 6 f.registers }) ∷ f.returns;
    }

-- a return gives r0, 0 in r1 to r5, and what the call kept
abbrev pub zero_left : List Return → FlatState → Option FlatState
zero_left [] f = None
zero_left (r ∷ returns) f = Some (record { slot = r.slot; registers = flat_register f R0 ∷ 0 ∷ 0 ∷ 0 ∷ 0 ∷ 0 ∷ r.saved; memory = f.memory; returns = returns })

abbrev pub zero_does : Placement → Order → Insn → FlatState → Option FlatState
zero_does place order (CallLocal off) f = if nat_lt (suc (length f.returns)) max_frames then option_map (zero_entered place f) (target f.slot off) else None
zero_does place order Exit f = zero_left f.returns f
zero_does place order i f = flat_does order i f

unfoldable pub zero_step : Placement → Instructions → FlatState → Option FlatState
zero_step place p f = insn_at p.list f.slot >>= λ i. zero_does place p.order i f

-- the state after so many steps
unfoldable pub zero_after : Placement → Instructions → ℕ → FlatState → Option FlatState
zero_after place p zero f = Some f
zero_after place p (suc k) f = zero_after place p k f >>= zero_step place p

-- ---- which states these are: every step keeps this

-- a call has kept r6 to r10
abbrev pub IsWholeReturn : Return → Type 0
IsWholeReturn r = length r.saved ≡ 5

pub record IsZeroState (f : FlatState) : Type 0 where
  pub flat : IsFlat f
  pub whole : AllByRecursion IsWholeReturn f.returns
