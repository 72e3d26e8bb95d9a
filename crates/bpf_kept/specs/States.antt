-- What is known of the new program's numbers by itself: an abstract state in front of each slot, as its certificate has it.
use Rattle.std.specs.Prelude.{◌≡◌, ◌⊎◌, ℕ, ◌==◌, Bool, true, List, length as list_length, Option, Some, None, is_none, option_map}
use Rattle.bpf_insn.specs.Options.{◌>>=◌}
use Rattle.bpf_insn.specs.Arithmetic.{extended}
use Rattle.bpf_insn.specs.Laws.{AreBytes}
use Rattle.bpf_insn.specs.Instruction.{Instructions}
use Rattle.bpf_insn.specs.declared.instruction.Reg.{Reg}
use Rattle.bpf_insn.specs.declared.instruction.Operand.{Operand}
use Rattle.bpf_insn.specs.declared.instruction.Operand.TheVariants.{Imm, Reg as FromReg}
use Rattle.bpf_insn.specs.declared.instruction.Width.TheVariants.{W64}
use Rattle.bpf_insn.specs.declared.instruction.Cond.TheVariants.{Eq}
use Rattle.bpf_semantics.specs.State as machine
use Rattle.bpf_semantics.specs.Run.{Steps}
use Rattle.bpf_semantics.specs.declared.value.Value.TheVariants.{Number as NumberValue}
use Rattle.bpf_num.specs.Number.{Number, IsNumber, Has, top, constant}
use Rattle.bpf_num.specs.Refine.{refine}
use Rattle.bpf_state.specs.declared.known.RegState.{RegState}
use Rattle.bpf_state.specs.declared.known.RegState.TheVariants.{Any, Num, Ptr}
use Rattle.bpf_state.specs.State.{AbstractState, register}
use Rattle.bpf_cert.specs.View.{CertificateView}
use Rattle.bpf_safety.specs.Labels.{first_with}
use Rattle.bpf_safety.specs.Flow.{Arrival, visits}

-- by slots; where there is none, nothing is known
abbrev pub States : Type 0
States = ℕ → Option AbstractState

abbrev pub no_states : States
no_states slot = None

-- what reaches the instruction at a slot in the check of a certificate
abbrev pub arrival_at : Instructions → CertificateView → ℕ → Option Arrival
arrival_at p c slot = first_with (λ v. v.slot == slot) (visits p c) >>= λ v. v.arrival

-- the states of these
abbrev pub states_of : Instructions → CertificateView → States
states_of p c slot = option_map (λ a. a.state) (arrival_at p c slot)

-- no states, or a certificate's
abbrev pub AreFrom : Instructions → CertificateView → States → Type 0
AreFrom p c states = (states ≡ no_states) ⊎ (states ≡ states_of p c)

-- ---- numbers

abbrev pub number_in : RegState → Number
number_in (Num n) = n
number_in Any = top
number_in (Ptr p) = top

-- what is known of the number in a register
abbrev pub held_number : Option AbstractState → Reg → Number
held_number None r = top
held_number (Some s) r = number_in (register s r)

abbrev pub operand_number : Option AbstractState → Operand → Number
operand_number state (Imm imm) = constant (extended imm)
operand_number state (FromReg r) = held_number state r

-- it isn't this one
abbrev pub never_holds : Option AbstractState → Reg → ℕ → Bool
never_holds state r n = is_none (refine Eq W64 true (held_number state r) (constant n))

-- ---- what states say of runs

-- each register whose number is known holds a member of it
abbrev pub HasNumbers : AbstractState → machine.State → Type 0
HasNumbers a s = (r : Reg) (n : Number) → register a r ≡ Num n → IsNumber n × (x : ℕ) × (machine.register s r ≡ Some (NumberValue x)) × Has n x

-- so it is at each state of each run on a context of so many bytes
abbrev pub AreStates : Instructions → ℕ → States → Type 0
AreStates p length states =
    (context : List ℕ) (k : ℕ) (s : machine.State) (a : AbstractState) → AreBytes context → list_length context ≡ length
    → Steps p k (machine.start context) s → states s.top.slot ≡ Some a → HasNumbers a s
