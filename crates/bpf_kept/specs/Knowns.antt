-- What is known in front of an instruction, as the code hands it on.
use Rattle.std.specs.Prelude.{ℕ, ◌-◌, Bool, [], ◌∷◌, take, Option, Some, None, option_copied}
use Rattle.bpf_insn.specs.declared.instruction.Reg.TheVariants.{R0, R1, R2, R3, R4, R5, R6, R7, R8, R9, R10}
use Rattle.bpf_kept.specs.declared.notes.Holder.TheVariants.{Register, Length}
use Rattle.bpf_kept.specs.declared.notes.Note.{Note}
use Rattle.bpf_kept.specs.declared.notes.Change.TheVariants.{Kept}
use Rattle.bpf_kept.specs.Meaning.{Bounds}
use Rattle.bpf_state.specs.State.{AbstractState}
use Rattle.bpf_kept.specs.Far.{middle, bytes_before}
use Rattle.bpf_kept.specs.Terms.{Facts, constant, zero_term, context_offset, negated}
use Rattle.bpf_kept.specs.Rules.{Known}
use Rattle.bpf_kept.specs.Behind.{by_itself}
use Rattle.bpf_kept.specs.Matching.{Notes, facts_at, most_at_start, start_slot, start_facts, arrives}
use Rattle.bpf_kept.specs.declared.known.FactList.{FactList}
use Rattle.bpf_kept.specs.declared.known.KnownHere.{KnownHere}
use Rattle.bpf_kept.specs.declared.known.NewSlot.{NewSlot}

-- the facts of a list
abbrev pub facts_in : FactList → Facts
facts_in f = take f.count f.all

abbrev pub known_of : KnownHere → Known
known_of k =
    record {
      facts = k.facts.now;
      apart = k.apart.now;
      counters = k.counters.now;
      turns = k.turns;
      left = k.left;
      back = k.back.now;
      spare = k.spare;
      barred = k.barred;
      state = option_copied k.state;
    }

-- what holds of registers at the start
abbrev pub first_facts : Bool → Facts
first_facts padded =
    record { of = Some (Register R1); base = None; by = Some context_offset } ∷ record { of = None; base = Some (Register R1); by = Some (constant (middle - bytes_before padded)) }
    ∷ record { of = Some (Register R1); base = Some (Register R1); by = Some (negated (constant (bytes_before padded))) } ∷ record { of = Some (Register R2); base = Some Length; by = Some zero_term }
    ∷ by_itself (Register R0) ∷ by_itself (Register R2) ∷ by_itself (Register R3) ∷ by_itself (Register R4) ∷ by_itself (Register R5)
    ∷ by_itself (Register R6) ∷ by_itself (Register R7) ∷ by_itself (Register R8) ∷ by_itself (Register R9) ∷ by_itself (Register R10) ∷ []

-- what holds of registers at the entry of a function, beside what is handed to it
abbrev pub fresh_registers : Facts
fresh_registers = by_itself (Register R0) ∷ by_itself (Register R6) ∷ by_itself (Register R7) ∷ by_itself (Register R8) ∷ by_itself (Register R9) ∷ by_itself (Register R10) ∷ []

-- where something is noted, and at the start, if so many of the frame's lowest bytes are left alone
abbrev pub known_for : ℕ → ℕ → Option AbstractState → Note → Known
known_for turns left state note =
    record {
      facts = facts_at note;
      apart = note.apart;
      counters = note.counters;
      turns = turns;
      left = left;
      back = note.back;
      spare = note.spare;
      barred = note.barred;
      state = state;
    }

-- A check knows this at a new slot with this note.
abbrev pub known_at_slot : NewSlot → Note → Known
known_at_slot at note = known_for at.bounds.turns at.left (option_copied at.state) note

abbrev pub start_for : Bool → ℕ → ℕ → ℕ → Option AbstractState → Known
start_for padded length turns left state =
    record {
      facts = start_facts padded length;
      apart = [];
      counters = [];
      turns = turns;
      left = left;
      back = by_itself (Register R0) ∷ [];
      spare = None;
      barred = None;
      state = state;
    }

-- What is noted of the first slot asks for no more than what is known at the start.
abbrev pub starts_for : Notes → Bounds → ℕ → Option AbstractState → Bool
starts_for notes bounds left state =
    arrives notes (start_for bounds.padded bounds.length bounds.turns left state) Kept None 0 (most_at_start - start_slot bounds.padded) (start_slot bounds.padded)
