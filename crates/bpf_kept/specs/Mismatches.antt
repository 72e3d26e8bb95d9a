-- Why notes don't match, and the numbers and words of that.
use Rattle.std.specs.Prelude.{◌≡◌, ◌≢◌, ◌↔◌, ◌⊎◌, ℕ, zero, suc, ◌<◌, ◌≤◌, Bool, true, false, List, [], ◌∷◌, Option, Some, None, IsTrue, if◌then◌else◌, codes, length as count}
use Rattle.std.specs.Option.{option_map_or}
use Rattle.bpf_insn.specs.Instruction.{Instructions, insn_at, slots}
use Rattle.bpf_insn.specs.declared.instruction.Insn.{Insn as Instruction}
use Rattle.bpf_insn.specs.declared.instruction.Insn.TheVariants.{CallLocal}
use Rattle.bpf_state.specs.State.{AbstractState}
use Rattle.bpf_cert.specs.View.{CertificateView}
use Rattle.bpf_kept.specs.Meaning.{Bounds}
use Rattle.bpf_kept.specs.Rules.{Known, undirected, paired}
use Rattle.bpf_kept.specs.States.{States, states_of}
use Rattle.bpf_kept.specs.Guards.{Front as AnyFront}
use Rattle.bpf_kept.specs.Matching.{Notes, note_at, known_at, falls, extra, Cuts, starts, HoldsAt, Matches, MayEnd}
use Rattle.bpf_kept.specs.declared.notes.Note.{Note}
use Rattle.bpf_kept.specs.declared.mismatch.NoteFault.{NoteFault}
use Rattle.bpf_kept.specs.declared.mismatch.NoteFault.TheVariants.{Front, Insn as AnyInsn, Read, Next, Target}
use Rattle.bpf_kept.specs.declared.mismatch.Mismatch.{Mismatch}
use Rattle.bpf_kept.specs.declared.mismatch.Mismatch.TheVariants.{Order, TooMany, Start, At, Length, NoExit}

-- ---- what fails of a note: the first of what is asked

-- another instruction; or the same one, which reads what may be something else, or calls what isn't noted so
abbrev pub unpaired_fault : Bool → Instruction → NoteFault
unpaired_fault false i = AnyInsn
unpaired_fault true (CallLocal off) = Target
unpaired_fault true i = Read

-- of an instruction that stands for an old one
unfoldable pub body_fault : Notes → Known → Bool → ℕ → ℕ → (insn moved : Instruction) → NoteFault
body_fault notes known same slot new_slot insn moved =
    option_map_or (λ change. if falls notes known change slot new_slot insn moved then Target else Next) (paired known same insn moved) (unpaired_fault same insn)

-- of an extra one
unfoldable pub extra_fault : AnyFront → Known → Instruction → NoteFault
extra_fault front known moved = option_map_or (λ change. Next) (extra front known moved) Front

-- where both are there
pub record IsBodyFault (old new : Instructions) (notes : Notes) (bounds : Bounds) (state : Option AbstractState) (slot : ℕ) (note : Note) (fault : NoteFault) : Type 0 where
  pub insn : Instruction
  pub insn_is : insn_at old.list note.old ≡ Some insn
  pub moved : Instruction
  pub moved_is : insn_at new.list slot ≡ Some moved
  pub same : Bool
  pub same_is : IsTrue same ↔ (undirected moved ≡ undirected insn)
  pub fault_is : fault ≡ body_fault notes (known_at new bounds state note) same note.old slot insn moved

pub record IsExtraFault (old new : Instructions) (bounds : Bounds) (state : Option AbstractState) (slot : ℕ) (note : Note) (fault : NoteFault) : Type 0 where
  pub moved : Instruction
  pub moved_is : insn_at new.list slot ≡ Some moved
  pub fault_is : fault ≡ extra_fault (record { old = old; slot = note.old; bounds = bounds }) (known_at new bounds state note) moved

-- no instruction stands there, or there is none that it stands for
abbrev pub IsNoBody : (old new : Instructions) → ℕ → Note → NoteFault → Type 0
IsNoBody old new slot note fault = (fault ≡ AnyInsn) × ((insn_at new.list slot ≡ None) ⊎ (insn_at old.list note.old ≡ None))

abbrev pub IsNoExtra : Instructions → ℕ → NoteFault → Type 0
IsNoExtra new slot fault = (fault ≡ AnyInsn) × (insn_at new.list slot ≡ None)

-- by how many extra instructions stand from here on
abbrev pub IsEitherFault : Instructions → Instructions → Notes → Bounds → Option AbstractState → ℕ → Note → NoteFault → ℕ → Type 0
IsEitherFault old new notes bounds state slot note fault zero = IsNoBody old new slot note fault ⊎ IsBodyFault old new notes bounds state slot note fault
IsEitherFault old new notes bounds state slot note fault (suc left) = IsNoExtra new slot fault ⊎ IsExtraFault old new bounds state slot note fault

-- What fails of what is noted of a slot, in front of an old one.
pub record FailsBy (old new : Instructions) (notes : Notes) (bounds : Bounds) (state : Option AbstractState) (slot before : ℕ) (fault : NoteFault) : Type 0 where
  pub note : Note
  pub noted : note_at notes slot ≡ Some note
  pub before_is : before ≡ note.old
  pub fails : IsEitherFault old new notes bounds state slot note fault note.extras

-- the lowest slot at which what is noted doesn't hold, and what fails of it
abbrev pub IsLowest : Instructions → Instructions → Notes → Bounds → States → ℕ → ℕ → NoteFault → Type 0
IsLowest old new notes bounds states slot before fault =
    (HoldsAt old new notes bounds (states slot) slot → ⊥) × ((lower : ℕ) → lower < slot → HoldsAt old new notes bounds (states lower) lower) × FailsBy old new notes bounds (states slot) slot before fault

-- ---- what fails of all

-- it is of a slot of which this holds
abbrev pub IsAt : (ℕ → ℕ → NoteFault → Type 0) → Mismatch → Type 0
IsAt Holds Order = ⊥
IsAt Holds TooMany = ⊥
IsAt Holds Start = ⊥
IsAt Holds (At slot before fault) = Holds slot before fault
IsAt Holds Length = ⊥
IsAt Holds NoExit = ⊥

abbrev pub Starts : Instructions → Notes → Bounds → Type 0
Starts new notes bounds = (bounds.padded ≡ true → Cuts new bounds.length) × (starts notes new bounds ≡ true)

-- both have one byte order, there are no more notes than the new program has slots, and the start matches
abbrev pub IsBegun : Instructions → Instructions → Notes → Bounds → Type 0
IsBegun old new notes bounds = (new.order ≡ old.order) × (count notes ≤ slots new.list) × Starts new notes bounds

-- The byte orders differ; or they don't, and there are more notes than the new program has slots; or there aren't, and the start doesn't match.
unfoldable pub IsUnbegun : Instructions → Instructions → Notes → Bounds → Mismatch → Type 0
IsUnbegun old new notes bounds Order = new.order ≢ old.order
IsUnbegun old new notes bounds TooMany = (new.order ≡ old.order) × (slots new.list < count notes)
IsUnbegun old new notes bounds Start = (new.order ≡ old.order) × (count notes ≤ slots new.list) × (Starts new notes bounds → ⊥)
IsUnbegun old new notes bounds (At slot before fault) = ⊥
IsUnbegun old new notes bounds Length = ⊥
IsUnbegun old new notes bounds NoExit = ⊥

-- the certificate is for contexts of so many bytes
abbrev pub IsFor : CertificateView → ℕ → Type 0
IsFor c length = (c.least ≤ length) × (length ≤ c.most)

-- Beside a certificate for contexts of this length, notes match by its states, and its check reaches an exit that stands for one of the old program's.
abbrev pub MatchesBeside : Instructions → Instructions → Notes → CertificateView → Bounds → Type 0
MatchesBeside old new notes c bounds = IsFor c bounds.length × Matches old new notes bounds (states_of new c) × MayEnd old notes (states_of new c)

-- It is for others; or it isn't, and the start doesn't match; or it does, and a slot doesn't; or all match, and no such exit is reached.
unfoldable pub IsMismatch : Instructions → Instructions → Notes → CertificateView → Bounds → Mismatch → Type 0
IsMismatch old new notes c bounds Order = IsFor c bounds.length × IsUnbegun old new notes bounds Order
IsMismatch old new notes c bounds TooMany = IsFor c bounds.length × IsUnbegun old new notes bounds TooMany
IsMismatch old new notes c bounds Start = IsFor c bounds.length × IsUnbegun old new notes bounds Start
IsMismatch old new notes c bounds (At slot before fault) = IsFor c bounds.length × IsBegun old new notes bounds × IsLowest old new notes bounds (states_of new c) slot before fault
IsMismatch old new notes c bounds Length = IsFor c bounds.length → ⊥
IsMismatch old new notes c bounds NoExit = IsFor c bounds.length × Matches old new notes bounds (states_of new c) × (MayEnd old notes (states_of new c) → ⊥)

-- ---- numbers and words

abbrev pub fault_number : NoteFault → ℕ
fault_number Front = 3
fault_number AnyInsn = 4
fault_number Read = 5
fault_number Next = 6
fault_number Target = 7

abbrev pub mismatch_number : Mismatch → ℕ
mismatch_number Order = 1
mismatch_number Start = 2
mismatch_number (At slot before fault) = fault_number fault
mismatch_number TooMany = 8
mismatch_number Length = 9
mismatch_number NoExit = 10

-- the old slot
abbrev pub mismatch_slot : Mismatch → ℕ
mismatch_slot Order = 0
mismatch_slot Start = 0
mismatch_slot (At slot before fault) = before
mismatch_slot TooMany = 0
mismatch_slot Length = 0
mismatch_slot NoExit = 0

-- by numbers
abbrev pub mismatch_texts : List (List ℕ)
mismatch_texts =
    [] ∷
    codes "the byte orders differ" ∷
    codes "the new program doesn't begin with what stands for the old one's start" ∷
    codes "what stands in front of the instruction isn't known, or isn't what the notes say" ∷
    codes "another instruction stands for it" ∷
    codes "the instruction reads what may be something else in the new program" ∷
    codes "the next instruction doesn't stand behind it, or the notes ask for more there" ∷
    codes "the instruction leads elsewhere, or the notes ask for more there" ∷
    codes "there are more notes than the new program has slots" ∷
    codes "the new program has no certificate for contexts of this length" ∷
    codes "the old program comes to no exit on contexts of this length" ∷
    []
