-- A certificate in the making, one part later.
use Rattle.std.proofs.Common.{◌≡◌, ℕ, ◌+◌, ◌-◌, ◌<◌, ◌≤◌, List, ◌++◌, map, sym, ap, subst, ◌∙◌, arith}
use Rattle.std.proofs.lemmas.List.{map-set, set-append_left, set-append_right, length-take-le, length-map, get_or_append_left, get_or-map, get_or-take}
use Rattle.std.proofs.Math.Seq.{take-set-lt, get_or-append_right}
use Rattle.std.proofs.Common.{take, length, get_or, refl}
use Rattle.std.proofs.Math.ListN.{set}
use Rattle.bpf_insn.specs.declared.instruction.Reg.{Reg}
use Rattle.bpf_insn.specs.Instruction.{register_number}
use Rattle.bpf_state.specs.State.{value_slot, AbstractState, IsAbstractState, register, slot}
use Rattle.bpf_state.specs.declared.known.Place.{Place}
use Rattle.bpf_state.specs.declared.known.RegState.{RegState}
use Rattle.bpf_state.specs.declared.known.RegState.TheVariants as reg
use Rattle.bpf_state.specs.declared.known.SlotState.{SlotState}
use Rattle.bpf_state.specs.declared.known.SlotState.TheVariants as slot
use Rattle.bpf_cert.specs.Spelling.{contents}
use Rattle.bpf_cert.specs.code.Building.{Puts, index_of}
use Rattle.bpf_cert.specs.code.Sound.{IsLabelState}
use Rattle.bpf_cert.specs.declared.building.Builder.{Builder}
use Rattle.bpf_cert.proofs.WritingLemmas.{front_length, length-contents}

-- the contents of a state with a register changed
pub contents_register : (registers : List RegState) (slots : List SlotState) (i : ℕ) (value : RegState) (content : SlotState) → i ≤ 9 → length registers ≡ 11 → value_slot value ≡ content
    → map value_slot (take 10 (set registers i value)) ++ slots ≡ set (map value_slot (take 10 registers) ++ slots) i content
contents_register registers slots i value content few long e =
    let inside : i < length (map value_slot (take 10 registers)) = omega (arith, length-map (take 10 registers) value_slot, length-take-le 10 registers (omega arith)) in
    ap (λ xs. map value_slot xs ++ slots) (take-set-lt 10 registers i value (omega arith)) ∙ ap (λ xs. xs ++ slots) (map-set value_slot (take 10 registers) i value)
    ∙ ap (λ c. set (map value_slot (take 10 registers)) i c ++ slots) e ∙ sym (set-append_left (map value_slot (take 10 registers)) slots i content inside)

pub contents_slot : (front slots : List SlotState) (k : ℕ) (content : SlotState) → length front ≡ 10 → 1 ≤ k → k ≤ 64 → front ++ set slots (k - 1) content ≡ set (front ++ slots) (9 + k) content
contents_slot front slots k content long low high = let same : 9 + k - 10 ≡ k - 1 = omega arith in ap (λ i. front ++ set slots i content) (sym same) ∙ sym (set-append_right front slots 10 (9 + k) content long (omega arith))

-- a register of which nothing is said, and a slot
no_value : (v : RegState) → value_slot v ≡ slot.Bytes 0 → v ≡ reg.Any
no_value reg.Any e = refl
no_value (reg.Num n) e = cc
no_value (reg.Ptr p) e = cc

-- what a state holds, by its index
pub content_register : (s : AbstractState) (i : ℕ) → i < 10 → IsAbstractState s → get_or (contents s) i (slot.Bytes 0) ≡ value_slot (get_or s.registers i reg.Any)
content_register s i few is =
    let long : length s.registers ≡ 11 = is.register_count in
    let front : length (map value_slot (take 10 s.registers)) ≡ 10 = front_length s is in
    let short : length (take 10 s.registers) ≡ 10 = length-take-le 10 s.registers (omega arith) in
    get_or_append_left (map value_slot (take 10 s.registers)) s.slots (slot.Bytes 0) i (omega arith)
    ∙ get_or-map value_slot (take 10 s.registers) i reg.Any (slot.Bytes 0) (omega arith)
    ∙ ap value_slot (get_or-take 10 s.registers i reg.Any (omega arith))

pub content_slot : (s : AbstractState) (j k : ℕ) → j ≡ 10 + k → IsAbstractState s → get_or (contents s) j (slot.Bytes 0) ≡ get_or s.slots k (slot.Bytes 0)
content_slot s j k e is =
    let front : length (map value_slot (take 10 s.registers)) ≡ 10 = front_length s is in
    let same : j - 10 ≡ k = omega arith in
    get_or-append_right (map value_slot (take 10 s.registers)) s.slots j (slot.Bytes 0) (omega arith) ∙ ap (λ n. get_or s.slots n (slot.Bytes 0)) (ap (λ n. j - n) front ∙ same)

pub register_unsaid : (s : AbstractState) (r : Reg) → register_number r ≤ 9 → IsAbstractState s → get_or (contents s) (register_number r) (slot.Bytes 0) ≡ slot.Bytes 0 → register s r ≡ reg.Any
register_unsaid s r few is e = no_value (register s r) (sym (content_register s (register_number r) (omega arith) is) ∙ e)

pub slot_unsaid : (s : AbstractState) (k : ℕ) → 1 ≤ k → IsAbstractState s → get_or (contents s) (9 + k) (slot.Bytes 0) ≡ slot.Bytes 0 → slot s k ≡ slot.Bytes 0
slot_unsaid s k low is e = sym (content_slot s (9 + k) (k - 1) (omega arith) is) ∙ e

-- a builder in which the state of the last label alone is another one
pub puts : (place : Place) (content : SlotState) (old : Builder) (state new : AbstractState) → new ≡ state → IsAbstractState old.label.state → contents state ≡ set (contents old.label.state) (index_of place) content
    → (IsLabelState old.label.state → IsLabelState state) → Puts place content old (record old { label = record old.label { state = new } })
puts place content old state new e is said sound =
    record {
      keeps = record { header = refl; standing = refl };
      list = refl;
      last = refl;
      functions = refl;
      function = refl;
      slot = refl;
      budget = refl;
      said = ap contents e ∙ said;
      long = length-contents old.label.state is;
      sound = λ known. subst IsLabelState (sym e) (sound known);
    }
