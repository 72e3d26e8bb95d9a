use Rattle.std.proofs.Common.{◌≡◌, ℕ, ◌≤◌, ◌&&◌, true, leb, map, take}
use Rattle.std.proofs.lemmas.Bool.{leb-true}
use Rattle.bpf_insn.specs.Instruction.{register_number}
use Rattle.bpf_state.specs.State.{value_slot, with_register, with_slot}
use Rattle.bpf_state.specs.declared.known.Place.TheVariants.{Register, Slot}
use Rattle.bpf_cert.proofs.Bools.{both_true}
use Rattle.bpf_cert.proofs.BuildingLemmas.{contents_register, contents_slot, register_unsaid, slot_unsaid, puts}
use Rattle.bpf_cert.proofs.WritingLemmas.{front_length}
use Rattle.bpf_cert.proofs.sound.SoundStates.{state_register, state_slot}
use Rattle.bpf_cert.proofs.building.Builder.put.Goals as goal

-- the number of a slot, in its bounds
within : (k : ℕ) → (leb 1 k && leb k 64) ≡ true → (1 ≤ k) × (k ≤ 64)
within k e = let both = both_true (leb 1 k) (leb k 64) e in (leb-true 1 k both.0, leb-true k 64 both.1)

pub put_reg-requires-clause-unknown : goal.put_reg-requires-clause-unknown
put_reg-requires-clause-unknown c =
    register_unsaid c.args.self.now.label.state c.in-Register.r (leb-true (register_number c.in-Register.r) 9 (rw c.in-Register.is at c.requires.entry.limited)) c.valid.ensures.state
    (rw c.in-Register.is at c.requires.unsaid)

pub put_slot-requires-clause-low : goal.put_slot-requires-clause-low
put_slot-requires-clause-low c = (within c.in-Slot.k (rw c.in-Slot.is at c.requires.entry.limited)).0

pub put_slot-requires-clause-high : goal.put_slot-requires-clause-high
put_slot-requires-clause-high c = (within c.in-Slot.k (rw c.in-Slot.is at c.requires.entry.limited)).1

pub put_slot-requires-clause-unknown : goal.put_slot-requires-clause-unknown
put_slot-requires-clause-unknown c =
    slot_unsaid c.args.self.now.label.state c.in-Slot.k (within c.in-Slot.k (rw c.in-Slot.is at c.requires.entry.limited)).0 c.valid.ensures.state (rw c.in-Slot.is at c.requires.unsaid)

pub returns-in_ok-put_reg-in-Register : goal.returns-in_ok-put_reg-in-Register
returns-in_ok-put_reg-in-Register c =
    let s = c.args.self.now.label.state in
    let r = c.in-Register.r in
    let value = c.register_value in
    let few : register_number r ≤ 9 = leb-true (register_number r) 9 (rw c.in-Register.is at c.requires.entry.limited) in
    rw c.in-Register.is (puts (Register r) c.args.content c.args.self.now (with_register s r value.result) _ c.in_ok-put_reg-in-Register.ensures c.valid.ensures.state
    (contents_register s.registers s.slots (register_number r) value.result c.args.content few c.valid.ensures.state.register_count value.ensures.value)
    (λ is. state_register s r value.result c.args.content few is value.ensures.value c.requires.entry.known.limited))

pub returns-in_ok-put_slot-in-Slot : goal.returns-in_ok-put_slot-in-Slot
returns-in_ok-put_slot-in-Slot c =
    let s = c.args.self.now.label.state in
    let k = c.in-Slot.k in
    let bounds : (1 ≤ k) × (k ≤ 64) = within k (rw c.in-Slot.is at c.requires.entry.limited) in
    rw c.in-Slot.is (puts (Slot k) c.args.content c.args.self.now (with_slot s k c.args.content) _ c.in_ok-put_slot-in-Slot.ensures c.valid.ensures.state
    (contents_slot (map value_slot (take 10 s.registers)) s.slots k c.args.content (front_length s c.valid.ensures.state) bounds.0 bounds.1)
    (λ is. state_slot s k c.args.content is c.requires.entry.known.limited))
