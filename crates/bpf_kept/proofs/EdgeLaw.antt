-- An edge: what is known behind a change gives all that is noted where the edge leads.
use Rattle.std.proofs.Common.{◌≡◌, ℕ, zero, suc, ◌+◌, ◌-◌, ◌*◌, ◌/◌, ◌<◌, inl, inr, refl, sym, ◌∙◌, subst, arith, Bool, true, false, ◌∷◌, ◌++◌, Option}
use Rattle.std.specs.Prelude.{not, ◌||◌, get_or, ltb}
use Rattle.std.specs.List.{AllByRecursion, list_all}
use Rattle.std.proofs.lemmas.Bool.{cond_both, cases_lt, or_cases, false≢true}
use Rattle.bpf_insn.specs.Instruction.{Instructions}
use Rattle.bpf_insn.specs.declared.order.Order.{Order}
use Rattle.bpf_insn.specs.declared.instruction.Reg.{Reg}
use Rattle.bpf_insn.specs.declared.instruction.Reg.TheVariants.{R10}
use Rattle.bpf_insn.specs.declared.instruction.Size.TheVariants.{DW}
use Rattle.bpf_semantics.specs.Flat.{FlatState, IsFlat, IsAmong, addresses, flat_register, flat_number}
use Rattle.bpf_semantics.proofs.FlatAccess.{flat_number_below}
use Rattle.bpf_kept.specs.declared.notes.Holder.TheVariants.{Register, Slot}
use Rattle.bpf_kept.specs.declared.notes.Fact.{Fact}
use Rattle.bpf_kept.specs.declared.notes.Note.{Note}
use Rattle.bpf_kept.specs.declared.notes.Change.{Change}
use Rattle.bpf_kept.specs.Meaning.{Bounds}
use Rattle.bpf_kept.specs.Terms.{Packet, IsSeen, Differs, Holds, AllHold, IsCommon, frame_slots, slot_number, value_in, is_noted, zero_term, frame_end}
use Rattle.bpf_num.specs.Laws.{Member}
use Rattle.bpf_state.specs.State.{AbstractState}
use Rattle.bpf_kept.specs.Slots.{slot_facts}
use Rattle.bpf_kept.specs.States.{held_number}
use Rattle.bpf_kept.specs.Rules.{Known}
use Rattle.bpf_kept.specs.Behind.{holds_behind, by_itself, is_parted, is_told, are_told}
use Rattle.bpf_kept.specs.Matching.{said, same_slot, end_facts, facts_at, known_at}
use Rattle.bpf_kept.proofs.TermLaw.{zero_differs, same_number, shift_constant, opposite_differs}
use Rattle.bpf_kept.proofs.HoldsLaw.{IsHigh, all_of, all_both}
use Rattle.bpf_kept.proofs.FrameLaw.{IsRoomy, slot_passes, slot_same, slot_bytes, slots_apart}
use Rattle.bpf_kept.proofs.PutLaw.{AtOnce, ArePointers}
use Rattle.bpf_kept.proofs.ExtraLaw.{end_known}

-- at one placement, behind a change: each fact that the change gives, and each byte that lies in no slot that may differ then
pub record Behind (order : Order) (start : ℕ) (packet : Packet) (known : Known) (change : Change) (f g : FlatState) : Type 0 where
  pub high : IsHigh start
  pub room : IsRoomy start
  pub flat : IsFlat f
  pub new_flat : IsFlat g
  pub pointers : ArePointers start f.registers g.registers
  pub holds : (want : Fact) → holds_behind known.facts change want ≡ true → Holds start (value_in order start packet f) (value_in order start packet g) want
  pub common : (a : ℕ) → a < addresses → IsSeen start packet a → ((n : ℕ) → n < frame_slots → is_parted known.apart change n ≡ true → IsAmong (start + 8 * n) 8 a → ⊥) → g.memory a ≡ f.memory a

pub slot_facts_hold : (P : Fact → Type 0) (fact : ℕ → Fact) (noted : ℕ → Bool) (k : ℕ) → ((n : ℕ) → n < k → noted n ≡ true → P (fact n)) → AllByRecursion P (slot_facts fact noted k)
slot_facts_hold P fact noted zero h = tt
slot_facts_hold P fact noted (suc k) h =
    let rest = slot_facts_hold P fact noted k (λ n lt e. h n (omega arith) e) in
    cond_both (noted k) (fact k ∷ slot_facts fact noted k) (slot_facts fact noted k) (AllByRecursion P) (λ e. (h k (omega arith) e, rest)) (λ e. rest)

pub slot_below : (order : Order) (own n : ℕ) (f : FlatState) → IsFlat f → slot_number order own f n < addresses
slot_below order own n f flat = cond_both (ltb n 64) (flat_number order f 8 (own + 8 * n)) 0 (λ x. x < addresses) (λ e. flat_number_below order f DW (own + 8 * n) flat) (λ e. omega arith)

-- numbers that differ by nothing are equal
pub equal_numbers : (start x y : ℕ) → x < addresses → Differs start zero_term x y → y ≡ x
equal_numbers start x y small d = zero_differs start x y zero_term small (shift_constant start 0) d

pub numbers_equal : (start x y : ℕ) → x < addresses → y ≡ x → Differs start zero_term x y
numbers_equal start x y small e = subst (λ z. Differs start zero_term x z) (sym e) (same_number start x small)

module _ (order : Order) (start : ℕ) (packet : Packet) (known : Known) (change : Change) (f g : FlatState) (behind : Behind order start packet known change f g) (new : Instructions) (bounds : Bounds) (state : Option AbstractState) (note : Note)
    (numbers : (r : Reg) → Member (held_number state r) (flat_register g r)) where
  -- a byte that lies in no slot that is noted is the same
  common_there : are_told known change note.apart ≡ true → IsCommon start packet note.apart f g
  unfolding are_told
  common_there e a small seen out = elim (cases_lt a start) [
    | inl below ↦ behind.common a small seen (λ n lt parted among. let p0 = among.0 in absurd (omega arith))
    | inr from ↦ elim (cases_lt a (start + 512)) [
      | inr above ↦ behind.common a small seen (λ n lt parted among. let p1 = among.1 in absurd (omega arith))
      | inl to ↦ by_parted ((a - start) / 8) (omega arith) (omega arith, omega arith) (is_parted known.apart change ((a - start) / 8)) refl
    ]
  ]
    where
      told : (a b : Bool) → a ≡ true → (not a || b) ≡ true → b ≡ true
      told true b ea h = h
      told false b ea h = absurd (false≢true ea)

      by_parted : (k : ℕ) → k < frame_slots → IsAmong (start + 8 * k) 8 a → (b : Bool) → is_parted known.apart change k ≡ b → g.memory a ≡ f.memory a
      by_parted k few here false eb = behind.common a small seen (λ n lt parted among. let same : n ≡ k = slots_apart start k n a among here in false≢true (sym eb ∙ subst (λ m. is_parted known.apart change m ≡ true) same parted))
      by_parted k few here true eb =
          let t = told (is_parted known.apart change k) (is_noted note.apart k || holds_behind known.facts change (by_itself (Slot k))) eb (slot_passes (is_told known change note.apart) k 64 e few) in
          elim (or_cases (is_noted note.apart k) (holds_behind known.facts change (by_itself (Slot k))) t) [
            | inl noted ↦ absurd (out (k, few, noted, here))
            | inr itself ↦ (let d = behind.holds (by_itself (Slot k)) itself in
                slot_bytes order start k f g behind.room behind.flat behind.new_flat few (equal_numbers start (slot_number order start f k) (slot_number order start g k) (slot_below order start k f behind.flat) d) a here)
          ]

  said_there : list_all (holds_behind known.facts change) (said note) ≡ true → AllHold start (value_in order start packet f) (value_in order start packet g) (said note)
  said_there e = all_of (holds_behind known.facts change) (Holds start (value_in order start packet f) (value_in order start packet g)) (said note) e (λ want h. behind.holds want h)

  -- a slot that isn't noted has the same number
  slots_there : IsCommon start packet note.apart f g → AllHold start (value_in order start packet f) (value_in order start packet g) (slot_facts same_slot (λ n. not (is_noted note.apart n)) frame_slots)
  slots_there common = slot_facts_hold (Holds start (value_in order start packet f) (value_in order start packet g)) same_slot (λ n. not (is_noted note.apart n)) 64
      (λ n lt e. numbers_equal start (slot_number order start f n) (slot_number order start g n) (slot_below order start n f behind.flat)
      (slot_same order start n f g behind.room (λ a few small among. common a small (let low = among.0 in let high = among.1 in inr (inl (omega arith, omega arith))) (λ apart. let same : apart.0 ≡ n = slots_apart start n apart.0 a apart.3 among in unnoted (is_noted note.apart n) e (subst (λ m. is_noted note.apart m ≡ true) same apart.2)))))
    where
      unnoted : (b : Bool) → not b ≡ true → b ≡ true → ⊥
      unnoted true e h = false≢true e
      unnoted false e h = false≢true h

  pointer_there : Holds start (value_in order start packet f) (value_in order start packet g) (by_itself (Register R10))
  pointer_there = numbers_equal start (get_or f.registers 10 0) (get_or g.registers 10 0) (behind.flat.numbers 10) (behind.pointers.1 ∙ sym behind.pointers.0)

  -- it is where the frame ends
  end_there : AllHold start (value_in order start packet f) (value_in order start packet g) end_facts
  end_there = (
    pointer_there,
    (opposite_differs start frame_end (get_or f.registers 10 0) (end_known start (get_or f.registers 10 0) behind.pointers.0), (end_known start (get_or g.registers 10 0) behind.pointers.1, tt)),
  )

  pub settled : list_all (holds_behind known.facts change) (said note) ≡ true → are_told known change note.apart ≡ true → AtOnce order start packet (known_at new bounds state note) f g
  unfolding facts_at
  settled e t =
      let common = common_there t in
      record {
        high = behind.high;
        room = behind.room;
        flat = behind.flat;
        new_flat = behind.new_flat;
        common = common;
        pointers = behind.pointers;
        numbers = numbers;
        all = all_both (Holds start (value_in order start packet f) (value_in order start packet g)) (said note) (end_facts ++ slot_facts same_slot (λ n. not (is_noted note.apart n)) frame_slots) (said_there e)
            (all_both (Holds start (value_in order start packet f) (value_in order start packet g)) end_facts (slot_facts same_slot (λ n. not (is_noted note.apart n)) frame_slots) end_there (slots_there common));
      }
