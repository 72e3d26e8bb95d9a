-- The state at a label: its numbers tightened.
use Rattle.std.proofs.Common.{◌≡◌, ℕ, zero, suc, ◌-◌, List, [], ◌∷◌, get_or, Option, Some, None, refl, sym, ap, ◌∙◌}
use Rattle.std.specs.Prelude.{option_map, option_and_then, unwrap_or, IsSome}
use Rattle.std.proofs.lemmas.Option.{none-some, same_Some}
use Rattle.std.proofs.lemmas.Bool.{false≢true}
use Rattle.bpf_insn.specs.declared.instruction.Reg.{Reg}
use Rattle.bpf_insn.specs.Instruction.{register_number}
use Rattle.bpf_num.specs.Interval.{Interval}
use Rattle.bpf_num.specs.Number.{Number, tighten}
use Rattle.bpf_state.specs.declared.known.RegState.{RegState}
use Rattle.bpf_state.specs.declared.known.RegState.TheVariants.{Any, Num, Ptr}
use Rattle.bpf_state.specs.declared.known.SlotState.{SlotState}
use Rattle.bpf_state.specs.declared.known.SlotState.TheVariants.{Bytes, Word, Spilled}
use Rattle.bpf_state.specs.declared.known.Place.{Place}
use Rattle.bpf_state.specs.declared.known.Place.TheVariants.{Register, Slot}
use Rattle.bpf_state.specs.State.{AbstractState, register, slot, slot_value, each_if, tightened_register, tightened_slot, blank, no_tags}
use Rattle.bpf_state.specs.Transfer.{number_state}
use Rattle.bpf_cert.specs.declared.certificate.Term.{Term}
use Rattle.bpf_cert.specs.View.{LabelView}
use Rattle.bpf_state.specs.Held.{held}
use Rattle.bpf_safety.specs.Budget.{place_of, unsigned_bounds, bounds}
use Rattle.bpf_safety.specs.Flow.{with_term, with_tags, label_state}
use Rattle.bpf_check.specs.code.Slack.{at_label}

each_if_get : {A : Type 0} (f : A → Option A) (d : A) → f d ≡ Some d → (xs ys : List A) → each_if f xs ≡ Some ys → (i : ℕ) → f (get_or xs i d) ≡ Some (get_or ys i d)
each_if_get f d keeps [] ys e i = keeps ∙ ap (λ l. Some (get_or l i d)) (same_Some [] ys e)
each_if_get {A = A} f d keeps (x ∷ xs) ys e i = at (each_if_get f d keeps xs) (f x) refl (each_if f xs) refl e i
  where
    at : ((zs : List A) → each_if f xs ≡ Some zs → (j : ℕ) → f (get_or xs j d) ≡ Some (get_or zs j d)) → (o : Option A) → f x ≡ o → (os : Option (List A)) → each_if f xs ≡ os → option_and_then (λ y. option_map (λ zs. y ∷ zs) os) o ≡ Some ys → (j : ℕ) → f (get_or (x ∷ xs) j d) ≡ Some (get_or ys j d)
    at later None p os q e j = absurd (none-some ys e)
    at later (Some y) p None q e j = absurd (none-some ys e)
    at later (Some y) p (Some zs) q e zero = p ∙ ap (λ l. Some (get_or l 0 d)) (same_Some (y ∷ zs) ys e)
    at later (Some y) p (Some zs) q e (suc j) = later zs q j ∙ ap (λ l. Some (get_or l (suc j) d)) (same_Some (y ∷ zs) ys e)

with_tag_registers : (j : ℕ) (p : Place) (s : AbstractState) → (with_term j p s).registers ≡ s.registers
with_tag_registers j (Register r) s = refl
with_tag_registers j (Slot k) s = refl

with_tag_slots : (j : ℕ) (p : Place) (s : AbstractState) → (with_term j p s).slots ≡ s.slots
with_tag_slots j (Register r) s = refl
with_tag_slots j (Slot k) s = refl

with_tags_registers : (j : ℕ) (ts : List Term) (s : AbstractState) → (with_tags j ts s).registers ≡ s.registers
with_tags_registers j [] s = refl
with_tags_registers j (t ∷ ts) s = with_tag_registers j (place_of t) (with_tags (suc j) ts s) ∙ with_tags_registers (suc j) ts s

with_tags_slots : (j : ℕ) (ts : List Term) (s : AbstractState) → (with_tags j ts s).slots ≡ s.slots
with_tags_slots j [] s = refl
with_tags_slots j (t ∷ ts) s = with_tag_slots j (place_of t) (with_tags (suc j) ts s) ∙ with_tags_slots (suc j) ts s

-- what a label's state holds, tightened
record IsTightened (l : LabelView) (s : AbstractState) : Type 0 where
  registers : (r : Reg) → tightened_register (register l.state r) ≡ Some (register s r)
  slots : (k : ℕ) → tightened_slot (slot l.state k) ≡ Some (slot s k)

label_parts : (l : LabelView) (s : AbstractState) (a : Option (List RegState)) (b : Option (List SlotState)) → each_if tightened_register l.state.registers ≡ a → each_if tightened_slot l.state.slots ≡ b → option_map (λ (t : AbstractState). with_tags 0 l.terms (record t { register_tags = no_tags 11; slot_tags = no_tags 64 })) (option_and_then (λ (rs : List RegState). option_map (λ (ss : List SlotState). record l.state { registers = rs; slots = ss }) b) a) ≡ Some s → IsTightened l s
label_parts l s None b p q e = absurd (none-some s e)
label_parts l s (Some rs) None p q e = absurd (none-some s e)
label_parts l s (Some rs) (Some ss) p q e =
    let same = same_Some (with_tags 0 l.terms (record l.state { registers = rs; slots = ss; register_tags = no_tags 11; slot_tags = no_tags 64 })) s e in
    let registers : rs ≡ s.registers = sym (with_tags_registers 0 l.terms (record l.state { registers = rs; slots = ss; register_tags = no_tags 11; slot_tags = no_tags 64 })) ∙ ap (λ t. t.registers) same in
    let slots : ss ≡ s.slots = sym (with_tags_slots 0 l.terms (record l.state { registers = rs; slots = ss; register_tags = no_tags 11; slot_tags = no_tags 64 })) ∙ ap (λ t. t.slots) same in
    record {
      registers = λ r. each_if_get tightened_register Any refl l.state.registers rs p (register_number r) ∙ ap (λ t. Some (get_or t (register_number r) Any)) registers;
      slots = λ k. each_if_get tightened_slot (Bytes 0) refl l.state.slots ss q (k - 1) ∙ ap (λ t. Some (get_or t (k - 1) (Bytes 0))) slots;
    }

label_tightened : (l : LabelView) (s : AbstractState) → label_state l ≡ Some s → IsTightened l s
label_tightened l s e = label_parts l s (each_if tightened_register l.state.registers) (each_if tightened_slot l.state.slots) refl refl e

-- the bounds of a tightened number
abbrev pub tight_bounds : RegState → Option Interval
tight_bounds v = option_map (λ n. n.unsigned) (option_and_then tighten (number_state v))

register_bounds : (v w : RegState) → tightened_register v ≡ Some w → tight_bounds v ≡ unsigned_bounds w
register_bounds Any w e = ap unsigned_bounds (same_Some Any w e)
register_bounds (Ptr p) w e = ap unsigned_bounds (same_Some (Ptr p) w e)
register_bounds (Num n) w e = at (tighten n) e
  where
    at : (o : Option Number) → option_map Num o ≡ Some w → option_map (λ m. m.unsigned) o ≡ unsigned_bounds w
    at None q = absurd (none-some w q)
    at (Some m) q = ap unsigned_bounds (same_Some (Num m) w q)

slot_bounds : (v w : SlotState) → tightened_slot v ≡ Some w → tight_bounds (slot_value v) ≡ unsigned_bounds (slot_value w)
slot_bounds (Bytes m) w e = ap (λ x. unsigned_bounds (slot_value x)) (same_Some (Bytes m) w e)
slot_bounds (Spilled p) w e = ap (λ x. unsigned_bounds (slot_value x)) (same_Some (Spilled p) w e)
slot_bounds (Word n) w e = at (tighten n) e
  where
    at : (o : Option Number) → option_map Word o ≡ Some w → option_map (λ m. m.unsigned) o ≡ unsigned_bounds (slot_value w)
    at None q = absurd (none-some w q)
    at (Some m) q = ap (λ x. unsigned_bounds (slot_value x)) (same_Some (Word m) w q)

held_bounds : (l : LabelView) (s : AbstractState) → IsTightened l s → (p : Place) → tight_bounds (held l.state p) ≡ unsigned_bounds (held s p)
held_bounds l s t (Register r) = register_bounds (register l.state r) (register s r) (t.registers r)
held_bounds l s t (Slot k) = slot_bounds (slot l.state k) (slot s k) (t.slots k)

pub bounds_there : (l : LabelView) (s : AbstractState) (t : Term) → label_state l ≡ Some s → tight_bounds (held l.state (place_of t)) ≡ bounds s t
bounds_there l s t e = held_bounds l s (label_tightened l s e) (place_of t)

pub bounds_at : (l : LabelView) (t : Term) → IsSome (label_state l) → tight_bounds (held l.state (place_of t)) ≡ bounds (at_label l) t
bounds_at l t alive = at (label_state l) refl alive
  where
    at : (o : Option AbstractState) → label_state l ≡ o → IsSome o → tight_bounds (held l.state (place_of t)) ≡ bounds (unwrap_or o blank) t
    at None e h = absurd (false≢true h)
    at (Some s) e h = bounds_there l s t e

-- where the number is as read, and tightened
pub no_number_at : (l : LabelView) (t : Term) → IsSome (label_state l) → None ≡ number_state (held l.state (place_of t)) → None ≡ bounds (at_label l) t
no_number_at l t alive e = ap (λ o. option_map (λ n. n.unsigned) (option_and_then tighten o)) e ∙ bounds_at l t alive

pub number_at : (l : LabelView) (t : Term) (n : Number) (o : Option Number) → IsSome (label_state l) → Some n ≡ number_state (held l.state (place_of t)) → o ≡ tighten n → option_map (λ m. m.unsigned) o ≡ bounds (at_label l) t
number_at l t n o alive e p = ap (option_map (λ m. m.unsigned)) p ∙ ap (λ q. option_map (λ m. m.unsigned) (option_and_then tighten q)) e ∙ bounds_at l t alive
