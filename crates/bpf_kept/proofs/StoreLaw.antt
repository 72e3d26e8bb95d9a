-- What both programs put or store, the one where the other stands for it, and what the new one puts or stores alone: what is known behind.
use Rattle.std.proofs.Common.{◌≡◌, ℕ, ◌+◌, ◌*◌, ◌<◌, ◌==◌, inl, inr, refl, sym, ap, ap₂, ◌∙◌, subst, arith, Bool, true, false, Option, Some, None, cond}
use Rattle.std.specs.Prelude.{ℤ, ◌||◌, option_and_then, option_map, FitsSigned}
use Rattle.std.specs.Int.{w16}
use Rattle.std.specs.Option.{option_or}
use Rattle.std.proofs.lemmas.Bool.{eq-eqb, false≢true}
use Rattle.std.proofs.lemmas.Option.{none-some, same_Some, option_and_then_some}
use Rattle.bpf_insn.specs.Arithmetic.{extended}
use Rattle.bpf_insn.specs.Effects.{is_frame_pointer}
use Rattle.bpf_insn.specs.Image.{HasEncoding}
use Rattle.bpf_insn.specs.Instruction.{register_number, byte_count, slot_count}
use Rattle.bpf_insn.specs.Order.{bytes_of}
use Rattle.bpf_insn.specs.declared.order.Order.{Order}
use Rattle.bpf_insn.specs.declared.instruction.Reg.{Reg}
use Rattle.bpf_insn.specs.declared.instruction.Size.{Size}
use Rattle.bpf_insn.specs.declared.instruction.Insn.{Insn}
use Rattle.bpf_insn.specs.declared.instruction.Insn.TheVariants.{Store, StoreImm}
use Rattle.bpf_semantics.specs.Flat.{FlatState, IsFlat, addresses, address, memory_with, flat_register, flat_put, flat_at, flat_next, flat_store, flat_does}
use Rattle.bpf_semantics.proofs.NumberLemmas.{modulo_below}
use Rattle.bpf_semantics.proofs.StateLemmas.{cond_option, option_map_some}
use Rattle.bpf_kept.specs.declared.notes.Holder.{Holder}
use Rattle.bpf_kept.specs.declared.notes.Holder.TheVariants.{Register, Slot, Length}
use Rattle.bpf_kept.specs.declared.notes.Term.{Term}
use Rattle.bpf_kept.specs.declared.notes.TurnsLeft.{TurnsLeft}
use Rattle.bpf_kept.specs.declared.notes.Change.{Change}
use Rattle.bpf_kept.specs.declared.notes.Change.TheVariants.{Kept, Made}
use Rattle.bpf_kept.specs.Terms.{Packet, IsSeen, Differs, DiffersBy, value_in, slot_number, is_noted, zero_term, frame_slots}
use Rattle.bpf_kept.specs.Slots.{slot_at}
use Rattle.bpf_kept.specs.Rules.{Known, own, is_low, is_same, pin_of, put, put_into, stored_by, puts_slot}
use Rattle.bpf_kept.specs.Counters.{is_spared, is_made}
use Rattle.bpf_kept.specs.Matching.{made_in}
use Rattle.bpf_kept.proofs.HoldsLaw.{Elsewhere, register_elsewhere, register_now, same_value, low_value}
use Rattle.bpf_kept.proofs.ZeroLaw.{flat_moved, does_keeps}
use Rattle.bpf_kept.proofs.FrameLaw.{IsEnd, IsRoomy, slot_access, slot_address, slot_now, slot_elsewhere, byte_elsewhere}
use Rattle.bpf_kept.proofs.PutValue.{put_value, put_does}
use Rattle.bpf_kept.proofs.BothLaw.{PutBoth}
use Rattle.bpf_kept.proofs.PutLaw.{AtOnce, end_left, register_differs}
use Rattle.bpf_kept.proofs.ExtraLaw.{made_value, made_known, kept_hold, put_hold, made_hold}
use Rattle.bpf_kept.proofs.PinLaw.{pin_is}
use Rattle.bpf_kept.proofs.EdgeLaw.{Behind, numbers_equal}

-- the bytes stay to which the old program doesn't come
abbrev pub KeepsUnseen : ℕ → Packet → FlatState → FlatState → Type 0
KeepsUnseen start packet f g = (a : ℕ) → a < addresses → (IsSeen start packet a → ⊥) → g.memory a ≡ f.memory a

-- what both lead to
pub record Paired (order : Order) (start : ℕ) (packet : Packet) (known : Known) (change : Change) (i moved : Insn) (f g : FlatState) : Type 0 where
  pub old : FlatState
  pub new : FlatState
  pub old_does : flat_does order i f ≡ Some old
  pub new_does : flat_does order moved g ≡ Some new
  pub old_slot : old.slot ≡ f.slot + slot_count i
  pub new_slot : new.slot ≡ g.slot + slot_count moved
  pub old_returns : old.returns ≡ f.returns
  pub new_returns : new.returns ≡ g.returns
  pub unseen : KeepsUnseen start packet f old
  pub new_unseen : KeepsUnseen start packet g new
  pub behind : Behind order start packet known change old new
  pub spared : (h : Holder) → is_spared change h ≡ true → value_in order start packet new (Some h) ≡ value_in order start packet g (Some h)
  pub unmade : (want : TurnsLeft) → is_made known change want ≡ true → ⊥

-- what the new program alone leads to
pub record Extra (order : Order) (start : ℕ) (packet : Packet) (known : Known) (h : Holder) (moved : Insn) (f g : FlatState) : Type 0 where
  pub new : FlatState
  pub new_does : flat_does order moved g ≡ Some new
  pub new_slot : new.slot ≡ g.slot + slot_count moved
  pub new_returns : new.returns ≡ g.returns
  pub unseen : KeepsUnseen start packet g new
  pub behind : Behind order start packet known (Made h moved) f new
  pub elsewhere : Elsewhere h (value_in order start packet g) (value_in order start packet new)
  pub here : value_in order start packet new (Some h) ≡ made_value order moved g

pub register_same : (order : Order) (start : ℕ) (packet : Packet) (known : Known) (f g : FlatState) (r : Reg) → AtOnce order start packet known f g → is_same known.facts r ≡ true → flat_register g r ≡ flat_register f r
register_same order start packet known f g r at e = same_value start (value_in order start packet f) (value_in order start packet g) (λ r. at.flat.numbers (register_number r)) known.facts r at.all e

pub flat_after : (order : Order) (i : Insn) (f g : FlatState) → HasEncoding i → IsFlat f → flat_does order i f ≡ Some g → IsFlat g
flat_after order i f g enc flat e = (does_keeps order i f g enc flat e).flat

-- ---- both go elsewhere, or one does

pub at_same : (order : Order) (own : ℕ) (packet : Packet) (slot : ℕ) (f : FlatState) (of : Option Holder) → value_in order own packet (flat_at slot f) of ≡ value_in order own packet f of
at_same order own packet slot f None = refl
at_same order own packet slot f (Some Length) = refl
at_same order own packet slot f (Some (Register r)) = refl
at_same order own packet slot f (Some (Slot n)) = refl

pub kept_there : (order : Order) (start : ℕ) (packet : Packet) (known : Known) (f g : FlatState) (x y : ℕ) → AtOnce order start packet known f g → Behind order start packet known Kept (flat_at x f) (flat_at y g)
kept_there order start packet known f g x y at =
    record {
      high = at.high;
      room = at.room;
      flat = flat_moved f x at.flat;
      new_flat = flat_moved g y at.new_flat;
      pointers = at.pointers;
      holds = λ want e. subst (λ z. DiffersBy start want.by z (value_in order start packet (flat_at y g) want.of)) (sym (at_same order start packet x f want.base)) (subst (λ z. DiffersBy start want.by (value_in order start packet f want.base) z) (sym (at_same order start packet y g want.of))
          (kept_hold start known.facts at.high (value_in order start packet f) (value_in order start packet g) want refl refl at.all e));
      common = λ a small seen out. at.common a small seen (λ apart. out apart.0 apart.1 apart.2 apart.3);
    }

-- the new program goes elsewhere while the old one stands still
pub kept_still : (order : Order) (start : ℕ) (packet : Packet) (known : Known) (f g : FlatState) (y : ℕ) → AtOnce order start packet known f g → Behind order start packet known Kept f (flat_at y g)
kept_still order start packet known f g y at =
    record {
      high = at.high;
      room = at.room;
      flat = at.flat;
      new_flat = flat_moved g y at.new_flat;
      pointers = at.pointers;
      holds = λ want e. subst (λ z. DiffersBy start want.by (value_in order start packet f want.base) z) (sym (at_same order start packet y g want.of)) (kept_hold start known.facts at.high (value_in order start packet f) (value_in order start packet g) want refl refl at.all e);
      common = λ a small seen out. at.common a small seen (λ apart. out apart.0 apart.1 apart.2 apart.3);
    }

-- ---- both put a number into a register

value_put : (order : Order) (i : Insn) (r : Reg) (f : FlatState) → put_into i ≡ Some r → made_value order i f ≡ put_value order i f
value_put order (Store size dst off src) r f e = absurd (none-some _ e)
value_put order (StoreImm size dst off imm) r f e = absurd (none-some _ e)
value_put order i r f e = refl

pub both_put : (order : Order) (start : ℕ) (packet : Packet) (known : Known) (i moved : Insn) (r : Reg) (by : Option Term) (f g : FlatState) → AtOnce order start packet known f g → HasEncoding i → HasEncoding moved → put_into i ≡ Some r → is_frame_pointer r ≡ false → PutBoth order start i moved r by f g
    → Paired order start packet known (put (Register r) (pin_of known.facts i) by) i moved f g
both_put order start packet known i moved r by f g at enc enc' into other p =
    let old : FlatState = flat_put r (put_value order i f) (flat_next i f) in
    let new : FlatState = flat_put r (put_value order moved g) (flat_next moved g) in
    let od = put_does order i r f into in
    let nd = put_does order moved r g p.into in
    record {
      old = old;
      new = new;
      old_does = od;
      new_does = nd;
      old_slot = refl;
      new_slot = refl;
      old_returns = refl;
      new_returns = refl;
      unseen = λ a small out. refl;
      new_unseen = λ a small out. refl;
      behind = record {
        high = at.high;
        room = at.room;
        flat = flat_after order i f old enc at.flat od;
        new_flat = flat_after order moved g new enc' at.new_flat nd;
        pointers = (end_left start f.registers r (put_value order i f) other at.pointers.0, end_left start g.registers r (put_value order moved g) other at.pointers.1);
        holds = λ want e. put_hold start known.facts at.high (Register r) by (pin_of known.facts i) (value_in order start packet f) (value_in order start packet old) (value_in order start packet g) (value_in order start packet new) want refl refl
            (register_elsewhere order start packet f old r (put_value order i f) refl refl) (register_elsewhere order start packet g new r (put_value order moved g) refl refl)
            (subst (λ x. DiffersBy start by x (flat_register new r)) (sym (register_now (flat_next i f) r (put_value order i f) at.flat.eleven)) (subst (λ y. DiffersBy start by (put_value order i f) y) (sym (register_now (flat_next moved g) r (put_value order moved g) at.new_flat.eleven)) p.value))
            (λ t et. subst (λ x. Differs start t x 0) (sym (register_now (flat_next i f) r (put_value order i f) at.flat.eleven)) (subst (λ x. Differs start t x 0) (value_put order i r f into) (pin_is order start packet known.facts f g at.room at.flat at.pointers.0 at.all i t enc et))) at.all e;
        common = λ a small seen out. at.common a small seen (λ apart. out apart.0 apart.1 apart.2 apart.3);
      };
      spared = λ h e. register_elsewhere order start packet g new r (put_value order moved g) refl refl (Some h) e;
      unmade = λ want h. false≢true h;
    }

-- ---- both store eight bytes to one slot of the frame

-- what a store of eight bytes by r10 does
record SlotStored (order : Order) (own n x : ℕ) (f g : FlatState) : Type 0 where
  registers : g.registers ≡ f.registers
  memory : g.memory ≡ memory_with (bytes_of order 8 x) (own + 8 * n) f.memory

slot_stored : (order : Order) (start n : ℕ) (size : Size) (r : Reg) (off : ℤ) (x : ℕ) (i : Insn) (f : FlatState) → IsRoomy start → IsEnd start f.registers → FitsSigned w16 off → slot_at size r off ≡ Some n → SlotStored order start n x f (flat_store order (byte_count size) x (address f r off) (flat_next i f))
slot_stored order start n size r off x i f room end near e =
    let s = slot_access start n size r off e in
    record { registers = refl; memory = ap₂ (λ k a. memory_with (bytes_of order k x) a f.memory) s.eight (slot_address start n size f r off room end near s) }

slot_unseen : (order : Order) (start : ℕ) (packet : Packet) (n x : ℕ) (f g : FlatState) → IsRoomy start → n < frame_slots → SlotStored order start n x f g → KeepsUnseen start packet f g
slot_unseen order start packet n x f g room few s a small out = byte_elsewhere order start n x f g room few s.memory a small (λ among. let low = among.0 in let high = among.1 in out (inr (inl (omega arith, omega arith))))

both_slot : (order : Order) (start : ℕ) (packet : Packet) (known : Known) (n x y : ℕ) (by pin : Option Term) (f g old new : FlatState) → ((t : Term) → pin ≡ Some t → Differs start t x 0) → AtOnce order start packet known f g → n < frame_slots → x < addresses → y < addresses → DiffersBy start by x y → SlotStored order start n x f old → SlotStored order start n y g new → IsFlat old → IsFlat new
    → Behind order start packet known (put (Slot n) pin by) old new
both_slot order start packet known n x y by pin f g old new pd at few hx hy d p q flat flat' =
    record {
      high = at.high;
      room = at.room;
      flat = flat;
      new_flat = flat';
      pointers = (subst (IsEnd start) (sym p.registers) at.pointers.0, subst (IsEnd start) (sym q.registers) at.pointers.1);
      holds = λ want e. put_hold start known.facts at.high (Slot n) by pin (value_in order start packet f) (value_in order start packet old) (value_in order start packet g) (value_in order start packet new) want refl refl
          (slot_elsewhere order start packet n x f old at.room few p.registers p.memory) (slot_elsewhere order start packet n y g new at.room few q.registers q.memory)
          (subst (λ x. DiffersBy start by x (slot_number order start new n)) (sym (slot_now order start n x f old at.room few hx p.memory)) (subst (λ y. DiffersBy start by x y) (sym (slot_now order start n y g new at.room few hy q.memory)) d)) (λ t et. subst (λ x. Differs start t x 0) (sym (slot_now order start n x f old at.room few hx p.memory)) (pd t et)) at.all e;
      common = λ a small seen out. let here = out n few (itself n (is_noted known.apart n)) in
          byte_elsewhere order start n y g new at.room few q.memory a small here ∙ at.common a small seen (λ apart. out apart.0 apart.1 (added (n == apart.0) (is_noted known.apart apart.0) apart.2) apart.3) ∙ sym (byte_elsewhere order start n x f old at.room few p.memory a small here);
    }
  where
    itself : (n : ℕ) (b : Bool) → (n == n || b) ≡ true
    itself n b = ap (λ c. c || b) (eq-eqb n n refl)

    added : (a b : Bool) → b ≡ true → (a || b) ≡ true
    added true b e = refl
    added false b e = e

pub slots_put : (order : Order) (start : ℕ) (packet : Packet) (known : Known) (change : Change) (i : Insn) (f g : FlatState) → AtOnce order start packet known f g → HasEncoding i → puts_slot known.facts i ≡ Some change → Paired order start packet known change i i f g
unfolding flat_does
slots_put order start packet known change (Store size dst off src) f g at enc e =
    option_and_then_some _ (slot_at size dst off) change e (λ n en e1.
    let i : Insn = Store size dst off src in
    let h = option_map_some (put (Slot n) (pin_of known.facts i)) (stored_by known.facts src) change e1 in
    let old : FlatState = flat_store order (byte_count size) (flat_register f src) (address f dst off) (flat_next i f) in
    let new : FlatState = flat_store order (byte_count size) (flat_register g src) (address g dst off) (flat_next i g) in
    let s = slot_access start n size dst off en in
    subst (λ change. Paired order start packet known change i i f g) h.2
    (record {
      old = old;
      new = new;
      old_does = refl;
      new_does = refl;
      old_slot = refl;
      new_slot = refl;
      old_returns = refl;
      new_returns = refl;
      unseen = slot_unseen order start packet n (flat_register f src) f old at.room s.small (slot_stored order start n size dst off (flat_register f src) i f at.room at.pointers.0 enc en);
      new_unseen = slot_unseen order start packet n (flat_register g src) g new at.room s.small (slot_stored order start n size dst off (flat_register g src) i g at.room at.pointers.1 enc en);
      behind = both_slot order start packet known n (flat_register f src) (flat_register g src) h.0 (pin_of known.facts i) f g old new (λ t et. pin_is order start packet known.facts f g at.room at.flat at.pointers.0 at.all i t enc et) at s.small (at.flat.numbers (register_number src)) (at.new_flat.numbers (register_number src)) (differ h.0 (own known.facts src) refl h.1)
          (slot_stored order start n size dst off (flat_register f src) i f at.room at.pointers.0 enc en) (slot_stored order start n size dst off (flat_register g src) i g at.room at.pointers.1 enc en) (flat_after order i f old enc at.flat refl) (flat_after order i g new enc at.new_flat refl);
      spared = λ k e. (let q = slot_stored order start n size dst off (flat_register g src) i g at.room at.pointers.1 enc en in slot_elsewhere order start packet n (flat_register g src) g new at.room s.small q.registers q.memory (Some k) e);
      unmade = λ want h. false≢true h;
    }))
  where
    differ : (by : Option Term) (o : Option Term) → own known.facts src ≡ o → option_or (option_map Some o) (cond (is_low known.facts src) (Some None) None) ≡ Some by → DiffersBy start by (flat_register f src) (flat_register g src)
    differ by (Some t) eo h = subst (λ by. DiffersBy start by (flat_register f src) (flat_register g src)) (same_Some (Some t) by h) (register_differs order start packet known.facts f g src t at.all eo)
    differ by None eo h =
        let c = cond_option (is_low known.facts src) (Some None) by h in
        subst (λ by. DiffersBy start by (flat_register f src) (flat_register g src)) (same_Some None by c.1) (low_value start at.high (value_in order start packet f) (value_in order start packet g) known.facts src at.all c.0)
slots_put order start packet known change (StoreImm size dst off imm) f g at enc e =
    let h = option_map_some (λ n. put (Slot n) (pin_of known.facts (StoreImm size dst off imm)) (Some zero_term)) (slot_at size dst off) change e in
    let n : ℕ = h.0 in
    let i : Insn = StoreImm size dst off imm in
    let old : FlatState = flat_store order (byte_count size) (extended imm) (address f dst off) (flat_next i f) in
    let new : FlatState = flat_store order (byte_count size) (extended imm) (address g dst off) (flat_next i g) in
    let s = slot_access start n size dst off h.1 in
    subst (λ change. Paired order start packet known change i i f g) h.2
    (record {
      old = old;
      new = new;
      old_does = refl;
      new_does = refl;
      old_slot = refl;
      new_slot = refl;
      old_returns = refl;
      new_returns = refl;
      unseen = slot_unseen order start packet n (extended imm) f old at.room s.small (slot_stored order start n size dst off (extended imm) i f at.room at.pointers.0 enc.0 h.1);
      new_unseen = slot_unseen order start packet n (extended imm) g new at.room s.small (slot_stored order start n size dst off (extended imm) i g at.room at.pointers.1 enc.0 h.1);
      behind = both_slot order start packet known n (extended imm) (extended imm) (Some zero_term) (pin_of known.facts i) f g old new (λ t et. pin_is order start packet known.facts f g at.room at.flat at.pointers.0 at.all i t enc et) at s.small (modulo_below imm) (modulo_below imm) (numbers_equal start (extended imm) (extended imm) (modulo_below imm) refl)
          (slot_stored order start n size dst off (extended imm) i f at.room at.pointers.0 enc.0 h.1) (slot_stored order start n size dst off (extended imm) i g at.room at.pointers.1 enc.0 h.1) (flat_after order i f old enc at.flat refl) (flat_after order i g new enc at.new_flat refl);
      spared = λ k e. (let q = slot_stored order start n size dst off (extended imm) i g at.room at.pointers.1 enc.0 h.1 in slot_elsewhere order start packet n (extended imm) g new at.room s.small q.registers q.memory (Some k) e);
      unmade = λ want h. false≢true h;
    })
slots_put order start packet known change i f g at enc e = absurd (none-some _ e)

-- ---- the new program alone

pub put_alone : (order : Order) (start : ℕ) (packet : Packet) (known : Known) (m : Insn) (r : Reg) (f g : FlatState) → AtOnce order start packet known f g → HasEncoding m → put_into m ≡ Some r → is_frame_pointer r ≡ false → made_value order m g ≡ put_value order m g → Extra order start packet known (Register r) m f g
put_alone order start packet known m r f g at enc into other value =
    let new : FlatState = flat_put r (put_value order m g) (flat_next m g) in
    let nd = put_does order m r g into in
    record {
      new = new;
      new_does = nd;
      new_slot = refl;
      new_returns = refl;
      unseen = λ a small out. refl;
      behind = record {
        high = at.high;
        room = at.room;
        flat = at.flat;
        new_flat = flat_after order m g new enc at.new_flat nd;
        pointers = (at.pointers.0, end_left start g.registers r (put_value order m g) other at.pointers.1);
        holds = λ want e. made_hold start known.facts at.high (Register r) m (made_value order m g) (value_in order start packet f) (value_in order start packet g) (value_in order start packet new) want refl refl (register_elsewhere order start packet g new r (put_value order m g) refl refl) (register_now (flat_next m g) r (put_value order m g) at.new_flat.eleven ∙ sym value)
            (λ h. made_known order start packet known.facts f g at.high at.room at.new_flat at.pointers.1 at.all m want enc h) at.all e;
        common = λ a small seen out. at.common a small seen (λ apart. out apart.0 apart.1 apart.2 apart.3);
      };
      elsewhere = register_elsewhere order start packet g new r (put_value order m g) refl refl;
      here = register_now (flat_next m g) r (put_value order m g) at.new_flat.eleven ∙ sym value;
    }

slot_alone : (order : Order) (start : ℕ) (packet : Packet) (known : Known) (m : Insn) (n y : ℕ) (f g new : FlatState) → AtOnce order start packet known f g → HasEncoding m → n < frame_slots → y < addresses → y ≡ made_value order m g → SlotStored order start n y g new → IsFlat new → flat_does order m g ≡ Some new → new.slot ≡ g.slot + slot_count m → new.returns ≡ g.returns → Extra order start packet known (Slot n) m f g
slot_alone order start packet known m n y f g new at enc few hy value q flat' does slot returns =
    record {
      new = new;
      new_does = does;
      new_slot = slot;
      new_returns = returns;
      unseen = slot_unseen order start packet n y g new at.room few q;
      elsewhere = slot_elsewhere order start packet n y g new at.room few q.registers q.memory;
      here = slot_now order start n y g new at.room few hy q.memory ∙ value;
      behind = record {
        high = at.high;
        room = at.room;
        flat = at.flat;
        new_flat = flat';
        pointers = (at.pointers.0, subst (IsEnd start) (sym q.registers) at.pointers.1);
        holds = λ want e. made_hold start known.facts at.high (Slot n) m (made_value order m g) (value_in order start packet f) (value_in order start packet g) (value_in order start packet new) want refl refl (slot_elsewhere order start packet n y g new at.room few q.registers q.memory) (slot_now order start n y g new at.room few hy q.memory ∙ value)
            (λ h. made_known order start packet known.facts f g at.high at.room at.new_flat at.pointers.1 at.all m want enc h) at.all e;
        common = λ a small seen out. byte_elsewhere order start n y g new at.room few q.memory a small (out n few (itself n (is_noted known.apart n))) ∙ at.common a small seen (λ apart. out apart.0 apart.1 (added (apart.0 == n) (is_noted known.apart apart.0) apart.2) apart.3);
      };
    }
  where
    itself : (n : ℕ) (b : Bool) → (n == n || b) ≡ true
    itself n b = ap (λ c. c || b) (eq-eqb n n refl)

    added : (a b : Bool) → b ≡ true → (a || b) ≡ true
    added true b e = refl
    added false b e = e

register_alone : (order : Order) (start : ℕ) (packet : Packet) (known : Known) (m : Insn) (h : Holder) (f g : FlatState) → AtOnce order start packet known f g → HasEncoding m → made_value order m g ≡ put_value order m g → option_and_then (λ r. cond (is_frame_pointer r) None (Some (Register r))) (put_into m) ≡ Some h → Extra order start packet known h m f g
register_alone order start packet known m h f g at enc value e = option_and_then_some _ (put_into m) h e (λ r er e1.
    let c = none_first (is_frame_pointer r) (Some (Register r)) h e1 in
    subst (λ h. Extra order start packet known h m f g) (same_Some (Register r) h c.1) (put_alone order start packet known m r f g at enc er c.0 value))
  where
    none_first : {A : Type 0} (b : Bool) (o : Option A) (y : A) → cond b None o ≡ Some y → (b ≡ false) × (o ≡ Some y)
    none_first true o y e = absurd (none-some _ e)
    none_first false o y e = (refl, e)

pub made_alone : (order : Order) (start : ℕ) (packet : Packet) (known : Known) (m : Insn) (h : Holder) (f g : FlatState) → AtOnce order start packet known f g → HasEncoding m → made_in m ≡ Some h → Extra order start packet known h m f g
unfolding flat_does
made_alone order start packet known (Store size dst off src) h f g at enc e =
    let x = option_map_some Slot (slot_at size dst off) h e in
    let n : ℕ = x.0 in
    let m : Insn = Store size dst off src in
    let new : FlatState = flat_store order (byte_count size) (flat_register g src) (address g dst off) (flat_next m g) in
    let s = slot_access start n size dst off x.1 in
    subst (λ h. Extra order start packet known h m f g) x.2
    (slot_alone order start packet known m n (flat_register g src) f g new at enc s.small (at.new_flat.numbers (register_number src)) refl (slot_stored order start n size dst off (flat_register g src) m g at.room at.pointers.1 enc x.1) (flat_after order m g new enc at.new_flat refl) refl refl refl)
made_alone order start packet known (StoreImm size dst off imm) h f g at enc e =
    let x = option_map_some Slot (slot_at size dst off) h e in
    let n : ℕ = x.0 in
    let m : Insn = StoreImm size dst off imm in
    let new : FlatState = flat_store order (byte_count size) (extended imm) (address g dst off) (flat_next m g) in
    let s = slot_access start n size dst off x.1 in
    subst (λ h. Extra order start packet known h m f g) x.2
    (slot_alone order start packet known m n (extended imm) f g new at enc s.small (modulo_below imm) refl (slot_stored order start n size dst off (extended imm) m g at.room at.pointers.1 enc.0 x.1) (flat_after order m g new enc at.new_flat refl) refl refl refl)
made_alone order start packet known m h f g at enc e = register_alone order start packet known m h f g at enc refl e
