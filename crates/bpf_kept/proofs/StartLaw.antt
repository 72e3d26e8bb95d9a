-- The start: what holds there, and in blocks how the new program comes to the packet's length.
use Rattle.std.proofs.Common.{◌≡◌, ℕ, suc, ◌+◌, ◌-◌, ◌*◌, ◌%◌, ◌^◌, ◌<◌, ◌≤◌, inl, inr, refl, sym, ap, ap₂, ◌∙◌, subst, arith, Bool, true, false, List, [], ◌∷◌, ◌++◌, length, Some, None, cond}
use Rattle.std.specs.Prelude.{pos, ◌+ℤ◌, ◌&&◌, ◌==◌, take, ltb, leb, slice_index}
use Rattle.std.proofs.lemmas.Bool.{cond_both, ltb-true, lt-leb, le-leb, cases_lt, false≢true}
use Rattle.std.proofs.lemmas.Int.{ints}
use Rattle.std.proofs.lemmas.Option.{none-some}
use Rattle.bpf_insn.specs.Arithmetic.{modulo, extended, jumps}
use Rattle.bpf_insn.specs.Order.{number_of}
use Rattle.bpf_insn.specs.declared.order.Order.{Order}
use Rattle.bpf_insn.specs.declared.order.Order.TheVariants.{Little, Big}
use Rattle.bpf_insn.specs.declared.instruction.Reg.{Reg}
use Rattle.bpf_insn.specs.declared.instruction.Reg.TheVariants.{R0, R1, R2, R3, R4, R5, R6, R7, R8, R9, R10}
use Rattle.bpf_insn.specs.declared.instruction.Operand.TheVariants.{Imm}
use Rattle.bpf_insn.specs.declared.instruction.Width.TheVariants.{W64}
use Rattle.bpf_insn.specs.declared.instruction.Cond.TheVariants.{Le}
use Rattle.bpf_insn.specs.declared.instruction.Insn.{Insn}
use Rattle.bpf_insn.specs.Instruction.{Instructions, register_number, insn_at}
use Rattle.bpf_semantics.specs.State.{State, start}
use Rattle.bpf_semantics.specs.Run.{Steps}
use Rattle.bpf_semantics.specs.Blocks.{head_bytes, told_length, IsBlock}
use Rattle.bpf_semantics.specs.Flat.{Placement, FlatState, IsFlat, addresses, bytes_from, frame_start, frame_end, flat_register, flat_number, flat_does}
use Rattle.bpf_semantics.specs.Placement.{Fits}
use Rattle.bpf_semantics.proofs.FlatBytes.{bytes_from_are}
use Rattle.bpf_kept.specs.Far.{middle, bytes_before, near, wide}
use Rattle.bpf_kept.specs.Zero.{zero_memory, zero_start, IsZeroState}
use Rattle.bpf_kept.specs.Meaning.{AreGiven}
use Rattle.bpf_kept.specs.declared.notes.Holder.TheVariants.{Register}
use Rattle.bpf_kept.specs.Terms.{Packet, IsSeen, IsCommon, Differs, Holds, AllHold, value_in, frame_slots, slot_number, shift, constant, negated, context_offset, number_pin}
use Rattle.bpf_kept.specs.Slots.{slot_facts}
use Rattle.bpf_kept.specs.Rules.{Known}
use Rattle.bpf_kept.specs.Behind.{by_itself}
use Rattle.bpf_kept.specs.Matching.{is_zero_slot, same_slot, length_facts, start_facts, loads_length, skips_cut, cuts_length, Cuts, start_slot}
use Rattle.bpf_kept.proofs.FarLaw.{far_is_placement}
use Rattle.bpf_kept.proofs.ZeroLaw.{zero_start_fits, start_memory}
use Rattle.bpf_kept.proofs.HoldsLaw.{IsHigh, all_both, plain_shift}
use Rattle.bpf_kept.proofs.FrameLaw.{IsRoomy, bytes_alike}
use Rattle.bpf_kept.proofs.TermLaw.{shift_constant}
use Rattle.bpf_kept.proofs.ExtraLaw.{constant_known, zero_pin}
use Rattle.bpf_kept.proofs.EdgeLaw.{slot_facts_hold, slot_below, numbers_equal}
use Rattle.bpf_kept.proofs.StatesLaw.{register_has}
use Rattle.bpf_kept.proofs.Isolated.{AreAlone, starts_alone}
use Rattle.bpf_kept.proofs.Simulation.{program, test_jumps, test_falls}
use Rattle.bpf_kept.proofs.PacketLaw.{taken_at, taken_exactly, own_fits, given_is, byte_inside, length_told, length_cut}
use Rattle.bpf_kept.proofs.Setting.{Setting, packet_of}
use Rattle.bpf_kept.proofs.Beside.{NewAt, is_isolated, new_next}

-- ---- r1

-- it is where the context begins
is_middle : (own y : ℕ) → y ≡ 2 ^ 63 → Differs own context_offset 0 y
is_middle own y e =
    let by : pos 0 +ℤ shift own context_offset ≡ pos (2 ^ 63) = rw (shift_constant own (2 ^ 63)) refl in
    e ∙ sym (ap (λ z. modulo z addresses) by)

-- 0, by the old program's r1
none_by_first : (padded : Bool) (own x : ℕ) → x ≡ 2 ^ 63 + bytes_before padded → Differs own (constant (middle - bytes_before padded)) x 0
none_by_first true own x e =
    let by : shift own (constant (2 ^ 63 - 8)) ≡ pos (2 ^ 63 - 8) = shift_constant own (2 ^ 63 - 8) in
    let z : pos x +ℤ shift own (constant (2 ^ 63 - 8)) ≡ pos (2 ^ 64) = omega (arith, ints) in
    sym (ap (λ z. modulo z addresses) z)
none_by_first false own x e =
    let by : shift own (constant (2 ^ 63)) ≡ pos (2 ^ 63) = shift_constant own (2 ^ 63) in
    let z : pos x +ℤ shift own (constant (2 ^ 63)) ≡ pos (2 ^ 64) = omega (arith, ints) in
    sym (ap (λ z. modulo z addresses) z)

-- the new program's, by the old one's
first_by_first : (padded : Bool) (own x y : ℕ) → x ≡ 2 ^ 63 + bytes_before padded → y ≡ 2 ^ 63 → Differs own (negated (constant (bytes_before padded))) x y
first_by_first true own x y e e' =
    let by : shift own (negated (constant 8)) ≡ pos (2 ^ 64 - 8) = plain_shift own (negated (constant 8)) refl in
    let z : pos x +ℤ shift own (negated (constant 8)) ≡ pos (2 ^ 63 + 2 ^ 64) = omega (arith, ints) in
    e' ∙ sym (ap (λ z. modulo z addresses) z)
first_by_first false own x y e e' =
    let by : shift own (negated (constant 0)) ≡ pos 0 = plain_shift own (negated (constant 0)) refl in
    let z : pos x +ℤ shift own (negated (constant 0)) ≡ pos (2 ^ 63) = omega (arith, ints) in
    e' ∙ sym (ap (λ z. modulo z addresses) z)

-- ---- the frame is 0

zeros_number : (order : Order) (a : ℕ) → number_of order 8 (bytes_from (λ x. 0) a 8) ≡ 0
zeros_number Little a = refl
zeros_number Big a = refl

-- the memory of the start, before the context
pub memory_zero : (place : Placement) (context : List ℕ) (a : ℕ) → a < place.context → zero_memory place context a ≡ 0
memory_zero place context a lt = ap (λ b. cond (b && ltb a (place.context + length context)) (slice_index context (a - place.context)) 0) (lt-leb place.context a lt)

abbrev pub IsClear : ℕ → FlatState → Type 0
IsClear own f = (a : ℕ) → own ≤ a → a < own + 512 → f.memory a ≡ 0

slot_zero : (order : Order) (own n : ℕ) (f : FlatState) → IsRoomy own → IsClear own f → slot_number order own f n ≡ 0
slot_zero order own n f room clear = cond_both (ltb n 64) (flat_number order f 8 (own + 8 * n)) 0 (λ x. x ≡ 0)
    (λ e. let few : n < 64 = ltb-true n 64 e in
    let to = room.to in
    ap (number_of order 8) (bytes_alike (λ x. 0) f.memory (own + 8 * n) 8 (λ j lt. clear ((own + 8 * n + j) % addresses) (omega arith) (omega arith))) ∙ zeros_number order (own + 8 * n))
    (λ e. refl)

pub slots_hold : (order : Order) (own : ℕ) (packet : Packet) (f g : FlatState) → IsRoomy own → IsFlat f → IsClear own f → IsClear own g
    → AllHold own (value_in order own packet f) (value_in order own packet g) (slot_facts is_zero_slot (λ n. true) frame_slots ++ slot_facts same_slot (λ n. true) frame_slots)
slots_hold order own packet f g room flat clear clear' =
    all_both (Holds own (value_in order own packet f) (value_in order own packet g)) (slot_facts is_zero_slot (λ n. true) frame_slots) (slot_facts same_slot (λ n. true) frame_slots)
    (slot_facts_hold (Holds own (value_in order own packet f) (value_in order own packet g)) is_zero_slot (λ n. true) 64 (λ n lt e. numbers_equal own (slot_number order own f n) 0 (slot_below order own n f flat) (sym (slot_zero order own n f room clear))))
    (slot_facts_hold (Holds own (value_in order own packet f) (value_in order own packet g)) same_slot (λ n. true) 64 (λ n lt e. numbers_equal own (slot_number order own f n) (slot_number order own g n) (slot_below order own n f flat) (slot_zero order own n g room clear' ∙ sym (slot_zero order own n f room clear))))

-- ---- all that is known at the start

pub record AreFirst (own : ℕ) (packet : Packet) (padded : Bool) (len : ℕ) (f g : FlatState) : Type 0 where
  pub room : IsRoomy own
  pub flat : IsFlat f
  pub first : flat_register f R1 ≡ 2 ^ 63 + bytes_before padded
  pub new_first : flat_register g R1 ≡ 2 ^ 63
  pub length_is : flat_register g R2 ≡ packet.length
  pub short : packet.length < addresses
  pub whole : padded ≡ false → packet.length ≡ len
  pub others : (r : Reg) → (register_number r == 1) ≡ false → flat_register g r ≡ flat_register f r
  pub clear : IsClear own f
  pub new_clear : IsClear own g

-- r2 is the length
length_holds : (order : Order) (own : ℕ) (packet : Packet) (padded : Bool) (len : ℕ) (f g : FlatState) → (padded ≡ false → flat_register f R2 ≡ len)
    → (padded ≡ false → flat_register g R2 ≡ len) → (padded ≡ false → len < addresses)
    → AllHold own (value_in order own packet f) (value_in order own packet g) (length_facts padded len)
length_holds order own packet true len f g e e' small = tt
length_holds order own packet false len f g e e' small = (
  subst (λ x. Differs own (number_pin len) x 0) (sym (e refl)) (zero_pin own len (small refl)),
  (subst (λ y. Differs own (constant len) 0 y) (sym (e' refl)) (constant_known own len (small refl)), tt),
)

pub start_holds : (order : Order) (own : ℕ) (packet : Packet) (padded : Bool) (len : ℕ) (f g : FlatState) → AreFirst own packet padded len f g
    → AllHold own (value_in order own packet f) (value_in order own packet g) (start_facts padded len)
start_holds order own packet padded len f g at = (
  is_middle own (flat_register g R1) at.new_first,
  (
    none_by_first padded own (flat_register f R1) at.first,
    (
      first_by_first padded own (flat_register f R1) (flat_register g R1) at.first at.new_first,
      (
        numbers_equal own packet.length (flat_register g R2) at.short at.length_is,
        (
          same R0 refl,
          (same R2 refl, (same R3 refl, (same R4 refl, (same R5 refl, (same R6 refl, (same R7 refl, (same R8 refl, (same R9 refl, (same R10 refl, rest))))))))),
        ),
      ),
    ),
  ),
)
  where
    same : (r : Reg) → (register_number r == 1) ≡ false → Holds own (value_in order own packet f) (value_in order own packet g) (by_itself (Register r))
    same r other = numbers_equal own (flat_register f r) (flat_register g r) (at.flat.numbers (register_number r)) (at.others r other)

    new_length : padded ≡ false → flat_register g R2 ≡ len
    new_length e = at.length_is ∙ at.whole e

    rest : AllHold own (value_in order own packet f) (value_in order own packet g) (length_facts padded len ++ (slot_facts is_zero_slot (λ n. true) frame_slots ++ slot_facts same_slot (λ n. true) frame_slots))
    rest =
        all_both (Holds own (value_in order own packet f) (value_in order own packet g)) (length_facts padded len) (slot_facts is_zero_slot (λ n. true) frame_slots ++ slot_facts same_slot (λ n. true) frame_slots)
        (length_holds order own packet padded len f g (λ e. sym (at.others R2 refl) ∙ new_length e) new_length (λ e. subst (λ n. n < addresses) (at.whole e) at.short)) (slots_hold order own packet f g at.room at.flat at.clear at.new_clear)

-- ---- the memory

-- what both may come to is the same
start_same : (padded : Bool) (order : Order) (own context : List ℕ) (place old : Placement) → old.context ≡ middle + bytes_before padded → place.context ≡ middle → AreGiven padded order own context → (start left : ℕ) → start + 512 ≤ 2 ^ 63 → (a : ℕ) → IsSeen start (record { first = middle + bytes_before padded; length = length own; waiting = []; left = left }) a
    → zero_memory place context a ≡ zero_memory old own a
start_same padded order own context place old eo en given start left room a (inr (inl framed)) = let high = framed.1 in memory_zero place context a (omega arith) ∙ sym (memory_zero old own a (omega arith))
start_same padded order own context place old eo en given start left room a (inr (inr waiting)) = absurd waiting
start_same padded order own context place old eo en given start left room a (inl among) =
    let low = among.0 in
    let high = among.1 in
    let fits = own_fits padded order own context given in
    let i : ℕ = a - (middle + bytes_before padded) in
    let here : a ≡ place.context + (bytes_before padded + i) = omega arith in
    let there : a ≡ old.context + i = omega arith in
    ap (zero_memory place context) here ∙ start_memory place context (bytes_before padded + i) (omega arith) ∙ byte_inside padded order own context given i (omega arith)
    ∙ sym (start_memory old own i (omega arith)) ∙ ap (zero_memory old own) (sym there)

-- ---- where the head is read

head_number : (order : Order) (context : List ℕ) (f : FlatState) (place : Placement) (a : ℕ) → f.memory ≡ zero_memory place context → a ≡ place.context → place.context + 8 ≤ addresses → head_bytes ≤ length context → flat_number order f 8 a ≡ told_length order context
head_number order context f place a em ea fits le =
    ap₂ (λ m a. number_of order 8 (bytes_from m a 8)) em ea
    ∙ ap (number_of order 8) (bytes_from_are (zero_memory place context) place.context 8 (take 8 context) (taken_exactly 8 context le) fits (λ j lt. let eight = taken_exactly 8 context le in start_memory place context j (omega arith) ∙ sym (taken_at 8 context j (omega arith))))

pub near_room : IsRoomy (frame_start (near false) 0)
near_room = let e : frame_start (near false) 0 ≡ 2 ^ 41 = refl in record { from = omega arith; to = omega arith }

pub wide_room : IsRoomy (frame_start (wide false) 0)
wide_room = let e : frame_start (wide false) 0 ≡ 2 ^ 50 = refl in record { from = omega arith; to = omega arith }

pub near_high : IsHigh (frame_start (near false) 0)
near_high = record { part = 2 ^ 9; is = refl }

pub wide_high : IsHigh (frame_start (wide false) 0)
wide_high = record { part = 2 ^ 18; is = refl }

-- ---- the first instructions of the new program

module _ (given : Setting) where
  open given use {order, is, js, notes, bounds, old_valid, new_valid, matches, own, own_is, context, bytes, long, never, v, k, l, near_ends, wide_ends}

  abbrev new : Instructions
  new = program order js

  short : length context < 2 ^ 32
  short = subst (λ n. n < 2 ^ 32) (sym long) matches.short

  pub own_short : length own < 2 ^ 32
  own_short = let fits = own_fits bounds.padded order own context own_is in let s = short in omega arith

  abbrev pub near_start : FlatState
  near_start = zero_start (near bounds.padded) own

  abbrev pub wide_start : FlatState
  wide_start = zero_start (wide bounds.padded) own

  pub near_state : IsZeroState (zero_start (near bounds.padded) own)
  near_state = let s = own_short in (zero_start_fits order (near bounds.padded) own (given_is bounds.padded order own context bytes own_is).0 (far_is_placement bounds.padded (length own) (omega arith)).0).1

  pub wide_state : IsZeroState (zero_start (wide bounds.padded) own)
  wide_state = let s = own_short in (zero_start_fits order (wide bounds.padded) own (given_is bounds.padded order own context bytes own_is).0 (far_is_placement bounds.padded (length own) (omega arith)).1).1

  -- with something in r2, at a slot
  abbrev pub cut : Placement → ℕ → ℕ → FlatState
  cut place x slot = record { slot = slot; registers = 0 ∷ place.context % addresses ∷ x ∷ 0 ∷ 0 ∷ 0 ∷ 0 ∷ 0 ∷ 0 ∷ 0 ∷ frame_end place 0 ∷ []; memory = zero_memory place context; returns = [] }

  pub record CutAt (n x slot : ℕ) : Type 0 where
    pub state : State
    pub run : Steps new n (start context) state
    pub near_fits : Fits order (near false) state (cut (near false) x slot)
    pub wide_fits : Fits order (wide false) state (cut (wide false) x slot)
    pub isolated : is_isolated given ≡ true → AreAlone state

  -- nothing is known yet
  abbrev bare : Known
  bare = record { facts = []; apart = []; counters = []; turns = bounds.turns; left = 0; back = []; spare = None; barred = None; state = None }

  pub near_common : IsCommon (frame_start (near false) 0) (packet_of given []) [] near_start (cut (near false) 0 0)
  near_common a small seen out = start_same bounds.padded order own context (near false) (near bounds.padded) refl refl own_is (frame_start (near false) 0) (packet_of given []).left (omega arith) a seen

  pub wide_common : IsCommon (frame_start (wide false) 0) (packet_of given []) [] wide_start (cut (wide false) 0 0)
  wide_common a small seen out = start_same bounds.padded order own context (wide false) (wide bounds.padded) refl refl own_is (frame_start (wide false) 0) (packet_of given []).left (omega arith) a seen

  bare_at : (n x slot : ℕ) (c : CutAt n x slot) → NewAt given 0 bare 0 n c.state near_start wide_start (cut (near false) x slot) (cut (wide false) x slot)
  bare_at n x slot c =
      record {
        run = c.run;
        near_level = refl;
        wide_level = refl;
        near_at = record { high = near_high; room = near_room; flat = near_state.flat; new_flat = c.near_fits.flat; common = near_common; pointers = (refl, refl); numbers = register_has None c.near_fits c.near_fits.flat (λ a e. absurd (none-some a e)); all = tt };
        wide_at = record { high = wide_high; room = wide_room; flat = wide_state.flat; new_flat = c.wide_fits.flat; common = wide_common; pointers = (refl, refl); numbers = register_has None c.wide_fits c.wide_fits.flat (λ a e. absurd (none-some a e)); all = tt };
        near_fits = c.near_fits;
        wide_fits = c.wide_fits;
        counted = tt;
        unlike = λ n e. absurd (none-some n e);
        isolated = c.isolated;
      }

  cut_next : (n x slot y to : ℕ) (m : Insn) → CutAt n x slot → insn_at js slot ≡ Some m → flat_does order m (cut (near false) x slot) ≡ Some (cut (near false) y to) → flat_does order m (cut (wide false) x slot) ≡ Some (cut (wide false) y to) → CutAt (suc n) y to
  cut_next n x slot y to m c there en ew =
      let z = new_next given 0 bare 0 n c.state near_start wide_start (cut (near false) x slot) (cut (wide false) x slot) (cut (near false) y to) (cut (wide false) y to) m (bare_at n x slot c) (ap (insn_at js) (sym c.near_fits.slot_is) ∙ there) en ew refl refl in
      record { state = z.0; run = z.2.run; near_fits = z.2.near_fits; wide_fits = z.2.wide_fits; isolated = z.2.isolated }

  first_cut : CutAt 0 (length context) 0
  first_cut =
      let s = short in
      record {
        state = start context;
        run = refl;
        near_fits = (zero_start_fits order (near false) context bytes (far_is_placement false (length context) (omega arith)).0).0;
        wide_fits = (zero_start_fits order (wide false) context bytes (far_is_placement false (length context) (omega arith)).1).0;
        isolated = λ e. starts_alone context;
      }

  -- the head is loaded
  loaded : Cuts new (length context) → CutAt 1 (told_length order context) 1
  unfolding flat_does
  loaded cuts =
      cut_next 0 (length context) 0 (told_length order context) 1 loads_length first_cut cuts.loads
      (ap (λ y. Some (cut (near false) y 1)) (head_number order context (cut (near false) (length context) 0) (near false) (2 ^ 63) refl refl (omega arith) cuts.has_head))
      (ap (λ y. Some (cut (wide false) y 1)) (head_number order context (cut (wide false) (length context) 0) (wide false) (2 ^ 63) refl refl (omega arith) cuts.has_head))

  room_is : (room : ℕ) → room < 2 ^ 32 → extended (pos room) ≡ room
  room_is room lt = omega arith

  told_fits : (x room : ℕ) → room < 2 ^ 32 → x ≤ room → jumps W64 Le x (extended (pos room)) ≡ true
  told_fits x room lt le = ap (λ y. leb x y) (room_is room lt) ∙ le-leb x room le

  told_more : (x room : ℕ) → room < 2 ^ 32 → room < x → jumps W64 Le x (extended (pos room)) ≡ false
  told_more x room lt more = ap (λ y. leb x y) (room_is room lt) ∙ lt-leb x room more

  -- r2 is the packet's length
  pub record HasLength (padded : Bool) : Type 0 where
    pub n : ℕ
    pub few : n ≤ start_slot padded
    pub at : CutAt n (length own) (start_slot padded)

  block_cut : IsBlock order own context → Cuts new (length context) → HasLength true
  unfolding flat_does
  block_cut block cuts = elim (cases_lt room (told_length order context)) [
    | inr fits ↦ record {
      n = 2;
      few = omega arith;
      at = subst (λ x. CutAt 2 x 3) (sym (length_told order own context block fits))
          (cut_next 1 x 1 x 3 (skips_cut room) one cuts.skips
          (test_jumps order Le W64 R2 (Imm (pos room)) (pos 1) (cut (near false) x 1) 3 (told_fits x room little fits) refl)
          (test_jumps order Le W64 R2 (Imm (pos room)) (pos 1) (cut (wide false) x 1) 3 (told_fits x room little fits) refl));
    }
    | inl more ↦ record {
      n = 3;
      few = omega arith;
      at = subst (λ y. CutAt 3 y 3) (sym (length_cut order own context block (omega arith)))
          (cut_next 2 x 2 room 3 (cuts_length room)
          (cut_next 1 x 1 x 2 (skips_cut room) one cuts.skips
          (test_falls order Le W64 R2 (Imm (pos room)) (pos 1) (cut (near false) x 1) (told_more x room little more))
          (test_falls order Le W64 R2 (Imm (pos room)) (pos 1) (cut (wide false) x 1) (told_more x room little more)))
          cuts.cuts (ap (λ y. Some (cut (near false) y 3)) (room_is room little)) (ap (λ y. Some (cut (wide false) y 3)) (room_is room little)));
    }
  ]
    where
      x : ℕ
      x = told_length order context

      room : ℕ
      room = length context - 8

      little : room < 2 ^ 32
      little = let s = short in omega arith

      one : CutAt 1 (told_length order context) 1
      one = loaded cuts

  pub has_length : (padded : Bool) → AreGiven padded order own context → (padded ≡ true → Cuts new (length context)) → HasLength padded
  has_length false given cuts = record { n = 0; few = omega arith; at = subst (λ x. CutAt 0 x 0) (ap length (sym given)) first_cut }
  has_length true block cuts = block_cut block (cuts refl)

  -- ---- what holds then

  near_clear : (a : ℕ) → frame_start (near false) 0 ≤ a → a < frame_start (near false) 0 + 512 → a < 2 ^ 63
  near_clear a low high = below a (frame_start (near false) 0) high refl
    where
      below : (a s : ℕ) → a < s + 512 → s ≡ 2 ^ 41 → a < 2 ^ 63
      below a s lt es = omega arith

  wide_clear : (a : ℕ) → frame_start (wide false) 0 ≤ a → a < frame_start (wide false) 0 + 512 → a < 2 ^ 63
  wide_clear a low high = below a (frame_start (wide false) 0) high refl
    where
      below : (a s : ℕ) → a < s + 512 → s ≡ 2 ^ 50 → a < 2 ^ 63
      below a s lt es = omega arith

  first_small : (padded : Bool) → (middle + bytes_before padded) % addresses ≡ 2 ^ 63 + bytes_before padded
  first_small true = refl
  first_small false = refl

  behind_first : (padded : Bool) (a : ℕ) → a < 2 ^ 63 → a < middle + bytes_before padded
  behind_first padded a lt = omega arith

  others_same : (place old : Placement) (slot : ℕ) → frame_end place 0 ≡ frame_end old 0 → (r : Reg) → (register_number r == 1) ≡ false → flat_register (cut place (length own) slot) r ≡ flat_register (zero_start old own) r
  others_same place old slot e R0 other = refl
  others_same place old slot e R1 other = absurd (false≢true (sym other))
  others_same place old slot e R2 other = refl
  others_same place old slot e R3 other = refl
  others_same place old slot e R4 other = refl
  others_same place old slot e R5 other = refl
  others_same place old slot e R6 other = refl
  others_same place old slot e R7 other = refl
  others_same place old slot e R8 other = refl
  others_same place old slot e R9 other = refl
  others_same place old slot e R10 other = e

  -- the packet is the whole context, unless that is a block
  is_whole : (padded : Bool) → AreGiven padded order own context → padded ≡ false → length own ≡ bounds.length
  is_whole false given e = ap length given ∙ long
  is_whole true given e = absurd (false≢true (sym e))

  pub near_first : (slot : ℕ)
      → AreFirst (frame_start (near false) 0) (packet_of given []) bounds.padded bounds.length near_start (cut (near false) (length own) slot)
  near_first slot =
      record {
        room = near_room;
        flat = near_state.flat;
        first = first_small bounds.padded;
        new_first = refl;
        length_is = refl;
        short = let s = own_short in omega arith;
        whole = is_whole bounds.padded own_is;
        others = others_same (near false) (near bounds.padded) slot refl;
        clear = λ a low high. memory_zero (near bounds.padded) own a (behind_first bounds.padded a (near_clear a low high));
        new_clear = λ a low high. memory_zero (near false) context a (near_clear a low high);
      }

  pub wide_first : (slot : ℕ)
      → AreFirst (frame_start (wide false) 0) (packet_of given []) bounds.padded bounds.length wide_start (cut (wide false) (length own) slot)
  wide_first slot =
      record {
        room = wide_room;
        flat = wide_state.flat;
        first = first_small bounds.padded;
        new_first = refl;
        length_is = refl;
        short = let s = own_short in omega arith;
        whole = is_whole bounds.padded own_is;
        others = others_same (wide false) (wide bounds.padded) slot refl;
        clear = λ a low high. memory_zero (wide bounds.padded) own a (behind_first bounds.padded a (wide_clear a low high));
        new_clear = λ a low high. memory_zero (wide false) context a (wide_clear a low high);
      }
