-- The bytes that an access reads: in the context, or in the top frame.
use Rattle.std.proofs.Common.{List, ◌≡◌, ℕ, ℤ, pos, ◌+ℤ◌, ◌+◌, ◌-◌, ◌*◌, ◌/◌, ◌%◌, ◌<◌, ◌≤◌, refl, sym, ◌∙◌, ap, subst, arith, length, get_or, inl, inr, Option, Some, None, Bool, true, false, cond}
use Rattle.std.specs.Prelude.{take, drop, slice_index, ◌==◌, ◌&&◌, not, int_lt, int_le, option_map, unsigned_abs}
use Rattle.std.proofs.lemmas.Int.{ints, clamps}
use Rattle.std.proofs.lemmas.Bool.{cases_lt, not-false, and_parts}
use Rattle.std.proofs.lemmas.List.{get_or-take, get_or-drop, get_or_past, length-take}
use Rattle.bpf_insn.specs.declared.order.Order.{Order}
use Rattle.bpf_semantics.specs.declared.value.Value.{Value}
use Rattle.bpf_semantics.specs.declared.value.Value.TheVariants.{Pointer as PointerValue}
use Rattle.bpf_semantics.specs.declared.value.Region.{Region}
use Rattle.bpf_semantics.specs.declared.value.Region.TheVariants.{Context, Frame as FrameAt}
use Rattle.bpf_insn.specs.declared.instruction.Size.{Size}
use Rattle.bpf_insn.specs.declared.instruction.Size.TheVariants.{B, H, W, DW}
use Rattle.bpf_insn.specs.Instruction.{byte_count}
use Rattle.bpf_semantics.specs.Stuck.{unreadable_at, first_unreadable}
use Rattle.bpf_insn.specs.Effects.{Access}
use Rattle.bpf_semantics.specs.State as machine
use Rattle.bpf_semantics.specs.State.{IsFrame}
use Rattle.bpf_semantics.specs.State.Cell.{Byte}
use Rattle.bpf_semantics.specs.Memory.{Location, bytes_in, bytes_at, pointer_at, pointer_in, location_of, stack_of}
use Rattle.bpf_semantics.specs.Memory.Location.{InContext, InFrame}
use Rattle.bpf_state.specs.declared.known.RegState.{RegState}
use Rattle.bpf_state.specs.State.{AbstractState, slot, IsAbstract}
use Rattle.bpf_state.specs.Access.{Span, span_from, span_end, is_inside, first_byte, any_slot, is_pointer_slot, are_known_bytes, slot_number, touches, touched_bytes}
use Rattle.bpf_state.specs.Fault.{some_passes}
use Rattle.bpf_safety.specs.Describes.{Describes, PointsInto}
use Rattle.bpf_safety.proofs.Areas.{context_pointer}
use Rattle.bpf_safety.proofs.TouchedCells.{int_lt_true, LiesAt}
use Rattle.bpf_safety.proofs.ReadCells.{no_slot, has_bit, is_touched, known_byte, ReadBytes, read_bytes}
use Rattle.bpf_safety.proofs.Judged.{top_frame}
use Rattle.bpf_safety.proofs.FrameStores.{InTop, inside_of, stack_top}
use Rattle.bpf_safety.proofs.NumberStores.{WholeSlot}
use Rattle.bpf_safety.proofs.ByteStores.{byte_fits, cells_of}
use Rattle.bpf_safety.proofs.WrittenSlots.{IsByte}
use Rattle.bpf_safety.proofs.Tests.{and3_true, and_at}

-- the place of an access, and the bytes there
pub record Read (m : machine.State) (a : Access) (bytes : List ℕ) : Type 0 where
  pub region : Region
  pub offset : ℤ
  pub place : Location
  pub base : machine.register m a.base ≡ Some (PointerValue region offset)
  pub at : location_of m (byte_count a.size) a.offset (PointerValue region offset) ≡ Some place
  pub are : bytes_at m (byte_count a.size) place ≡ Some bytes
  pub fit : (i : ℕ) → slice_index bytes i < 256
  pub readable : unreadable_at m (byte_count a.size) place ≡ None
  pub plain : pointer_at m place ≡ None

-- ---- in the context

-- bytes of a part of the context
part_bytes : (n c : ℕ) (bytes : List ℕ) → ((i : ℕ) → slice_index bytes i < 256) → (i : ℕ) → slice_index (take n (drop c bytes)) i < 256
part_bytes n c bytes fit i =
    elim (cases_lt i n) [
      | inl less ↦ subst (λ v. v < 256) (sym (get_or-take n (drop c bytes) i 0 less ∙ get_or-drop c bytes i 0)) (fit (c + i))
      | inr more ↦ subst (λ v. v < 256) (sym (get_or_past (take n (drop c bytes)) i 0 (let l = length-take n (drop c bytes) in omega arith))) (omega arith)
    ]

pub context_read : (m : machine.State) (least : ℕ) (a : Access) (lo hi : ℤ) → machine.IsState m → least ≤ length m.context → some_passes (λ p. not (is_inside least p)) (span_from a (context_pointer lo hi)) ≡ false → PointsInto Context lo hi (machine.register m a.base) → (bytes : List ℕ) × Read m a bytes
context_read m least a lo hi ok all q d =
    let z : ℤ = d.0 +ℤ a.offset in
    let low : Bool = int_le (pos 0) (lo +ℤ a.offset) in
    let high : Bool = int_le ((hi +ℤ a.offset) +ℤ pos (byte_count a.size)) (pos least) in
    let t = and_parts low high (not-false (low && high) q) in
    let l = d.2 in
    let u = d.3 in
    let b = t.0 in
    let e = t.1 in
    let c : ℕ = unsigned_abs z in
    let is_c : z ≡ pos c = omega (arith, ints, clamps) in
    let room : c + byte_count a.size ≤ least = omega (arith, ints, clamps) in
    let room' : c + byte_count a.size ≤ length m.context = omega arith in (
      take (byte_count a.size) (drop c m.context),
      record {
        region = Context;
        offset = d.0;
        place = InContext c;
        base = d.1;
        at = ap (λ o. option_map InContext o) (inside_of (byte_count a.size) (length m.context) z c is_c room');
        are = refl;
        fit = part_bytes (byte_count a.size) c m.context ok.bytes;
        readable = refl;
        plain = refl;
      },
    )

-- ---- in the top frame

module _ (order : Order) (least most : ℕ) (x : List ℕ) (s : AbstractState) (m : machine.State) (p : Span) (c : ℕ) (valid : IsAbstract s) (frame : IsFrame m.top) (d : Describes order least most x s m) (lies : LiesAt p c) where
  -- no touched slot holds a pointer, and each touched byte is known
  each_byte : ((k : ℕ) → 1 ≤ k → k ≤ 64 → touches p k ≡ true → is_pointer_slot (slot s k) ≡ false) → any_slot (λ k held. touches p k && not (are_known_bytes (touched_bytes p k) held)) 1 s.slots ≡ false → (i : ℕ) → i < p.count → IsByte (get_or m.top.stack (c + i) None)
  each_byte plain known i lt =
      let fits = lies.fits in
      let k : ℕ = 64 - (c + i) / 8 in
      let r : ℕ = (c + i) % 8 in
      let place : 512 - 8 * k + r ≡ c + i = omega arith in
      let touched = is_touched p c k r lies (omega arith) (omega arith) (omega arith) (omega arith) (omega arith) in
      let bit = has_bit p c k r lies (omega arith) (omega arith) (omega arith) (omega arith) (omega arith) in
      let is_known' = not-false (are_known_bytes (touched_bytes p k) (slot s k)) (and_at (touches p k) (not (are_known_bytes (touched_bytes p k) (slot s k))) (no_slot (λ k held. touches p k && not (are_known_bytes (touched_bytes p k) held)) k s.slots known valid.slots_are (omega arith) (omega arith)) touched) in
      let b = known_byte order (machine.depth m) (touched_bytes p k) (slot s k) (cells_of m.top.stack k) r is_known' (plain k (omega arith) (omega arith) touched) bit (omega arith) (d.slots k (omega arith) (omega arith)) in
      let e : get_or m.top.stack (c + i) None ≡ Some (Byte b.0) = subst (λ n. get_or m.top.stack n None ≡ Some (Byte b.0)) place b.1 in
      record { byte = b.0; is = e; fits = byte_fits m.top frame (c + i) b.0 (omega arith) e }

  -- a whole slot's access touches that slot alone
  pub only_slot : WholeSlot p c → p.lowest ≡ p.highest → (k : ℕ) → 1 ≤ k → k ≤ 64 → touches p k ≡ true → k ≡ slot_number p
  only_slot w known k low high touched =
      let t = and3_true p.in_frame (int_lt p.lowest (first_byte k +ℤ pos 8)) (int_lt (first_byte k) (span_end p)) touched in
      let a = int_lt_true p.lowest (first_byte k +ℤ pos 8) t.1 in
      let b = int_lt_true (first_byte k) (span_end p) t.2 in
      let low0 = w.low in
      let high0 = w.high in
      let at = w.at in
      let n = w.count in
      let l = lies.lowest in
      let h = lies.highest in
      omega (arith, ints)

module _ (order : Order) (least most : ℕ) (x : List ℕ) (s : AbstractState) (m : machine.State) (a : Access) (value : RegState) (valid : IsAbstract s) (ok : machine.IsState m) (d : Describes order least most x s m) (t : InTop m a value) where
  -- the bytes of the frame, where the tests on its slots find none that isn't known
  pub frame_bytes : ((k : ℕ) → 1 ≤ k → k ≤ 64 → touches t.span k ≡ true → is_pointer_slot (slot s k) ≡ false) → any_slot (λ k held. touches t.span k && not (are_known_bytes (touched_bytes t.span k) held)) 1 s.slots ≡ false → ReadBytes (byte_count a.size) t.first m.top.stack
  frame_bytes plain known =
      let all = (top_frame m ok).cells in
      let fits = t.lies.fits in
      let n = t.count in
      read_bytes (byte_count a.size) t.first m.top.stack (omega arith) (λ i lt. each_byte order least most x s m t.span t.first valid (top_frame m ok) d t.lies plain known i (omega arith))

pub stack_here : (m : machine.State) → stack_of m (machine.depth m) ≡ m.top.stack
stack_here m = stack_top m.top.slot m

no_pointer_at : (m : machine.State) (c b : ℕ) → get_or m.top.stack c None ≡ Some (Byte b) → pointer_at m (InFrame (machine.depth m) c) ≡ None
no_pointer_at m c b e =
    ap (λ st. cond (c % 8 == 0) (pointer_in (get_or st c None)) None) (stack_here m) ∙ ap (λ a. cond (c % 8 == 0) (pointer_in a) None) e ∙ either (c % 8 == 0)
  where
    either : (t : Bool) → cond {A = Option Value} t None None ≡ None
    either true = refl
    either false = refl

some_bytes : (size : Size) → 0 < byte_count size
some_bytes B = omega arith
some_bytes H = omega arith
some_bytes W = omega arith
some_bytes DW = omega arith

pub bytes_there : (m : machine.State) (k c : ℕ) (r : ReadBytes k c m.top.stack) → bytes_at m k (InFrame (machine.depth m) c) ≡ Some r.bytes
bytes_there m k c r = ap (λ st. bytes_in (take k (drop c st))) (stack_here m) ∙ r.are

pub bytes_readable : (m : machine.State) (k c : ℕ) → ReadBytes k c m.top.stack → unreadable_at m k (InFrame (machine.depth m) c) ≡ None
bytes_readable m k c r = ap (λ st. first_unreadable (take k (drop c st))) (stack_here m) ∙ r.readable

pub frame_read : (m : machine.State) (a : Access) (value : RegState) (t : InTop m a value) (r : ReadBytes (byte_count a.size) t.first m.top.stack) → Read m a r.bytes
frame_read m a value t r =
    let some : 0 < byte_count a.size = some_bytes a.size in
    let first : get_or m.top.stack t.first None ≡ Some (Byte (slice_index r.bytes 0)) = ap (λ n. get_or m.top.stack n None) (omega arith) ∙ r.at 0 some in
    record {
      region = FrameAt (machine.depth m);
      offset = t.offset;
      place = InFrame (machine.depth m) t.first;
      base = t.base;
      at = t.place;
      are = bytes_there m (byte_count a.size) t.first r;
      fit = r.fit;
      readable = bytes_readable m (byte_count a.size) t.first r;
      plain = no_pointer_at m t.first (slice_index r.bytes 0) first;
    }
