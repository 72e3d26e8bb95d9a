-- What both programs store at one address, and what they fetch from there: what is known behind.
use Rattle.std.proofs.Common.{◌≡◌, ℕ, ◌+◌, ◌%◌, ◌^◌, ◌<◌, ◌==◌, refl, sym, ap, ap₂, ◌∙◌, subst, Bool, true, false, List, ◌∷◌, length, Option, Some, None, cond}
use Rattle.std.specs.Prelude.{ℤ, pos, ◌-ℤ◌, ◌&&◌, not, ltb, slice_index, unwrap_or}
use Rattle.std.specs.List.{list_all}
use Rattle.std.specs.Ordering.{int_eq}
use Rattle.std.proofs.lemmas.Bool.{and_parts, false≢true}
use Rattle.std.proofs.lemmas.Bool.Decides.{Decides-int_eq}
use Rattle.std.proofs.lemmas.Option.{none-some, same_Some, option_and_then_some}
use Rattle.bpf_insn.specs.Options.{◌>>=◌}
use Rattle.bpf_insn.specs.Arithmetic.{modulo, extended}
use Rattle.bpf_insn.specs.Effects.{Access, access_of, is_frame_pointer, fetch_register, atomic_registers}
use Rattle.bpf_insn.specs.Image.{HasEncoding}
use Rattle.bpf_insn.specs.Instruction.{byte_count, word_size, slot_count}
use Rattle.bpf_insn.specs.Order.{bytes_of, number_of}
use Rattle.bpf_insn.specs.declared.order.Order.{Order}
use Rattle.bpf_insn.specs.declared.instruction.Reg.{Reg}
use Rattle.bpf_insn.specs.declared.instruction.Reg.TheVariants.{R0}
use Rattle.bpf_insn.specs.declared.instruction.Size.{Size}
use Rattle.bpf_insn.specs.declared.instruction.Modify.{Modify}
use Rattle.bpf_insn.specs.declared.instruction.Modify.TheVariants.{Add as AddTo, Or as OrTo, And as AndTo, Xor as XorTo}
use Rattle.bpf_insn.specs.declared.instruction.AtomicOp.{AtomicOp}
use Rattle.bpf_insn.specs.declared.instruction.AtomicOp.TheVariants.{Modify as Changes, Xchg, CmpXchg}
use Rattle.bpf_insn.specs.declared.instruction.Insn.{Insn}
use Rattle.bpf_insn.specs.declared.instruction.Insn.TheVariants.{Store, StoreImm, Atomic}
use Rattle.bpf_semantics.specs.Step.{modified, atomic_result}
use Rattle.bpf_semantics.specs.Flat.{FlatState, IsFlat, addresses, address, memory_with, flat_register, flat_number, flat_put, flat_next, flat_store, flat_fetched, flat_does}
use Rattle.bpf_semantics.proofs.FlatAccess.{flat_number_below}
use Rattle.bpf_kept.specs.declared.notes.Holder.{Holder}
use Rattle.bpf_kept.specs.declared.notes.Holder.TheVariants.{Register}
use Rattle.bpf_kept.specs.declared.notes.TurnsLeft.{TurnsLeft}
use Rattle.bpf_kept.specs.declared.notes.Change.{Change}
use Rattle.bpf_kept.specs.declared.notes.Change.TheVariants.{Stored, Fetched}
use Rattle.bpf_kept.specs.Terms.{Packet, IsSeen, IsCommon, value_in}
use Rattle.bpf_kept.specs.Slots.{is_clear, reaches}
use Rattle.bpf_kept.specs.Rules.{Known, is_same, is_common, same_register, same_holder, same_size, same_address, goes_alike, same_modify, same_atomic, stores_alike, fetches, reached}
use Rattle.bpf_kept.specs.Counters.{is_spared, is_made}
use Rattle.bpf_kept.proofs.HoldsLaw.{register_is, register_elsewhere, register_now}
use Rattle.bpf_kept.proofs.FrameLaw.{IsEnd, Goes, reach_is, byte_kept, clear_kept}
use Rattle.bpf_kept.proofs.PutLaw.{AtOnce, end_left, access_is, address_same, size_is, loaded_alike}
use Rattle.bpf_kept.proofs.ExtraLaw.{stored_hold, fetched_hold}
use Rattle.bpf_kept.proofs.EdgeLaw.{Behind, numbers_equal}
use Rattle.bpf_kept.proofs.StoreLaw.{KeepsUnseen, Paired, register_same, flat_after}

same_bytes : (bytes : List ℕ) (a b : ℕ) (m other : ℕ → ℕ) → other b ≡ m b → memory_with bytes a other b ≡ memory_with bytes a m b
same_bytes bytes a b m other e = let k : ℕ = modulo (pos b -ℤ pos a) addresses in ap (λ y. cond (ltb k (length bytes)) (slice_index bytes k) y) e

-- what a store of both to one address leaves
record StoreLeaves (order : Order) (start : ℕ) (packet : Packet) (known : Known) (from to : ℕ) (f g old new : FlatState) : Type 0 where
  unseen : KeepsUnseen start packet f old
  new_unseen : KeepsUnseen start packet g new
  clear : (of : Option Holder) → is_clear from to of ≡ true → value_in order start packet old of ≡ value_in order start packet f of
  new_clear : (of : Option Holder) → is_clear from to of ≡ true → value_in order start packet new of ≡ value_in order start packet g of
  common : IsCommon start packet known.apart old new

-- what is known behind, and what the new program still has
record BothStored (order : Order) (start : ℕ) (packet : Packet) (known : Known) (change : Change) (f g old new : FlatState) : Type 0 where
  unseen : KeepsUnseen start packet f old
  new_unseen : KeepsUnseen start packet g new
  behind : Behind order start packet known change old new
  spared : (h : Holder) → is_spared change h ≡ true → value_in order start packet new (Some h) ≡ value_in order start packet g (Some h)
  unmade : (want : TurnsLeft) → is_made known change want ≡ true → ⊥

-- an access changes no byte but those that it goes to
abbrev KeepsBeside : Access → FlatState → FlatState → Type 0
KeepsBeside w f g = (a : ℕ) → a < addresses → ((j : ℕ) → j < byte_count w.size → a ≡ (address f w.base w.offset + j) % addresses → ⊥) → g.memory a ≡ f.memory a

beside_kept : (order : Order) (i : Insn) (w : Access) (f g : FlatState) → flat_does order i f ≡ Some g → access_of i ≡ Some w → KeepsBeside w f g
beside_kept order i w f g e access a small out = byte_kept order i w f g a e access small out

-- accesses of both to one address, and what is stored there
record StoresAt (order : Order) (start : ℕ) (packet : Packet) (known : Known) (i moved : Insn) (w v : Access) (f g old new : FlatState) (k x y : ℕ) : Type 0 where
  at : AtOnce order start packet known f g
  encoded : HasEncoding i
  new_encoded : HasEncoding moved
  goes : Goes start packet known.left i moved f g
  access : access_of i ≡ Some w
  new_access : access_of moved ≡ Some v
  size : byte_count v.size ≡ byte_count w.size
  there : address g v.base v.offset ≡ address f w.base w.offset
  same : y ≡ x
  beside : KeepsBeside w f old
  new_beside : KeepsBeside v g new
  registers : old.registers ≡ f.registers
  new_registers : new.registers ≡ g.registers
  memory : old.memory ≡ memory_with (bytes_of order k x) (address f w.base w.offset) f.memory
  new_memory : new.memory ≡ memory_with (bytes_of order k y) (address g v.base v.offset) g.memory

store_leaves : (order : Order) (start : ℕ) (packet : Packet) (known : Known) (change : Change) (i moved : Insn) (w v : Access) (f g old new : FlatState) (k x y : ℕ) → StoresAt order start packet known i moved w v f g old new k x y → reaches known.left (byte_count w.size) w.base w.offset v.base v.offset ≡ Some change
    → (from : ℕ) × (to : ℕ) × (change ≡ Stored from to) × StoreLeaves order start packet known from to f g old new
store_leaves order start packet known change i moved w v f g old new k x y s reach =
    let access = access_is order start packet known i moved w v f g s.encoded s.new_encoded s.at s.goes s.access s.new_access s.size s.there in
    let r = reach_is start known.left (byte_count w.size) w.base v.base w.offset v.offset f g change access reach in
    let at = s.at in
    let leaves = s.goes in
    let there = s.there in
    let size = s.size in (
      r.from,
      r.to,
      r.is,
      record {
        unseen = λ a small out. s.beside a small (λ j lt touched. out (subst (IsSeen start packet) (sym touched) (leaves.seen w v j s.access s.new_access there lt (subst (λ n. j < n) (sym size) lt))));
        new_unseen = λ a small out. s.new_beside a small (λ j lt touched. out (subst (IsSeen start packet) (sym (touched ∙ ap (λ z. (z + j) % addresses) there)) (leaves.seen w v j s.access s.new_access there (subst (λ n. j < n) size lt) lt)));
        clear = clear_kept order start packet r.from r.to f old at.room s.registers (λ a small among out. s.beside a small (λ j lt touched. r.bytes a j lt touched among out));
        new_clear = clear_kept order start packet r.from r.to g new at.room s.new_registers (λ a small among out. s.new_beside a small (λ j lt touched. r.bytes a j (subst (λ n. j < n) size lt) (touched ∙ ap (λ z. (z + j) % addresses) there) among out));
        common = λ a small seen out. ap (λ m. m a) s.new_memory ∙ ap₂ (λ z c. memory_with (bytes_of order k z) c g.memory a) s.same there ∙ same_bytes (bytes_of order k x) (address f w.base w.offset) a f.memory g.memory (at.common a small seen out) ∙ sym (ap (λ m. m a) s.memory);
      },
    )

both_store : (order : Order) (start : ℕ) (packet : Packet) (known : Known) (change : Change) (i moved : Insn) (w v : Access) (f g old new : FlatState) (k x y : ℕ) → StoresAt order start packet known i moved w v f g old new k x y → reaches known.left (byte_count w.size) w.base w.offset v.base v.offset ≡ Some change → IsFlat old → IsFlat new
    → BothStored order start packet known change f g old new
both_store order start packet known change i moved w v f g old new k x y s reach flat flat' =
    let at = s.at in
    let l = store_leaves order start packet known change i moved w v f g old new k x y s reach in
    let from : ℕ = l.0 in
    let to : ℕ = l.1 in
    let left = l.3 in
    subst (λ change. BothStored order start packet known change f g old new) (sym l.2)
    (record {
      unseen = left.unseen;
      new_unseen = left.new_unseen;
      spared = λ h e. left.new_clear (Some h) e;
      unmade = λ want h. false≢true h;
      behind = record {
        high = at.high;
        room = at.room;
        flat = flat;
        new_flat = flat';
        pointers = (subst (IsEnd start) (sym s.registers) at.pointers.0, subst (IsEnd start) (sym s.new_registers) at.pointers.1);
        holds = λ want e. stored_hold start known.facts at.high from to (value_in order start packet f) (value_in order start packet old) (value_in order start packet g) (value_in order start packet new) want refl refl left.clear left.new_clear at.all e;
        common = λ a small seen out. left.common a small seen (λ apart. out apart.0 apart.1 apart.2 apart.3);
      };
    })

-- then both put a number that is the same into a register
fetches_is : (r : Reg) (from to : ℕ) (change : Change) → fetches (Some r) (Stored from to) ≡ Some change → (is_frame_pointer r ≡ false) × (change ≡ Fetched from to r)
fetches_is r from to change e = by_test (is_frame_pointer r) refl e
  where
    by_test : (c : Bool) → is_frame_pointer r ≡ c → cond c None (Some (Fetched from to r)) ≡ Some change → (is_frame_pointer r ≡ false) × (change ≡ Fetched from to r)
    by_test true ec h = absurd (none-some _ h)
    by_test false ec h = (ec, sym (same_Some (Fetched from to r) change h))

both_fetch : (order : Order) (start : ℕ) (packet : Packet) (known : Known) (change : Change) (i moved : Insn) (w v : Access) (r : Reg) (f g old new : FlatState) (k x y m n : ℕ) → StoresAt order start packet known i moved w v f g old new k x y → (reaches known.left (byte_count w.size) w.base w.offset v.base v.offset >>= fetches (Some r)) ≡ Some change
    → IsFlat (flat_put r m old) → IsFlat (flat_put r n new) → m < addresses → n ≡ m → BothStored order start packet known change f g (flat_put r m old) (flat_put r n new)
both_fetch order start packet known change i moved w v r f g old new k x y m n s e flat flat' small same =
    option_and_then_some _ (reaches known.left (byte_count w.size) w.base w.offset v.base v.offset) change e (λ stored reach e1.
    let at = s.at in
    let l = store_leaves order start packet known stored i moved w v f g old new k x y s reach in
    let from : ℕ = l.0 in
    let to : ℕ = l.1 in
    let left = l.3 in
    let c = fetches_is r from to change (sym (ap (fetches (Some r)) l.2) ∙ e1) in
    let many : length old.registers ≡ 11 = ap length s.registers ∙ at.flat.eleven in
    let many' : length new.registers ≡ 11 = ap length s.new_registers ∙ at.new_flat.eleven in
    let elsewhere = register_elsewhere order start packet old (flat_put r m old) r m refl refl in
    let elsewhere' = register_elsewhere order start packet new (flat_put r n new) r n refl refl in
    let here : flat_register (flat_put r m old) r ≡ m = register_now old r m many in
    let here' : flat_register (flat_put r n new) r ≡ n = register_now new r n many' in
    subst (λ change. BothStored order start packet known change f g (flat_put r m old) (flat_put r n new)) (sym c.1)
    (record {
      unseen = left.unseen;
      new_unseen = left.new_unseen;
      spared = λ h e. (let b = and_parts (is_clear from to (Some h)) (not (same_holder h (Register r))) e in elsewhere' (Some h) b.1 ∙ left.new_clear (Some h) b.0);
      unmade = λ want h. false≢true h;
      behind = record {
        high = at.high;
        room = at.room;
        flat = flat;
        new_flat = flat';
        pointers = (end_left start old.registers r m c.0 (subst (IsEnd start) (sym s.registers) at.pointers.0), end_left start new.registers r n c.0 (subst (IsEnd start) (sym s.new_registers) at.pointers.1));
        holds = λ want e. fetched_hold start known.facts at.high from to r (value_in order start packet f) (value_in order start packet (flat_put r m old)) (value_in order start packet g) (value_in order start packet (flat_put r n new)) want refl refl
            (λ of clear other. elsewhere of other ∙ left.clear of clear) (λ of clear other. elsewhere' of other ∙ left.new_clear of clear)
            (numbers_equal start (flat_register (flat_put r m old) r) (flat_register (flat_put r n new) r) (subst (λ z. z < addresses) (sym here) small) (here' ∙ same ∙ sym here)) at.all e;
        common = λ a small seen out. left.common a small seen (λ apart. out apart.0 apart.1 apart.2 apart.3);
      };
    }))

paired_store : (order : Order) (start : ℕ) (packet : Packet) (known : Known) (change : Change) (i moved : Insn) (f g old new : FlatState) → BothStored order start packet known change f g old new → flat_does order i f ≡ Some old → flat_does order moved g ≡ Some new
    → old.slot ≡ f.slot + slot_count i → new.slot ≡ g.slot + slot_count moved → old.returns ≡ f.returns → new.returns ≡ g.returns → Paired order start packet known change i moved f g
paired_store order start packet known change i moved f g old new stored od nd os ns ors nrs =
    record { old = old; new = new; old_does = od; new_does = nd; old_slot = os; new_slot = ns; old_returns = ors; new_returns = nrs; unseen = stored.unseen; new_unseen = stored.new_unseen; behind = stored.behind; spared = stored.spared; unmade = stored.unmade }

-- ---- atomic operations

modify_is : (a b : Modify) → same_modify a b ≡ true → b ≡ a
modify_is AddTo AddTo e = refl
modify_is OrTo OrTo e = refl
modify_is AndTo AndTo e = refl
modify_is XorTo XorTo e = refl
modify_is a b e = absurd (false≢true e)

atomic_is : (a b : AtomicOp) → same_atomic a b ≡ true → b ≡ a
atomic_is (Changes by true) (Changes other true) e = ap (λ by. Changes by true) (modify_is by other e)
atomic_is (Changes by false) (Changes other false) e = ap (λ by. Changes by false) (modify_is by other e)
atomic_is Xchg Xchg e = refl
atomic_is CmpXchg CmpXchg e = refl
atomic_is a b e = absurd (false≢true e)

wide_is : (a b : Bool) → same_size (word_size a) (word_size b) ≡ true → b ≡ a
wide_is true true e = refl
wide_is false false e = refl
wide_is true false e = absurd (false≢true e)
wide_is false true e = absurd (false≢true e)

-- what is stored for what was found
abbrev changed : AtomicOp → Size → Reg → ℕ → FlatState → ℕ
changed op size src n f = unwrap_or (atomic_result op size n (flat_register f src) (Some (flat_register f R0))) n

changed_same : (order : Order) (start : ℕ) (packet : Packet) (known : Known) (op : AtomicOp) (size : Size) (src : Reg) (n : ℕ) (f g : FlatState) → AtOnce order start packet known f g → list_all (is_same known.facts) (src ∷ atomic_registers op) ≡ true → changed op size src n g ≡ changed op size src n f
changed_same order start packet known (Changes by fetch) size src n f g at e =
    let c = and_parts (is_same known.facts src) true e in
    ap (λ x. modified by n x) (register_same order start packet known f g src at c.0)
changed_same order start packet known Xchg size src n f g at e =
    let c = and_parts (is_same known.facts src) true e in
    register_same order start packet known f g src at c.0
changed_same order start packet known CmpXchg size src n f g at e =
    let c = and_parts (is_same known.facts src) (is_same known.facts R0 && true) e in
    let d = and_parts (is_same known.facts R0) true c.1 in
    ap₂ (λ x r0. cond (n == r0 % 256 ^ byte_count size) x n) (register_same order start packet known f g src at c.0) (register_same order start packet known f g R0 at d.0)

-- both do one operation by one register
atomic_there : (order : Order) (start : ℕ) (packet : Packet) (known : Known) (change : Change) (wide : Bool) (op : AtomicOp) (dst : Reg) (off : ℤ) (src base : Reg) (at : ℤ) (f g : FlatState) → AtOnce order start packet known f g → HasEncoding (Atomic wide op dst off src) → list_all (is_same known.facts) (src ∷ atomic_registers op) ≡ true
    → goes_alike known (byte_count (word_size wide)) dst off base at ≡ true → HasEncoding (Atomic wide op base at src) → Goes start packet known.left (Atomic wide op dst off src) (Atomic wide op base at src) f g → reached known.left (Atomic wide op dst off src) (Atomic wide op base at src) ≡ Some change
    → Paired order start packet known change (Atomic wide op dst off src) (Atomic wide op base at src) f g
unfolding flat_does
atomic_there order start packet known change wide op dst off src base at f g one enc same alike enc' leaves reach = by_fetch (fetch_register op src) refl refl reach
  where
    k : ℕ
    k = byte_count (word_size wide)

    i : Insn
    i = Atomic wide op dst off src

    moved : Insn
    moved = Atomic wide op base at src

    w : Access
    w = record { base = dst; offset = off; size = word_size wide; reads = true; writes = true }

    v : Access
    v = record { base = base; offset = at; size = word_size wide; reads = true; writes = true }

    there : address g base at ≡ address f dst off
    there = address_same order start packet known.facts f g base dst off at one.all (and_parts (same_address known.facts base at dst off) (is_common known k dst off base at) alike).0

    n : ℕ
    n = flat_number order f k (address f dst off)

    m : ℕ
    m = flat_number order g k (address g base at)

    found : m ≡ n
    found = ap (number_of order k) (loaded_alike order start packet known i moved w v f g enc enc' one leaves refl refl refl alike)

    x : ℕ
    x = changed op (word_size wide) src n f

    y : ℕ
    y = changed op (word_size wide) src m g

    old : FlatState
    old = flat_store order k x (address f dst off) (flat_next i f)

    new : FlatState
    new = flat_store order k y (address g base at) (flat_next moved g)

    stored : KeepsBeside w f old → KeepsBeside v g new → StoresAt order start packet known i moved w v f g old new k x y
    stored beside beside' =
        record {
          at = one;
          encoded = enc;
          new_encoded = enc';
          goes = leaves;
          access = refl;
          new_access = refl;
          size = refl;
          there = there;
          same = ap (λ z. changed op (word_size wide) src z g) found ∙ changed_same order start packet known op (word_size wide) src n f g one same;
          beside = beside;
          new_beside = beside';
          registers = refl;
          new_registers = refl;
          memory = refl;
          new_memory = refl;
        }

    by_fetch : (o : Option Reg) → flat_does order i f ≡ Some (flat_fetched o n old) → flat_does order moved g ≡ Some (flat_fetched o m new) → (reaches known.left k dst off base at >>= fetches o) ≡ Some change → Paired order start packet known change i moved f g
    by_fetch None od nd reach = option_and_then_some _ (reaches known.left k dst off base at) change reach (λ c ec e1.
        let s = stored (beside_kept order i w f old od refl) (beside_kept order moved v g new nd refl) in
        paired_store order start packet known change i moved f g old new
        (both_store order start packet known change i moved w v f g old new k x y s (ec ∙ e1) (flat_after order i f old enc one.flat od) (flat_after order moved g new enc' one.new_flat nd)) od nd refl refl refl refl)
    by_fetch (Some r) od nd reach =
        let s = stored (beside_kept order i w f (flat_put r n old) od refl) (beside_kept order moved v g (flat_put r m new) nd refl) in
        paired_store order start packet known change i moved f g (flat_put r n old) (flat_put r m new)
        (both_fetch order start packet known change i moved w v r f g old new k x y n m s reach (flat_after order i f (flat_put r n old) enc one.flat od) (flat_after order moved g (flat_put r m new) enc' one.new_flat nd) (flat_number_below order f (word_size wide) (address f dst off) one.flat) found) od nd refl refl refl refl

-- ---- each of them

pub stores_there : (order : Order) (start : ℕ) (packet : Packet) (known : Known) (change : Change) (i moved : Insn) (f g : FlatState) → AtOnce order start packet known f g → HasEncoding i → HasEncoding moved → Goes start packet known.left i moved f g → stores_alike known i moved ≡ true → reached known.left i moved ≡ Some change → Paired order start packet known change i moved f g
unfolding flat_does
stores_there order start packet known change (Store size dst off src) (Store other base at from) f g one enc enc' leaves e reach =
    let a = and_parts (same_size size other) (same_register src from && (is_same known.facts src && same_address known.facts base at dst off)) e in
    let b = and_parts (same_register src from) (is_same known.facts src && same_address known.facts base at dst off) a.1 in
    let c = and_parts (is_same known.facts src) (same_address known.facts base at dst off) b.1 in
    let there = address_same order start packet known.facts f g base dst off at one.all c.1 in
    let size_same : other ≡ size = size_is size other a.0 in
    let from_same : from ≡ src = register_is src from b.0 in
    let value : flat_register g from ≡ flat_register f src = ap (flat_register g) from_same ∙ register_same order start packet known f g src one c.0 in
    let i : Insn = Store size dst off src in
    let moved : Insn = Store other base at from in
    let w : Access = record { base = dst; offset = off; size = size; reads = false; writes = true } in
    let v : Access = record { base = base; offset = at; size = other; reads = false; writes = true } in
    let old : FlatState = flat_store order (byte_count size) (flat_register f src) (address f dst off) (flat_next i f) in
    let new : FlatState = flat_store order (byte_count other) (flat_register g from) (address g base at) (flat_next moved g) in
    let s : StoresAt order start packet known i moved w v f g old new (byte_count size) (flat_register f src) (flat_register g from) =
    record {
      at = one;
      encoded = enc;
      new_encoded = enc';
      goes = leaves;
      access = refl;
      new_access = refl;
      size = ap byte_count size_same;
      there = there;
      same = value;
      beside = beside_kept order i w f old refl refl;
      new_beside = beside_kept order moved v g new refl refl;
      registers = refl;
      new_registers = refl;
      memory = refl;
      new_memory = ap (λ s. memory_with (bytes_of order (byte_count s) (flat_register g from)) (address g base at) g.memory) size_same;
    } in
    paired_store order start packet known change i moved f g old new (both_store order start packet known change i moved w v f g old new (byte_count size) (flat_register f src) (flat_register g from) s reach (flat_after order i f old enc one.flat refl) (flat_after order moved g new enc' one.new_flat refl)) refl refl refl refl refl refl
stores_there order start packet known change (StoreImm size dst off imm) (StoreImm other base at value) f g one enc enc' leaves e reach =
    let a = and_parts (same_size size other) (int_eq imm value && same_address known.facts base at dst off) e in
    let b = and_parts (int_eq imm value) (same_address known.facts base at dst off) a.1 in
    let there = address_same order start packet known.facts f g base dst off at one.all b.1 in
    let size_same : other ≡ size = size_is size other a.0 in
    let value_same : value ≡ imm = sym ((Decides-int_eq imm value).0 b.0) in
    let i : Insn = StoreImm size dst off imm in
    let moved : Insn = StoreImm other base at value in
    let w : Access = record { base = dst; offset = off; size = size; reads = false; writes = true } in
    let v : Access = record { base = base; offset = at; size = other; reads = false; writes = true } in
    let old : FlatState = flat_store order (byte_count size) (extended imm) (address f dst off) (flat_next i f) in
    let new : FlatState = flat_store order (byte_count other) (extended value) (address g base at) (flat_next moved g) in
    let s : StoresAt order start packet known i moved w v f g old new (byte_count size) (extended imm) (extended value) =
    record {
      at = one;
      encoded = enc;
      new_encoded = enc';
      goes = leaves;
      access = refl;
      new_access = refl;
      size = ap byte_count size_same;
      there = there;
      same = ap extended value_same;
      beside = beside_kept order i w f old refl refl;
      new_beside = beside_kept order moved v g new refl refl;
      registers = refl;
      new_registers = refl;
      memory = refl;
      new_memory = ap (λ s. memory_with (bytes_of order (byte_count s) (extended value)) (address g base at) g.memory) size_same;
    } in
    paired_store order start packet known change i moved f g old new (both_store order start packet known change i moved w v f g old new (byte_count size) (extended imm) (extended value) s reach (flat_after order i f old enc one.flat refl) (flat_after order moved g new enc' one.new_flat refl)) refl refl refl refl refl refl
stores_there order start packet known change (Atomic wide op dst off src) (Atomic broad other base at from) f g one enc enc' leaves e reach =
    let i : Insn = Atomic wide op dst off src in
    let common : Bool = goes_alike known (byte_count (word_size wide)) dst off base at in
    let numbers : Bool = list_all (is_same known.facts) (src ∷ atomic_registers op) in
    let a = and_parts (same_size (word_size wide) (word_size broad)) (same_atomic op other && (same_register src from && (numbers && common))) e in
    let b = and_parts (same_atomic op other) (same_register src from && (numbers && common)) a.1 in
    let c = and_parts (same_register src from) (numbers && common) b.1 in
    let d = and_parts numbers common c.1 in
    let is : Atomic broad other base at from ≡ Atomic wide op base at src = ap₂ (λ wide op. Atomic wide op base at from) (wide_is wide broad a.0) (atomic_is op other b.0) ∙ ap (λ src. Atomic wide op base at src) (register_is src from c.0) in
    subst (λ m. HasEncoding m → Goes start packet known.left i m f g → reached known.left i m ≡ Some change → Paired order start packet known change i m f g) (sym is)
    (atomic_there order start packet known change wide op dst off src base at f g one enc d.0 d.1) enc' leaves reach
stores_there order start packet known change i moved f g one enc enc' leaves e reach = absurd (false≢true e)
