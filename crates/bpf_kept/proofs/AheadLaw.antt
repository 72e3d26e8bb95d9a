-- Reads that surely follow: a run that ends comes to them, and there stays inside.
use Rattle.std.proofs.Common.{◌≡◌, ℕ, zero, suc, ◌+◌, ◌%◌, ◌<◌, ◌≤◌, ◌⊎◌, ◌==◌, inl, inr, refl, sym, ap, ◌∙◌, subst, arith, true, false, List, [], ◌∷◌, ◌++◌, length, Option, Some, None}
use Rattle.std.specs.Prelude.{pos, ◌+ℤ◌, not, FitsSigned, get_or, option_and_then, if◌then◌else◌}
use Rattle.std.specs.Int.{w16}
use Rattle.std.specs.List.{AllByRecursion}
use Rattle.std.specs.Option.{option_map_or}
use Rattle.std.proofs.lemmas.Bool.{and_parts, cond_both, cases_order, eqb-true, eq-eqb, false≢true}
use Rattle.std.proofs.lemmas.Option.{none-some, same_Some, option_and_then_some}
use Rattle.bpf_insn.specs.Arithmetic.{modulo}
use Rattle.bpf_insn.specs.Effects.{Access, access_of, register_written, fetch_register, is_frame_pointer}
use Rattle.bpf_insn.specs.Image.{IsProgram, HasEncoding}
use Rattle.bpf_insn.specs.Instruction.{Instructions, register_number, byte_count, slot_count, insn_at, is_straight}
use Rattle.bpf_insn.specs.declared.order.Order.{Order}
use Rattle.bpf_insn.specs.declared.instruction.Reg.{Reg}
use Rattle.bpf_insn.specs.declared.instruction.Reg.TheVariants.{R0}
use Rattle.bpf_insn.specs.declared.instruction.Size.TheVariants.{DW}
use Rattle.bpf_insn.specs.declared.instruction.Insn.{Insn}
use Rattle.bpf_insn.specs.declared.instruction.Insn.TheVariants.{Alu, Neg, MovSx, End, LoadImm64, Load, LoadSx, Store, StoreImm, Atomic, Ja, JaLong, JumpIf, CallLocal, Exit}
use Rattle.bpf_semantics.specs.Flat.{Placement, FlatState, IsAmong, addresses, address, frame_start, flat_register, flat_fetched, flat_does}
use Rattle.bpf_semantics.specs.Placement.{IsInMemory}
use Rattle.bpf_semantics.proofs.FlatRegistersLaw.{flat_writes_one_register}
use Rattle.bpf_semantics.proofs.StateLemmas.{encoding_at}
use Rattle.bpf_kept.specs.Zero.{zero_start, zero_left, zero_does, zero_step, zero_after, IsZeroState}
use Rattle.bpf_kept.specs.Meaning.{Bounds, FlatEnds}
use Rattle.bpf_kept.specs.Guards.{if_by, accesses_by, is_passed, accesses_ahead}
use Rattle.bpf_kept.proofs.ZeroLaw.{does_keeps, zero_step_is_step}

-- ---- instructions that go on at the next one

pub straight_does : (place : Placement) (order : Order) (i : Insn) (f : FlatState) → is_straight i ≡ true → zero_does place order i f ≡ flat_does order i f
straight_does place order (CallLocal off) f e = absurd (false≢true e)
straight_does place order Exit f e = absurd (false≢true e)
straight_does place order i f e = refl

slot_is : (t g : FlatState) (n : ℕ) → Some t ≡ Some g → t.slot ≡ n → g.slot ≡ n
slot_is t g n e h = ap (λ s. s.slot) (sym (same_Some t g e)) ∙ h

fetched_slot : (o : Option Reg) (x : ℕ) (f : FlatState) → (flat_fetched o x f).slot ≡ f.slot
fetched_slot None x f = refl
fetched_slot (Some r) x f = refl

straight_slot : (order : Order) (i : Insn) (f g : FlatState) → is_straight i ≡ true → flat_does order i f ≡ Some g → g.slot ≡ f.slot + slot_count i
unfolding flat_does
straight_slot order (Alu op width dst src) f g s e = slot_is _ g (f.slot + slot_count (Alu op width dst src)) e refl
straight_slot order (Neg width dst) f g s e = slot_is _ g (f.slot + slot_count (Neg width dst)) e refl
straight_slot order (MovSx width bits dst src) f g s e = slot_is _ g (f.slot + slot_count (MovSx width bits dst src)) e refl
straight_slot order (End kind bits dst) f g s e = slot_is _ g (f.slot + slot_count (End kind bits dst)) e refl
straight_slot order (LoadImm64 dst value) f g s e = slot_is _ g (f.slot + slot_count (LoadImm64 dst value)) e refl
straight_slot order (Load size dst src off) f g s e = slot_is _ g (f.slot + slot_count (Load size dst src off)) e refl
straight_slot order (LoadSx size dst src off) f g s e = slot_is _ g (f.slot + slot_count (LoadSx size dst src off)) e refl
straight_slot order (Store size dst off src) f g s e = slot_is _ g (f.slot + slot_count (Store size dst off src)) e refl
straight_slot order (StoreImm size dst off imm) f g s e = slot_is _ g (f.slot + slot_count (StoreImm size dst off imm)) e refl
straight_slot order (Atomic wide op dst off src) f g s e = slot_is _ g (f.slot + slot_count (Atomic wide op dst off src)) e (fetched_slot (fetch_register op src) _ _)
straight_slot order (Ja off) f g s e = absurd (false≢true s)
straight_slot order (JaLong off) f g s e = absurd (false≢true s)
straight_slot order (JumpIf test width dst src off) f g s e = absurd (false≢true s)
straight_slot order (CallLocal off) f g s e = absurd (false≢true s)
straight_slot order Exit f g s e = absurd (false≢true s)

exit_turns : (i : Insn) → is_straight i ≡ true → i ≡ Exit → ⊥
exit_turns i s e = false≢true (ap is_straight (sym e) ∙ s)

pub access_near : (i : Insn) (a : Access) → HasEncoding i → access_of i ≡ Some a → FitsSigned w16 a.offset
access_near (Load size dst src off) a enc e = subst (λ a. FitsSigned w16 a.offset) (same_Some _ _ e) enc
access_near (LoadSx DW dst src off) a enc e = absurd enc
access_near (LoadSx size dst src off) a enc e = subst (λ a. FitsSigned w16 a.offset) (same_Some _ _ e) enc
access_near (Store size dst off src) a enc e = subst (λ a. FitsSigned w16 a.offset) (same_Some _ _ e) enc
access_near (StoreImm size dst off imm) a enc e = subst (λ a. FitsSigned w16 a.offset) (same_Some _ _ e) enc.0
access_near (Atomic wide op dst off src) a enc e = subst (λ a. FitsSigned w16 a.offset) (same_Some _ _ e) enc
access_near i a enc e = absurd (none-some _ e)

-- it reads or it writes
pub reads_or_writes : (i : Insn) (a : Access) → access_of i ≡ Some a → (a.reads ≡ true) ⊎ (a.writes ≡ true)
reads_or_writes (Load size dst src off) a e = subst (λ a. (a.reads ≡ true) ⊎ (a.writes ≡ true)) (same_Some _ _ e) (inl refl)
reads_or_writes (LoadSx size dst src off) a e = subst (λ a. (a.reads ≡ true) ⊎ (a.writes ≡ true)) (same_Some _ _ e) (inl refl)
reads_or_writes (Store size dst off src) a e = subst (λ a. (a.reads ≡ true) ⊎ (a.writes ≡ true)) (same_Some _ _ e) (inr refl)
reads_or_writes (StoreImm size dst off imm) a e = subst (λ a. (a.reads ≡ true) ⊎ (a.writes ≡ true)) (same_Some _ _ e) (inr refl)
reads_or_writes (Atomic wide op dst off src) a e = subst (λ a. (a.reads ≡ true) ⊎ (a.writes ≡ true)) (same_Some _ _ e) (inl refl)
reads_or_writes i a e = absurd (none-some _ e)

-- ---- runs

-- a run that is longer has a state there
pub earlier : (place : Placement) (p : Instructions) (first : FlatState) (k j : ℕ) (last : FlatState) → zero_after place p k first ≡ Some last → j ≤ k → (f : FlatState) × (zero_after place p j first ≡ Some f)
unfolding zero_after
earlier place p first zero j last e le = let z : 0 ≡ j = omega arith in (last, subst (λ n. zero_after place p n first ≡ Some last) z e)
earlier place p first (suc k) j last e le = by_order (λ less. option_and_then_some (zero_step place p) (zero_after place p k first) last e (λ mid em et. earlier place p first k j mid em (omega arith))) (cases_order j (suc k))
  where
    by_order : (j < suc k → (f : FlatState) × (zero_after place p j first ≡ Some f)) → (j ≡ suc k) ⊎ ((j < suc k) ⊎ (suc k < j)) → (f : FlatState) × (zero_after place p j first ≡ Some f)
    by_order before (inl same) = (last, subst (λ n. zero_after place p n first ≡ Some last) (sym same) e)
    by_order before (inr (inl less)) = before less
    by_order before (inr (inr more)) = absurd (omega arith)

pub onward : (place : Placement) (p : Instructions) (first f g : FlatState) (j : ℕ) → zero_after place p j first ≡ Some f → zero_after place p (suc j) first ≡ Some g → zero_step place p f ≡ Some g
unfolding zero_after
onward place p first f g j e h = ap (option_and_then (zero_step place p)) (sym e) ∙ h

-- an access by a register that has y, where so many frames wait, stays inside, and by another one than r10 above the lowest bytes of the own frame
pub record Inside (place : Placement) (len untouched deep : ℕ) (r : Reg) (y : ℕ) (a : Access) : Type 0 where
  pub near : FitsSigned w16 a.offset
  pub there : (b : ℕ) → b < byte_count a.size → IsInMemory place len deep ((modulo (pos y +ℤ a.offset) addresses + b) % addresses)
  pub above : is_frame_pointer r ≡ false → (b : ℕ) → b < byte_count a.size
      → IsAmong (frame_start place deep) untouched ((modulo (pos y +ℤ a.offset) addresses + b) % addresses) → ⊥

module _ (place : Placement) (old : Instructions) (program : IsProgram old.list) (own : List ℕ) (bounds : Bounds) (v k : ℕ) (ends : FlatEnds place old own bounds v k) where
  abbrev pub begin : FlatState
  begin = zero_start place own

  -- where another instruction than EXIT stands, the run goes on
  pub goes_on : (j : ℕ) (f : FlatState) (i : Insn) → zero_after place old j begin ≡ Some f → j ≤ k → insn_at old.list f.slot ≡ Some i → (i ≡ Exit → ⊥) → (g : FlatState) × (zero_step place old f ≡ Some g) × (zero_after place old (suc j) begin ≡ Some g) × (suc j ≤ k)
  goes_on j f i run le stands other = by_order (cases_order j k)
    where
      by_order : (j ≡ k) ⊎ ((j < k) ⊎ (k < j)) → (g : FlatState) × (zero_step place old f ≡ Some g) × (zero_after place old (suc j) begin ≡ Some g) × (suc j ≤ k)
      by_order (inl same) =
          let last : f ≡ ends.last = same_Some f ends.last (sym run ∙ subst (λ n. zero_after place old n begin ≡ Some ends.last) (sym same) ends.run) in
          absurd (other (same_Some i Exit (sym stands ∙ ap (λ s. insn_at old.list s.slot) last ∙ ends.finish.stands)))
      by_order (inr (inl less)) = let g = earlier place old begin k (suc j) ends.last ends.run less in (g.0, onward place old begin f g.0 j run g.1, g.1, less)
      by_order (inr (inr more)) = absurd (omega arith)

  -- it ends in the outermost frame alone
  pub goes_back : (j : ℕ) (f : FlatState) → zero_after place old j begin ≡ Some f → j ≤ k → (f.returns ≡ [] → ⊥) → suc j ≤ k
  goes_back j f run le inner = by_order (cases_order j k)
    where
      by_order : (j ≡ k) ⊎ ((j < k) ⊎ (k < j)) → suc j ≤ k
      by_order (inl same) =
          let last : f ≡ ends.last = same_Some f ends.last (sym run ∙ subst (λ n. zero_after place old n begin ≡ Some ends.last) (sym same) ends.run) in
          absurd (inner (ap (λ s. s.returns) last ∙ ends.finish.outermost))
      by_order (inr (inl less)) = less
      by_order (inr (inr more)) = absurd (omega arith)

  -- where EXIT stands in the outermost frame, the run is at its end
  pub ends_here : (j : ℕ) (f : FlatState) → zero_after place old j begin ≡ Some f → j ≤ k → insn_at old.list f.slot ≡ Some Exit → f.returns ≡ [] → (j ≡ k) × (flat_register f R0 ≡ v)
  unfolding zero_step
  ends_here j f run le stands outermost = by_order (cases_order j k)
    where
      by_order : (j ≡ k) ⊎ ((j < k) ⊎ (k < j)) → (j ≡ k) × (flat_register f R0 ≡ v)
      by_order (inl same) =
          let last : f ≡ ends.last = same_Some f ends.last (sym run ∙ subst (λ n. zero_after place old n begin ≡ Some ends.last) (sym same) ends.run) in
          (same, ap (λ s. flat_register s R0) last ∙ ends.finish.result_is)
      by_order (inr (inl less)) =
          let g = earlier place old begin k (suc j) ends.last ends.run less in
          let e : zero_step place old f ≡ Some g.0 = onward place old begin f g.0 j run g.1 in
          let z : zero_left f.returns f ≡ Some g.0 = ap (option_and_then (λ i. zero_does place old.order i f)) (sym stands) ∙ e in
          absurd (none-some g.0 (ap (λ rs. zero_left rs f) (sym outermost) ∙ z))
      by_order (inr (inr more)) = absurd (omega arith)

  -- ---- the reads ahead

  -- the step of a straight instruction
  record Passed (r : Reg) (i : Insn) (f g : FlatState) : Type 0 where
    same : flat_register g r ≡ flat_register f r
    slot : g.slot ≡ f.slot + slot_count i
    level : length g.returns ≡ length f.returns
    state : IsZeroState g

  passes : (r : Reg) (i : Insn) (f g : FlatState) → insn_at old.list f.slot ≡ Some i → is_passed r i ≡ true → IsZeroState f → zero_step place old f ≡ Some g → Passed r i f g
  unfolding zero_step
  passes r i f g stands passed state e =
      let h = and_parts (is_straight i) (not (option_map_or (λ w. register_number w == register_number r) (register_written i) false)) passed in
      let enc : HasEncoding i = encoding_at old.list program.encoding f.slot i stands in
      let z : zero_does place old.order i f ≡ Some g = ap (option_and_then (λ i. zero_does place old.order i f)) (sym stands) ∙ e in
      let d : flat_does old.order i f ≡ Some g = sym (straight_does place old.order i f h.0) ∙ z in
      let k = does_keeps old.order i f g enc state.flat d in
      record {
        same = flat_writes_one_register old.order i f g r d (λ w ew. unwritten w ew h.1);
        slot = straight_slot old.order i f g h.0 d;
        level = ap length k.returns_same;
        state = (zero_step_is_step place old f g program state e).1;
      }
    where
      unwritten : (w : Reg) → register_written i ≡ Some w → not (option_map_or (λ w. register_number w == register_number r) (register_written i) false) ≡ true → register_number r ≡ register_number w → ⊥
      unwritten w ew n same =
          let m : not (register_number w == register_number r) ≡ true = ap (λ o. not (option_map_or (λ w. register_number w == register_number r) o false)) (sym ew) ∙ n in
          false≢true (ap not (sym (eq-eqb (register_number w) (register_number r) (sym same))) ∙ m)

  all_append : (P : Access → Type 0) (xs ys : List Access) → AllByRecursion P xs → AllByRecursion P ys → AllByRecursion P (xs ++ ys)
  all_append P [] ys h k = k
  all_append P (x ∷ xs) ys h k = (h.0, all_append P xs ys h.1 k)

  pub all_inside : (deep : ℕ) (r : Reg) (n j : ℕ) (f : FlatState) → zero_after place old j begin ≡ Some f → j ≤ k → length f.returns ≡ deep → IsZeroState f
      → AllByRecursion (Inside place (length own) bounds.untouched deep r (flat_register f r)) (accesses_ahead old r n f.slot)
  unfolding accesses_ahead
  all_inside deep r zero j f run le level state = tt
  all_inside deep r (suc n) j f run le level state = by_insn (λ m g. all_inside deep r n m g) (insn_at old.list f.slot) refl
    where
      here : (i : Insn) → insn_at old.list f.slot ≡ Some i → (o : Option Access) → access_of i ≡ o
          → AllByRecursion (Inside place (length own) bounds.untouched deep r (flat_register f r)) (option_map_or (if_by r) o [])
      here i stands None eo = tt
      here i stands (Some a) eo =
          cond_both (register_number a.base == register_number r) (a ∷ []) [] (AllByRecursion (Inside place (length own) bounds.untouched deep r (flat_register f r)))
          (λ e. let same : register_number a.base ≡ register_number r = eqb-true (register_number a.base) (register_number r) e in
          let base : flat_register f a.base ≡ flat_register f r = ap (λ n. get_or f.registers n 0) same in
          let stay = ends.stays j f le run in
          let inside : (b : ℕ) → b < byte_count a.size → IsInMemory place (length own) (length f.returns) ((address f a.base a.offset + b) % addresses) = λ b lt. elim (reads_or_writes i a eo) [
            | inl reads ↦ stay.reads i a b stands eo reads lt
            | inr writes ↦ inr (stay.writes i a b stands eo writes lt)
          ] in (
            record {
              near = access_near i a (encoding_at old.list program.encoding f.slot i stands) eo;
              there = λ b lt. subst (λ y. IsInMemory place (length own) deep ((modulo (pos y +ℤ a.offset) addresses + b) % addresses)) base
                  (subst (λ live. IsInMemory place (length own) live ((address f a.base a.offset + b) % addresses)) level (inside b lt));
              above = λ other b lt among. ends.leaves j f le run i a b deep stands eo (λ ten. false≢true (sym other ∙ eq-eqb (register_number r) 10 (sym same ∙ ten))) lt (omega arith)
                  (subst (λ y. IsAmong (frame_start place deep) bounds.untouched ((modulo (pos y +ℤ a.offset) addresses + b) % addresses)) (sym base) among);
            },
            tt,
          ))
          (λ e. tt)

      later : ((m : ℕ) (g : FlatState) → zero_after place old m begin ≡ Some g → m ≤ k → length g.returns ≡ deep → IsZeroState g
          → AllByRecursion (Inside place (length own) bounds.untouched deep r (flat_register g r)) (accesses_ahead old r n g.slot))
          → (i : Insn) → insn_at old.list f.slot ≡ Some i → is_passed r i ≡ true
          → AllByRecursion (Inside place (length own) bounds.untouched deep r (flat_register f r)) (accesses_ahead old r n (f.slot + slot_count i))
      later again i stands passed =
          let h = and_parts (is_straight i) (not (option_map_or (λ w. register_number w == register_number r) (register_written i) false)) passed in
          let g = goes_on j f i run le stands (exit_turns i h.0) in
          let p = passes r i f g.0 stands passed state g.1 in
          subst (λ slot. AllByRecursion (Inside place (length own) bounds.untouched deep r (flat_register f r)) (accesses_ahead old r n slot)) p.slot
          (subst (λ y. AllByRecursion (Inside place (length own) bounds.untouched deep r y) (accesses_ahead old r n g.0.slot)) p.same (again (suc j) g.0 g.2 g.3 (p.level ∙ level) p.state))

      by_insn : ((m : ℕ) (g : FlatState) → zero_after place old m begin ≡ Some g → m ≤ k → length g.returns ≡ deep → IsZeroState g
          → AllByRecursion (Inside place (length own) bounds.untouched deep r (flat_register g r)) (accesses_ahead old r n g.slot))
          → (o : Option Insn) → insn_at old.list f.slot ≡ o
          → AllByRecursion (Inside place (length own) bounds.untouched deep r (flat_register f r)) (option_map_or (λ i. accesses_by r i ++ (if is_passed r i then accesses_ahead old r n (f.slot + slot_count i) else [])) o [])
      by_insn again None eo = tt
      by_insn again (Some i) eo =
          all_append (Inside place (length own) bounds.untouched deep r (flat_register f r)) (accesses_by r i) (if is_passed r i then accesses_ahead old r n (f.slot + slot_count i) else []) (here i eo (access_of i) refl)
          (cond_both (is_passed r i) (accesses_ahead old r n (f.slot + slot_count i)) [] (AllByRecursion (Inside place (length own) bounds.untouched deep r (flat_register f r))) (later again i eo) (λ e. tt))
