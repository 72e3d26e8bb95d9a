-- The run that takes 0: its start is a start of the flat machine, and its steps are steps.
use Rattle.std.proofs.Common.{◌≡◌, ℕ, zero, suc, ◌+◌, ◌-◌, ◌%◌, ◌<◌, ◌≤◌, ◌⊎◌, inl, inr, refl, sym, ap, ◌∙◌, subst, arith, Bool, true, false, List, [], ◌∷◌, ◌++◌, length, Option, Some, None}
use Rattle.std.specs.Prelude.{ℤ, pos, ◌-ℤ◌, get_or, take, drop, cond, ltb, leb, ◌&&◌, slice_index, option_map, unwrap_or}
use Rattle.std.specs.List.{AllByRecursion}
use Rattle.std.proofs.lemmas.Bool.{cond_both, ltb-true, lt-ltb, leb-true, le-leb, cases_lt, and_parts}
use Rattle.std.proofs.lemmas.List.{length-set, length-take-le, length-drop, get_or-take}
use Rattle.std.proofs.lemmas.Option.{none-some, same_Some, option_and_then_some}
use Rattle.bpf_insn.specs.Arithmetic.{modulo, extended, jumps}
use Rattle.bpf_insn.specs.Effects.{fetch_register}
use Rattle.bpf_insn.specs.Image.{HasEncoding}
use Rattle.bpf_insn.specs.Instruction.{register_number, byte_count, word_size, slot_count, insn_at, target}
use Rattle.bpf_insn.specs.Laws.{AreBytes}
use Rattle.bpf_insn.specs.Order.{bytes_of}
use Rattle.bpf_insn.specs.declared.order.Order.{Order}
use Rattle.bpf_insn.specs.declared.instruction.Reg.{Reg}
use Rattle.bpf_insn.specs.declared.instruction.Reg.TheVariants.{R0}
use Rattle.bpf_insn.specs.declared.instruction.AluOp.TheVariants.{Sub}
use Rattle.bpf_insn.specs.declared.instruction.Insn.{Insn}
use Rattle.bpf_insn.specs.declared.instruction.Insn.TheVariants.{Alu, Neg, MovSx, End, LoadImm64, Load, LoadSx, Store, StoreImm, Atomic, Ja, JaLong, JumpIf, CallLocal, Exit}
use Rattle.bpf_insn.proofs.RegisterLemmas.{reg_below}
use Rattle.bpf_semantics.specs.State.{frame_bytes, max_frames, start, frames}
use Rattle.bpf_semantics.specs.Memory.{stack_of}
use Rattle.bpf_semantics.specs.Step.{atomic_result}
use Rattle.bpf_semantics.specs.Flat.{Placement, Return, FlatState, IsFlat, IsReturn, IsAmong, FlatCall, FlatReturn, FlatDoes, addresses, frame_start, frame_end, flat_register, flat_operand, flat_put, flat_at, flat_next, flat_number, flat_store, flat_fetched, flat_does, address}
use Rattle.bpf_semantics.specs.Placement.{IsPlacement, StandsFor, StandsForCell}
use Rattle.bpf_semantics.proofs.FlatAccess.{flat_number_below}
use Rattle.bpf_semantics.proofs.FlatBase.{numbers_after}
use Rattle.bpf_semantics.proofs.FlatCall.{kept_small}
use Rattle.bpf_semantics.proofs.FlatValues.{operand_below}
use Rattle.bpf_semantics.proofs.NumberLemmas.{modulo_below, alu_below, sign_extend_below, swapped_below, bytes_small}
use Rattle.bpf_semantics.proofs.StateLemmas.{all_none, cond_option, encoding_at, option_map_some}
use Rattle.bpf_kept.specs.Laws.{ZeroStartFits, ZeroStepIsStep}
use Rattle.bpf_kept.specs.Zero.{zero_memory, zero_start, zero_entered, zero_left, zero_does, zero_step, IsWholeReturn, IsZeroState}

-- ---- what instructions keep, calls and exits aside

pub record Keeps (f g : FlatState) : Type 0 where
  pub flat : IsFlat g
  pub returns_same : g.returns ≡ f.returns

pub flat_moved : (f : FlatState) (n : ℕ) → IsFlat f → IsFlat (flat_at n f)
flat_moved f n h = record { eleven = h.eleven; numbers = h.numbers; bytes = h.bytes; kept = h.kept }

pub flat_with : (f : FlatState) (r : Reg) (x : ℕ) → IsFlat f → x < addresses → IsFlat (flat_put r x f)
flat_with f r x h small =
    record {
      eleven = length-set f.registers (register_number r) x ∙ h.eleven;
      numbers = numbers_after f.registers (register_number r) x (subst (λ n. register_number r < n) (sym h.eleven) (reg_below r)) small h.numbers;
      bytes = h.bytes;
      kept = h.kept;
    }

stored : (order : Order) (k x a : ℕ) (f : FlatState) → IsFlat f → IsFlat (flat_store order k x a f)
stored order k x a f h =
    record {
      eleven = h.eleven;
      numbers = h.numbers;
      bytes = λ y below. let i : ℕ = modulo (pos y -ℤ pos a) addresses in cond_both (ltb i (length (bytes_of order k x))) (slice_index (bytes_of order k x) i) (f.memory y) (λ z. z < 256) (λ e. bytes_small order k x i) (λ e. h.bytes y below);
      kept = h.kept;
    }

keeps : (f t g : FlatState) → Some t ≡ Some g → IsFlat t → t.returns ≡ f.returns → Keeps f g
keeps f t g e flat same = subst (Keeps f) (same_Some t g e) (record { flat = flat; returns_same = same })

put_keeps : (f g : FlatState) (i : Insn) (r : Reg) (x : ℕ) → IsFlat f → x < addresses → Some (flat_put r x (flat_next i f)) ≡ Some g → Keeps f g
put_keeps f g i r x h small e = keeps f (flat_put r x (flat_next i f)) g e (flat_with (flat_next i f) r x (flat_moved f (f.slot + slot_count i) h) small) refl

jump_keeps : (f g : FlatState) (to : Option ℕ) → IsFlat f → option_map (λ slot. flat_at slot f) to ≡ Some g → Keeps f g
jump_keeps f g None h e = absurd (none-some _ e)
jump_keeps f g (Some slot) h e = keeps f (flat_at slot f) g e (flat_moved f slot h) refl

jump_if_keeps : (f g : FlatState) (i : Insn) (taken : Bool) (to : Option ℕ) → IsFlat f → cond taken (option_map (λ slot. flat_at slot f) to) (Some (flat_next i f)) ≡ Some g → Keeps f g
jump_if_keeps f g i true to h e = jump_keeps f g to h e
jump_if_keeps f g i false to h e = keeps f (flat_next i f) g e (flat_moved f (f.slot + slot_count i) h) refl

fetched_keeps : (f t g : FlatState) (o : Option Reg) (x : ℕ) → IsFlat t → t.returns ≡ f.returns → x < addresses → Some (flat_fetched o x t) ≡ Some g → Keeps f g
fetched_keeps f t g None x h same small e = keeps f t g e h same
fetched_keeps f t g (Some r) x h same small e = keeps f (flat_put r x t) g e (flat_with t r x h small) same

pub does_keeps : (order : Order) (i : Insn) (f g : FlatState) → HasEncoding i → IsFlat f → flat_does order i f ≡ Some g → Keeps f g
unfolding flat_does
does_keeps order (Alu op width dst src) f g enc h e = put_keeps f g (Alu op width dst src) dst _ h (alu_below width op _ _ (h.numbers (register_number dst)) (operand_below f h src)) e
does_keeps order (Neg width dst) f g enc h e = put_keeps f g (Neg width dst) dst _ h (alu_below width Sub 0 _ (omega arith) (h.numbers (register_number dst))) e
does_keeps order (MovSx width bits dst src) f g enc h e = put_keeps f g (MovSx width bits dst src) dst _ h (sign_extend_below bits width _) e
does_keeps order (End kind bits dst) f g enc h e = put_keeps f g (End kind bits dst) dst _ h (swapped_below order kind bits _ (h.numbers (register_number dst))) e
does_keeps order (LoadImm64 dst value) f g enc h e = put_keeps f g (LoadImm64 dst value) dst value h enc e
does_keeps order (Load size dst src off) f g enc h e = put_keeps f g (Load size dst src off) dst _ h (flat_number_below order f size (address f src off) h) e
does_keeps order (LoadSx size dst src off) f g enc h e = put_keeps f g (LoadSx size dst src off) dst _ h (modulo_below _) e
does_keeps order (Store size dst off src) f g enc h e =
    let i : Insn = Store size dst off src in
    keeps f (flat_store order (byte_count size) (flat_register f src) (address f dst off) (flat_next i f)) g e (stored order (byte_count size) (flat_register f src) (address f dst off) (flat_next i f) (flat_moved f (f.slot + slot_count i) h)) refl
does_keeps order (StoreImm size dst off imm) f g enc h e =
    let i : Insn = StoreImm size dst off imm in
    keeps f (flat_store order (byte_count size) (extended imm) (address f dst off) (flat_next i f)) g e (stored order (byte_count size) (extended imm) (address f dst off) (flat_next i f) (flat_moved f (f.slot + slot_count i) h)) refl
does_keeps order (Atomic wide op dst off src) f g enc h e =
    let i : Insn = Atomic wide op dst off src in
    let k : ℕ = byte_count (word_size wide) in
    let a : ℕ = address f dst off in
    let old : ℕ = flat_number order f k a in
    let new : ℕ = unwrap_or (atomic_result op (word_size wide) old (flat_register f src) (Some (flat_register f R0))) old in
    fetched_keeps f (flat_store order k new a (flat_next i f)) g (fetch_register op src) old (stored order k new a (flat_next i f) (flat_moved f (f.slot + slot_count i) h)) refl (flat_number_below order f (word_size wide) a h) e
does_keeps order (Ja off) f g enc h e = jump_keeps f g (target f.slot off) h e
does_keeps order (JaLong off) f g enc h e = jump_keeps f g (target f.slot off) h e
does_keeps order (JumpIf test width dst src off) f g enc h e = jump_if_keeps f g (JumpIf test width dst src off) (jumps width test (flat_register f dst) (flat_operand f src)) (target f.slot off) h e
does_keeps order (CallLocal off) f g enc h e = absurd (none-some _ e)
does_keeps order Exit f g enc h e = absurd (none-some _ e)

-- ---- calls

-- what a call gives to the registers
given_numbers : (args : List ℕ) (end : ℕ) → length args ≡ 5 → ((k : ℕ) → get_or args k 0 < addresses) → end < addresses → (r : ℕ) → get_or (0 ∷ args ++ 0 ∷ 0 ∷ 0 ∷ 0 ∷ end ∷ []) r 0 < addresses
given_numbers (a ∷ b ∷ c ∷ d ∷ e ∷ []) end l h small zero = omega arith
given_numbers (a ∷ b ∷ c ∷ d ∷ e ∷ []) end l h small (suc zero) = h 0
given_numbers (a ∷ b ∷ c ∷ d ∷ e ∷ []) end l h small (suc (suc zero)) = h 1
given_numbers (a ∷ b ∷ c ∷ d ∷ e ∷ []) end l h small (suc (suc (suc zero))) = h 2
given_numbers (a ∷ b ∷ c ∷ d ∷ e ∷ []) end l h small (suc (suc (suc (suc zero)))) = h 3
given_numbers (a ∷ b ∷ c ∷ d ∷ e ∷ []) end l h small (suc (suc (suc (suc (suc zero))))) = h 4
given_numbers (a ∷ b ∷ c ∷ d ∷ e ∷ []) end l h small (suc (suc (suc (suc (suc (suc zero)))))) = omega arith
given_numbers (a ∷ b ∷ c ∷ d ∷ e ∷ []) end l h small (suc (suc (suc (suc (suc (suc (suc zero))))))) = omega arith
given_numbers (a ∷ b ∷ c ∷ d ∷ e ∷ []) end l h small (suc (suc (suc (suc (suc (suc (suc (suc zero)))))))) = omega arith
given_numbers (a ∷ b ∷ c ∷ d ∷ e ∷ []) end l h small (suc (suc (suc (suc (suc (suc (suc (suc (suc zero))))))))) = omega arith
given_numbers (a ∷ b ∷ c ∷ d ∷ e ∷ []) end l h small (suc (suc (suc (suc (suc (suc (suc (suc (suc (suc zero)))))))))) = small
given_numbers (a ∷ b ∷ c ∷ d ∷ e ∷ []) end l h small (suc (suc (suc (suc (suc (suc (suc (suc (suc (suc (suc r))))))))))) = omega arith
given_numbers [] end l h small r = absurd (omega arith)
given_numbers (a ∷ []) end l h small r = absurd (omega arith)
given_numbers (a ∷ b ∷ []) end l h small r = absurd (omega arith)
given_numbers (a ∷ b ∷ c ∷ []) end l h small r = absurd (omega arith)
given_numbers (a ∷ b ∷ c ∷ d ∷ []) end l h small r = absurd (omega arith)
given_numbers (a ∷ b ∷ c ∷ d ∷ e ∷ x ∷ xs) end l h small r = absurd (omega arith)

given_list : (args : List ℕ) (end : ℕ) → length args ≡ 5 → (length (0 ∷ args ++ 0 ∷ 0 ∷ 0 ∷ 0 ∷ end ∷ []) ≡ 11) × (take 5 (drop 1 (0 ∷ args ++ 0 ∷ 0 ∷ 0 ∷ 0 ∷ end ∷ [])) ≡ args) × (get_or (0 ∷ args ++ 0 ∷ 0 ∷ 0 ∷ 0 ∷ end ∷ []) 10 0 ≡ end)
given_list (a ∷ b ∷ c ∷ d ∷ e ∷ []) end l = (refl, refl, refl)
given_list [] end l = absurd (omega arith)
given_list (a ∷ []) end l = absurd (omega arith)
given_list (a ∷ b ∷ []) end l = absurd (omega arith)
given_list (a ∷ b ∷ c ∷ []) end l = absurd (omega arith)
given_list (a ∷ b ∷ c ∷ d ∷ []) end l = absurd (omega arith)
given_list (a ∷ b ∷ c ∷ d ∷ e ∷ x ∷ xs) end l = absurd (omega arith)

-- the registers that it hands on
handed_small : (xs : List ℕ) → ((r : ℕ) → get_or xs r 0 < addresses) → (k : ℕ) → get_or (take 5 (drop 1 xs)) k 0 < addresses
handed_small xs h k = by_order (cases_lt k 5)
  where
    later : (ys : List ℕ) (j : ℕ) → get_or (drop 1 ys) j 0 ≡ get_or ys (suc j) 0
    later [] j = refl
    later (y ∷ ys) j = refl

    past : (n : ℕ) (ys : List ℕ) (j : ℕ) → n ≤ j → get_or (take n ys) j 0 ≡ 0
    past zero ys j le = refl
    past (suc n) [] j le = refl
    past (suc n) (y ∷ ys) zero le = absurd (omega arith)
    past (suc n) (y ∷ ys) (suc j) le = past n ys j (omega arith)

    by_order : (k < 5) ⊎ (5 ≤ k) → get_or (take 5 (drop 1 xs)) k 0 < addresses
    by_order (inl less) = subst (λ x. x < addresses) (sym (get_or-take 5 (drop 1 xs) k 0 less ∙ later xs k)) (h (suc k))
    by_order (inr more) = subst (λ x. x < addresses) (sym (past 5 (drop 1 xs) k more)) (omega arith)

call_is : (place : Placement) (f : FlatState) (off : ℤ) (slot : ℕ) → IsZeroState f → suc (length f.returns) < max_frames → target f.slot off ≡ Some slot → FlatCall place off f (zero_entered place f slot) × IsZeroState (zero_entered place f slot)
call_is place f off slot state room to =
    let flat = state.flat in
    let args : List ℕ = take 5 (drop 1 f.registers) in
    let end : ℕ = frame_end place (suc (length f.returns)) in
    let first : ℕ = frame_start place (suc (length f.returns)) in
    let five : length args ≡ 5 = length-take-le 5 (drop 1 f.registers) (rw (length-drop 1 f.registers, flat.eleven) (omega arith)) in
    let is = given_list args end five in
    let after : IsFlat (zero_entered place f slot) = record {
      eleven = is.0;
      numbers = given_numbers args end five (handed_small f.registers flat.numbers) (omega arith);
      bytes = λ a below. cond_both (leb first a && ltb a (first + frame_bytes)) 0 (f.memory a) (λ z. z < 256) (λ e. omega arith) (λ e. flat.bytes a below);
      kept = (kept_small f.registers flat.numbers, flat.kept);
    } in (
      record {
        room = room;
        slot_is = to;
        returns_are = refl;
        arguments = is.1;
        frame_pointer = is.2;
        memory_kept = λ a below other. cond_both (leb first a && ltb a (first + frame_bytes)) 0 (f.memory a) (λ z. z ≡ f.memory a) (λ e. absurd (other (among first a e))) (λ e. refl);
        flat = after;
      },
      record { flat = after; whole = (rw (length-drop 6 f.registers, flat.eleven) refl, state.whole) },
    )
  where
    among : (first a : ℕ) → (leb first a && ltb a (first + frame_bytes)) ≡ true → IsAmong first frame_bytes a
    among first a e = let h = and_parts (leb first a) (ltb a (first + frame_bytes)) e in (leb-true first a h.0, ltb-true a (first + frame_bytes) h.1)

-- ---- exits

back_numbers : (x : ℕ) (saved : List ℕ) → x < addresses → ((k : ℕ) → get_or saved k 0 < addresses) → (r : ℕ) → get_or (x ∷ 0 ∷ 0 ∷ 0 ∷ 0 ∷ 0 ∷ saved) r 0 < addresses
back_numbers x saved hx h zero = hx
back_numbers x saved hx h (suc zero) = omega arith
back_numbers x saved hx h (suc (suc zero)) = omega arith
back_numbers x saved hx h (suc (suc (suc zero))) = omega arith
back_numbers x saved hx h (suc (suc (suc (suc zero)))) = omega arith
back_numbers x saved hx h (suc (suc (suc (suc (suc zero))))) = omega arith
back_numbers x saved hx h (suc (suc (suc (suc (suc (suc k)))))) = h k

exit_is_return : (f g : FlatState) (returns : List Return) → IsZeroState f → f.returns ≡ returns → zero_left returns f ≡ Some g → FlatReturn f g × IsZeroState g
exit_is_return f g [] state are e = absurd (none-some _ e)
exit_is_return f g (r ∷ rest) state are e =
    subst (λ g. FlatReturn f g × IsZeroState g) (same_Some t g e)
    (record { record_of = r; returns_are = are; slot_is = refl; result_kept = refl; restored = refl; memory_kept = λ a below. refl; flat = after }, record { flat = after; whole = whole.1 })
  where
    t : FlatState
    t = record { slot = r.slot; registers = flat_register f R0 ∷ 0 ∷ 0 ∷ 0 ∷ 0 ∷ 0 ∷ r.saved; memory = f.memory; returns = rest }

    kept : AllByRecursion IsReturn (r ∷ rest)
    kept = subst (λ rs. AllByRecursion IsReturn rs) are state.flat.kept

    whole : AllByRecursion IsWholeReturn (r ∷ rest)
    whole = subst (λ rs. AllByRecursion IsWholeReturn rs) are state.whole

    after : IsFlat t
    after = record { eleven = ap (λ n. suc (suc (suc (suc (suc (suc n)))))) whole.0; numbers = back_numbers (flat_register f R0) r.saved (state.flat.numbers 0) kept.0; bytes = state.flat.bytes; kept = kept.1 }

-- ---- steps

plainly : (place : Placement) (order : Order) (i : Insn) (f g : FlatState) → HasEncoding i → IsZeroState f → flat_does order i f ≡ Some g → IsZeroState g
plainly place order i f g enc state e = let k = does_keeps order i f g enc state.flat e in record { flat = k.flat; whole = subst (λ rs. AllByRecursion IsWholeReturn rs) (sym k.returns_same) state.whole }

does_is : (place : Placement) (order : Order) (i : Insn) (f g : FlatState) → HasEncoding i → IsZeroState f → zero_does place order i f ≡ Some g → FlatDoes place order i f g × IsZeroState g
does_is place order (CallLocal off) f g enc state e =
    let h = cond_option _ _ g e in
    let k = option_map_some (zero_entered place f) (target f.slot off) g h.1 in
    subst (λ g. FlatCall place off f g × IsZeroState g) k.2 (call_is place f off k.0 state (ltb-true (suc (length f.returns)) max_frames h.0) k.1)
does_is place order Exit f g enc state e = exit_is_return f g f.returns state refl e
does_is place order i f g enc state e = (e, plainly place order i f g enc state e)

pub zero_step_is_step : ZeroStepIsStep
unfolding zero_step
zero_step_is_step place p f g program state e =
    option_and_then_some (λ i. zero_does place p.order i f) (insn_at p.list f.slot) g e (λ i stands does.
    let h = does_is place p.order i f g (encoding_at p.list program.encoding f.slot i stands) state does in
    (record { insn = i; stands = stands; does = h.0 }, h.1))

-- ---- the start

-- a context that is placed leaves room for the frames
pub placed_short : (len : ℕ) (place : Placement) → IsPlacement len place → len < addresses
placed_short len place placed = by_order (cases_lt len addresses)
  where
    inside : place.context + len ≤ addresses
    inside = placed.context_inside

    frame : frame_start place 0 + frame_bytes ≤ addresses
    frame = placed.frame_inside 0 (omega arith)

    by_order : (len < addresses) ⊎ (addresses ≤ len) → len < addresses
    by_order (inl less) = less
    by_order (inr all) = absurd (placed.context_apart 0 (omega arith) (frame_start place 0) (omega arith, omega arith) (omega arith, omega arith))

start_numbers : (a b c : ℕ) → a < addresses → b < addresses → c < addresses → (r : ℕ) → get_or (0 ∷ a ∷ b ∷ 0 ∷ 0 ∷ 0 ∷ 0 ∷ 0 ∷ 0 ∷ 0 ∷ c ∷ []) r 0 < addresses
start_numbers a b c ha hb hc zero = omega arith
start_numbers a b c ha hb hc (suc zero) = ha
start_numbers a b c ha hb hc (suc (suc zero)) = hb
start_numbers a b c ha hb hc (suc (suc (suc zero))) = omega arith
start_numbers a b c ha hb hc (suc (suc (suc (suc zero)))) = omega arith
start_numbers a b c ha hb hc (suc (suc (suc (suc (suc zero))))) = omega arith
start_numbers a b c ha hb hc (suc (suc (suc (suc (suc (suc zero)))))) = omega arith
start_numbers a b c ha hb hc (suc (suc (suc (suc (suc (suc (suc zero))))))) = omega arith
start_numbers a b c ha hb hc (suc (suc (suc (suc (suc (suc (suc (suc zero)))))))) = omega arith
start_numbers a b c ha hb hc (suc (suc (suc (suc (suc (suc (suc (suc (suc zero))))))))) = omega arith
start_numbers a b c ha hb hc (suc (suc (suc (suc (suc (suc (suc (suc (suc (suc zero)))))))))) = hc
start_numbers a b c ha hb hc (suc (suc (suc (suc (suc (suc (suc (suc (suc (suc (suc r))))))))))) = omega arith

start_fits : (place : Placement) (context : List ℕ) (r : ℕ) → r < 11 → StandsFor place (get_or (zero_start place context).registers r 0) (get_or (start context).top.registers r None)
start_fits place context zero h = tt
start_fits place context (suc zero) h = ap (λ z. z % addresses) (omega arith)
start_fits place context (suc (suc zero)) h = refl
start_fits place context (suc (suc (suc zero))) h = tt
start_fits place context (suc (suc (suc (suc zero)))) h = tt
start_fits place context (suc (suc (suc (suc (suc zero))))) h = tt
start_fits place context (suc (suc (suc (suc (suc (suc zero)))))) h = tt
start_fits place context (suc (suc (suc (suc (suc (suc (suc zero))))))) h = tt
start_fits place context (suc (suc (suc (suc (suc (suc (suc (suc zero)))))))) h = tt
start_fits place context (suc (suc (suc (suc (suc (suc (suc (suc (suc zero))))))))) h = tt
start_fits place context (suc (suc (suc (suc (suc (suc (suc (suc (suc (suc zero)))))))))) h = omega arith
start_fits place context (suc (suc (suc (suc (suc (suc (suc (suc (suc (suc (suc r))))))))))) h = absurd (omega arith)

pub start_memory : (place : Placement) (context : List ℕ) (j : ℕ) → j < length context → zero_memory place context (place.context + j) ≡ slice_index context j
start_memory place context j h =
    let low : leb place.context (place.context + j) ≡ true = le-leb place.context (place.context + j) (omega arith) in
    let high : ltb (place.context + j) (place.context + length context) ≡ true = lt-ltb (place.context + j) (place.context + length context) (omega arith) in
    let back : (place.context + j) - place.context ≡ j = omega arith in
    rw (low, high, back) refl

start_bytes : (place : Placement) (context : List ℕ) (a : ℕ) → AreBytes context → zero_memory place context a < 256
start_bytes place context a bytes = cond_both (leb place.context a && ltb a (place.context + length context)) (slice_index context (a - place.context)) 0 (λ z. z < 256) (λ e. bytes (a - place.context)) (λ e. omega arith)

-- each cell of the start's stack is empty
start_cells : (context : List ℕ) (n j : ℕ) → get_or (stack_of (start context) n) j None ≡ None
start_cells context n j = by_depth (0 - n)
  where
    by_depth : (k : ℕ) → get_or (get_or (frames (start context)) k (start context).top).stack j None ≡ None
    by_depth zero = all_none frame_bytes j
    by_depth (suc k) = all_none frame_bytes j

pub zero_start_fits : ZeroStartFits
zero_start_fits order place context bytes placed =
    let short = placed_short (length context) place placed in
    let flat : IsFlat (zero_start place context) = record {
      eleven = refl;
      numbers = start_numbers (place.context % addresses) (length context) (frame_end place 0) (omega arith) short (omega arith);
      bytes = λ a below. start_bytes place context a bytes;
      kept = tt;
    } in (
      record {
        flat = flat;
        slot_is = refl;
        context_fits = start_memory place context;
        registers_fit = start_fits place context;
        cells_fit = λ n j live in_frame. subst (λ cell. StandsForCell order place (zero_memory place context (frame_start place n + j)) cell) (sym (start_cells context n j)) tt;
        returns_fit = tt;
      },
      record { flat = flat; whole = tt },
    )
