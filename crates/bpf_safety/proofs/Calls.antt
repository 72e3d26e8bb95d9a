-- Calls and returns.
use Rattle.std.proofs.Common.{◌≡◌, ℕ, zero, suc, pos, ◌+◌, ◌-◌, refl, sym, ◌∙◌, ap, subst, arith, List, [], ◌∷◌, length, get_or, Option, Some, None, Bool, true, false, cond, ℤ}
use Rattle.std.specs.Prelude.{option_map, option_and_then, nat_lt, take, drop, replicate, ◌++◌}
use Rattle.std.proofs.lemmas.Int.{ints}
use Rattle.std.proofs.lemmas.Nat.Bits.{bit_at-zero}
use Rattle.std.proofs.lemmas.List.{get_or-drop, length-drop}
use Rattle.std.proofs.lemmas.Option.{same_Some}
use Rattle.bpf_semantics.specs.declared.value.Value.{Value}
use Rattle.bpf_semantics.specs.declared.value.Value.TheVariants.{Number as NumberValue, Pointer as PointerValue}
use Rattle.bpf_semantics.specs.declared.value.Region.TheVariants.{Frame as FrameAt}
use Rattle.bpf_insn.specs.declared.instruction.Reg.{Reg}
use Rattle.bpf_insn.specs.declared.instruction.Reg.TheVariants.{R0, R1, R2, R3, R4, R5, R6, R7, R8, R9, R10}
use Rattle.bpf_insn.specs.declared.instruction.Insn.TheVariants.{CallLocal, Exit}
use Rattle.bpf_insn.specs.Instruction.{register_number, Instructions, insn_at, target}
use Rattle.bpf_semantics.specs.Step.{Step, does}
use Rattle.bpf_semantics.specs.State as machine
use Rattle.bpf_semantics.specs.State.{IsFrame}
use Rattle.bpf_semantics.specs.Step as step
use Rattle.bpf_num.specs.Laws.{TightenKeeps}
use Rattle.bpf_num.specs.Number.{Number, IsNumber, Has}
use Rattle.bpf_state.specs.declared.known.RegState.{RegState}
use Rattle.bpf_state.specs.declared.known.RegState.TheVariants.{Any, Num, Ptr}
use Rattle.bpf_state.specs.declared.known.Area.TheVariants.{Frame}
use Rattle.bpf_state.specs.declared.known.SlotState.TheVariants.{Bytes}
use Rattle.bpf_state.specs.State.{AbstractState, callee_state, caller_state, without_frame, each_without_frame, no_tags, start_of, IsAbstract, IsAbstractRegister, IsAbstractSlot}
use Rattle.bpf_safety.specs.Describes.{Describes, DescribesRegister, DescribesSlot, TaggedRegister, TaggedSlot, LengthWithin, slot_cell}
use Rattle.bpf_safety.specs.Laws.{EnterKeeps, LeaveKeeps, Leads}
use Rattle.bpf_safety.proofs.Areas.{by_area}
use Rattle.bpf_safety.proofs.Judged.{step_is, leads_at, top_frame}
use Rattle.bpf_safety.proofs.TouchedCells.{zero_or_one}

-- ---- a return

module _ {A B : Type 0} (P : A → B → Type 0) (xs : List A) (ys : List B) (a d : A) (b e : B) (new : P a b) (gone : P d e) (old : (r : Reg) → P (get_or xs (register_number r) d) (get_or ys (register_number r) e)) where
  later : (k : ℕ) → P (get_or xs (6 + k) d) (get_or ys (6 + k) e) → P (get_or (drop 6 xs) k d) (get_or (drop 6 ys) k e)
  later k h = subst (λ u. P u (get_or (drop 6 ys) k e)) (sym (get_or-drop 6 xs k d)) (subst (λ v. P (get_or xs (6 + k) d) v) (sym (get_or-drop 6 ys k e)) h)

  -- r0 is new, r1 to r5 are gone, the others are kept
  returned_places : (r : Reg) → P (get_or (a ∷ d ∷ d ∷ d ∷ d ∷ d ∷ drop 6 xs) (register_number r) d) (get_or (b ∷ e ∷ e ∷ e ∷ e ∷ e ∷ drop 6 ys) (register_number r) e)
  returned_places R0 = new
  returned_places R1 = gone
  returned_places R2 = gone
  returned_places R3 = gone
  returned_places R4 = gone
  returned_places R5 = gone
  returned_places R6 = later 0 (old R6)
  returned_places R7 = later 1 (old R7)
  returned_places R8 = later 2 (old R8)
  returned_places R9 = later 3 (old R9)
  returned_places R10 = later 4 (old R10)

-- the caller of the state m goes on with the number v, at a slot, beside this context
abbrev resumed : machine.State → ℕ → ℕ → List ℕ → machine.State
resumed m v sl context = record { top = record { slot = sl; registers = Some (NumberValue v) ∷ drop 1 (step.saved m.top.registers); stack = m.top.stack }; waiting = m.waiting; context = context }

-- what is known before a call, and of the number that is returned, describes the state after the call
return_keeps : TightenKeeps → (p : Instructions) (least most : ℕ) (x : List ℕ) (returned : Number) (s : AbstractState) (m : machine.State) (v sl : ℕ) (context : List ℕ) → IsAbstract s → IsFrame m.top → Describes p.order least most x s m → LengthWithin least most context → IsNumber returned → Has returned v → Leads p least most x (caller_state returned s) (resumed m v sl context)
return_keeps tightens p least most x returned s m v sl context valid frame d all ok has =
    let h = tightens returned v (ok, has) in
    let eleven = valid.eleven in
    let tags = valid.eleven_tags in
    record {
      state = record s { registers = Num h.set ∷ replicate 5 Any ++ drop 6 s.registers; register_tags = no_tags 6 ++ drop 6 s.register_tags };
      is_there = ap (λ o. option_map (λ n. record s { registers = Num n ∷ replicate 5 Any ++ drop 6 s.registers; register_tags = no_tags 6 ++ drop 6 s.register_tags }) o) h.is_there;
      valid = record {
        eleven = let l = length-drop 6 s.registers in omega arith;
        slots_are = valid.slots_are;
        eleven_tags = let l = length-drop 6 s.register_tags in omega arith;
        slot_tags_are = valid.slot_tags_are;
        registers = returned_places (λ a b. IsAbstractRegister a) s.registers s.registers (Num h.set) Any Any Any h.valid tt valid.registers;
        slots = valid.slots;
      };
      describes = record {
        length_within = all;
        registers = returned_places (DescribesRegister (machine.depth m)) s.registers m.top.registers (Num h.set) Any (Some (NumberValue v)) None (v, refl, h.has) tt d.registers;
        slots = d.slots;
        register_tags = returned_places (TaggedRegister x) s.register_tags m.top.registers None None (Some (NumberValue v)) None tt tt d.register_tags;
        slot_tags = d.slot_tags;
      };
    }

-- ---- a call

without_frame_describes : (depth : ℕ) (value : RegState) (v : Option Value) → DescribesRegister depth value v → DescribesRegister (suc depth) (without_frame value) v
without_frame_describes depth Any v d = tt
without_frame_describes depth (Num n) v d = d
without_frame_describes depth (Ptr p) v d = by_area (λ value. DescribesRegister depth value v → DescribesRegister (suc depth) (without_frame value) v) (λ lo hi d. d) (λ lo hi d. tt) p d

without_frame_valid : (value : RegState) → IsAbstractRegister value → IsAbstractRegister (without_frame value)
without_frame_valid Any d = tt
without_frame_valid (Num n) d = d
without_frame_valid (Ptr p) d = by_area (λ value. IsAbstractRegister value → IsAbstractRegister (without_frame value)) (λ lo hi d. d) (λ lo hi d. tt) p d

-- five elements after the first
record Five {A : Type 0} (xs : List A) : Type 0 where
  first : A
  x1 : A
  x2 : A
  x3 : A
  x4 : A
  x5 : A
  rest : List A
  are : xs ≡ first ∷ x1 ∷ x2 ∷ x3 ∷ x4 ∷ x5 ∷ rest

five : {A : Type 0} (xs : List A) → length xs ≡ 11 → Five xs
five [] e = absurd (omega (arith, e))
five (a ∷ []) e = absurd (omega (arith, e))
five (a ∷ b ∷ []) e = absurd (omega (arith, e))
five (a ∷ b ∷ c ∷ []) e = absurd (omega (arith, e))
five (a ∷ b ∷ c ∷ d ∷ []) e = absurd (omega (arith, e))
five (a ∷ b ∷ c ∷ d ∷ f ∷ []) e = absurd (omega (arith, e))
five (a ∷ b ∷ c ∷ d ∷ f ∷ g ∷ rest) e = record { first = a; x1 = b; x2 = c; x3 = d; x4 = f; x5 = g; rest = rest; are = refl }

abbrev entered_registers : List RegState → List RegState
entered_registers xs = Any ∷ each_without_frame (take 5 (drop 1 xs)) ++ replicate 4 Any ++ Ptr (start_of Frame) ∷ []

abbrev entered_values : ℕ → List (Option Value) → List (Option Value)
entered_values depth ys = None ∷ take 5 (drop 1 ys) ++ replicate 4 None ++ Some (PointerValue (FrameAt (depth + 1)) (pos 0)) ∷ []

enter_places : (depth : ℕ) (xs : List RegState) (ys : List (Option Value)) → Five xs → Five ys → ((r : Reg) → DescribesRegister depth (get_or xs (register_number r) Any) (get_or ys (register_number r) None)) → (r : Reg) → DescribesRegister (suc depth) (get_or (entered_registers xs) (register_number r) Any) (get_or (entered_values depth ys) (register_number r) None)
enter_places depth xs ys f g d r =
    let xs' : List RegState = f.first ∷ f.x1 ∷ f.x2 ∷ f.x3 ∷ f.x4 ∷ f.x5 ∷ f.rest in
    let ys' : List (Option Value) = g.first ∷ g.x1 ∷ g.x2 ∷ g.x3 ∷ g.x4 ∷ g.x5 ∷ g.rest in
    let d' : (r : Reg) → DescribesRegister depth (get_or xs' (register_number r) Any) (get_or ys' (register_number r) None) = λ r. subst (λ us. DescribesRegister depth (get_or us (register_number r) Any) (get_or ys' (register_number r) None)) f.are (subst (λ vs. DescribesRegister depth (get_or xs (register_number r) Any) (get_or vs (register_number r) None)) g.are (d r)) in
    subst (λ us. DescribesRegister (suc depth) (get_or (entered_registers us) (register_number r) Any) (get_or (entered_values depth ys) (register_number r) None)) (sym f.are)
    (subst (λ vs. DescribesRegister (suc depth) (get_or (entered_registers xs') (register_number r) Any) (get_or (entered_values depth vs) (register_number r) None)) (sym g.are) (places d' r))
  where
    places : ((r : Reg) → DescribesRegister depth (get_or (f.first ∷ f.x1 ∷ f.x2 ∷ f.x3 ∷ f.x4 ∷ f.x5 ∷ f.rest) (register_number r) Any) (get_or (g.first ∷ g.x1 ∷ g.x2 ∷ g.x3 ∷ g.x4 ∷ g.x5 ∷ g.rest) (register_number r) None)) → (r : Reg) → DescribesRegister (suc depth) (get_or (entered_registers (f.first ∷ f.x1 ∷ f.x2 ∷ f.x3 ∷ f.x4 ∷ f.x5 ∷ f.rest)) (register_number r) Any) (get_or (entered_values depth (g.first ∷ g.x1 ∷ g.x2 ∷ g.x3 ∷ g.x4 ∷ g.x5 ∷ g.rest)) (register_number r) None)
    places d R0 = tt
    places d R1 = without_frame_describes depth f.x1 g.x1 (d R1)
    places d R2 = without_frame_describes depth f.x2 g.x2 (d R2)
    places d R3 = without_frame_describes depth f.x3 g.x3 (d R3)
    places d R4 = without_frame_describes depth f.x4 g.x4 (d R4)
    places d R5 = without_frame_describes depth f.x5 g.x5 (d R5)
    places d R6 = tt
    places d R7 = tt
    places d R8 = tt
    places d R9 = tt
    places d R10 = (pos 0, ap (λ n. Some (PointerValue (FrameAt n) (pos 0))) (omega arith), omega (arith, ints), omega (arith, ints))

enter_valid : (xs : List RegState) → Five xs → ((r : Reg) → IsAbstractRegister (get_or xs (register_number r) Any)) → (length (entered_registers xs) ≡ 11) × ((r : Reg) → IsAbstractRegister (get_or (entered_registers xs) (register_number r) Any))
enter_valid xs f v =
    let xs' : List RegState = f.first ∷ f.x1 ∷ f.x2 ∷ f.x3 ∷ f.x4 ∷ f.x5 ∷ f.rest in
    subst (λ us. (length (entered_registers us) ≡ 11) × ((r : Reg) → IsAbstractRegister (get_or (entered_registers us) (register_number r) Any))) (sym f.are) (refl, places (λ r. subst (λ us. IsAbstractRegister (get_or us (register_number r) Any)) f.are (v r)))
  where
    places : ((r : Reg) → IsAbstractRegister (get_or (f.first ∷ f.x1 ∷ f.x2 ∷ f.x3 ∷ f.x4 ∷ f.x5 ∷ f.rest) (register_number r) Any)) → (r : Reg) → IsAbstractRegister (get_or (entered_registers (f.first ∷ f.x1 ∷ f.x2 ∷ f.x3 ∷ f.x4 ∷ f.x5 ∷ f.rest)) (register_number r) Any)
    places d R0 = tt
    places d R1 = without_frame_valid f.x1 (d R1)
    places d R2 = without_frame_valid f.x2 (d R2)
    places d R3 = without_frame_valid f.x3 (d R3)
    places d R4 = without_frame_valid f.x4 (d R4)
    places d R5 = without_frame_valid f.x5 (d R5)
    places d R6 = tt
    places d R7 = tt
    places d R8 = tt
    places d R9 = tt
    places d R10 = omega (arith, ints)

none_at : (n j : ℕ) → get_or (no_tags n) j None ≡ None
none_at zero j = refl
none_at (suc n) zero = refl
none_at (suc n) (suc j) = none_at n j

bytes_at_none : (n j : ℕ) → get_or (replicate n (Bytes 0)) j (Bytes 0) ≡ Bytes 0
bytes_at_none zero j = refl
bytes_at_none (suc n) zero = refl
bytes_at_none (suc n) (suc j) = bytes_at_none n j

enter_describes : (p : Instructions) (least most : ℕ) (x : List ℕ) (s : AbstractState) (m : machine.State) (sl : ℕ) → IsAbstract s → IsFrame m.top → Describes p.order least most x s m → Leads p least most x (Some (callee_state s)) (step.entered m sl)
enter_describes p least most x s m sl valid frame d =
    let f = five s.registers valid.eleven in
    let g = five m.top.registers frame.eleven in
    let v = enter_valid s.registers f valid.registers in
    record {
      state = callee_state s;
      is_there = refl;
      valid = record {
        eleven = v.0;
        slots_are = refl;
        eleven_tags = refl;
        slot_tags_are = refl;
        registers = v.1;
        slots = λ k low high. subst IsAbstractSlot (sym (bytes_at_none 64 (k - 1))) (omega arith);
      };
      describes = record {
        length_within = d.length_within;
        registers = enter_places (machine.depth m) s.registers m.top.registers f g d.registers;
        slots = λ k low high. subst (λ h. DescribesSlot p.order (suc (machine.depth m)) h (slot_cell (step.entered m sl) k)) (sym (bytes_at_none 64 (k - 1))) (λ i lt set. zero_or_one (sym (bit_at-zero i) ∙ set));
        register_tags = λ r. subst (λ t. TaggedRegister x t (machine.register (step.entered m sl) r)) (sym (none_at 11 (register_number r))) tt;
        slot_tags = λ k low high. subst (λ t. TaggedSlot p.order x t (slot_cell (step.entered m sl) k)) (sym (none_at 64 (k - 1))) tt;
      };
    }

-- ---- the instructions

-- the state at the callee's entry
entered_is : (m m' : machine.State) (few : Bool) (o : Option ℕ) → cond few (option_map (step.entered m) o) None ≡ Some m' → (sl : ℕ) × (step.entered m sl ≡ m')
entered_is m m' true (Some sl) e = (sl, same_Some (step.entered m sl) m' e)
entered_is m m' true None e = cc
entered_is m m' false o e = cc

call_is : (p : Instructions) (off : ℤ) (m m' : machine.State) → insn_at p.list m.top.slot ≡ Some (CallLocal off) → Step p m m' → (sl : ℕ) × (step.entered m sl ≡ m')
unfolding does
call_is p off m m' stands step = entered_is m m' (nat_lt (machine.depth m + 1) machine.max_frames) (target m.top.slot off) (step_is p m m' (CallLocal off) stands step)

pub enter_keeps : EnterKeeps
enter_keeps p least most x off s m m' j goes =
    let e = call_is p off m m' j.stands goes in
    leads_at p least most x (Some (callee_state s)) (step.entered m e.0) m' e.1 (enter_describes p least most x s m e.0 j.valid (top_frame m j.state) j.described)

exit_is : (p : Instructions) (m m' : machine.State) (v : ℕ) → insn_at p.list m.top.slot ≡ Some Exit → machine.number_of_register m R0 ≡ Some v → Step p m m' → step.left m.waiting v m.context ≡ Some m'
unfolding does
exit_is p m m' v stands is goes = ap (λ o. option_and_then (λ v. step.left m.waiting v m.context) o) (sym is) ∙ step_is p m m' Exit stands goes

pub leave_keeps : TightenKeeps → LeaveKeeps
leave_keeps tightens p least most x off s m m1 m2 m3 returned v r =
    let e = call_is p off m m1 r.judged.stands r.enters in
    let back : machine.State = resumed m v (m.top.slot + 1) m2.context in
    let waiting : m2.waiting ≡ (step.entered m e.0).waiting = r.waits ∙ ap (λ n. n.waiting) (sym e.1) in
    let f : back ≡ m3 = same_Some back m3 (ap (λ w. step.left w v m2.context) (sym waiting) ∙ exit_is p m2 m3 v r.at_exit r.gives r.leaves) in
    leads_at p least most x (caller_state returned s) back m3 f (return_keeps tightens p least most x returned s m v (m.top.slot + 1) m2.context r.judged.valid (top_frame m r.judged.state) r.judged.described r.length_within r.is_number r.has)
