-- Calls and returns lead to states that fit.
use Rattle.std.proofs.Common.{◌≡◌, suc, zero, List, [], ◌∷◌, ◌++◌, Option, Some, None, refl, ap, sym, subst, length, ◌<◌, ◌≤◌, ◌+◌, ◌-◌, ℕ, arith, ◌∙◌, inl, inr}
use Rattle.std.specs.Prelude.{ℤ, pos, get_or, set, take, drop, replicate}
use Rattle.std.proofs.lemmas.Option.{same_Some, option_and_then_some}
use Rattle.std.proofs.lemmas.Bool.{cases_lt, cases_eq, ltb-true}
use Rattle.std.proofs.lemmas.List.{length-set, get_or-set_same, get_or-take, get_or-drop, length-take-le, length-drop}
use Rattle.std.specs.List.{AllByRecursion}
use Rattle.bpf_semantics.specs.State.{StackFrame, State, depth, frame_bytes, max_frames, number_of_register}
use Rattle.bpf_semantics.specs.Memory.{stack_of}
use Rattle.bpf_semantics.specs.Flat.{addresses, Placement, FlatState, IsFlat, frame_start, frame_end, flat_register, FlatCall, FlatReturn, Return, IsReturn, IsAmong}
use Rattle.bpf_semantics.specs.Placement.{Fits, StandsFor, StandsForCell, pointer_address, FitReturns, AreApart}
use Rattle.bpf_insn.specs.declared.order.Order.{Order}
use Rattle.bpf_insn.specs.declared.instruction.Reg.TheVariants.{R0}
use Rattle.bpf_semantics.specs.declared.value.Value.{Value}
use Rattle.bpf_semantics.specs.declared.value.Value.TheVariants.{Number, Pointer}
use Rattle.bpf_semantics.specs.declared.value.Region.TheVariants.{Frame as FrameAt}
use Rattle.bpf_insn.specs.Instruction.{target}
use Rattle.bpf_semantics.specs.Step.{does, entered, saved}
use Rattle.bpf_insn.specs.declared.instruction.Insn.TheVariants.{CallLocal, Exit}
use Rattle.bpf_semantics.proofs.FlatInsn.{Given, number_stands, registers_eleven}
use Rattle.bpf_semantics.proofs.FlatStore.{frame_top, frame_below, frames_are_apart}
use Rattle.bpf_semantics.proofs.FlatBase.{same_top_stack, numbers_after}
use Rattle.bpf_semantics.proofs.StateLemmas.{option_map_some, cond_option, all_none, left_is}

-- Calls and returns lead to states that fit.
-- ---- registers

pub returns_length : (place : Placement) (ws : List StackFrame) (rs : List Return) → FitReturns place ws rs → length rs ≡ length ws
returns_length place [] [] h = refl
returns_length place [] (r ∷ rs) h = absurd h
returns_length place (w ∷ ws) [] h = absurd h
returns_length place (w ∷ ws) (r ∷ rs) h = ap suc (returns_length place ws rs h.1)

-- ---- a call

-- what stands for the registers of a callee
end_is : (place : Placement) (n : ℕ) → frame_end place n ≡ pointer_address place (FrameAt n) (pos 0)
end_is place n = let e : frame_end place n + 0 ≡ frame_end place n = omega arith in let small : frame_end place n < addresses = omega arith in omega arith

callee : (place : Placement) (ys : List ℕ) (args : List (Option Value)) (n : ℕ) → length args ≡ 5 → ((k : ℕ) → k < 5 → StandsFor place (get_or ys (suc k) 0) (get_or args k None)) → get_or ys 10 0 ≡ frame_end place n → (r : ℕ) → r < 11 → StandsFor place (get_or ys r 0) (get_or (None ∷ args ++ replicate 4 None ++ Some (Pointer (FrameAt n) (pos 0)) ∷ []) r None)
callee place ys (a ∷ b ∷ c ∷ d ∷ e ∷ []) n l old pointer zero hr = tt
callee place ys (a ∷ b ∷ c ∷ d ∷ e ∷ []) n l old pointer (suc zero) hr = old 0 (omega arith)
callee place ys (a ∷ b ∷ c ∷ d ∷ e ∷ []) n l old pointer (suc (suc zero)) hr = old 1 (omega arith)
callee place ys (a ∷ b ∷ c ∷ d ∷ e ∷ []) n l old pointer (suc (suc (suc zero))) hr = old 2 (omega arith)
callee place ys (a ∷ b ∷ c ∷ d ∷ e ∷ []) n l old pointer (suc (suc (suc (suc zero)))) hr = old 3 (omega arith)
callee place ys (a ∷ b ∷ c ∷ d ∷ e ∷ []) n l old pointer (suc (suc (suc (suc (suc zero))))) hr = old 4 (omega arith)
callee place ys (a ∷ b ∷ c ∷ d ∷ e ∷ []) n l old pointer (suc (suc (suc (suc (suc (suc zero)))))) hr = tt
callee place ys (a ∷ b ∷ c ∷ d ∷ e ∷ []) n l old pointer (suc (suc (suc (suc (suc (suc (suc zero))))))) hr = tt
callee place ys (a ∷ b ∷ c ∷ d ∷ e ∷ []) n l old pointer (suc (suc (suc (suc (suc (suc (suc (suc zero)))))))) hr = tt
callee place ys (a ∷ b ∷ c ∷ d ∷ e ∷ []) n l old pointer (suc (suc (suc (suc (suc (suc (suc (suc (suc zero))))))))) hr = tt
callee place ys (a ∷ b ∷ c ∷ d ∷ e ∷ []) n l old pointer (suc (suc (suc (suc (suc (suc (suc (suc (suc (suc zero)))))))))) hr = pointer ∙ end_is place n
callee place ys (a ∷ b ∷ c ∷ d ∷ e ∷ []) n l old pointer (suc (suc (suc (suc (suc (suc (suc (suc (suc (suc (suc r))))))))))) hr = absurd (omega arith)
callee place ys [] n l old pointer r hr = absurd (omega arith)
callee place ys (a ∷ []) n l old pointer r hr = absurd (omega arith)
callee place ys (a ∷ b ∷ []) n l old pointer r hr = absurd (omega arith)
callee place ys (a ∷ b ∷ c ∷ []) n l old pointer r hr = absurd (omega arith)
callee place ys (a ∷ b ∷ c ∷ d ∷ []) n l old pointer r hr = absurd (omega arith)
callee place ys (a ∷ b ∷ c ∷ d ∷ e ∷ x ∷ xs) n l old pointer r hr = absurd (omega arith)

entered_registers : (place : Placement) (xs ys : List ℕ) (vs : List (Option Value)) (n : ℕ) → length vs ≡ 11 → ((r : ℕ) → r < 11 → StandsFor place (get_or xs r 0) (get_or vs r None)) → take 5 (drop 1 ys) ≡ take 5 (drop 1 xs) → get_or ys 10 0 ≡ frame_end place n → (r : ℕ) → r < 11 → StandsFor place (get_or ys r 0) (get_or (None ∷ take 5 (drop 1 vs) ++ replicate 4 None ++ Some (Pointer (FrameAt n) (pos 0)) ∷ []) r None)
entered_registers place xs ys vs n l old arguments pointer =
    callee place ys (take 5 (drop 1 vs)) n (length-take-le 5 (drop 1 vs) (rw (length-drop 1 vs, l) (omega arith))) (λ k lt.
    let arg : get_or ys (suc k) 0 ≡ get_or xs (suc k) 0 = sym (after ys k lt) ∙ ap (λ zs. get_or zs k 0) arguments ∙ after xs k lt in
    subst (λ v. StandsFor place (get_or ys (suc k) 0) v) (sym (get_or-take 5 (drop 1 vs) k None lt ∙ later vs k)) (subst (λ x. StandsFor place x (get_or vs (suc k) None)) (sym arg) (old (suc k) (omega arith)))) pointer
  where
    later : (vs : List (Option Value)) (k : ℕ) → get_or (drop 1 vs) k None ≡ get_or vs (suc k) None
    later [] k = refl
    later (v ∷ vs) k = refl

    after_one : (ys : List ℕ) (k : ℕ) → get_or (drop 1 ys) k 0 ≡ get_or ys (suc k) 0
    after_one [] k = refl
    after_one (y ∷ ys) k = refl

    after : (ys : List ℕ) (k : ℕ) → k < 5 → get_or (take 5 (drop 1 ys)) k 0 ≡ get_or ys (suc k) 0
    after ys k lt = get_or-take 5 (drop 1 ys) k 0 lt ∙ after_one ys k

-- the stacks of the waiting frames are as they were
entered_stacks : (s : State) (slot n : ℕ) → n ≤ depth s → stack_of (entered s slot) n ≡ stack_of s n
entered_stacks s slot n h =
    let z : depth (entered s slot) - n ≡ suc (depth s - n) = omega arith in
    ap (λ fr. fr.stack) (frame_below (entered s slot) n (depth s - n) (record { slot = s.top.slot + 1; registers = saved s.top.registers; stack = s.top.stack }) z) ∙ same_top_stack s.waiting (depth s - n) (record { slot = s.top.slot + 1; registers = saved s.top.registers; stack = s.top.stack }) s.top refl

fresh_stack : (s : State) (slot n j : ℕ) → n ≡ suc (depth s) → get_or (stack_of (entered s slot) n) j None ≡ None
fresh_stack s slot n j e = ap (λ fr. get_or fr.stack j None) (frame_top (entered s slot) n e) ∙ all_none 512 j

-- what the caller keeps
kept_fits : (place : Placement) (xs : List ℕ) (vs : List (Option Value)) → length xs ≡ 11 → ((r : ℕ) → r < 11 → StandsFor place (get_or xs r 0) (get_or vs r None)) → (k : ℕ) → k < 5 → StandsFor place (get_or (drop 6 xs) k 0) (get_or (saved vs) (6 + k) None)
kept_fits place xs vs l old k hk =
    let six : suc (suc (suc (suc (suc (suc k))))) ≡ 6 + k = omega arith in
    let v : get_or (saved vs) (6 + k) None ≡ get_or vs (6 + k) None = subst (λ j. get_or (saved vs) j None ≡ get_or vs (6 + k) None) six (get_or-drop 6 vs k None) in
    subst (λ v. StandsFor place (get_or (drop 6 xs) k 0) v) (sym v) (subst (λ x. StandsFor place x (get_or vs (6 + k) None)) (sym (get_or-drop 6 xs k 0)) (old (6 + k) (omega arith)))

le_but : {m d : ℕ} → (m ≡ suc d → ⊥) → m ≤ suc d → m ≤ d
le_but {m = m} {d = d} ne h = elim (cases_lt d m) [ inl lt ↦ absurd (ne (omega arith)) | inr le ↦ le ]

away_context : {context len first j : ℕ} → AreApart context len first frame_bytes → j < len → IsAmong first frame_bytes (context + j) → ⊥
away_context {context = context} {j = j} h hj w = h (context + j) (omega arith, omega arith) w

away_frame : {first' first j : ℕ} → AreApart first' frame_bytes first frame_bytes → j < frame_bytes → IsAmong first frame_bytes (first' + j) → ⊥
away_frame {first' = first'} {j = j} h hj w = h (first' + j) (omega arith, omega arith) w

call_fits : (order : Order) (place : Placement) (s : State) (f g : FlatState) (off : ℤ) (slot : ℕ) → Given order place s f → depth s + 1 < max_frames → target s.top.slot off ≡ Some slot → FlatCall place off f g → Fits order place (entered s slot) g
call_fits order place s f g off slot gv room et c =
    let fit = gv.fit in
    let isp = gv.placed in
    let count : length f.returns ≡ depth s = returns_length place s.waiting f.returns fit.returns_fit in
    let n : ℕ = suc (length f.returns) in
    let n8 : n < max_frames = c.room in
    record {
      flat = c.flat;
      slot_is = same_Some _ _ (sym c.slot_is ∙ ap (λ x. target x off) fit.slot_is ∙ et);
      context_fits = λ j hj. let inside = isp.context_inside in c.memory_kept (place.context + j) (omega arith) (λ w. away_context (isp.context_apart n n8) hj w) ∙ fit.context_fits j hj;
      registers_fit = let p : get_or g.registers 10 0 ≡ frame_end place (depth s + 1) = c.frame_pointer ∙ ap (frame_end place) (omega arith) in entered_registers place f.registers g.registers s.top.registers (depth s + 1) (registers_eleven gv.is_state) fit.registers_fit c.arguments p;
      cells_fit = λ m j hm hj. elim (cases_eq m (suc (depth s))) [
        | inl e ↦ subst (λ cell. StandsForCell order place (g.memory (frame_start place m + j)) cell) (sym (fresh_stack s slot m j e)) tt
        | inr ne ↦ (let old : m ≤ depth s = le_but ne hm in
            let m8 : m < max_frames = omega arith in
            let other : n ≡ m → ⊥ = λ x. ne (sym x ∙ ap suc count) in
            let inside = isp.frame_inside m m8 in
            let same : g.memory (frame_start place m + j) ≡ f.memory (frame_start place m + j) = c.memory_kept (frame_start place m + j) (omega arith) (λ w. away_frame (frames_are_apart place (length s.context) m n isp m8 n8 other) hj w) in
            subst (λ st. StandsForCell order place (g.memory (frame_start place m + j)) (get_or st j None)) (sym (entered_stacks s slot m old)) (rw same (fit.cells_fit m j old hj)))
      ];
      returns_fit = subst (λ rs. FitReturns place (entered s slot).waiting rs) (sym c.returns_are)
          (record { slot_is = ap (λ x. x + 1) fit.slot_is; five = rw (length-drop 6 f.registers, fit.flat.eleven) refl; saved_fit = kept_fits place f.registers s.top.registers fit.flat.eleven fit.registers_fit }, fit.returns_fit);
    }

take_set : (xs : List ℕ) (y : ℕ) → take 5 (drop 1 (set xs 10 y)) ≡ take 5 (drop 1 xs)
take_set [] y = refl
take_set (a ∷ []) y = refl
take_set (a ∷ b ∷ []) y = refl
take_set (a ∷ b ∷ c ∷ []) y = refl
take_set (a ∷ b ∷ c ∷ d ∷ []) y = refl
take_set (a ∷ b ∷ c ∷ d ∷ e ∷ []) y = refl
take_set (a ∷ b ∷ c ∷ d ∷ e ∷ f ∷ xs) y = refl

pub kept_small : (xs : List ℕ) → ((r : ℕ) → get_or xs r 0 < addresses) → (k : ℕ) → get_or (drop 6 xs) k 0 < addresses
kept_small xs h k = subst (λ x. x < addresses) (sym (get_or-drop 6 xs k 0)) (h (6 + k))

has_call : (place : Placement) (f : FlatState) (off : ℤ) (slot : ℕ) → IsFlat f → suc (length f.returns) < max_frames → target f.slot off ≡ Some slot → (g : FlatState) × FlatCall place off f g
has_call place f off slot flat room et =
    let end : ℕ = frame_end place (suc (length f.returns)) in
    let small : end < addresses = omega arith in
    let lt : 10 < length f.registers = rw flat.eleven (omega arith) in
    let g : FlatState = record { slot = slot; registers = set f.registers 10 end; memory = f.memory; returns = (record { slot = f.slot + 1; saved = drop 6 f.registers }) ∷ f.returns } in (
      g,
      record {
        room = room;
        slot_is = et;
        returns_are = refl;
        arguments = take_set f.registers end;
        frame_pointer = get_or-set_same f.registers 10 end 0 lt;
        memory_kept = λ a ha w. refl;
        flat = record { eleven = length-set f.registers 10 end ∙ flat.eleven; numbers = numbers_after f.registers 10 end lt small flat.numbers; bytes = flat.bytes; kept = (kept_small f.registers flat.numbers, flat.kept) };
      },
    )

pub call_lands : (order : Order) (place : Placement) (s t : State) (f : FlatState) (off : ℤ) → Given order place s f → does order (CallLocal off) s ≡ Some t → ((g : FlatState) × FlatCall place off f g) × ((g : FlatState) → FlatCall place off f g → Fits order place t g)
unfolding does
call_lands order place s t f off gv e =
    let h = cond_option _ _ t e in
    let room = ltb-true (depth s + 1) max_frames h.0 in
    let k = option_map_some (entered s) (target s.top.slot off) t h.1 in
    let count : length f.returns ≡ depth s = returns_length place s.waiting f.returns gv.fit.returns_fit in
    let count_room : suc (length f.returns) < max_frames = omega arith in
    (has_call place f off k.0 gv.fit.flat count_room (ap (λ x. target x off) gv.fit.slot_is ∙ k.1), λ g c. subst (λ t. Fits order place t g) k.2 (call_fits order place s f g off k.0 gv room k.1 c))

return_registers : (place : Placement) (x v : ℕ) (ys : List ℕ) (kept : List ℕ) (vs : List (Option Value)) → get_or ys 0 0 ≡ v → drop 6 ys ≡ kept → ((k : ℕ) → k < 5 → StandsFor place (get_or kept k 0) (get_or vs (6 + k) None)) → (r : ℕ) → r < 11 → StandsFor place (get_or ys r 0) (get_or (Some (Number v) ∷ drop 1 (saved vs)) r None)
return_registers place x v ys kept vs e0 ek old zero hr = e0
return_registers place x v ys kept vs e0 ek old (suc zero) hr = tt
return_registers place x v ys kept vs e0 ek old (suc (suc zero)) hr = tt
return_registers place x v ys kept vs e0 ek old (suc (suc (suc zero))) hr = tt
return_registers place x v ys kept vs e0 ek old (suc (suc (suc (suc zero)))) hr = tt
return_registers place x v ys kept vs e0 ek old (suc (suc (suc (suc (suc zero))))) hr = tt
return_registers place x v ys kept vs e0 ek old (suc (suc (suc (suc (suc (suc k)))))) hr =
    let six : suc (suc (suc (suc (suc (suc k))))) ≡ 6 + k = omega arith in
    let y : get_or ys (suc (suc (suc (suc (suc (suc k)))))) 0 ≡ get_or kept k 0 = ap (λ j. get_or ys j 0) six ∙ sym (get_or-drop 6 ys k 0) ∙ ap (λ zs. get_or zs k 0) ek in
    subst (λ v. StandsFor place (get_or ys (suc (suc (suc (suc (suc (suc k)))))) 0) v) (sym (get_or-drop 6 vs k None)) (subst (λ x. StandsFor place x (get_or vs (6 + k) None)) (sym y) (old k (omega arith)))

return_fits : (order : Order) (place : Placement) (s t : State) (f g : FlatState) (v : ℕ) (caller : StackFrame) (rest : List StackFrame) → Given order place s f → number_of_register s R0 ≡ Some v → s.waiting ≡ caller ∷ rest → FlatReturn f g → Fits order place (record { top = record { slot = caller.slot; registers = Some (Number v) ∷ drop 1 (saved caller.registers); stack = caller.stack }; waiting = rest; context = s.context }) g
return_fits order place s t f g v caller rest gv ev ew c =
    let fit = gv.fit in
    let both : FitReturns place (caller ∷ rest) (c.record_of ∷ g.returns) = subst (λ ws. FitReturns place ws (c.record_of ∷ g.returns)) ew (subst (λ rs. FitReturns place s.waiting rs) c.returns_are fit.returns_fit) in
    let count : depth s ≡ suc (length rest) = ap length ew in
    let few = gv.is_state.few_frames in
    let top : StackFrame = record { slot = caller.slot; registers = Some (Number v) ∷ drop 1 (saved caller.registers); stack = caller.stack } in
    record {
      flat = c.flat;
      slot_is = c.slot_is ∙ both.0.slot_is;
      context_fits = λ j hj. let inside = gv.placed.context_inside in c.memory_kept (place.context + j) (omega arith) ∙ fit.context_fits j hj;
      registers_fit = return_registers place 0 v g.registers c.record_of.saved caller.registers (c.result_kept ∙ number_stands fit R0 v ev) c.restored both.0.saved_fit;
      cells_fit = λ m j hm hj.
          let m8 : m < max_frames = omega arith in
          let inside = gv.placed.frame_inside m m8 in
          let same : g.memory (frame_start place m + j) ≡ f.memory (frame_start place m + j) = c.memory_kept (frame_start place m + j) (omega arith) in
          let z : depth s - m ≡ suc (length rest - m) = omega arith in
          let st : stack_of s m ≡ (get_or (top ∷ rest) (length rest - m) top).stack = ap (λ fr. fr.stack) (frame_below s m (length rest - m) caller z ∙ ap (λ ws. get_or ws (length rest - m) caller) ew) ∙ same_top_stack rest (length rest - m) caller top refl in
          subst (λ st. StandsForCell order place (g.memory (frame_start place m + j)) (get_or st j None)) st (rw same (fit.cells_fit m j (omega arith) hj));
      returns_fit = both.1;
    }

returns_of : (place : Placement) (caller : StackFrame) (rest : List StackFrame) (rs : List Return) → FitReturns place (caller ∷ rest) rs → (r : Return) × (rest' : List Return) × (rs ≡ r ∷ rest') × (length r.saved ≡ 5)
returns_of place caller rest [] h = absurd h
returns_of place caller rest (r ∷ rs) h = (r, rs, refl, h.0.five)

return_numbers : (x : ℕ) (kept : List ℕ) → x < addresses → ((k : ℕ) → get_or kept k 0 < addresses) → (r : ℕ) → get_or (x ∷ 0 ∷ 0 ∷ 0 ∷ 0 ∷ 0 ∷ kept) r 0 < addresses
return_numbers x kept hx h zero = hx
return_numbers x kept hx h (suc zero) = omega arith
return_numbers x kept hx h (suc (suc zero)) = omega arith
return_numbers x kept hx h (suc (suc (suc zero))) = omega arith
return_numbers x kept hx h (suc (suc (suc (suc zero)))) = omega arith
return_numbers x kept hx h (suc (suc (suc (suc (suc zero))))) = omega arith
return_numbers x kept hx h (suc (suc (suc (suc (suc (suc k)))))) = h k

has_return : (f : FlatState) (r : Return) (rest : List Return) → IsFlat f → f.returns ≡ r ∷ rest → length r.saved ≡ 5 → (g : FlatState) × FlatReturn f g
has_return f r rest flat er five =
    let kept : AllByRecursion IsReturn (r ∷ rest) = subst (λ rs. AllByRecursion IsReturn rs) er flat.kept in
    let g : FlatState = record { slot = r.slot; registers = flat_register f R0 ∷ 0 ∷ 0 ∷ 0 ∷ 0 ∷ 0 ∷ r.saved; memory = f.memory; returns = rest } in (
      g,
      record {
        record_of = r;
        returns_are = er;
        slot_is = refl;
        result_kept = refl;
        restored = refl;
        memory_kept = λ a ha. refl;
        flat = record { eleven = ap (λ n. suc (suc (suc (suc (suc (suc n)))))) five; numbers = return_numbers (flat_register f R0) r.saved (flat.numbers 0) kept.0; bytes = flat.bytes; kept = kept.1 };
      },
    )

pub exit_lands : (order : Order) (place : Placement) (s t : State) (f : FlatState) → Given order place s f → does order Exit s ≡ Some t → ((g : FlatState) × FlatReturn f g) × ((g : FlatState) → FlatReturn f g → Fits order place t g)
unfolding does
exit_lands order place s t f gv e =
    option_and_then_some _ (number_of_register s R0) t e (λ v ev e1.
    let h = left_is s.waiting v s.context t e1 in
    let rs = returns_of place h.0 h.1 f.returns (subst (λ ws. FitReturns place ws f.returns) h.2 gv.fit.returns_fit) in
    (has_return f rs.0 rs.1 gv.fit.flat rs.2 rs.3, λ g c. subst (λ t. Fits order place t g) h.3 (return_fits order place s t f g v h.0 h.1 gv ev h.2 c)))
