-- The simulation: by induction on the old program's two runs, each step of which the new program follows by extra instructions and one of its own.
use Rattle.std.proofs.Common.{◌≡◌, ◌⊎◌, inl, inr, ℕ, zero, suc, ◌+◌, ◌*◌, ◌^◌, ◌<◌, ◌≤◌, refl, sym, ap, ap₂, ◌∙◌, subst, arith, Bool, true, false, List, [], ◌∷◌, length, Option, Some, None, cond}
use Rattle.std.specs.Prelude.{ℤ, pos, ◌||◌, ltb, option_and_then, option_map}
use Rattle.std.proofs.lemmas.Bool.{and_parts, cond-true, cond-false, le-ltb, false≢true}
use Rattle.std.proofs.lemmas.Option.{none-some, option_and_then_some}
use Rattle.std.specs.List.{AllByRecursion, list_any}
use Rattle.bpf_insn.specs.Arithmetic.{extended, jumps}
use Rattle.bpf_insn.specs.Image.{IsProgram}
use Rattle.bpf_insn.specs.Instruction.{Instructions, insn_at, target}
use Rattle.bpf_insn.specs.Laws.{AreBytes}
use Rattle.bpf_insn.specs.declared.order.Order.{Order}
use Rattle.bpf_insn.specs.declared.instruction.Reg.{Reg}
use Rattle.bpf_insn.specs.declared.instruction.Reg.TheVariants.{R0}
use Rattle.bpf_insn.specs.declared.instruction.Operand.{Operand}
use Rattle.bpf_insn.specs.declared.instruction.Operand.TheVariants.{Imm, Reg as FromReg}
use Rattle.bpf_insn.specs.declared.instruction.Width.{Width}
use Rattle.bpf_insn.specs.declared.instruction.Width.TheVariants.{W64}
use Rattle.bpf_insn.specs.declared.instruction.Cond.{Cond}
use Rattle.bpf_insn.specs.declared.instruction.Cond.TheVariants.{Gt, Lt}
use Rattle.bpf_insn.specs.declared.instruction.Insn.{Insn}
use Rattle.bpf_insn.specs.declared.instruction.Insn.TheVariants.{Ja, JaLong, JumpIf, CallLocal, Exit}
use Rattle.bpf_semantics.specs.State.{State, StackFrame, IsState, start, register, number_of_register}
use Rattle.bpf_semantics.specs.Step.{Step, step_of, does, Finish, finish_of, result_of_exit, IsStuck, operand, test_of_values}
use Rattle.bpf_semantics.specs.Run.{Steps}
use Rattle.bpf_semantics.specs.Flat.{Placement, Return, FlatState, FlatDoes, flat_register, flat_operand, flat_put, flat_at, flat_next, flat_jump, flat_does}
use Rattle.bpf_semantics.specs.Placement.{IsPlacement, Fits, FitReturns}
use Rattle.bpf_semantics.specs.declared.value.Value.{Value}
use Rattle.bpf_semantics.specs.declared.value.Value.TheVariants.{Number, Pointer}
use Rattle.bpf_semantics.proofs.FlatBase.{stands}
use Rattle.bpf_semantics.proofs.FlatLaw.{flat_follows}
use Rattle.bpf_semantics.proofs.FlatValues.{tests_fit, operand_fits}
use Rattle.bpf_semantics.proofs.RunLaw.{runs_keep_states}
use Rattle.bpf_semantics.proofs.SlotLaw.{step_keeps_context}
use Rattle.bpf_semantics.proofs.StateLemmas.{exit_is, left_is, value_fits, operand_value_fits, option_map_some}
use Rattle.bpf_kept.specs.Zero.{zero_does, zero_step, IsWholeReturn, IsZeroState}
use Rattle.bpf_kept.specs.declared.reach.GuardLimit.TheVariants.{Least}
use Rattle.bpf_kept.specs.Terms.{Facts}
use Rattle.bpf_kept.specs.Rules.{Known, put_into, undirected, is_jump}
use Rattle.bpf_kept.specs.Guards.{Front, is_limited, most_limit, has_end, register_reached, end_reached, passes}
use Rattle.bpf_kept.specs.Meaning.{most_for_one}
use Rattle.bpf_kept.specs.Matching.{most_extras, most_at_start, led}
use Rattle.bpf_kept.proofs.PutValue.{put_value}
use Rattle.bpf_kept.proofs.ZeroLaw.{zero_step_is_step}

-- ---- instructions that neither call nor exit

plain_does : (place : Placement) (order : Order) (m : Insn) (g h : FlatState) → flat_does order m g ≡ Some h → FlatDoes place order m g h
unfolding flat_does
plain_does place order (CallLocal off) g h e = absurd (none-some _ e)
plain_does place order Exit g h e = absurd (none-some _ e)
plain_does place order m g h e = e

pub not_exit : (order : Order) (m : Insn) (g h : FlatState) → flat_does order m g ≡ Some h → m ≡ Exit → ⊥
unfolding flat_does
not_exit order m g h e is = none-some h (ap (λ m. flat_does order m g) (sym is) ∙ e)

pub zero_plain : (place : Placement) (order : Order) (i : Insn) (f g : FlatState) → flat_does order i f ≡ Some g → zero_does place order i f ≡ Some g
unfolding flat_does
zero_plain place order (CallLocal off) f g e = absurd (none-some _ e)
zero_plain place order Exit f g e = absurd (none-some _ e)
zero_plain place order i f g e = e

-- what calls keep is whole
whole_returns : (place : Placement) (ws : List StackFrame) (rs : List Return) → FitReturns place ws rs → AllByRecursion IsWholeReturn rs
whole_returns place [] [] h = tt
whole_returns place [] (r ∷ rs) h = absurd h
whole_returns place (w ∷ ws) [] h = absurd h
whole_returns place (w ∷ ws) (r ∷ rs) h = (h.0.five, whole_returns place ws rs h.1)

pub fits_whole : (order : Order) (place : Placement) (s : State) (g : FlatState) → Fits order place s g → IsZeroState g
fits_whole order place s g fits = record { flat = fits.flat; whole = whole_returns place s.waiting g.returns fits.returns_fit }

pub no_returns : (place : Placement) (ws : List StackFrame) (rs : List Return) → FitReturns place ws rs → ws ≡ [] → rs ≡ []
no_returns place [] [] h e = refl
no_returns place [] (r ∷ rs) h e = absurd h
no_returns place (w ∷ ws) rs h e = let bad : suc (length ws) ≡ 0 = ap length e in absurd (omega arith)

pub no_waiting : (place : Placement) (ws : List StackFrame) (rs : List Return) → FitReturns place ws rs → rs ≡ [] → ws ≡ []
no_waiting place [] rs h e = refl
no_waiting place (w ∷ ws) [] h e = absurd h
no_waiting place (w ∷ ws) (r ∷ rs) h e = let bad : suc (length rs) ≡ 0 = ap length e in absurd (omega arith)

-- what a guard tests is a number, or the machine would be stuck
abbrev pub TestsNumber : Cond → Type 0
TestsNumber cond = (a b : Value) (taken : Bool) → test_of_values W64 cond a b ≡ Some taken → (x : ℕ) × (a ≡ Number x)

pub greater_number : TestsNumber Gt
greater_number (Number x) b taken e = (x, refl)
greater_number (Pointer region off) (Number y) taken e = absurd (none-some _ e)
greater_number (Pointer region off) (Pointer other at) taken e = absurd (none-some _ e)

pub less_number : TestsNumber Lt
less_number (Number x) b taken e = (x, refl)
less_number (Pointer region off) (Number y) taken e = absurd (none-some _ e)
less_number (Pointer region off) (Pointer other at) taken e = absurd (none-some _ e)

pub guard_number : (order : Order) (s t : State) (cond : Cond) (dst : Reg) (src : Operand) (off : ℤ) → TestsNumber cond → does order (JumpIf cond W64 dst src off) s ≡ Some t → (x : ℕ) × (register s dst ≡ Some (Number x))
unfolding does
guard_number order s t cond dst src off tests e =
    option_and_then_some _ (register s dst) t e (λ a ea e1. option_and_then_some _ (operand s src) t e1 (λ b eb e2. option_and_then_some _ (test_of_values W64 cond a b) t e2 (λ taken et e3.
    let n = tests a b taken et in (n.0, ea ∙ ap Some n.1))))

-- by a constant, that nothing greater passes
pub record IsMostGuard (front : Front) (known : Known) (m : Insn) : Type 0 where
  pub dst : Reg
  pub imm : ℤ
  pub off : ℤ
  pub is : m ≡ JumpIf Gt W64 dst (Imm imm) off
  pub tested : is_limited front known.facts dst (most_limit known.state dst (extended imm)) ≡ true

-- by the packet's end
pub record IsEndGuard (front : Front) (facts : Facts) (m : Insn) : Type 0 where
  pub dst : Reg
  pub src : Reg
  pub off : ℤ
  pub is : m ≡ JumpIf Gt W64 dst (FromReg src) off
  pub ends : has_end facts src ≡ true
  pub reached : list_any (register_reached front dst) facts ≡ true

-- by a constant, that nothing less passes; or of the packet's end
pub record IsLeastGuard (front : Front) (facts : Facts) (m : Insn) : Type 0 where
  pub dst : Reg
  pub imm : ℤ
  pub off : ℤ
  pub is : m ≡ JumpIf Lt W64 dst (Imm imm) off
  pub tested : (end_reached front facts dst (extended imm) || is_limited front facts dst (Least (extended imm))) ≡ true

pub guard_is : (front : Front) (known : Known) (m : Insn) → passes front known m ≡ true
    → IsMostGuard front known m ⊎ (IsEndGuard front known.facts m ⊎ IsLeastGuard front known.facts m)
unfolding passes
guard_is front known (JumpIf Gt W64 dst (Imm imm) off) e = inl (record { dst = dst; imm = imm; off = off; is = refl; tested = e })
guard_is front known (JumpIf Gt W64 dst (FromReg src) off) e =
    let c = and_parts (has_end known.facts src) (list_any (register_reached front dst) known.facts) e in
    inr (inl (record { dst = dst; src = src; off = off; is = refl; ends = c.0; reached = c.1 }))
guard_is front known (JumpIf Lt W64 dst (Imm imm) off) e = inr (inr (record { dst = dst; imm = imm; off = off; is = refl; tested = e }))
guard_is front known m e = absurd (false≢true e)

pub end_does : (order : Order) (dst src : Reg) (off : ℤ) (g : FlatState) → flat_register g dst ≤ flat_register g src → flat_does order (JumpIf Gt W64 dst (FromReg src) off) g ≡ Some (flat_next (JumpIf Gt W64 dst (FromReg src) off) g)
unfolding flat_does
end_does order dst src off g le = cond-false (ltb (flat_register g src) (flat_register g dst)) (flat_jump g off) (Some (flat_next (JumpIf Gt W64 dst (FromReg src) off) g)) (le-ltb (flat_register g src) (flat_register g dst) le)

pub least_does : (order : Order) (dst : Reg) (imm off : ℤ) (g : FlatState) → extended imm ≤ flat_register g dst → flat_does order (JumpIf Lt W64 dst (Imm imm) off) g ≡ Some (flat_next (JumpIf Lt W64 dst (Imm imm) off) g)
unfolding flat_does
least_does order dst imm off g le = cond-false (ltb (flat_register g dst) (extended imm)) (flat_jump g off) (Some (flat_next (JumpIf Lt W64 dst (Imm imm) off) g)) (le-ltb (flat_register g dst) (extended imm) le)

pub most_does : (order : Order) (dst : Reg) (imm off : ℤ) (g : FlatState) → flat_register g dst ≤ extended imm → flat_does order (JumpIf Gt W64 dst (Imm imm) off) g ≡ Some (flat_next (JumpIf Gt W64 dst (Imm imm) off) g)
unfolding flat_does
most_does order dst imm off g le = cond-false (ltb (extended imm) (flat_register g dst)) (flat_jump g off) (Some (flat_next (JumpIf Gt W64 dst (Imm imm) off) g)) (le-ltb (extended imm) (flat_register g dst) le)

-- what an exact test answers
pub record Answers (s : State) (cond : Cond) (width : Width) (dst : Reg) (src : Operand) : Type 0 where
  pub left : Value
  pub right : Value
  pub taken : Bool
  pub left_is : register s dst ≡ Some left
  pub right_is : operand s src ≡ Some right
  pub answer : test_of_values width cond left right ≡ Some taken

pub answers : (order : Order) (s t : State) (c : Cond) (width : Width) (dst : Reg) (src : Operand) (off : ℤ) → does order (JumpIf c width dst src off) s ≡ Some t → Answers s c width dst src
unfolding does
answers order s t c width dst src off e =
    option_and_then_some _ (register s dst) t e (λ a ea e1. option_and_then_some _ (operand s src) t e1 (λ b eb e2. option_and_then_some _ (test_of_values width c a b) t e2 (λ taken et e3.
    record { left = a; right = b; taken = taken; left_is = ea; right_is = eb; answer = et })))

pub test_jumps : (order : Order) (c : Cond) (width : Width) (dst : Reg) (src : Operand) (off : ℤ) (f : FlatState) (to : ℕ) → jumps width c (flat_register f dst) (flat_operand f src) ≡ true → target f.slot off ≡ Some to → flat_does order (JumpIf c width dst src off) f ≡ Some (flat_at to f)
unfolding flat_does
test_jumps order c width dst src off f to holds there =
    cond-true (jumps width c (flat_register f dst) (flat_operand f src)) (flat_jump f off) (Some (flat_next (JumpIf c width dst src off) f)) holds ∙ ap (option_map (λ slot. flat_at slot f)) there

pub test_jumps_back : (order : Order) (c : Cond) (width : Width) (dst : Reg) (src : Operand) (off : ℤ) (f g : FlatState) → jumps width c (flat_register f dst) (flat_operand f src) ≡ true → flat_does order (JumpIf c width dst src off) f ≡ Some g → flat_jump f off ≡ Some g
unfolding flat_does
test_jumps_back order c width dst src off f g holds e = sym (cond-true (jumps width c (flat_register f dst) (flat_operand f src)) (flat_jump f off) (Some (flat_next (JumpIf c width dst src off) f)) holds) ∙ e

pub test_falls : (order : Order) (c : Cond) (width : Width) (dst : Reg) (src : Operand) (off : ℤ) (f : FlatState) → jumps width c (flat_register f dst) (flat_operand f src) ≡ false → flat_does order (JumpIf c width dst src off) f ≡ Some (flat_at (f.slot + 1) f)
unfolding flat_does
test_falls order c width dst src off f fails = cond-false (jumps width c (flat_register f dst) (flat_operand f src)) (flat_jump f off) (Some (flat_next (JumpIf c width dst src off) f)) fails

pub jump_does : (order : Order) (m : Insn) (g : FlatState) (to : ℕ) → is_jump m ≡ true → led g.slot m ≡ Some to → flat_does order m g ≡ Some (flat_at to g)
unfolding flat_does
jump_does order (Ja off) g to e there = ap (option_map (λ slot. flat_at slot g)) there
jump_does order (JaLong off) g to e there = ap (option_map (λ slot. flat_at slot g)) there
jump_does order m g to e there = absurd (false≢true e)

pub jump_back : (place : Placement) (order : Order) (i : Insn) (f g : FlatState) → is_jump i ≡ true → zero_does place order i f ≡ Some g → (to : ℕ) × (led f.slot i ≡ Some to)
unfolding flat_does
jump_back place order (Ja off) f g e h = let x = option_map_some (λ slot. flat_at slot f) (target f.slot off) g h in (x.0, x.1)
jump_back place order (JaLong off) f g e h = let x = option_map_some (λ slot. flat_at slot f) (target f.slot off) g h in (x.0, x.1)
jump_back place order i f g e h = absurd (false≢true e)

pub test_back : (place : Placement) (order : Order) (i : Insn) (c : Cond) (width : Width) (dst : Reg) (src : Operand) (off : ℤ) (f g : FlatState) → i ≡ JumpIf c width dst src off → zero_does place order i f ≡ Some g → flat_does order (JumpIf c width dst src off) f ≡ Some g
test_back place order i c width dst src off f g e h = ap (λ i. zero_does place order i f) (sym e) ∙ h

is_exit : Insn → Bool
is_exit Exit = true
is_exit i = false

pub jump_turns : (i : Insn) → is_jump i ≡ true → i ≡ Exit → ⊥
jump_turns i e is = false≢true (ap is_jump (sym is) ∙ e)

pub test_turns : (i : Insn) (c : Cond) (width : Width) (dst : Reg) (src : Operand) (off : ℤ) → i ≡ JumpIf c width dst src off → i ≡ Exit → ⊥
unfolding is_exit
test_turns i c width dst src off e is = false≢true (ap is_exit (sym e ∙ is))

pub put_turns : (i : Insn) (r : Reg) → put_into i ≡ Some r → i ≡ Exit → ⊥
put_turns i r e is = none-some r (ap put_into (sym is) ∙ e)

no_return : (order : Order) (s t : State) → s.waiting ≡ [] → does order Exit s ≡ Some t → ⊥
unfolding does
no_return order s t ew e = option_and_then_some _ (number_of_register s R0) t e (λ v ev e1.
    let h = left_is s.waiting v s.context t e1 in
    let bad : suc (length h.1) ≡ 0 = ap length (sym h.2 ∙ ew) in
    absurd (omega arith))

-- the same but for where they lead
is_test : Insn → Bool
is_test (JumpIf cond width dst src off) = true
is_test i = false

-- what a test is
cond_of : Insn → Cond
cond_of (JumpIf cond width dst src off) = cond
cond_of i = Gt

width_of : Insn → Width
width_of (JumpIf cond width dst src off) = width
width_of i = W64

dst_of : Insn → Reg
dst_of (JumpIf cond width dst src off) = dst
dst_of i = R0

src_of : Insn → Operand
src_of (JumpIf cond width dst src off) = src
src_of i = Imm (pos 0)

pub same_tests : (m : Insn) (c : Cond) (width : Width) (dst : Reg) (src : Operand) → undirected m ≡ JumpIf c width dst src (pos 0) → (off : ℤ) × (m ≡ JumpIf c width dst src off)
unfolding is_test cond_of width_of dst_of src_of
same_tests (JumpIf c' width' dst' src' off) c width dst src e =
    (off, ap₂ (λ c width. JumpIf c width dst' src' off) (ap cond_of e) (ap width_of e) ∙ ap₂ (λ dst src. JumpIf c width dst src off) (ap dst_of e) (ap src_of e))
same_tests (Ja off) c width dst src e = absurd (false≢true (ap is_test e))
same_tests (JaLong off) c width dst src e = absurd (false≢true (ap is_test e))
same_tests (CallLocal off) c width dst src e = absurd (false≢true (ap is_test e))
same_tests m c width dst src e = absurd (false≢true (ap is_test e))

pub same_exit : (m : Insn) → undirected m ≡ Exit → m ≡ Exit
unfolding is_exit
same_exit (Ja off) e = absurd (false≢true (ap is_exit e))
same_exit (JaLong off) e = absurd (false≢true (ap is_exit e))
same_exit (JumpIf c width dst src off) e = absurd (false≢true (ap is_exit e))
same_exit (CallLocal off) e = absurd (false≢true (ap is_exit e))
same_exit m e = e

pub none_first : {A : Type 0} (b : Bool) (o : Option A) (y : A) → cond b None o ≡ Some y → (b ≡ false) × (o ≡ Some y)
none_first true o y e = absurd (none-some _ e)
none_first false o y e = (refl, e)

-- how many instructions the new program has done
pub more : (j n : ℕ) → n ≤ most_at_start + most_for_one * j → suc n + most_extras ≤ most_at_start + most_for_one * suc j
more j n le = omega arith

pub in_time : (j k n : ℕ) → n ≤ most_at_start + most_for_one * j → j ≡ k → suc n ≤ most_for_one * suc (suc k)
in_time j k n le e = omega arith

abbrev pub put_next : Order → Insn → Reg → FlatState → FlatState
put_next order m r g = flat_put r (put_value order m g) (flat_next m g)

abbrev pub program : Order → List Insn → Instructions
program order list = record { order = order; list = list }

-- ---- the new program by itself

module _ (order : Order) (js : List Insn) (valid : IsProgram js) (context : List ℕ) (bytes : AreBytes context) (short : length context < 2 ^ 32) (never : (k : ℕ) (s : State) → Steps (program order js) k (start context) s → IsStuck (program order js) s → ⊥) where
  abbrev pub new : Instructions
  new = program order js

  context_same : (n : ℕ) (s : State) → Steps new n (start context) s → s.context ≡ context
  context_same zero s run = ap (λ z. z.context) run
  context_same (suc n) s run = step_keeps_context new run.0 s run.2 ∙ context_same n run.0 run.1

  state_is : (n : ℕ) (s : State) → Steps new n (start context) s → IsState s
  state_is n s run = runs_keep_states new context n s valid bytes (omega arith) run

  pub does_there : (s t : State) (m : Insn) → insn_at js s.top.slot ≡ Some m → Step new s t → does order m s ≡ Some t
  unfolding step_of
  does_there s t m stands step = ap (option_and_then (λ i. does order i s)) (sym stands) ∙ step

  exits_there : (s : State) (m : Insn) (v : ℕ) → insn_at js s.top.slot ≡ Some m → Finish new s v → (s.waiting ≡ []) × (m ≡ Exit) × (number_of_register s R0 ≡ Some v)
  unfolding finish_of
  exits_there s m v stands finish = exit_is s.waiting (number_of_register s R0) m v (ap (option_and_then (λ i. result_of_exit s.waiting (number_of_register s R0) i)) (sym stands) ∙ finish)

  pub new_state : (n : ℕ) (s : State) → Steps new n (start context) s → IsState s
  new_state n s run = state_is n s run

  pub new_placed : (place : Placement) (n : ℕ) (s : State) → Steps new n (start context) s → IsPlacement (length context) place → IsPlacement (length s.context) place
  new_placed place n s run placed = subst (λ c. IsPlacement (length c) place) (sym (context_same n s run)) placed

  -- it isn't stuck, so it steps
  pub steps_on : (n : ℕ) (s : State) (m : Insn) → Steps new n (start context) s → insn_at js s.top.slot ≡ Some m → (m ≡ Exit → ⊥) → (t : State) × Step new s t
  steps_on n s m run stands other = by_step (step_of new s) refl
    where
      by_step : (o : Option State) → step_of new s ≡ o → (t : State) × Step new s t
      by_step (Some t) e = (t, e)
      by_step None e = absurd (never n s run (record { no_step = λ t step. none-some t (sym e ∙ step); no_finish = λ v finish. other (exits_there s m v stands finish).1 }))

  -- at EXIT in the outermost frame it ends
  pub ends_on : (n : ℕ) (s : State) → Steps new n (start context) s → insn_at js s.top.slot ≡ Some Exit → s.waiting ≡ [] → (v : ℕ) × Finish new s v × (number_of_register s R0 ≡ Some v)
  ends_on n s run stands alone = by_finish (finish_of new s) refl
    where
      by_finish : (o : Option ℕ) → finish_of new s ≡ o → (v : ℕ) × Finish new s v × (number_of_register s R0 ≡ Some v)
      by_finish (Some v) e = (v, e, (exits_there s Exit v stands e).2)
      by_finish None e = absurd (never n s run (record { no_step = λ t step. no_return order s t alone (does_there s t Exit stands step); no_finish = λ v finish. none-some v (sym e ∙ finish) }))

  -- at EXIT in another frame it returns
  pub returns_on : (n : ℕ) (s : State) → Steps new n (start context) s → insn_at js s.top.slot ≡ Some Exit → (s.waiting ≡ [] → ⊥) → (t : State) × Step new s t
  returns_on n s run stands deep = by_step (step_of new s) refl
    where
      by_step : (o : Option State) → step_of new s ≡ o → (t : State) × Step new s t
      by_step (Some t) e = (t, e)
      by_step None e = absurd (never n s run (record { no_step = λ t step. none-some t (sym e ∙ step); no_finish = λ v finish. deep (exits_there s Exit v stands finish).0 }))

  -- what the flat machine does that takes 0 is followed, in calls and returns too
  pub fits_zero : (place : Placement) (n : ℕ) (s t : State) (m : Insn) (g h : FlatState) → IsPlacement (length context) place → Steps new n (start context) s → Fits order place s g → insn_at js s.top.slot ≡ Some m → Step new s t → zero_does place order m g ≡ Some h → Fits order place t h
  unfolding zero_step
  fits_zero place n s t m g h placed run fits stands step e =
      let there : insn_at js g.slot ≡ Some m = ap (insn_at js) fits.slot_is ∙ stands in
      let z : zero_step place new g ≡ Some h = ap (option_and_then (λ i. zero_does place order i g)) there ∙ e in
      (flat_follows place new s t g valid (state_is n s run) (subst (λ c. IsPlacement (length c) place) (sym (context_same n s run)) placed) fits step).fits h
      (zero_step_is_step place new g h valid (fits_whole order place s g fits) z).0

  -- each flat state that fits is followed
  pub fits_on : (place : Placement) (n : ℕ) (s t : State) (m : Insn) (g h : FlatState) → IsPlacement (length context) place → Steps new n (start context) s → Fits order place s g → insn_at js s.top.slot ≡ Some m → Step new s t → flat_does order m g ≡ Some h → Fits order place t h
  fits_on place n s t m g h placed run fits stands step e =
      (flat_follows place new s t g valid (state_is n s run) (subst (λ c. IsPlacement (length c) place) (sym (context_same n s run)) placed) fits step).fits h
      (record { insn = m; stands = ap (insn_at js) fits.slot_is ∙ stands; does = plain_does place order m g h e })

  pub answers_same : (place : Placement) (n : ℕ) (s : State) (g : FlatState) (c : Cond) (width : Width) (dst : Reg) (src : Operand) (a : Answers s c width dst src) → Steps new n (start context) s → Fits order place s g → jumps width c (flat_register g dst) (flat_operand g src) ≡ a.taken
  answers_same place n s g c width dst src a run fits =
      let is = state_is n s run in
      tests_fit place width c a.left a.right a.taken (flat_register g dst) (flat_operand g src) (value_fits is dst a.left a.left_is) (operand_value_fits is src a.right a.right_is) a.answer (stands fits dst a.left a.left_is) (operand_fits fits src a.right a.right_is)
