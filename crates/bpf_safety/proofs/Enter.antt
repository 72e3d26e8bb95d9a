-- A step in one frame keeps the invariant, and pays for itself.
use Rattle.std.proofs.Common.{◌^◌, ◌≡◌, ℕ, suc, ◌+◌, ◌≤◌, ◌<◌, ◌⊎◌, inl, inr, refl, sym, ap, ◌∙◌, subst, arith, ℤ, pos, ◌+ℤ◌, ◌-ℤ◌, ◌≤ℤ◌, int_lt, nat_le, Bool, true, false, cond, not, ◌||◌, ◌&&◌, ◌==◌, List, [], ◌∷◌, length, Option, Some, None, is_some, is_none, Contains, option_and_then, option_map}
use Rattle.std.specs.List.{list_any}
use Rattle.std.proofs.lemmas.Bool.{false≢true, true≢false, or_parts}
use Rattle.std.proofs.lemmas.Bool.Decides.{nat_tests}
use Rattle.std.proofs.lemmas.Int.{ints}
use Rattle.bpf_insn.specs.declared.instruction.Insn.{Insn}
use Rattle.bpf_insn.specs.declared.instruction.Insn.TheVariants.{Ja, JaLong, CallLocal, Exit}
use Rattle.bpf_insn.specs.declared.instruction.Reg.TheVariants.{R0}
use Rattle.bpf_semantics.specs.declared.reason.Reason.{Reason}
use Rattle.bpf_insn.specs.Instruction.{Instructions, insn_at, slots, slot_count, target, goes_on as flows_on}
use Rattle.bpf_insn.specs.Image.{IsProgram}
use Rattle.bpf_semantics.specs.State as machine
use Rattle.bpf_semantics.specs.Step.{Step, IsStuck}
use Rattle.bpf_semantics.specs.Stuck.{reason_of}
use Rattle.bpf_semantics.specs.State.{Cell}
use Rattle.bpf_semantics.specs.State.Cell.{Byte, Part}
use Rattle.bpf_semantics.specs.Run.{Steps}
use Rattle.bpf_state.specs.declared.known.RegState.{RegState}
use Rattle.bpf_state.specs.declared.known.RegState.TheVariants.{Any, Num, Ptr}
use Rattle.bpf_state.specs.State.{AbstractState, first_state, register, callee_state, caller_state, IsAbstract}
use Rattle.bpf_num.specs.Number.{Has}
use Rattle.bpf_state.specs.Fault.{fault_of, some_passes, is_number}
use Rattle.bpf_safety.specs.Describes.{Describes, DescribesRegister}
use Rattle.bpf_state.specs.Entails.{state_entails, register_entails}
use Rattle.bpf_safety.specs.Laws as abstract
use Rattle.bpf_cert.specs.View.{LabelView, FunctionView, CertificateView}
use Rattle.bpf_safety.specs.Labels.{label_at, function_at, function_from}
use Rattle.bpf_safety.specs.Budget.{budget as budget_of, InBox, place_of, least_slack, least_budget, greatest_budget, HaveTagsOf}
use Rattle.bpf_safety.specs.Flow.{callee, call_cost, Arrival, Visit, visits, arrives, arrives_at, at_label_arrival, label_state, jump_target, jump_state, next_state, cost_after, passed_on, sound_arrival}
use Rattle.bpf_safety.specs.Flaw.{edges, is_refused_by, is_unpaid, enters_wrongly, returns_wrongly, exits_unpaid, is_negative_if, begins_elsewhere, calls_nowhere, leaves_for, next_slot, is_not}
use Rattle.bpf_safety.specs.Certified.{Certified}
use Rattle.bpf_safety.specs.Theorems.{IsContext}
use Rattle.bpf_safety.proofs.Basics.{some_is, natural}
use Rattle.bpf_safety.proofs.SlackLaws.{slack_pays}
use Rattle.bpf_safety.proofs.Here.{IsWellFormed, Here, Advances, ReachesExit, IsRight, Reaches, HasBounds, values}
use Rattle.bpf_safety.proofs.LawsBelow.{Laws}
use Rattle.bpf_safety.proofs.Moves.{GoesNext, Jumps, moves, Enters, enters, Leaves, leaves}
use Rattle.bpf_safety.proofs.Places.{entered_bounds}
use Rattle.bpf_safety.proofs.Facts.{is_right, is_right_label, slot_of_label, begins_right, first_label, passes_none, from_function, function_in, same_function, label_at_first, function_at_zero}
use Rattle.bpf_safety.proofs.Visits.{encoded, reaches_slot, is_visited, stands_here, goes_on, goes_on_with, some_slots}
use Rattle.bpf_safety.proofs.Arrive.{Arrives, arrive}
use Rattle.bpf_safety.proofs.Pay.{not_negative, least_is, greatest_is, IsGreatestBudget, slack_there}
use Rattle.bpf_safety.proofs.Frames.{only_calls}
use Rattle.bpf_safety.proofs.Edges.{equal_passes, not_above, not_false, jump_edge, next_edge, none_refused, none_unpaid, cost_next, result_is_number}
use Rattle.bpf_safety.proofs.Runs.{first_step}

is_call : Insn → Bool
is_call (CallLocal off) = true
is_call i = false

pub call_or_not : (i : Insn) → ((off : ℤ) × (i ≡ CallLocal off)) ⊎ ((off : ℤ) → i ≡ CallLocal off → ⊥)
unfolding is_call
call_or_not (CallLocal off) = inl (off, refl)
call_or_not i = inr (λ off e. false≢true (ap is_call e))

module _ (p : Instructions) (c : CertificateView) (laws : Laws) (program : IsProgram p.list) (certificate : IsWellFormed c) (certified : Certified p c) where
  right : (m : machine.State) (budget spent : ℕ) (h : Here p c m budget spent) → IsRight p c (record { slot = m.top.slot; insn = h.insn; arrival = arrives c m.top.slot h.passed })
  right m budget spent h = is_right p c certified (record { slot = m.top.slot; insn = h.insn; arrival = arrives c m.top.slot h.passed }) (is_visited p c m.top.slot h.passed h.insn h.rest h.reaches)

  stands : (m : machine.State) (budget spent : ℕ) (h : Here p c m budget spent) → insn_at p.list m.top.slot ≡ Some h.insn
  stands m budget spent h = stands_here p c m.top.slot h.passed h.insn h.rest h.reaches

  pub judged : (m : machine.State) (budget spent : ℕ) (h : Here p c m budget spent) → abstract.IsJudged p c.least c.most h.x h.insn h.arrival.state m
  judged m budget spent h = record { valid = h.valid; state = h.state; stands = stands m budget spent h; encoding = encoded p.list m.top.slot h.insn program.encoding (stands m budget spent h); described = h.described; no_fault = (right m budget spent h).no_fault h.arrival h.arrives_is }

  -- what an instruction calls
  pub record IsCallee (m : machine.State) (off : ℤ) (function : FunctionView) : Type 0 where
    pub callee_function : FunctionView
    pub callee_is : callee c m.top.slot (CallLocal off) ≡ Some callee_function
    pub to : target m.top.slot off ≡ Some callee_function.first
    pub is_element : Contains c.functions callee_function
    pub deeper : callee_function.depth < function.depth

  from_target : (o : Option ℕ) (g : FunctionView) → option_and_then (function_from c) o ≡ Some g → (o ≡ Some g.first) × Contains c.functions g
  from_target None g e = absurd (false≢true (ap is_some e))
  from_target (Some t) g e = let r = from_function p c certified t g e in (ap Some (sym r.1), r.0)

  callee_of : (m : machine.State) (budget spent : ℕ) (h : Here p c m budget spent) (off : ℤ) → h.insn ≡ CallLocal off → IsCallee m off h.function
  callee_of m budget spent h off e = by_callee (callee c m.top.slot (CallLocal off)) refl
    where
      stays : is_none (callee c m.top.slot h.insn) ≡ false
      stays =
          subst (λ i. calls_nowhere c (record { slot = m.top.slot; insn = h.insn; arrival = arrives c m.top.slot h.passed }) i ≡ false) e
          (or_parts (some_passes (λ f. leaves_for c f (jump_target m.top.slot h.insn) || leaves_for c f (next_slot p (record { slot = m.top.slot; insn = h.insn; arrival = arrives c m.top.slot h.passed }))) (function_at c m.top.slot)) (calls_nowhere c (record { slot = m.top.slot; insn = h.insn; arrival = arrives c m.top.slot h.passed }) h.insn) (right m budget spent h).stays).1

      above : some_passes (λ g. nat_le h.function.depth g.depth) (callee c m.top.slot h.insn) ≡ false
      above = passes_none (λ f. some_passes (λ g. nat_le f.depth g.depth) (callee c m.top.slot h.insn)) (function_at c m.top.slot) h.function (right m budget spent h).deeper h.function_is

      by_callee : (o : Option FunctionView) → callee c m.top.slot (CallLocal off) ≡ o → IsCallee m off h.function
      by_callee None f = absurd (true≢false (sym (ap is_none f) ∙ subst (λ i. is_none (callee c m.top.slot i) ≡ false) e stays))
      by_callee (Some g) f =
          let r = from_target (target m.top.slot off) g f in
          let test : nat_le h.function.depth g.depth ≡ false = passes_none (λ g. nat_le h.function.depth g.depth) (callee c m.top.slot h.insn) g above (ap (callee c m.top.slot) e ∙ f) in
          record { callee_function = g; callee_is = f; to = r.0; is_element = r.1; deeper = grind (arith, nat_tests) }

  pub not_stuck : (m : machine.State) (budget spent : ℕ) → Here p c m budget spent → IsStuck p m → ⊥
  not_stuck m budget spent h stuck = by_reason (reason_of p m) refl ((laws.stuck_has_reason p m program).0 stuck)
    where
      by_reason : (o : Option Reason) → reason_of p m ≡ o → is_some o ≡ true → ⊥
      by_reason None e s = false≢true s
      by_reason (Some why) e s =
          let frames = laws.not_stuck_inside p c.least c.most h.x h.insn h.arrival.state m why (judged m budget spent h) e in
          let call = only_calls p m h.insn (stands m budget spent h) (e ∙ ap Some frames) in
          let g = callee_of m budget spent h call.0 call.1 in
          let deep = (certificate.depths g.callee_function g.is_element).0 in
          let less = g.deeper in
          let shallow = h.shallow in
          let many = call.2 in
          omega arith

  -- at a label
  here_at_label : (m : machine.State) (f : FunctionView) (l : LabelView) (s : AbstractState) (x : List ℕ) → function_at c m.top.slot ≡ Some f → machine.depth m + f.depth ≤ 8 → label_at c m.top.slot ≡ Some l → machine.IsState m → (a : Arrives p c.least c.most m l s x) → Here p c m a.budget 0
  here_at_label m f l s x f_is shallow l_is state a =
      let same = slot_of_label p c certified m.top.slot l l_is in
      let i = insn_there (insn_at p.list l.slot) refl (is_right_label p c certified m.top.slot l l_is).stands in
      let r = reaches_slot p c m.top.slot i.0 (ap (insn_at p.list) (sym same) ∙ i.1) in
      let arrival : Arrival = record { state = a.at_label; label = l; at_label = a.at_label; cost = Some (pos 0) } in
      record {
        passed = r.passed;
        insn = i.0;
        rest = r.rest;
        reaches = r.reaches;
        arrival = arrival;
        arrives_is = ap (λ o. arrives_at o r.passed) l_is ∙ ap (option_map (λ s. record { state = s; label = l; at_label = s; cost = Some (pos 0) })) a.state_is;
        x = a.y;
        function = f;
        function_is = f_is;
        shallow = shallow;
        state = state;
        valid = a.valid;
        described = a.described;
        block = record { label_is = ap (label_at c) same ∙ l_is; state_is = a.state_is; as_many = a.as_many; has_bounds = a.has_bounds; inside = a.inside; budget_is = a.budget_is; cost_is = refl };
      }
    where
      insn_there : (o : Option Insn) → insn_at p.list l.slot ≡ o → is_none o ≡ false → (i : Insn) × (insn_at p.list l.slot ≡ Some i)
      insn_there (Some i) e s = (i, e)
      insn_there None e s = absurd (true≢false s)

  -- the next instruction is there, and in the same function
  goes_next : (slot : ℕ) (i : Insn) (s s' : AbstractState) → next_state p c slot i s ≡ Some s' → flows_on i ≡ true
  goes_next slot (Ja off) s s' e = absurd (false≢true (ap is_some e))
  goes_next slot (JaLong off) s s' e = absurd (false≢true (ap is_some e))
  goes_next slot Exit s s' e = absurd (false≢true (ap is_some e))
  goes_next slot i s s' e = refl

  inside : (m : machine.State) (budget spent : ℕ) (h : Here p c m budget spent) (s : AbstractState) → next_state p c m.top.slot h.insn h.arrival.state ≡ Some s → (m.top.slot + slot_count h.insn == slots p.list) ≡ false
  inside m budget spent h s live = caller_state (m.top.slot + slot_count h.insn == slots p.list) (is_some (next_state p c m.top.slot h.insn h.arrival.state)) ((right m budget spent h).not_past h.arrival h.arrives_is) (ap is_some live)
    where
      caller_state : (a b : Bool) → (a && b) ≡ false → b ≡ true → a ≡ false
      caller_state true b e f = absurd (true≢false (sym f ∙ e))
      caller_state false b e f = refl

  both_stay : (m : machine.State) (budget spent : ℕ) (h : Here p c m budget spent) → (leaves_for c h.function (jump_target m.top.slot h.insn) ≡ false) × (leaves_for c h.function (next_slot p (record { slot = m.top.slot; insn = h.insn; arrival = arrives c m.top.slot h.passed })) ≡ false)
  both_stay m budget spent h =
      let v : Visit = record { slot = m.top.slot; insn = h.insn; arrival = arrives c m.top.slot h.passed } in
      let test : FunctionView → Bool = λ f. leaves_for c f (jump_target m.top.slot h.insn) || leaves_for c f (next_slot p v) in
      or_parts (leaves_for c h.function (jump_target m.top.slot h.insn)) (leaves_for c h.function (next_slot p v))
      (passes_none test (function_at c m.top.slot) h.function (or_parts (some_passes test (function_at c m.top.slot)) (calls_nowhere c v h.insn) (right m budget spent h).stays).0 h.function_is)

  stays_at : (m : machine.State) (budget spent : ℕ) (h : Here p c m budget spent) (o : Option ℕ) (t : ℕ) → leaves_for c h.function o ≡ false → o ≡ Some t → function_at c t ≡ Some h.function
  stays_at m budget spent h o t e f =
      same_function p c certified certificate.one_each h.function t (function_in p c certified m.top.slot h.function h.function_is)
      (passes_none (λ t. is_not (option_map (λ g. g.first) (function_at c t)) h.function.first) o t e f)

  function_next : (m : machine.State) (budget spent : ℕ) (h : Here p c m budget spent) (s : AbstractState) → next_state p c m.top.slot h.insn h.arrival.state ≡ Some s → function_at c (m.top.slot + slot_count h.insn) ≡ Some h.function
  function_next m budget spent h s live =
      stays_at m budget spent h (next_slot p (record { slot = m.top.slot; insn = h.insn; arrival = arrives c m.top.slot h.passed })) (m.top.slot + slot_count h.insn) (both_stay m budget spent h).1
      (there (flows_on h.insn) (m.top.slot + slot_count h.insn == slots p.list) (m.top.slot + slot_count h.insn) (goes_next m.top.slot h.insn h.arrival.state s live) (inside m budget spent h s live))
    where
      there : (a b : Bool) (n : ℕ) → a ≡ true → b ≡ false → cond (a && not b) (Some n) None ≡ Some n
      there true false n e f = refl
      there true true n e f = absurd (true≢false f)
      there false b n e f = absurd (false≢true e)

  -- an edge into a label, after some instructions whose cost is known
  pub enter : (m m' : machine.State) (budget spent : ℕ) (h : Here p c m budget spent) (s : AbstractState) (l : LabelView) (k spent' : ℕ)
      → machine.IsState m' → IsAbstract s → Describes p.order c.least c.most h.x s m'
      → label_at c m'.top.slot ≡ Some l → function_at c m'.top.slot ≡ Some h.function
      → is_refused_by c (record { slot = m'.top.slot; state = s }) ≡ false
      → is_unpaid c (record { slot = m.top.slot; insn = h.insn; arrival = arrives c m.top.slot h.passed }) h.arrival (record { slot = m'.top.slot; state = s }) ≡ false
      → Steps p k m m' → 1 ≤ k → k + spent ≤ spent' → cost_after c m.top.slot h.insn h.arrival ≡ Some (pos spent')
      → m'.waiting ≡ m.waiting → Advances p c m m' h.function budget spent
  unfolding here_at_label
  enter m m' budget spent h s l k spent' state valid described l_is f_is taken paid run some most spends waiting =
      let entails = not_false (state_entails s l.state) (passes_none (λ l. not (state_entails s l.state)) (label_at c m'.top.slot) l taken l_is) in
      let a = arrive p c laws certificate m' l s h.x m'.top.slot l_is (is_right_label p c certified m'.top.slot l l_is) valid described entails in
      let old = budget_of h.arrival.label in
      let cost = pos spent' in
      let z = slack_there old h.arrival.at_label cost s (budget_of l) h.block.has_bounds a.edge_has_bounds in
      let unpaid = passes_none (λ l. is_negative_if (option_and_then (λ cost. least_slack old h.arrival.at_label cost s (budget_of l)) (cost_after c m.top.slot h.insn h.arrival))) (label_at c m'.top.slot) l paid l_is in
      let enough = not_negative (option_and_then (λ cost. least_slack old h.arrival.at_label cost s (budget_of l)) (cost_after c m.top.slot h.insn h.arrival)) z.0 unpaid (ap (option_and_then (λ cost. least_slack old h.arrival.at_label cost s (budget_of l))) spends ∙ z.1) in
      let tags = subst (λ n. HaveTagsOf n s l.terms) h.block.as_many a.tags_are in
      let pays = slack_pays old (budget_of l) h.arrival.at_label s cost z.0 tags z.1 enough (values h.x) (values a.y) h.block.inside a.on_edge in
      let before = h.block.budget_is in
      let after = a.budget_is in
      let less : a.budget + spent' ≤ budget = omega (arith, ints) in
      let same = ap length waiting in
      let shallow = h.shallow in
      record { budget' = a.budget; spent' = 0; here = here_at_label m' h.function l s h.x f_is (omega arith) l_is state a; steps = k; run = run; same_function = refl; pays = omega arith; falls = inl (omega arith); waiting_same = waiting }

  -- the next instruction of a block
  on_in_block : (m m' : machine.State) (budget spent : ℕ) (h : Here p c m budget spent) (s : AbstractState) (k spent' : ℕ)
      → machine.IsState m' → IsAbstract s → Describes p.order c.least c.most h.x s m'
      → next_state p c m.top.slot h.insn h.arrival.state ≡ Some s → m'.top.slot ≡ m.top.slot + slot_count h.insn
      → label_at c (m.top.slot + slot_count h.insn) ≡ None
      → Steps p k m m' → k + spent ≤ spent' → cost_after c m.top.slot h.insn h.arrival ≡ Some (pos spent')
      → m'.waiting ≡ m.waiting → Advances p c m m' h.function budget spent
  on_in_block m m' budget spent h s k spent' state valid described live to none run most spends waiting = by_rest h.rest refl
    where
      sound : sound_arrival c h.insn (arrives c m.top.slot h.passed) ≡ Some h.arrival
      sound = ap (sound_arrival c h.insn) h.arrives_is ∙ ap (λ o. cond (is_none o) (Some h.arrival) None) ((right m budget spent h).no_fault h.arrival h.arrives_is)

      on : goes_on_with p c m.top.slot h.passed h.insn ≡ Some (record { state = s; label = h.arrival.label; at_label = h.arrival.at_label; cost = cost_after c m.top.slot h.insn h.arrival })
      on = ap (option_and_then (passed_on p c m.top.slot h.insn)) sound ∙ ap (option_map (λ s. record { state = s; label = h.arrival.label; at_label = h.arrival.at_label; cost = cost_after c m.top.slot h.insn h.arrival })) live

      from : Reaches p c (m.top.slot + slot_count h.insn) (goes_on_with p c m.top.slot h.passed h.insn) h.rest
      from = goes_on p c m.top.slot h.passed h.insn h.rest h.reaches

      by_rest : (is : List Insn) → h.rest ≡ is → Advances p c m m' h.function budget spent
      by_rest [] e =
          let ends : slots p.list ≡ (m.top.slot + slot_count h.insn) + slots [] = (subst (λ is. Reaches p c (m.top.slot + slot_count h.insn) (goes_on_with p c m.top.slot h.passed h.insn) is) e from).ends in
          let zero_slots : slots [] ≡ 0 = refl in
          let same : m.top.slot + slot_count h.insn ≡ slots p.list = omega arith in
          absurd (true≢false (sym (equal_passes (m.top.slot + slot_count h.insn) (slots p.list) same) ∙ inside m budget spent h s live))
      by_rest (i ∷ is) e =
          let b = h.block in
          let long = some_slots h.insn in
          let same = ap length waiting in
          let shallow = h.shallow in
          record {
            budget' = budget;
            spent' = spent';
            here = record {
              passed = goes_on_with p c m.top.slot h.passed h.insn;
              insn = i;
              rest = is;
              reaches = subst (λ n. Reaches p c n (goes_on_with p c m.top.slot h.passed h.insn) (i ∷ is)) (sym to) (subst (λ js. Reaches p c (m.top.slot + slot_count h.insn) (goes_on_with p c m.top.slot h.passed h.insn) js) e from);
              arrival = record { state = s; label = h.arrival.label; at_label = h.arrival.at_label; cost = cost_after c m.top.slot h.insn h.arrival };
              arrives_is = ap (λ n. arrives c n (goes_on_with p c m.top.slot h.passed h.insn)) to ∙ ap (λ o. arrives_at o (goes_on_with p c m.top.slot h.passed h.insn)) none ∙ on;
              x = h.x;
              function = h.function;
              function_is = ap (function_at c) to ∙ function_next m budget spent h s live;
              shallow = omega arith;
              state = state;
              valid = valid;
              described = described;
              block = record { label_is = b.label_is; state_is = b.state_is; as_many = b.as_many; has_bounds = b.has_bounds; inside = b.inside; budget_is = b.budget_is; cost_is = spends };
            };
            steps = k;
            run = run;
            same_function = refl;
            pays = omega arith;
            falls = inr (refl, omega arith);
            waiting_same = waiting;
          }

  refused : (m : machine.State) (budget spent : ℕ) (h : Here p c m budget spent) → list_any (is_refused_by c) (edges p c (record { slot = m.top.slot; insn = h.insn; arrival = arrives c m.top.slot h.passed }) h.arrival) ≡ false
  refused m budget spent h = none_refused p c (record { slot = m.top.slot; insn = h.insn; arrival = arrives c m.top.slot h.passed }) h.arrival ((right m budget spent h).entailed h.arrival h.arrives_is)

  unpaid : (m : machine.State) (budget spent : ℕ) (h : Here p c m budget spent) → list_any (is_unpaid c (record { slot = m.top.slot; insn = h.insn; arrival = arrives c m.top.slot h.passed }) h.arrival) (edges p c (record { slot = m.top.slot; insn = h.insn; arrival = arrives c m.top.slot h.passed }) h.arrival) ≡ false
  unpaid m budget spent h = (none_unpaid p c (record { slot = m.top.slot; insn = h.insn; arrival = arrives c m.top.slot h.passed }) h.arrival ((right m budget spent h).paid h.arrival h.arrives_is)).0

  -- to the next slot, by one step or by a whole call
  next_advance : (m m' : machine.State) (budget spent : ℕ) (h : Here p c m budget spent) (k spent' : ℕ)
      → machine.IsState m' → m'.top.slot ≡ m.top.slot + slot_count h.insn → abstract.Leads p c.least c.most h.x (next_state p c m.top.slot h.insn h.arrival.state) m'
      → Steps p k m m' → 1 ≤ k → k + spent ≤ spent' → cost_after c m.top.slot h.insn h.arrival ≡ Some (pos spent')
      → m'.waiting ≡ m.waiting → Advances p c m m' h.function budget spent
  next_advance m m' budget spent h k spent' state to leads run some most spends waiting = by_label (label_at c (m.top.slot + slot_count h.insn)) refl
    where
      by_label : (o : Option LabelView) → label_at c (m.top.slot + slot_count h.insn) ≡ o → Advances p c m m' h.function budget spent
      by_label (Some l) e =
          enter m m' budget spent h leads.state l k spent' state leads.valid leads.describes (ap (label_at c) to ∙ e) (ap (function_at c) to ∙ function_next m budget spent h leads.state leads.is_there)
          (ap (λ n. is_refused_by c (record { slot = n; state = leads.state })) to ∙ next_edge p c (record { slot = m.top.slot; insn = h.insn; arrival = arrives c m.top.slot h.passed }) h.arrival (is_refused_by c) leads.state leads.is_there (refused m budget spent h))
          (ap (λ n. is_unpaid c (record { slot = m.top.slot; insn = h.insn; arrival = arrives c m.top.slot h.passed }) h.arrival (record { slot = n; state = leads.state })) to ∙ next_edge p c (record { slot = m.top.slot; insn = h.insn; arrival = arrives c m.top.slot h.passed }) h.arrival (is_unpaid c (record { slot = m.top.slot; insn = h.insn; arrival = arrives c m.top.slot h.passed }) h.arrival) leads.state leads.is_there (unpaid m budget spent h))
          run some most spends waiting
      by_label None e = on_in_block m m' budget spent h leads.state k spent' state leads.valid leads.describes leads.is_there to e run most spends waiting

  one_run : (m m' : machine.State) → Step p m m' → Steps p 1 m m'
  one_run m m' step = (m, refl, step)

  -- an instruction that is no CALL and no EXIT
  pub step_advance : (m m' : machine.State) (budget spent : ℕ) (h : Here p c m budget spent) → ((off : ℤ) → h.insn ≡ CallLocal off → ⊥) → (h.insn ≡ Exit → ⊥) → Step p m m' → Advances p c m m' h.function budget spent
  step_advance m m' budget spent h calls_not no_exit step = by_move (moves laws p c h.x h.insn h.arrival.state m m' (judged m budget spent h) calls_not no_exit step)
    where
      state : machine.IsState m'
      state = laws.step_keeps_states p m m' program h.state step

      waiting : m'.waiting ≡ m.waiting
      waiting = laws.waiting_frames_stay p c.least c.most h.x h.insn h.arrival.state m m' (judged m budget spent h) (stays h.insn calls_not no_exit) step
        where
          stays : (i : Insn) → ((off : ℤ) → i ≡ CallLocal off → ⊥) → (i ≡ Exit → ⊥) → abstract.IsCallOrExit i → ⊥
          stays (CallLocal off) no_call no_exit is = no_call off refl
          stays Exit no_call no_exit is = no_exit refl
          stays i no_call no_exit is = is

      spends : cost_after c m.top.slot h.insn h.arrival ≡ Some (pos (suc spent))
      spends = cost_next c m.top.slot h.insn h.arrival spent calls_not h.block.cost_is

      by_jump : (g : Jumps p c h.x h.insn h.arrival.state m m') (o : Option LabelView) → label_at c m'.top.slot ≡ o → Advances p c m m' h.function budget spent
      by_jump g (Some l) e =
          enter m m' budget spent h g.leads.state l 1 (suc spent) state g.leads.valid g.leads.describes e (stays_at m budget spent h (jump_target m.top.slot h.insn) m'.top.slot (both_stay m budget spent h).0 g.to)
          (jump_edge p c (record { slot = m.top.slot; insn = h.insn; arrival = arrives c m.top.slot h.passed }) h.arrival (is_refused_by c) m'.top.slot g.leads.state g.to g.leads.is_there (refused m budget spent h))
          (jump_edge p c (record { slot = m.top.slot; insn = h.insn; arrival = arrives c m.top.slot h.passed }) h.arrival (is_unpaid c (record { slot = m.top.slot; insn = h.insn; arrival = arrives c m.top.slot h.passed }) h.arrival) m'.top.slot g.leads.state g.to g.leads.is_there (unpaid m budget spent h))
          (one_run m m' step) (omega arith) (omega arith) spends waiting
      by_jump g None e = absurd (true≢false (sym (ap is_none e) ∙ passes_none (λ t. is_none (label_at c t)) (jump_target m.top.slot h.insn) m'.top.slot (right m budget spent h).has_label g.to))

      by_move : GoesNext p c h.x h.insn h.arrival.state m m' ⊎ Jumps p c h.x h.insn h.arrival.state m m' → Advances p c m m' h.function budget spent
      by_move (inl g) = next_advance m m' budget spent h 1 (suc spent) state g.to g.leads (one_run m m' step) (omega arith) (omega arith) spends waiting
      by_move (inr g) = by_jump g (label_at c m'.top.slot) refl

  -- a whole call: the callee's run to its EXIT stands between two steps
  abbrev pub Callees : ℕ → Type 0
  Callees d = (m : machine.State) (budget : ℕ) (h : Here p c m budget 0) → h.function.depth < d → ReachesExit p c m h.function budget 0

  -- A CALL leads to the callee's entry. From its EXIT in the same frame, in time, the caller goes on behind the CALL.
  pub record Entered (m m1 : machine.State) (function : FunctionView) (budget spent : ℕ) : Type 0 where
    pub callee_budget : ℕ
    pub here : Here p c m1 callee_budget 0
    pub deeper : here.function.depth < function.depth
    pub back : (r : ReachesExit p c m1 here.function callee_budget 0) → (m' : machine.State) × Step p r.state m' × Advances p c m m' function budget spent

  pub call_enters : (m : machine.State) (budget spent : ℕ) (h : Here p c m budget spent) (off : ℤ) → h.insn ≡ CallLocal off → (m1 : machine.State) → Step p m m1 → Entered m m1 h.function budget spent
  unfolding here_at_label
  call_enters m budget spent h off e m1 step = record { callee_budget = a.budget; here = at_entry; deeper = g.deeper; back = returned }
    where
      g : IsCallee m off h.function
      g = callee_of m budget spent h off e

      j : abstract.IsJudged p c.least c.most h.x (CallLocal off) h.arrival.state m
      j = subst (λ i. abstract.IsJudged p c.least c.most h.x i h.arrival.state m) e (judged m budget spent h)

      en : Enters m m1 off
      en = enters p off m m1 j.stands step

      first : (l : LabelView) × (label_at c g.callee_function.first ≡ Some l) × (function_at c g.callee_function.first ≡ Some g.callee_function)
      first = label_at_first p c certified certificate.one_each g.callee_function g.is_element

      there : m1.top.slot ≡ g.callee_function.first
      there = some_is m1.top.slot g.callee_function.first (sym en.to ∙ g.to)

      l_is : label_at c m1.top.slot ≡ Some first.0
      l_is = ap (label_at c) there ∙ first.1

      leads : abstract.Leads p c.least c.most h.x (Some (callee_state h.arrival.state)) m1
      leads = laws.enter_keeps p c.least c.most h.x off h.arrival.state m m1 j step

      same : leads.state ≡ callee_state h.arrival.state
      same = sym (some_is (callee_state h.arrival.state) leads.state leads.is_there)

      callee_here : callee c m.top.slot h.insn ≡ Some g.callee_function
      callee_here = ap (callee c m.top.slot) e ∙ g.callee_is

      entails : state_entails (callee_state h.arrival.state) first.0.state ≡ true
      entails =
          let v : Visit = record { slot = m.top.slot; insn = h.insn; arrival = arrives c m.top.slot h.passed } in
          let wrong = (or_parts (list_any (is_refused_by c) (edges p c v h.arrival)) (enters_wrongly c v h.arrival) (or_parts (list_any (is_refused_by c) (edges p c v h.arrival) || enters_wrongly c v h.arrival) (returns_wrongly c v h.arrival h.insn) ((right m budget spent h).entailed h.arrival h.arrives_is)).0).1 in
          not_false (state_entails (callee_state h.arrival.state) first.0.state)
          (passes_none (λ l. not (state_entails (callee_state h.arrival.state) l.state)) (label_at c g.callee_function.first) first.0
          (passes_none (λ g. some_passes (λ l. not (state_entails (callee_state h.arrival.state) l.state)) (label_at c g.first)) (callee c m.top.slot h.insn) g.callee_function wrong callee_here) first.1)

      a : Arrives p c.least c.most m1 first.0 (callee_state h.arrival.state) h.x
      a = arrive p c laws certificate m1 first.0 (callee_state h.arrival.state) h.x m1.top.slot l_is (is_right_label p c certified m1.top.slot first.0 l_is) (subst IsAbstract same leads.valid) (subst (λ z. Describes p.order c.least c.most h.x z m1) same leads.describes) entails

      shallow : machine.depth m1 + g.callee_function.depth ≤ 8
      shallow = let d = ap length en.waiting in let less = g.deeper in let deep = h.shallow in omega arith

      at_entry : Here p c m1 a.budget 0
      at_entry = here_at_label m1 g.callee_function first.0 (callee_state h.arrival.state) h.x (ap (function_at c) there ∙ first.2) shallow l_is (laws.step_keeps_states p m m1 program h.state step) a

      leads_back : (r : ReachesExit p c m1 g.callee_function a.budget 0) (back : Leaves p r.state en.caller m.waiting) → abstract.Leads p c.least c.most h.x (next_state p c m.top.slot h.insn h.arrival.state) back.state
      leads_back r back =
          subst (λ o. abstract.Leads p c.least c.most h.x o back.state) (sym (ap (λ i. next_state p c m.top.slot i h.arrival.state) e ∙ ap (option_and_then (λ g. caller_state g.ret h.arrival.state)) g.callee_is))
          (laws.leave_keeps p c.least c.most h.x off h.arrival.state m m1 r.state back.state g.callee_function.ret r.value (record { judged = j; enters = step; waits = r.waiting_same; length_within = r.context_is; at_exit = r.at_exit; gives = r.value_is; is_number = certificate.returns g.callee_function g.is_element; has = r.returns; leaves = back.step }))

      -- the callee's greatest budget over the state at the CALL
      has : HasBounds h.arrival.state first.0.terms
      has i t q = let b = a.edge_has_bounds i t q in (b.0, entered_bounds h.arrival.state (place_of t) b.0 h.valid b.1)

      box : InBox h.arrival.state first.0.terms (values a.y)
      box i t b q w =
          let d = a.edge_has_bounds i t q in
          let equal : d.0 ≡ b = some_is d.0 b (sym (entered_bounds h.arrival.state (place_of t) d.0 h.valid d.1) ∙ w) in
          subst (λ z. (pos z.lo ≤ℤ values a.y i) × (values a.y i ≤ℤ pos z.hi)) equal (a.inside_edge i t d.0 q d.1)

      greatest : IsGreatestBudget (budget_of first.0) h.arrival.state (values a.y)
      greatest = greatest_is (budget_of first.0) h.arrival.state (values a.y) has box

      most : (n : ℕ) × (greatest.greatest ≡ pos n)
      most = let b = a.budget_is in let u = greatest.above in natural greatest.greatest (omega (arith, ints))

      in_time : (r : ReachesExit p c m1 g.callee_function a.budget 0) → suc (suc r.steps) + spent ≤ spent + 1 + most.0
      in_time r = let t = r.in_time in let b = a.budget_is in let u = greatest.above in let n = most.1 in omega (arith, ints)

      spends : cost_after c m.top.slot h.insn h.arrival ≡ Some (pos (spent + 1 + most.0))
      spends =
          ap (λ i. cost_after c m.top.slot i h.arrival) e
          ∙ ap (option_and_then (λ spent. option_map (λ more. (spent +ℤ pos 1) +ℤ more) (call_cost c (callee c m.top.slot (CallLocal off)) h.arrival.state))) h.block.cost_is
          ∙ ap (option_map (λ more. (pos spent +ℤ pos 1) +ℤ more))
          (ap (λ o. call_cost c o h.arrival.state) g.callee_is ∙ ap (option_and_then (λ l. greatest_budget (budget_of l) h.arrival.state)) first.1 ∙ greatest.is_there)
          ∙ ap Some (let n = most.1 in omega (arith, ints))

      returned : (r : ReachesExit p c m1 g.callee_function a.budget 0) → (m' : machine.State) × Step p r.state m' × Advances p c m m' h.function budget spent
      returned r =
          let back : Leaves p r.state en.caller m.waiting = leaves p r.state en.caller m.waiting r.value r.at_exit (r.waiting_same ∙ en.waiting) r.value_is in
          let run : Steps p (suc (suc r.steps)) m back.state = (r.state, first_step p r.steps m m1 r.state step r.run, back.step) in
          let to : back.state.top.slot ≡ m.top.slot + slot_count h.insn = back.to ∙ en.caller_slot ∙ ap (λ i. m.top.slot + slot_count i) (sym e) in (
            back.state,
            back.step,
            next_advance m back.state budget spent h (suc (suc r.steps)) (spent + 1 + most.0) (laws.step_keeps_states p r.state back.state program r.state_is back.step) to (leads_back r back) run (omega arith) (in_time r) spends back.waiting_is,
          )

  call_advance : (m : machine.State) (budget spent : ℕ) (h : Here p c m budget spent) (off : ℤ) → h.insn ≡ CallLocal off → Callees h.function.depth → (m1 : machine.State) → Step p m m1 → (m' : machine.State) × Advances p c m m' h.function budget spent
  call_advance m budget spent h off e callees m1 step =
      let entered = call_enters m budget spent h off e m1 step in
      let b = entered.back (callees m1 entered.callee_budget entered.here entered.deeper) in
      (b.0, b.2)

  -- ---- EXIT

  -- the budget isn't spent, and r0 is a number that the function may return
  pub record Returns (m : machine.State) (function : FunctionView) (budget spent : ℕ) : Type 0 where
    pub in_time : suc spent ≤ budget
    pub value : ℕ
    pub value_is : machine.number_of_register m R0 ≡ Some value
    pub returns : Has function.ret value

  pub at_exit : (m : machine.State) (budget spent : ℕ) (h : Here p c m budget spent) → h.insn ≡ Exit → Returns m h.function budget spent
  at_exit m budget spent h is = let n = result (register h.arrival.state R0) refl kind in record { in_time = in_time; value = n.0; value_is = n.1; returns = n.2 }
    where
      kind : is_number (register h.arrival.state R0) ≡ true
      kind = result_is_number c.least h.arrival.state (ap (fault_of c.least h.arrival.state) (sym is) ∙ (right m budget spent h).no_fault h.arrival h.arrives_is)

      taken : register_entails (register h.arrival.state R0) (Num h.function.ret) ≡ true
      taken =
          let v : Visit = record { slot = m.top.slot; insn = h.insn; arrival = arrives c m.top.slot h.passed } in
          let wrong = (or_parts (list_any (is_refused_by c) (edges p c v h.arrival) || enters_wrongly c v h.arrival) (returns_wrongly c v h.arrival h.insn) ((right m budget spent h).entailed h.arrival h.arrives_is)).1 in
          not_false (register_entails (register h.arrival.state R0) (Num h.function.ret))
          (passes_none (λ f. not (register_entails (register h.arrival.state R0) (Num f.ret))) (function_at c m.top.slot) h.function (subst (λ i. returns_wrongly c v h.arrival i ≡ false) is wrong) h.function_is)

      result : (v : RegState) → register h.arrival.state R0 ≡ v → is_number v ≡ true → (n : ℕ) × (machine.number_of_register m R0 ≡ Some n) × Has h.function.ret n
      result (Num k) e n =
          let d = subst (λ v. DescribesRegister (machine.depth m) v (machine.register m R0)) e (h.described.registers R0) in (
            d.0,
            ap (option_and_then machine.number_in) d.1,
            laws.entails_includes k h.function.ret d.0 (certificate.returns h.function (function_in p c certified m.top.slot h.function h.function_is)) (ap (λ v. register_entails v (Num h.function.ret)) (sym e) ∙ taken) d.2,
          )
      result Any e n = absurd (false≢true n)
      result (Ptr q) e n = absurd (false≢true n)

      in_time : suc spent ≤ budget
      in_time =
          let v : Visit = record { slot = m.top.slot; insn = h.insn; arrival = arrives c m.top.slot h.passed } in
          let paid = (none_unpaid p c v h.arrival ((right m budget spent h).paid h.arrival h.arrives_is)).1 in
          let at : is_negative_if (option_and_then (λ spent. option_map (λ b. b -ℤ spent) (least_budget (budget_of h.arrival.label) h.arrival.at_label)) (cost_after c m.top.slot Exit h.arrival)) ≡ false = subst (λ i. exits_unpaid v h.arrival (cost_after c m.top.slot i h.arrival) i ≡ false) is paid in
          let spends : cost_after c m.top.slot Exit h.arrival ≡ Some (pos (suc spent)) = ap (option_map (λ z. z +ℤ pos 1)) h.block.cost_is ∙ ap Some (omega (arith, ints)) in
          let least = least_is (budget_of h.arrival.label) h.arrival.at_label (values h.x) h.block.has_bounds h.block.inside in
          let below = least.below in
          let budget_is = h.block.budget_is in
          let enough = not_negative (option_and_then (λ spent. option_map (λ b. b -ℤ spent) (least_budget (budget_of h.arrival.label) h.arrival.at_label)) (cost_after c m.top.slot Exit h.arrival)) (least.least -ℤ pos (suc spent)) at (ap (option_and_then (λ spent. option_map (λ b. b -ℤ spent) (least_budget (budget_of h.arrival.label) h.arrival.at_label))) spends ∙ ap (option_map (λ b. b -ℤ pos (suc spent))) least.is_there) in
          omega (arith, ints)

  -- ---- one instruction, or one call

  pub advance : (m : machine.State) (budget spent : ℕ) (h : Here p c m budget spent) → (h.insn ≡ Exit → ⊥) → Callees h.function.depth → (m1 : machine.State) → Step p m m1 → (m' : machine.State) × Advances p c m m' h.function budget spent
  advance m budget spent h no_exit callees m1 step = by_call (call_or_not h.insn)
    where
      by_call : ((off : ℤ) × (h.insn ≡ CallLocal off)) ⊎ ((off : ℤ) → h.insn ≡ CallLocal off → ⊥) → (m' : machine.State) × Advances p c m m' h.function budget spent
      by_call (inl call) = call_advance m budget spent h call.0 call.1 callees m1 step
      by_call (inr other) = (m1, step_advance m m1 budget spent h other no_exit step)

  pub begins : (context : List ℕ) → IsContext c.least c.most context → (budget : ℕ) × (budget ≤ c.steps) × Here p c (machine.start context) budget 0
  begins context is_context =
      let f = first_label p c certified in
      let l = f.0 in
      let g = first_function in
      let entails = not_false (state_entails (first_state c.least c.most) l.state) (passes_none (λ l. not (state_entails (first_state c.least c.most) l.state)) (label_at c 0) l (or_parts (begins_elsewhere c.functions) (some_passes (λ l. not (state_entails (first_state c.least c.most) l.state)) (label_at c 0)) (begins_right p c certified).0).1 f.1) in
      let within = is_context.length_within in
      let below = within.1 in
      let short = certificate.short_context in
      let described : Describes p.order c.least c.most [] (first_state c.least c.most) (machine.start context) = laws.start_describes p.order c.least c.most context [] within short in
      let a = arrive p c laws certificate (machine.start context) l (first_state c.least c.most) [] 0 f.1 (is_right_label p c certified 0 l f.1) (laws.start_is_abstract c.least c.most certificate.ordered short) described entails in
      let most = greatest_is (budget_of l) (first_state c.least c.most) (values a.y) a.edge_has_bounds a.inside_edge in
      let not_over = passes_none (λ l. some_passes (λ most. int_lt (pos c.steps) most) (greatest_budget (budget_of l) (first_state c.least c.most))) (label_at c 0) l (begins_right p c certified).1 f.1 in
      let test : int_lt (pos c.steps) most.greatest ≡ false = passes_none (λ most. int_lt (pos c.steps) most) (greatest_budget (budget_of l) (first_state c.least c.most)) most.greatest not_over most.is_there in
      let le = not_above most.greatest c.steps test in
      let above = most.above in
      let budget_is = a.budget_is in
      (a.budget, omega (arith, ints), here_at_label (machine.start context) g.0 l (first_state c.least c.most) [] g.1 (let top = (certificate.depths g.0 (function_in p c certified 0 g.0 g.1)).1 in omega arith) f.1 (laws.start_is_state context is_context.bytes (wide (length context) (omega arith))) a)
    where
      first_function : (g : FunctionView) × (function_at c 0 ≡ Some g)
      first_function = function_at_zero p c certified certificate.one_each

      wide : (n : ℕ) → n ≤ 4096 → n < 2 ^ 64
      wide n le = omega arith
