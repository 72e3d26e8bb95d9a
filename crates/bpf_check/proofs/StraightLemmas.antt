-- A visit of straight code: of its conditions those on registers and memory are left, and of its work the transfer.
use Rattle.std.proofs.Common.{◌≡◌, ℕ, ◌+◌, ◌<◌, ℤ, pos, Bool, true, false, not, ◌&&◌, ◌||◌, [], ◌∷◌, ◌++◌, count_by, Option, Some, None, Bor, refl, sym, ap, ap₂, subst, ◌∙◌, arith}
use Rattle.std.specs.Prelude.{if◌then◌else◌, is_none, is_some, option_map, option_copied, option_and_then, IfSome, Ok, ◌==◌, nat_le, ◌+ℤ◌}
use Rattle.std.specs.List.{list_any}
use Rattle.std.proofs.lemmas.Bool.{false≢true, true≢false, eq-eqb, ne_eqb}
use Rattle.bpf_insn.specs.declared.instruction.Insn.{Insn}
use Rattle.bpf_insn.specs.declared.instruction.Insn.TheVariants.{Alu, Neg, MovSx, End, LoadImm64, Load, LoadSx, Store, StoreImm, Atomic, Ja, JaLong, JumpIf, CallLocal, Exit}
use Rattle.bpf_insn.specs.Instruction.{Instructions, slots, slot_count, goes_on, is_straight}
use Rattle.bpf_state.specs.State.{AbstractState, callee_state, tightened}
use Rattle.bpf_state.specs.Fault.{fault_of, some_passes}
use Rattle.bpf_state.specs.Entails.{state_entails}
use Rattle.bpf_state.specs.Transfer.{transfer}
use Rattle.bpf_state.specs.Answer.{outcome_told}
use Rattle.bpf_state.specs.Work.{Counts, with_transfer}
use Rattle.bpf_cert.specs.declared.certificate.Label.{Label}
use Rattle.bpf_cert.specs.View.{LabelView, FunctionView, CertificateView, label_view}
use Rattle.bpf_safety.specs.Labels.{label_at, function_at}
use Rattle.bpf_safety.specs.Budget.{budget, least_slack}
use Rattle.bpf_safety.specs.Flow.{Arrival, arrives, arrives_at, passed_on, callee, jump_target, jump_state, cost_after}
use Rattle.bpf_safety.specs.Flaw.{Edge, edge_to, is_negative_if, is_refused_by, lacks_label, enters_wrongly, returns_wrongly, exits_unpaid, calls_no_deeper, leaves_function, leaves_for, next_slot, calls_nowhere, is_not}
use Rattle.bpf_safety.specs.Work.{leads_into_label, one_if, enters_label, returns_result}
use Rattle.bpf_check.specs.declared.arrival.Here.{Here}
use Rattle.bpf_check.specs.declared.arrival.Walk.{Walk}
use Rattle.bpf_check.specs.declared.site.Spot.{Spot}
use Rattle.bpf_check.specs.declared.straight.Step.{Step}
use Rattle.bpf_check.specs.code.Arrivals.{arrival_of, walk_of, IsReaching}
use Rattle.bpf_check.specs.code.Counting.{compared, worked_at}
use Rattle.bpf_check.specs.code.Edges.{visit, next_of, edges_of, unpaid_from}
use Rattle.bpf_check.specs.code.Least.{IsLeastIn}
use Rattle.bpf_check.specs.code.Slack.{at_label}
use Rattle.bpf_check.specs.code.Sites.{IsSpot}
use Rattle.bpf_check.specs.code.Straight.{IsStep, IsStepFrom}
use Rattle.bpf_check.specs.code.Visits.{IsJudgment, flaws_with, passed_with, passed_after, never_reached, visit_of, visit_with, visit_flaws}
use Rattle.bpf_check.proofs.LeastLemmas.{least_beside}
use Rattle.bpf_check.proofs.PassLemmas.{one_slot}
use Rattle.bpf_check.proofs.ArrivalLemmas.{sound_least, visit_refused}
use Rattle.bpf_check.proofs.VisitLemmas.{dead_judged, pass_judged, fault_worked, dead_worked, live_worked}

-- ---- an instruction that goes on at the next one alone

record GoesOn (c : CertificateView) (slot : ℕ) (i : Insn) : Type 0 where
  jump : jump_target slot i ≡ None
  callee : callee c slot i ≡ None
  goes : goes_on i ≡ true
  cost : (a : Arrival) → cost_after c slot i a ≡ option_map (λ spent. spent +ℤ pos 1) a.cost
  returns : (a : Arrival) → returns_wrongly c (visit slot i) a i ≡ false
  exits : (a : Arrival) (cost : Option ℤ) → exits_unpaid (visit slot i) a cost i ≡ false
  result : returns_result c (visit slot i) i ≡ false
  nowhere : calls_nowhere c (visit slot i) i ≡ false
  next : (s : AbstractState) → next_of c slot i s ≡ Some s

goes_straight : (c : CertificateView) (slot : ℕ) (i : Insn) → is_straight i ≡ true → GoesOn c slot i
goes_straight c slot (Alu op width dst src) e = record { jump = refl; callee = refl; goes = refl; cost = λ a. refl; returns = λ a. refl; exits = λ a cost. refl; result = refl; nowhere = refl; next = λ s. refl }
goes_straight c slot (Neg width dst) e = record { jump = refl; callee = refl; goes = refl; cost = λ a. refl; returns = λ a. refl; exits = λ a cost. refl; result = refl; nowhere = refl; next = λ s. refl }
goes_straight c slot (MovSx width bits dst src) e = record { jump = refl; callee = refl; goes = refl; cost = λ a. refl; returns = λ a. refl; exits = λ a cost. refl; result = refl; nowhere = refl; next = λ s. refl }
goes_straight c slot (End kind bits dst) e = record { jump = refl; callee = refl; goes = refl; cost = λ a. refl; returns = λ a. refl; exits = λ a cost. refl; result = refl; nowhere = refl; next = λ s. refl }
goes_straight c slot (LoadImm64 dst value) e = record { jump = refl; callee = refl; goes = refl; cost = λ a. refl; returns = λ a. refl; exits = λ a cost. refl; result = refl; nowhere = refl; next = λ s. refl }
goes_straight c slot (Load size dst src off) e = record { jump = refl; callee = refl; goes = refl; cost = λ a. refl; returns = λ a. refl; exits = λ a cost. refl; result = refl; nowhere = refl; next = λ s. refl }
goes_straight c slot (LoadSx size dst src off) e = record { jump = refl; callee = refl; goes = refl; cost = λ a. refl; returns = λ a. refl; exits = λ a cost. refl; result = refl; nowhere = refl; next = λ s. refl }
goes_straight c slot (Store size dst off src) e = record { jump = refl; callee = refl; goes = refl; cost = λ a. refl; returns = λ a. refl; exits = λ a cost. refl; result = refl; nowhere = refl; next = λ s. refl }
goes_straight c slot (StoreImm size dst off imm) e = record { jump = refl; callee = refl; goes = refl; cost = λ a. refl; returns = λ a. refl; exits = λ a cost. refl; result = refl; nowhere = refl; next = λ s. refl }
goes_straight c slot (Atomic wide op dst off src) e = record { jump = refl; callee = refl; goes = refl; cost = λ a. refl; returns = λ a. refl; exits = λ a cost. refl; result = refl; nowhere = refl; next = λ s. refl }
goes_straight c slot (Ja off) e = absurd (false≢true e)
goes_straight c slot (JaLong off) e = absurd (false≢true e)
goes_straight c slot (JumpIf cond width dst src off) e = absurd (false≢true e)
goes_straight c slot (CallLocal off) e = absurd (false≢true e)
goes_straight c slot Exit e = absurd (false≢true e)

-- ---- a spot without a label

pub unlabelled : (c : CertificateView) (slot : ℕ) (o : Option (Bor Label)) → is_some o ≡ false → option_map label_view (option_copied o) ≡ label_at c slot → label_at c slot ≡ None
unlabelled c slot None none e = sym e
unlabelled c slot (Some l) none e = absurd (true≢false none)

-- the spot behind a step
pub step_spot : (c : CertificateView) (here : Spot) (s : Step) (end : ℕ) (i : Insn) (reached : Option Here) → IsSpot c here → IsStep end s → IsStepFrom c here.slot i reached s → IsSpot c (record here { slot = s.next })
step_spot c here s end i reached spot step from =
    let at = step.next_slot in
    let slot = from.slot_is in
    let one = one_slot s.insn in
    let above : here.slot < s.next = omega (arith, at, slot, one) in
    let same : function_at c s.next ≡ function_at c here.slot = ap (λ k. function_at k s.next) (sym from.certificate) ∙ step.function ∙ ap₂ function_at from.certificate from.slot_is in
    record {
      function = spot.function ∙ sym same;
      label = spot.label ∙ sym (ap₂ label_at from.certificate from.slot_is) ∙ step.here ∙ sym (ap (λ k. label_at k s.next) (sym from.certificate) ∙ step.next);
      limited = spot.limited;
      quiet = λ n later high. let h = spot.quiet n (omega (arith, above, later)) high in (h.0, h.1 ∙ sym same);
    }

pub reached_so : (o : Option Here) (h : Here) (m n : ℕ) → o ≡ Some h → m ≡ n → IfSome o (λ k. IsReaching m k) → IsReaching n h
reached_so o h m n e at valid = subst (λ k. IsReaching k h) at (subst (λ q. IfSome q (λ k. IsReaching m k)) e valid)

-- ---- which conditions can't fail

never_passes : {A : Type 0} (o : Option A) → some_passes (λ x. false) o ≡ false
never_passes None = refl
never_passes (Some x) = refl

lies_in_own : (o : Option FunctionView) → some_passes (λ f. is_not (option_map (λ g. g.first) o) f.first) o ≡ false
lies_in_own None = refl
lies_in_own (Some f) = ap not (eq-eqb f.first f.first refl)

none_of_none : IsLeastIn [] None
none_of_none a m = let h = m.1 in omega arith

module _ (p : Instructions) (s : Step) (w : IsStep (slots p.list) s) where
  abbrev c : CertificateView
  c = s.certificate.now

  abbrev slot : ℕ
  slot = s.slot

  abbrev i : Insn
  i = s.insn

  abbrev next : ℕ
  next = slot + slot_count i

  no_label : label_at c next ≡ None
  no_label = ap (label_at c) (sym w.next_slot) ∙ w.next

  own_function : function_at c next ≡ function_at c slot
  own_function = ap (function_at c) (sym w.next_slot) ∙ w.function

  not_last : (next ≡ slots p.list → ⊥)
  not_last same = let inside = w.inside in let at = w.next_slot in absurd (omega (arith, inside, at, same))

  g : GoesOn c slot i
  g = goes_straight c slot i w.straight

  arrives_so : (a : Arrival) → arrives c slot (Some a) ≡ Some a
  arrives_so a = ap (λ l. arrives_at l (Some a)) w.here

  leads_on : next_slot p (visit slot i) ≡ Some next
  leads_on =
      ap (λ b. if b && not (next == slots p.list) then Some next else None) g.goes
      ∙ ap (λ b. if not b then Some next else None) (ne_eqb next (slots p.list) not_last)

  lacks_none : lacks_label c (visit slot i) ≡ false
  lacks_none = ap (some_passes (λ t. is_none (label_at c t))) g.jump

  calls_none : calls_no_deeper c (visit slot i) ≡ false
  calls_none = ap (λ k. some_passes (λ f. some_passes (λ h. nat_le f.depth h.depth) k) (function_at c slot)) g.callee ∙ never_passes (function_at c slot)

  is_reached : (a : Arrival) → never_reached c slot (Some a) ≡ false
  is_reached a = ap (λ o. is_none o && not (some_passes (λ l. is_none (tightened l.state)) (label_at c slot))) (arrives_so a)

  stays : leaves_function p c (visit slot i) ≡ false
  stays =
      ap₂ (λ x y. x || y)
      (ap (λ t. some_passes (λ f. leaves_for c f t || leaves_for c f (next_slot p (visit slot i))) (function_at c slot)) g.jump
      ∙ ap (λ t. some_passes (λ f. leaves_for c f t) (function_at c slot)) leads_on
      ∙ ap (λ o. some_passes (λ f. is_not (option_map (λ h. h.first) o) f.first) (function_at c slot)) own_function
      ∙ lies_in_own (function_at c slot)) g.nowhere

  enters_none : (a : Arrival) → enters_wrongly c (visit slot i) a ≡ false
  enters_none a = ap (some_passes (λ h. some_passes (λ l. not (state_entails (callee_state a.state) l.state)) (label_at c h.first))) g.callee

  one_edge : (t : AbstractState) → edges_of c slot i t ≡ (record { slot = next; state = t } ∷ [])
  one_edge t =
      ap (λ to. edge_to to (jump_state slot i t) ++ edge_to (Some next) (next_of c slot i t)) g.jump
      ∙ ap (edge_to (Some next)) (g.next t)

  none_refused : (t : AbstractState) → list_any (is_refused_by c) (edges_of c slot i t) ≡ false
  none_refused t = ap (list_any (is_refused_by c)) (one_edge t) ∙ ap (λ o. some_passes (λ l. not (state_entails t l.state)) o || false) no_label

  none_unpaid : (old : LabelView) (cost : Option ℤ) (t : AbstractState) → list_any (unpaid_from c old cost) (edges_of c slot i t) ≡ false
  none_unpaid old cost t =
      ap (list_any (unpaid_from c old cost)) (one_edge t)
      ∙ ap (λ o. some_passes (λ new. is_negative_if (option_and_then (λ spent. least_slack (budget old) (at_label old) spent t (budget new)) cost)) o || false) no_label

  none_compared : (t : AbstractState) → count_by (leads_into_label c) (edges_of c slot i t) ≡ 0
  none_compared t = ap (count_by (leads_into_label c)) (one_edge t) ∙ ap (λ o. count_by (λ (e : Edge). is_some o) (record { slot = next; state = t } ∷ [])) no_label

  -- ---- the refusal

  pub straight_least : (o : Option Arrival) (a : Arrival) (r : Option (ℕ × ℕ)) → o ≡ Some a → IsLeastIn (flaws_with p c slot i (Some a)) r → IsLeastIn (visit_flaws p c (visit_of c slot i o)) r
  straight_least o a r e h =
      subst (λ q. IsLeastIn (visit_flaws p c (visit_of c slot i q)) r) (sym e)
      (visit_refused p c slot i (Some a) (Some a) false false false false r (sym lacks_none) (sym (arrives_so a)) (sym calls_none) (sym (is_reached a)) (sym stays)
      (least_beside slot 1 10 11 12 false false false false (flaws_with p c slot i (Some a)) r refl h))

  -- ---- the three ends

  pub ends_dead : (t t' u : AbstractState) (h : Here) (alive : Bool) → alive ≡ false → outcome_told (Ok alive) t' ≡ transfer p.order i c.least t → IsJudgment p c slot i (arrival_of t h) (record { state = u; here = None }) (record { not_entailed = false; over_budget = false; past_end = false })
  ends_dead t t' u h alive dead told =
      dead_judged p c slot i t h t' u alive false false false (cost_after c slot i (arrival_of t h)) dead told refl (sym (enters_none (arrival_of t h))) (sym (g.returns (arrival_of t h))) (sym (g.exits (arrival_of t h) (cost_after c slot i (arrival_of t h))))

  pub ends_live : (t t' : AbstractState) (h : Here) (alive : Bool) (cost : Option ℤ) → alive ≡ true → outcome_told (Ok alive) t' ≡ transfer p.order i c.least t → cost ≡ option_map (λ spent. spent +ℤ pos 1) h.cost → IsReaching next (record h { cost = cost }) → IsJudgment p c slot i (arrival_of t h) (record { state = t'; here = Some (record h { cost = cost }) }) (record { not_entailed = false; over_budget = false; past_end = false })
  ends_live t t' h alive cost live told spent valid =
      pass_judged p c slot i t h t' t' alive false false false false false true false cost live told (spent ∙ sym (g.cost (arrival_of t h))) (sym (enters_none (arrival_of t h))) (sym (g.returns (arrival_of t h))) (sym (g.exits (arrival_of t h) cost)) (sym (none_refused t')) (sym (none_unpaid (label_view h.label.now) cost t')) (sym (g.next t')) refl
      (sym (ne_eqb next (slots p.list) not_last)) valid

  none_flawed : (a : Arrival) (walk : Walk) → IsJudgment p c slot i a walk (record { not_entailed = false; over_budget = false; past_end = false }) → IsLeastIn (flaws_with p c slot i (Some a)) None
  none_flawed a walk j = sound_least p c slot i a false false false None j.no_fault j.not_entailed j.over_budget j.past_end none_of_none

  pub straight_sound : (o : Option Arrival) (a : Arrival) (walk : Walk) → o ≡ Some a → IsJudgment p c slot i a walk (record { not_entailed = false; over_budget = false; past_end = false }) → IsLeastIn (visit_flaws p c (visit_of c slot i o)) None
  straight_sound o a walk e j = straight_least o a None e (none_flawed a walk j)

  -- ---- what goes on

  passed_so : (o : Option Arrival) (a : Arrival) → o ≡ Some a → passed_after p c slot i o ≡ passed_with p c slot i (Some a)
  passed_so o a e = ap (passed_after p c slot i) e ∙ ap (passed_with p c slot i) (arrives_so a)

  pub straight_passed : (o : Option Arrival) (a : Arrival) (walk : Walk) → o ≡ Some a → IsJudgment p c slot i a walk (record { not_entailed = false; over_budget = false; past_end = false }) → walk_of walk ≡ passed_after p c slot i o
  straight_passed o a walk e j =
      j.passed ∙ sym (passed_so o a e ∙ ap (λ q. option_and_then (passed_on p c slot i) (if is_none q then Some a else None)) j.no_fault)

  pub straight_stopped : (o : Option Arrival) (a : Arrival) (n : ℕ) → o ≡ Some a → fault_of c.least a.state i ≡ Some n → None ≡ passed_after p c slot i o
  straight_stopped o a n e fault =
      sym (passed_so o a e ∙ ap (λ q. option_and_then (passed_on p c slot i) (if is_none q then Some a else None)) fault)

  -- ---- the work

  enters_nothing : one_if (enters_label c (visit slot i)) ≡ 0
  enters_nothing = ap (λ k. one_if (is_some (option_and_then (λ h. label_at c h.first) k))) g.callee

  returns_nothing : one_if (returns_result c (visit slot i) i) ≡ 0
  returns_nothing = ap one_if g.result

  worked_so : (o : Option Arrival) (a : Arrival) (old : Counts) → o ≡ Some a → worked_at p c (visit_with slot i (Some a)) old ≡ worked_at p c (visit_of c slot i o) old
  worked_so o a old e = sym (ap (λ q. worked_at p c (visit_of c slot i q) old) e ∙ ap (λ q. worked_at p c (visit_with slot i q) old) (arrives_so a))

  -- nothing is compared before the transfer
  before : (old : Counts) (n : ℕ) → n ≡ 0 → old ≡ compared n old
  before old n e = sym (ap (λ k. compared k old) e)

  pub fault_counted : (o : Option Arrival) (a : Arrival) (old new : Counts) (n : ℕ) → o ≡ Some a → new ≡ with_transfer old → fault_of c.least a.state i ≡ Some n → new ≡ worked_at p c (visit_of c slot i o) old
  fault_counted o a old new n e counts fault =
      fault_worked p c slot i a old old old new n (before old _ enters_nothing) (before old _ returns_nothing) counts fault ∙ worked_so o a old e

  pub dead_counted : (o : Option Arrival) (a : Arrival) (t' : AbstractState) (alive : Bool) (old new : Counts) → o ≡ Some a → new ≡ with_transfer old → alive ≡ false → outcome_told (Ok alive) t' ≡ transfer p.order i c.least a.state → new ≡ worked_at p c (visit_of c slot i o) old
  dead_counted o a t' alive old new e counts dead told =
      dead_worked p c slot i a t' alive old old old new (before old _ enters_nothing) (before old _ returns_nothing) counts dead told ∙ worked_so o a old e

  pub live_counted : (o : Option Arrival) (a : Arrival) (t' : AbstractState) (alive : Bool) (old new : Counts) → o ≡ Some a → new ≡ with_transfer old → alive ≡ true → outcome_told (Ok alive) t' ≡ transfer p.order i c.least a.state → new ≡ worked_at p c (visit_of c slot i o) old
  live_counted o a t' alive old new e counts live told =
      live_worked p c slot i a t' alive old old old new new (before old _ enters_nothing) (before old _ returns_nothing) counts live told (before new _ (none_compared t')) ∙ worked_so o a old e
