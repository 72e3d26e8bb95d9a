-- What a visit finds of an instruction that a state reaches.
use Rattle.std.proofs.Common.{◌≡◌, ℕ, List, [], count_by, ◌+◌, ◌*◌, ◌^◌, ◌≤◌, Bool, true, false, ◌&&◌, ◌||◌, Option, Some, None, refl, sym, ap, ap₂, subst, ◌∙◌, arith, ℤ}
use Rattle.std.specs.Prelude.{if◌then◌else◌, is_none, option_map, is_some, IfSome, Ok, Err, ◌==◌}
use Rattle.std.specs.List.{list_any}
use Rattle.std.proofs.lemmas.Option.{IfSome_then}
use Rattle.std.proofs.lemmas.Int.{ints}
use Rattle.bpf_insn.specs.declared.order.Order.{Order}
use Rattle.bpf_insn.specs.declared.instruction.Insn.{Insn}
use Rattle.bpf_insn.specs.Instruction.{Instructions, slots, slot_count}
use Rattle.bpf_state.specs.declared.fault.StateFault.{StateFault}
use Rattle.bpf_state.specs.State.{AbstractState}
use Rattle.bpf_state.specs.Fault.{fault_of}
use Rattle.bpf_state.specs.Transfer.{after, transfer, Faulty, Dead, Live, live, unless}
use Rattle.bpf_state.specs.Work.{Counts, counted, with_transfer}
use Rattle.bpf_state.specs.Answer.{outcome_told, edge_told}
use Rattle.bpf_state.specs.Condition.{fault_number}
use Rattle.bpf_cert.specs.View.{CertificateView, LabelView, label_view}
use Rattle.bpf_safety.specs.Flow.{Arrival, Visit, sound_arrival, next_state, cost_after}
use Rattle.bpf_safety.specs.Work.{leads_into_label, edges_from, one_if, enters_label, returns_result}
use Rattle.bpf_safety.specs.Flaw.{Edge, edges, is_negative_if, is_refused_by, is_unpaid, enters_wrongly, returns_wrongly, exits_unpaid, is_not_entailed, is_over_budget}
use Rattle.bpf_check.specs.code.Slack.{IsWithin}
use Rattle.bpf_check.specs.code.Arrivals.{arrival_of, IsReaching}
use Rattle.bpf_check.specs.code.Edges.{visit, next_of, edges_of, unpaid_from, seen_of, edge_seen, jump_seen, next_seen}
use Rattle.bpf_check.specs.code.Visits.{IsJudgment, judged_of, visit_with}
use Rattle.bpf_check.specs.code.Counting.{counted_times, compared, worked_at}
use Rattle.bpf_check.specs.declared.arrival.Here.{Here}
use Rattle.bpf_check.specs.declared.judge.JudgedEdge.{JudgedEdge}
use Rattle.bpf_check.specs.declared.visit.Judged.{Judged}
use Rattle.bpf_check.proofs.CountLemmas.{times_more}
use Rattle.bpf_check.proofs.EdgeLemmas.{edges_live, edges_dead, next_live, next_dead, jump_live, jump_dead}
use Rattle.bpf_check.proofs.PassLemmas.{one_slot}

-- a cost at the next slot fits
pub cost_fits : (slot : ℕ) (o : Option ℤ) → slot ≤ 65535 → IfSome o (λ z. IsWithin ((slot + 1) * 2 ^ 94) z) → IfSome o (λ z. IsWithin (2 ^ 112) z)
cost_fits slot o few h = IfSome_then o h (λ z w. let low = w.low in let high = w.high in record { low = omega (arith, ints); high = omega (arith, ints) })

-- ---- what a transfer told

fault_told : (n : ℕ) (o : Option ℕ) (b : Option AbstractState) → Faulty n ≡ unless o (live b) → o ≡ Some n
fault_told n (Some m) b e = cc
fault_told n None None e = cc
fault_told n None (Some s) e = cc

pub transfer_fault : (order : Order) (i : Insn) (least : ℕ) (s s' : AbstractState) (f : StateFault) → outcome_told (Err f) s' ≡ transfer order i least s → fault_of least s i ≡ Some (fault_number f)
transfer_fault order i least s s' f e = fault_told (fault_number f) (fault_of least s i) (after order i s) e

alive_told : (s' : AbstractState) (o : Option ℕ) (b : Option AbstractState) → Live s' ≡ unless o (live b) → (o ≡ None) × (b ≡ Some s')
alive_told s' (Some m) b e = cc
alive_told s' None None e = cc
alive_told s' None (Some s) e = (refl, cc)

dead_told : (o : Option ℕ) (b : Option AbstractState) → Dead ≡ unless o (live b) → (o ≡ None) × (b ≡ None)
dead_told (Some m) b e = cc
dead_told None None e = (refl, refl)
dead_told None (Some s) e = cc

pub transfer_live : (order : Order) (i : Insn) (least : ℕ) (s s' : AbstractState) (alive : Bool) → alive ≡ true → outcome_told (Ok alive) s' ≡ transfer order i least s → (fault_of least s i ≡ None) × (after order i s ≡ Some s')
transfer_live order i least s s' true t e = alive_told s' (fault_of least s i) (after order i s) e
transfer_live order i least s s' false t e = cc

pub transfer_dead : (order : Order) (i : Insn) (least : ℕ) (s s' : AbstractState) (alive : Bool) → alive ≡ false → outcome_told (Ok alive) s' ≡ transfer order i least s → (fault_of least s i ≡ None) × (after order i s ≡ None)
transfer_dead order i least s s' true t e = cc
transfer_dead order i least s s' false t e = dead_told (fault_of least s i) (after order i s) e

and_false : (b : Bool) → false ≡ (b && false)
and_false true = refl
and_false false = refl

and_true : (b : Bool) → b ≡ (b && true)
and_true true = refl
and_true false = refl

-- ---- the three ends of a visit

pub dead_judged : (p : Instructions) (c : CertificateView) (slot : ℕ) (i : Insn) (s : AbstractState) (h : Here) (s' t : AbstractState) (alive enters returns exits : Bool) (cost : Option ℤ) → alive ≡ false → outcome_told (Ok alive) s' ≡ transfer p.order i c.least s → cost ≡ cost_after c slot i (arrival_of s h) → enters ≡ enters_wrongly c (visit slot i) (arrival_of s h) → returns ≡ returns_wrongly c (visit slot i) (arrival_of s h) i → exits ≡ exits_unpaid (visit slot i) (arrival_of s h) cost i → IsJudgment p c slot i (arrival_of s h) (record { state = t; here = None }) (record { not_entailed = enters || returns; over_budget = exits; past_end = false })
dead_judged p c slot i s h s' t alive enters returns exits cost dead told spent en re ex =
    let both = transfer_dead p.order i c.least s s' alive dead told in
    let no_next = next_dead p c slot i s both.1 in
    let no_edge = edges_dead p c slot i (arrival_of s h) both.1 in
    record {
      no_fault = both.0;
      passed = sym (ap (option_map (λ t. record (arrival_of s h) { state = t; cost = cost_after c slot i (arrival_of s h) })) no_next);
      valid = tt;
      not_entailed = ap₂ (λ x y. x || y) en re ∙ sym (ap (λ es. (list_any (is_refused_by c) es || enters_wrongly c (visit slot i) (arrival_of s h)) || returns_wrongly c (visit slot i) (arrival_of s h) i) no_edge);
      over_budget = ex ∙ ap (λ o. exits_unpaid (visit slot i) (arrival_of s h) o i) spent ∙ sym (ap (λ es. list_any (is_unpaid c (visit slot i) (arrival_of s h)) es || exits_unpaid (visit slot i) (arrival_of s h) (cost_after c slot i (arrival_of s h)) i) no_edge);
      past_end = and_false (slot + slot_count i == slots p.list) ∙ ap (λ o. (slot + slot_count i == slots p.list) && is_some o) (sym no_next);
    }

-- where no edge is live, the entry, the result and the exit are left
none_live : (c : CertificateView) (old : LabelView) (spent : Option ℤ) (to : ℕ) (cost left : Option ℤ) (alive enters returns : Bool) (next : JudgedEdge) → seen_of next ≡ edge_seen c old spent to None → ◌≡◌ {A = Judged} (record { not_entailed = enters || returns; over_budget = is_negative_if left; past_end = false }) (judged_of (record { cost = cost; is_alive = alive; jump = None; next = next; enters_wrongly = enters; returns_wrongly = returns; left_at_exit = left; past_end = false }))
none_live c old spent to cost left alive enters returns next seen = sym (ap (λ x. record { not_entailed = (x.is_refused || enters) || returns; over_budget = is_negative_if x.left || is_negative_if left; past_end = false }) seen)

pub dead_seen : (p : Instructions) (c : CertificateView) (slot : ℕ) (i : Insn) (s : AbstractState) (h : Here) (s' t : AbstractState) (alive enters returns : Bool) (left cost : Option ℤ) (next : JudgedEdge) (to : ℕ) → seen_of next ≡ edge_seen c (label_view h.label.now) cost to None → alive ≡ false → outcome_told (Ok alive) s' ≡ transfer p.order i c.least s → cost ≡ cost_after c slot i (arrival_of s h) → enters ≡ enters_wrongly c (visit slot i) (arrival_of s h) → returns ≡ returns_wrongly c (visit slot i) (arrival_of s h) i → is_negative_if left ≡ exits_unpaid (visit slot i) (arrival_of s h) cost i → IsJudgment p c slot i (arrival_of s h) (record { state = t; here = None }) (judged_of (record { cost = cost; is_alive = alive; jump = None; next = next; enters_wrongly = enters; returns_wrongly = returns; left_at_exit = left; past_end = false }))
dead_seen p c slot i s h s' t alive enters returns left cost next to seen dead told spent en re ex =
    subst (IsJudgment p c slot i (arrival_of s h) (record { state = t; here = None })) (none_live c (label_view h.label.now) cost to cost left alive enters returns next seen)
    (dead_judged p c slot i s h s' t alive enters returns (is_negative_if left) cost dead told spent en re ex)

-- what both ends of a live state share
record IsShared (p : Instructions) (c : CertificateView) (slot : ℕ) (i : Insn) (s : AbstractState) (h : Here) (s' : AbstractState) (refused unpaid enters returns exits : Bool) (cost : Option ℤ) : Type 0 where
  no_fault : fault_of c.least s i ≡ None
  next : next_state p c slot i s ≡ next_of c slot i s'
  not_entailed : ((refused || enters) || returns) ≡ is_not_entailed p c (visit slot i) (arrival_of s h)
  over_budget : (unpaid || exits) ≡ is_over_budget p c (visit slot i) (arrival_of s h)

shared : (p : Instructions) (c : CertificateView) (slot : ℕ) (i : Insn) (s : AbstractState) (h : Here) (s' : AbstractState) (alive refused unpaid enters returns exits : Bool) (cost : Option ℤ) → alive ≡ true → outcome_told (Ok alive) s' ≡ transfer p.order i c.least s → cost ≡ cost_after c slot i (arrival_of s h) → enters ≡ enters_wrongly c (visit slot i) (arrival_of s h) → returns ≡ returns_wrongly c (visit slot i) (arrival_of s h) i → exits ≡ exits_unpaid (visit slot i) (arrival_of s h) cost i → refused ≡ list_any (is_refused_by c) (edges_of c slot i s') → unpaid ≡ list_any (unpaid_from c (label_view h.label.now) cost) (edges_of c slot i s') → IsShared p c slot i s h s' refused unpaid enters returns exits cost
shared p c slot i s h s' alive refused unpaid enters returns exits cost is_alive told spent en re ex rf un =
    let both = transfer_live p.order i c.least s s' alive is_alive told in
    let same = edges_live p c slot i (arrival_of s h) s' both.1 in
    record {
      no_fault = both.0;
      next = next_live p c slot i s s' both.1;
      not_entailed = ap₂ (λ x y. x || y) (ap₂ (λ x y. x || y) (rf ∙ ap (list_any (is_refused_by c)) (sym same)) en) re;
      over_budget = ap₂ (λ x y. x || y) (un ∙ ap (λ o. list_any (unpaid_from c (label_view h.label.now) o) (edges_of c slot i s')) spent ∙ ap (list_any (is_unpaid c (visit slot i) (arrival_of s h))) (sym same)) (ex ∙ ap (λ o. exits_unpaid (visit slot i) (arrival_of s h) o i) spent);
    }

pub stop_judged : (p : Instructions) (c : CertificateView) (slot : ℕ) (i : Insn) (s : AbstractState) (h : Here) (s' s'' t : AbstractState) (alive refused unpaid enters returns exits goes : Bool) (cost : Option ℤ) → alive ≡ true → outcome_told (Ok alive) s' ≡ transfer p.order i c.least s → cost ≡ cost_after c slot i (arrival_of s h) → enters ≡ enters_wrongly c (visit slot i) (arrival_of s h) → returns ≡ returns_wrongly c (visit slot i) (arrival_of s h) i → exits ≡ exits_unpaid (visit slot i) (arrival_of s h) cost i → refused ≡ list_any (is_refused_by c) (edges_of c slot i s') → unpaid ≡ list_any (unpaid_from c (label_view h.label.now) cost) (edges_of c slot i s') → edge_told goes s'' ≡ next_of c slot i s' → goes ≡ false → IsJudgment p c slot i (arrival_of s h) (record { state = t; here = None }) (record { not_entailed = (refused || enters) || returns; over_budget = unpaid || exits; past_end = false })
stop_judged p c slot i s h s' s'' t alive refused unpaid enters returns exits goes cost is_alive told spent en re ex rf un leads stops =
    let all = shared p c slot i s h s' alive refused unpaid enters returns exits cost is_alive told spent en re ex rf un in
    let no_next : next_state p c slot i s ≡ None = all.next ∙ sym leads ∙ ap (λ b. edge_told b s'') stops in
    record {
      no_fault = all.no_fault;
      passed = sym (ap (option_map (λ t. record (arrival_of s h) { state = t; cost = cost_after c slot i (arrival_of s h) })) no_next);
      valid = tt;
      not_entailed = all.not_entailed;
      over_budget = all.over_budget;
      past_end = and_false (slot + slot_count i == slots p.list) ∙ ap (λ o. (slot + slot_count i == slots p.list) && is_some o) (sym no_next);
    }

pub pass_judged : (p : Instructions) (c : CertificateView) (slot : ℕ) (i : Insn) (s : AbstractState) (h : Here) (s' s'' : AbstractState) (alive refused unpaid enters returns exits goes last : Bool) (cost : Option ℤ) → alive ≡ true → outcome_told (Ok alive) s' ≡ transfer p.order i c.least s → cost ≡ cost_after c slot i (arrival_of s h) → enters ≡ enters_wrongly c (visit slot i) (arrival_of s h) → returns ≡ returns_wrongly c (visit slot i) (arrival_of s h) i → exits ≡ exits_unpaid (visit slot i) (arrival_of s h) cost i → refused ≡ list_any (is_refused_by c) (edges_of c slot i s') → unpaid ≡ list_any (unpaid_from c (label_view h.label.now) cost) (edges_of c slot i s') → edge_told goes s'' ≡ next_of c slot i s' → goes ≡ true → last ≡ (slot + slot_count i == slots p.list) → IsReaching (slot + slot_count i) (record h { cost = cost }) → IsJudgment p c slot i (arrival_of s h) (record { state = s''; here = Some (record h { cost = cost }) }) (record { not_entailed = (refused || enters) || returns; over_budget = unpaid || exits; past_end = last })
pass_judged p c slot i s h s' s'' alive refused unpaid enters returns exits goes last cost is_alive told spent en re ex rf un leads continues at_end valid =
    let all = shared p c slot i s h s' alive refused unpaid enters returns exits cost is_alive told spent en re ex rf un in
    let next : next_state p c slot i s ≡ Some s'' = all.next ∙ sym leads ∙ ap (λ b. edge_told b s'') continues in
    record {
      no_fault = all.no_fault;
      passed = ap (λ o. Some (record (arrival_of s h) { state = s''; cost = o })) spent ∙ sym (ap (option_map (λ t. record (arrival_of s h) { state = t; cost = cost_after c slot i (arrival_of s h) })) next);
      valid = valid;
      not_entailed = all.not_entailed;
      over_budget = all.over_budget;
      past_end = at_end ∙ and_true (slot + slot_count i == slots p.list) ∙ ap (λ o. (slot + slot_count i == slots p.list) && is_some o) (sym next);
    }

-- ---- what is seen of the edges, from in front of the instruction

pub dead_alive : (order : Order) (i : Insn) (least : ℕ) (s s' : AbstractState) (alive : Bool) → alive ≡ false → outcome_told (Ok alive) s' ≡ transfer order i least s → alive ≡ is_some (after order i s)
dead_alive order i least s s' alive dead told = dead ∙ sym (ap is_some (transfer_dead order i least s s' alive dead told).1)

pub live_alive : (order : Order) (i : Insn) (least : ℕ) (s s' : AbstractState) (alive : Bool) → alive ≡ true → outcome_told (Ok alive) s' ≡ transfer order i least s → alive ≡ is_some (after order i s)
live_alive order i least s s' alive is_alive told = is_alive ∙ sym (ap is_some (transfer_live order i least s s' alive is_alive told).1)

pub dead_jump : (order : Order) (c : CertificateView) (old : LabelView) (cost : Option ℤ) (slot : ℕ) (i : Insn) (s s' : AbstractState) (alive : Bool) → alive ≡ false → outcome_told (Ok alive) s' ≡ transfer order i c.least s → None ≡ jump_seen c old cost slot i s
dead_jump order c old cost slot i s s' alive dead told = jump_dead order c old cost slot i s (transfer_dead order i c.least s s' alive dead told).1

pub live_jump : (order : Order) (c : CertificateView) (old : LabelView) (cost : Option ℤ) (slot : ℕ) (i : Insn) (s s' : AbstractState) (alive : Bool) → alive ≡ true → outcome_told (Ok alive) s' ≡ transfer order i c.least s → jump_seen c old cost slot i s' ≡ jump_seen c old cost slot i s
live_jump order c old cost slot i s s' alive is_alive told = jump_live order c old cost slot i s s' (transfer_live order i c.least s s' alive is_alive told).1

pub dead_next : (p : Instructions) (c : CertificateView) (old : LabelView) (cost : Option ℤ) (slot to : ℕ) (i : Insn) (s s' : AbstractState) (alive : Bool) → alive ≡ false → outcome_told (Ok alive) s' ≡ transfer p.order i c.least s → to ≡ slot + slot_count i → edge_seen c old cost to None ≡ edge_seen c old cost (slot + slot_count i) (next_state p c slot i s)
dead_next p c old cost slot to i s s' alive dead told at = ap₂ (edge_seen c old cost) at (sym (next_dead p c slot i s (transfer_dead p.order i c.least s s' alive dead told).1))

pub live_next : (p : Instructions) (c : CertificateView) (old : LabelView) (cost : Option ℤ) (slot : ℕ) (i : Insn) (s s' : AbstractState) (alive : Bool) → alive ≡ true → outcome_told (Ok alive) s' ≡ transfer p.order i c.least s → next_seen c old cost slot i s' ≡ edge_seen c old cost (slot + slot_count i) (next_state p c slot i s)
live_next p c old cost slot i s s' alive is_alive told = ap (edge_seen c old cost (slot + slot_count i)) (sym (next_live p c slot i s s' (transfer_live p.order i c.least s s' alive is_alive told).1))

-- ---- the work of a visit

edges_with_fault : (p : Instructions) (c : CertificateView) (v : Visit) (i : Insn) (a : Arrival) (n : ℕ) → fault_of c.least a.state i ≡ Some n → edges_from p c v (sound_arrival c i (Some a)) ≡ []
edges_with_fault p c v i a n e = ap (λ o. edges_from p c v (if is_none o then Some a else None)) e

edges_without : (p : Instructions) (c : CertificateView) (v : Visit) (i : Insn) (a : Arrival) → fault_of c.least a.state i ≡ None → edges_from p c v (sound_arrival c i (Some a)) ≡ edges p c v a
edges_without p c v i a e = ap (λ o. edges_from p c v (if is_none o then Some a else None)) e

-- the work so far: of the entry state, of the result, and of the transfer
record IsWorked (c : CertificateView) (slot : ℕ) (i : Insn) (old entered returned transferred : Counts) : Type 0 where
  enters : entered ≡ compared (one_if (enters_label c (visit slot i))) old
  returns : returned ≡ compared (one_if (returns_result c (visit slot i) i)) entered
  transfers : transferred ≡ with_transfer returned

worked_on : (p : Instructions) (c : CertificateView) (slot : ℕ) (i : Insn) (a : Arrival) (old w1 w2 w3 : Counts) (es : List Edge) → IsWorked c slot i old w1 w2 w3 → edges_from p c (visit_with slot i (Some a)) (sound_arrival c i (Some a)) ≡ es → compared (count_by (leads_into_label c) es) w3 ≡ worked_at p c (visit_with slot i (Some a)) old
worked_on p c slot i a old w1 w2 w3 es w e =
    let x = one_if (enters_label c (visit slot i)) in
    let y = one_if (returns_result c (visit slot i) i) in
    let there : w3 ≡ with_transfer (compared y (compared x old)) = w.transfers ∙ ap with_transfer (w.returns ∙ ap (compared y) w.enters) in
    let sum : counted_times (count_by (leads_into_label c) es) (counted_times y (counted_times x old.comparisons)) ≡ counted_times (x + y + count_by (leads_into_label c) es) old.comparisons = ap (counted_times (count_by (leads_into_label c) es)) (times_more x y old.comparisons) ∙ times_more (x + y) (count_by (leads_into_label c) es) old.comparisons in
    ap (compared (count_by (leads_into_label c) es)) there
    ∙ ap (λ n. record { transfers = counted old.transfers; comparisons = n }) (sum ∙ ap (λ fs. counted_times (x + y + count_by (leads_into_label c) fs) old.comparisons) (sym e))

pub fault_worked : (p : Instructions) (c : CertificateView) (slot : ℕ) (i : Insn) (a : Arrival) (old w1 w2 w3 : Counts) (n : ℕ) → w1 ≡ compared (one_if (enters_label c (visit slot i))) old → w2 ≡ compared (one_if (returns_result c (visit slot i) i)) w1 → w3 ≡ with_transfer w2 → fault_of c.least a.state i ≡ Some n → w3 ≡ worked_at p c (visit_with slot i (Some a)) old
fault_worked p c slot i a old w1 w2 w3 n e1 e2 e3 fault = worked_on p c slot i a old w1 w2 w3 [] (record { enters = e1; returns = e2; transfers = e3 }) (edges_with_fault p c (visit_with slot i (Some a)) i a n fault)

pub dead_worked : (p : Instructions) (c : CertificateView) (slot : ℕ) (i : Insn) (a : Arrival) (s' : AbstractState) (alive : Bool) (old w1 w2 w3 : Counts) → w1 ≡ compared (one_if (enters_label c (visit slot i))) old → w2 ≡ compared (one_if (returns_result c (visit slot i) i)) w1 → w3 ≡ with_transfer w2 → alive ≡ false → outcome_told (Ok alive) s' ≡ transfer p.order i c.least a.state → w3 ≡ worked_at p c (visit_with slot i (Some a)) old
dead_worked p c slot i a s' alive old w1 w2 w3 e1 e2 e3 dead told =
    let both = transfer_dead p.order i c.least a.state s' alive dead told in
    worked_on p c slot i a old w1 w2 w3 [] (record { enters = e1; returns = e2; transfers = e3 }) (edges_without p c (visit_with slot i (Some a)) i a both.0 ∙ edges_dead p c slot i a both.1)

pub live_worked : (p : Instructions) (c : CertificateView) (slot : ℕ) (i : Insn) (a : Arrival) (s' : AbstractState) (alive : Bool) (old w1 w2 w3 w4 : Counts) → w1 ≡ compared (one_if (enters_label c (visit slot i))) old → w2 ≡ compared (one_if (returns_result c (visit slot i) i)) w1 → w3 ≡ with_transfer w2 → alive ≡ true → outcome_told (Ok alive) s' ≡ transfer p.order i c.least a.state → w4 ≡ compared (count_by (leads_into_label c) (edges_of c slot i s')) w3 → w4 ≡ worked_at p c (visit_with slot i (Some a)) old
live_worked p c slot i a s' alive old w1 w2 w3 w4 e1 e2 e3 is_alive told e4 =
    let both = transfer_live p.order i c.least a.state s' alive is_alive told in
    e4 ∙ worked_on p c slot i a old w1 w2 w3 (edges_of c slot i s') (record { enters = e1; returns = e2; transfers = e3 }) (edges_without p c (visit_with slot i (Some a)) i a both.0 ∙ edges_live p c slot i a s' both.1)

-- ---- the next slot

wider : (slot n : ℕ) (z : ℤ) → 1 ≤ n → IsWithin ((slot + 1) * 2 ^ 94) z → IsWithin ((slot + n) * 2 ^ 94) z
wider slot n z more w = let low = w.low in let high = w.high in record { low = omega (arith, ints); high = omega (arith, ints) }

pub next_cost : (slot : ℕ) (i : Insn) (o : Option ℤ) → IfSome o (λ z. IsWithin ((slot + 1) * 2 ^ 94) z) → IfSome o (λ z. IsWithin ((slot + slot_count i) * 2 ^ 94) z)
next_cost slot i o h = IfSome_then o h (λ z w. wider slot (slot_count i) z (one_slot i) w)
