-- Edges, from the state before an instruction and from the one after it.
use Rattle.std.proofs.Common.{◌≡◌, ℕ, ℤ, ◌+◌, ◌<◌, Bool, true, false, ◌||◌, cond, List, [], ◌∷◌, ◌++◌, length, get_or, Option, Some, None, refl, sym, ap, ap₂, subst, ◌∙◌, rules}
use Rattle.std.specs.List.{list_any}
use Rattle.std.specs.Prelude.{count_by, option_and_then, option_map}
use Rattle.std.proofs.lemmas.List.Sums.{sum_by-append}
use Rattle.bpf_state.specs.Work.{Counts}
use Rattle.bpf_state.specs.Answer.{edge_told}
use Rattle.bpf_check.specs.code.Counting.{counted_times, compared}
use Rattle.bpf_check.proofs.CountLemmas.{times_more}
use Rattle.std.proofs.lemmas.Option.{none-some, same_Some}
use Rattle.bpf_insn.specs.Instruction.{Instructions, slot_count}
use Rattle.bpf_insn.specs.declared.order.Order.{Order}
use Rattle.bpf_insn.specs.declared.instruction.Insn.{Insn}
use Rattle.bpf_insn.specs.declared.instruction.Insn.TheVariants.{Alu, Neg, MovSx, End, LoadImm64, Load, LoadSx, Store, StoreImm, Atomic, Ja, JaLong, JumpIf, CallLocal, Exit}
use Rattle.bpf_state.specs.State.{AbstractState, IsPlace}
use Rattle.bpf_state.specs.declared.known.Place.{Place}
use Rattle.bpf_state.specs.declared.known.Place.TheVariants.{Register, Slot}
use Rattle.bpf_state.specs.Transfer.{after, branch}
use Rattle.bpf_state.specs.Fault.{some_passes}
use Rattle.bpf_cert.specs.declared.certificate.Term.{Term}
use Rattle.bpf_cert.specs.declared.certificate.Measure.{Measure}
use Rattle.bpf_cert.specs.declared.certificate.Measure.TheVariants.{Down, Up}
use Rattle.bpf_cert.specs.View.{LabelView, CertificateView}
use Rattle.bpf_cert.specs.Limits.{is_limited_term, is_limited_label}
use Rattle.bpf_check.proofs.BudgetLemmas.{limited_here}
use Rattle.bpf_safety.specs.Labels.{label_at}
use Rattle.bpf_safety.specs.Budget.{budget, least_slack, place_of}
use Rattle.bpf_check.specs.code.Slack.{at_label}
use Rattle.bpf_safety.specs.Flow.{Arrival, next_state, jump_target, jump_state}
use Rattle.bpf_safety.specs.Flaw.{Edge, edge_to, edges, is_negative_if, is_refused_by}
use Rattle.bpf_check.specs.code.Edges.{EdgeSeen, visit, next_of, edges_of, slack_to, slack_from, unpaid_from, is_unpaid, has_refused, has_unpaid, seen_of, edge_seen, jump_seen, next_seen}
use Rattle.bpf_check.specs.declared.judge.JudgedEdge.{JudgedEdge}
use Rattle.bpf_check.specs.declared.site.Spot.{Spot}

pub list_any-append : {A : Type 0} (p : A → Bool) (xs ys : List A) → list_any p (xs ++ ys) ≡ (list_any p xs || list_any p ys)
list_any-append p [] ys = refl
list_any-append p (x ∷ xs) ys = or_step (p x) (list_any-append p xs ys)
  where
    or_step : (b : Bool) → list_any p (xs ++ ys) ≡ (list_any p xs || list_any p ys) → (b || list_any p (xs ++ ys)) ≡ ((b || list_any p xs) || list_any p ys)
    or_step true e = refl
    or_step false e = e

or_false : (b : Bool) → (b || false) ≡ b
or_false true = refl
or_false false = refl

-- an edge is unpaid where what is left is below 0
negative_if : (old : LabelView) (cost : Option ℤ) (s : AbstractState) (o : Option LabelView) → is_negative_if (slack_to old cost s o) ≡ some_passes (λ new. is_negative_if (option_and_then (λ spent. least_slack (budget old) (at_label old) spent s (budget new)) cost)) o
negative_if old cost s None = refl
negative_if old cost s (Some new) = refl

unpaid_is : (c : CertificateView) (old : LabelView) (cost left : Option ℤ) (e : Edge) → left ≡ slack_from c old cost e → is_negative_if left ≡ unpaid_from c old cost e
unpaid_is c old cost left e same = ap is_negative_if same ∙ negative_if old cost e.state (label_at c e.slot)

-- ---- yes and no follow from what is seen of an edge

refused_one : (c : CertificateView) (old : LabelView) (cost : Option ℤ) (j : Option JudgedEdge) (to : Option ℕ) (o : Option AbstractState) → option_map seen_of j ≡ option_map (λ t. edge_seen c old cost t o) to → has_refused j ≡ list_any (is_refused_by c) (edge_to to o)
refused_one c old cost None None o e = refl
refused_one c old cost None (Some t) o e = absurd (none-some (edge_seen c old cost t o) e)
refused_one c old cost (Some j) None o e = absurd (none-some (seen_of j) (sym e))
refused_one c old cost (Some j) (Some t) None e = ap (λ x. x.is_refused) (same_Some (seen_of j) (edge_seen c old cost t None) e)
refused_one c old cost (Some j) (Some t) (Some s) e = ap (λ x. x.is_refused) (same_Some (seen_of j) (edge_seen c old cost t (Some s)) e) ∙ sym (or_false (is_refused_by c (record { slot = t; state = s })))

unpaid_one : (c : CertificateView) (old : LabelView) (cost : Option ℤ) (j : Option JudgedEdge) (to : Option ℕ) (o : Option AbstractState) → option_map seen_of j ≡ option_map (λ t. edge_seen c old cost t o) to → has_unpaid j ≡ list_any (unpaid_from c old cost) (edge_to to o)
unpaid_one c old cost None None o e = refl
unpaid_one c old cost None (Some t) o e = absurd (none-some (edge_seen c old cost t o) e)
unpaid_one c old cost (Some j) None o e = absurd (none-some (seen_of j) (sym e))
unpaid_one c old cost (Some j) (Some t) None e = ap (λ x. is_negative_if x.left) (same_Some (seen_of j) (edge_seen c old cost t None) e)
unpaid_one c old cost (Some j) (Some t) (Some s) e =
    let edge : Edge = record { slot = t; state = s } in
    unpaid_is c old cost (option_map (λ x. x.left) j.slack) edge (ap (λ x. x.left) (same_Some (seen_of j) (edge_seen c old cost t (Some s)) e))
    ∙ sym (or_false (unpaid_from c old cost edge))

pub all_refused : (c : CertificateView) (old : LabelView) (cost : Option ℤ) (slot : ℕ) (i : Insn) (s : AbstractState) (j : Option JudgedEdge) (n : JudgedEdge) → option_map seen_of j ≡ jump_seen c old cost slot i s → seen_of n ≡ next_seen c old cost slot i s → (has_refused j || n.is_refused) ≡ list_any (is_refused_by c) (edges_of c slot i s)
all_refused c old cost slot i s j n jump next =
    ap₂ (λ x y. x || y) (refused_one c old cost j (jump_target slot i) (jump_state slot i s) jump) (refused_one c old cost (Some n) (Some (slot + slot_count i)) (next_of c slot i s) (ap Some next))
    ∙ sym (list_any-append (is_refused_by c) (edge_to (jump_target slot i) (jump_state slot i s)) (edge_to (Some (slot + slot_count i)) (next_of c slot i s)))

pub all_unpaid : (c : CertificateView) (old : LabelView) (cost : Option ℤ) (slot : ℕ) (i : Insn) (s : AbstractState) (j : Option JudgedEdge) (n : JudgedEdge) → option_map seen_of j ≡ jump_seen c old cost slot i s → seen_of n ≡ next_seen c old cost slot i s → (has_unpaid j || is_unpaid n) ≡ list_any (unpaid_from c old cost) (edges_of c slot i s)
all_unpaid c old cost slot i s j n jump next =
    ap₂ (λ x y. x || y) (unpaid_one c old cost j (jump_target slot i) (jump_state slot i s) jump) (unpaid_one c old cost (Some n) (Some (slot + slot_count i)) (next_of c slot i s) (ap Some next))
    ∙ sym (list_any-append (unpaid_from c old cost) (edge_to (jump_target slot i) (jump_state slot i s)) (edge_to (Some (slot + slot_count i)) (next_of c slot i s)))

-- the edge to the next instruction, as it goes there or not
pub next_is : (c : CertificateView) (old : LabelView) (cost : Option ℤ) (slot to : ℕ) (o : Option AbstractState) (s : AbstractState) (goes b : Bool) (x : EdgeSeen) → goes ≡ b → edge_told goes s ≡ o → to ≡ slot → x ≡ edge_seen c old cost to (edge_told b s) → x ≡ edge_seen c old cost slot o
next_is c old cost slot to o s goes b x is told at seen = seen ∙ ap₂ (edge_seen c old cost) at (sym (ap (λ g. edge_told g s) is) ∙ told)

-- the edge of a conditional jump that no state goes along
pub jump_is_dead : (c : CertificateView) (old : LabelView) (cost : Option ℤ) (slot : ℕ) (i : Insn) (s t t' : AbstractState) (j : Option Spot) (to : Spot) (taken : Bool) (x : EdgeSeen) → option_map (λ p. p.slot) j ≡ jump_target slot i → j ≡ Some to → jump_state slot i s ≡ branch i true s → t ≡ s → edge_told taken t' ≡ branch i true t → taken ≡ false → x ≡ edge_seen c old cost to.slot None → Some x ≡ jump_seen c old cost slot i s
jump_is_dead c old cost slot i s t t' j to taken x target is state same told dead seen =
    let there : Some to.slot ≡ jump_target slot i = sym (ap (option_map (λ p. p.slot)) is) ∙ target in
    let none : None ≡ jump_state slot i s = sym (ap (λ b. edge_told b t') dead) ∙ told ∙ ap (branch i true) same ∙ sym state in
    ap Some seen ∙ ap₂ (λ n o. option_map (λ m. edge_seen c old cost m o) n) there none

-- the comparisons on both
both_counted : (p : Edge → Bool) (jump : List Edge) (slot : ℕ) (o : Option AbstractState) (s : AbstractState) → Some s ≡ o → count_by p jump + count_by p (record { slot = slot; state = s } ∷ []) ≡ count_by p (jump ++ edge_to (Some slot) o)
both_counted p jump slot o s e = sym (sum_by-append (λ x. cond (p x) 1 0) jump (edge_to (Some slot) o) ∙ ap (λ q. count_by p jump + count_by p (edge_to (Some slot) q)) (sym e))

pub both_compared : (p : Edge → Bool) (jump : List Edge) (slot count to : ℕ) (o : Option AbstractState) (s : AbstractState) (goes : Bool) (old between new : Counts) → goes ≡ true → edge_told goes s ≡ o → to ≡ slot + count → between ≡ compared (count_by p jump) old → new ≡ compared (count_by p (record { slot = to; state = s } ∷ [])) between → new ≡ compared (count_by p (jump ++ edge_to (Some (slot + count)) o)) old
both_compared p jump slot count to o s goes old between new is_true told at first second =
    let there : Some s ≡ o = sym (ap (λ b. edge_told b s) is_true) ∙ told in
    let more = times_more (count_by p jump) (count_by p (record { slot = slot + count; state = s } ∷ [])) old.comparisons in
    second
    ∙ ap (λ n. compared (count_by p (record { slot = n; state = s } ∷ [])) between) at
    ∙ ap (compared (count_by p (record { slot = slot + count; state = s } ∷ []))) first
    ∙ ap (λ n. record old { comparisons = n }) (more ∙ ap (λ k. counted_times k old.comparisons) (both_counted p jump (slot + count) o s there))

-- a jump, a call or an EXIT leaves the state
pub edges_live : (p : Instructions) (c : CertificateView) (slot : ℕ) (i : Insn) (a : Arrival) (s : AbstractState) → after p.order i a.state ≡ Some s → edges p c (visit slot i) a ≡ edges_of c slot i s
edges_live p c slot (Alu op width dst src) a s e = ap (edge_to (Some (slot + 1))) e
edges_live p c slot (Neg width dst) a s e = ap (edge_to (Some (slot + 1))) e
edges_live p c slot (MovSx width bits dst src) a s e = ap (edge_to (Some (slot + 1))) e
edges_live p c slot (End kind bits dst) a s e = ap (edge_to (Some (slot + 1))) e
edges_live p c slot (LoadImm64 dst value) a s e = ap (edge_to (Some (slot + 2))) e
edges_live p c slot (Load size dst src off) a s e = ap (edge_to (Some (slot + 1))) e
edges_live p c slot (LoadSx size dst src off) a s e = ap (edge_to (Some (slot + 1))) e
edges_live p c slot (Store size dst off src) a s e = ap (edge_to (Some (slot + 1))) e
edges_live p c slot (StoreImm size dst off imm) a s e = ap (edge_to (Some (slot + 1))) e
edges_live p c slot (Atomic wide op dst off src) a s e = ap (edge_to (Some (slot + 1))) e
edges_live p c slot (Ja off) a s e = ap (edges_of c slot (Ja off)) (same_Some a.state s e)
edges_live p c slot (JaLong off) a s e = ap (edges_of c slot (JaLong off)) (same_Some a.state s e)
edges_live p c slot (JumpIf cond width dst src off) a s e = ap (edges_of c slot (JumpIf cond width dst src off)) (same_Some a.state s e)
edges_live p c slot (CallLocal off) a s e = ap (edges_of c slot (CallLocal off)) (same_Some a.state s e)
edges_live p c slot Exit a s e = ap (edges_of c slot Exit) (same_Some a.state s e)

pub next_live : (p : Instructions) (c : CertificateView) (slot : ℕ) (i : Insn) (s s' : AbstractState) → after p.order i s ≡ Some s' → next_state p c slot i s ≡ next_of c slot i s'
next_live p c slot (Alu op width dst src) s s' e = e
next_live p c slot (Neg width dst) s s' e = e
next_live p c slot (MovSx width bits dst src) s s' e = e
next_live p c slot (End kind bits dst) s s' e = e
next_live p c slot (LoadImm64 dst value) s s' e = e
next_live p c slot (Load size dst src off) s s' e = e
next_live p c slot (LoadSx size dst src off) s s' e = e
next_live p c slot (Store size dst off src) s s' e = e
next_live p c slot (StoreImm size dst off imm) s s' e = e
next_live p c slot (Atomic wide op dst off src) s s' e = e
next_live p c slot (Ja off) s s' e = refl
next_live p c slot (JaLong off) s s' e = refl
next_live p c slot (JumpIf cond width dst src off) s s' e = ap (next_of c slot (JumpIf cond width dst src off)) (same_Some s s' e)
next_live p c slot (CallLocal off) s s' e = ap (next_of c slot (CallLocal off)) (same_Some s s' e)
next_live p c slot Exit s s' e = refl

-- a jump leaves the state, so what is seen of its edge is seen from in front of it, too
pub jump_live : (order : Order) (c : CertificateView) (old : LabelView) (cost : Option ℤ) (slot : ℕ) (i : Insn) (s s' : AbstractState) → after order i s ≡ Some s' → jump_seen c old cost slot i s' ≡ jump_seen c old cost slot i s
jump_live order c old cost slot (Alu op width dst src) s s' e = refl
jump_live order c old cost slot (Neg width dst) s s' e = refl
jump_live order c old cost slot (MovSx width bits dst src) s s' e = refl
jump_live order c old cost slot (End kind bits dst) s s' e = refl
jump_live order c old cost slot (LoadImm64 dst value) s s' e = refl
jump_live order c old cost slot (Load size dst src off) s s' e = refl
jump_live order c old cost slot (LoadSx size dst src off) s s' e = refl
jump_live order c old cost slot (Store size dst off src) s s' e = refl
jump_live order c old cost slot (StoreImm size dst off imm) s s' e = refl
jump_live order c old cost slot (Atomic wide op dst off src) s s' e = refl
jump_live order c old cost slot (Ja off) s s' e = ap (jump_seen c old cost slot (Ja off)) (sym (same_Some s s' e))
jump_live order c old cost slot (JaLong off) s s' e = ap (jump_seen c old cost slot (JaLong off)) (sym (same_Some s s' e))
jump_live order c old cost slot (JumpIf cond width dst src off) s s' e = ap (jump_seen c old cost slot (JumpIf cond width dst src off)) (sym (same_Some s s' e))
jump_live order c old cost slot (CallLocal off) s s' e = refl
jump_live order c old cost slot Exit s s' e = refl

pub jump_dead : (order : Order) (c : CertificateView) (old : LabelView) (cost : Option ℤ) (slot : ℕ) (i : Insn) (s : AbstractState) → after order i s ≡ None → None ≡ jump_seen c old cost slot i s
jump_dead order c old cost slot (Alu op width dst src) s e = refl
jump_dead order c old cost slot (Neg width dst) s e = refl
jump_dead order c old cost slot (MovSx width bits dst src) s e = refl
jump_dead order c old cost slot (End kind bits dst) s e = refl
jump_dead order c old cost slot (LoadImm64 dst value) s e = refl
jump_dead order c old cost slot (Load size dst src off) s e = refl
jump_dead order c old cost slot (LoadSx size dst src off) s e = refl
jump_dead order c old cost slot (Store size dst off src) s e = refl
jump_dead order c old cost slot (StoreImm size dst off imm) s e = refl
jump_dead order c old cost slot (Atomic wide op dst off src) s e = refl
jump_dead order c old cost slot (Ja off) s e = absurd (none-some s (sym e))
jump_dead order c old cost slot (JaLong off) s e = absurd (none-some s (sym e))
jump_dead order c old cost slot (JumpIf cond width dst src off) s e = absurd (none-some s (sym e))
jump_dead order c old cost slot (CallLocal off) s e = refl
jump_dead order c old cost slot Exit s e = refl

-- an instruction without a state after it has no edge
pub edges_dead : (p : Instructions) (c : CertificateView) (slot : ℕ) (i : Insn) (a : Arrival) → after p.order i a.state ≡ None → edges p c (visit slot i) a ≡ []
edges_dead p c slot (Alu op width dst src) a e = ap (edge_to (Some (slot + 1))) e
edges_dead p c slot (Neg width dst) a e = ap (edge_to (Some (slot + 1))) e
edges_dead p c slot (MovSx width bits dst src) a e = ap (edge_to (Some (slot + 1))) e
edges_dead p c slot (End kind bits dst) a e = ap (edge_to (Some (slot + 1))) e
edges_dead p c slot (LoadImm64 dst value) a e = ap (edge_to (Some (slot + 2))) e
edges_dead p c slot (Load size dst src off) a e = ap (edge_to (Some (slot + 1))) e
edges_dead p c slot (LoadSx size dst src off) a e = ap (edge_to (Some (slot + 1))) e
edges_dead p c slot (Store size dst off src) a e = ap (edge_to (Some (slot + 1))) e
edges_dead p c slot (StoreImm size dst off imm) a e = ap (edge_to (Some (slot + 1))) e
edges_dead p c slot (Atomic wide op dst off src) a e = ap (edge_to (Some (slot + 1))) e
edges_dead p c slot (Ja off) a e = absurd (none-some a.state (sym e))
edges_dead p c slot (JaLong off) a e = absurd (none-some a.state (sym e))
edges_dead p c slot (JumpIf cond width dst src off) a e = absurd (none-some a.state (sym e))
edges_dead p c slot (CallLocal off) a e = absurd (none-some a.state (sym e))
edges_dead p c slot Exit a e = absurd (none-some a.state (sym e))

pub next_dead : (p : Instructions) (c : CertificateView) (slot : ℕ) (i : Insn) (s : AbstractState) → after p.order i s ≡ None → next_state p c slot i s ≡ None
next_dead p c slot (Alu op width dst src) s e = e
next_dead p c slot (Neg width dst) s e = e
next_dead p c slot (MovSx width bits dst src) s e = e
next_dead p c slot (End kind bits dst) s e = e
next_dead p c slot (LoadImm64 dst value) s e = e
next_dead p c slot (Load size dst src off) s e = e
next_dead p c slot (LoadSx size dst src off) s e = e
next_dead p c slot (Store size dst off src) s e = e
next_dead p c slot (StoreImm size dst off imm) s e = e
next_dead p c slot (Atomic wide op dst off src) s e = e
next_dead p c slot (Ja off) s e = absurd (none-some s (sym e))
next_dead p c slot (JaLong off) s e = absurd (none-some s (sym e))
next_dead p c slot (JumpIf cond width dst src off) s e = absurd (none-some s (sym e))
next_dead p c slot (CallLocal off) s e = absurd (none-some s (sym e))
next_dead p c slot Exit s e = absurd (none-some s (sym e))

-- ---- places of terms

place_in_limits : (m : Measure) (w : ℕ) → is_limited_term (record { weight = w; measure = m }) ≡ true → IsPlace (place_of (record { weight = w; measure = m }))
place_in_limits (Down (Register r)) w h = search rules
place_in_limits (Down (Slot k)) w h = search rules
place_in_limits (Up (Register r) limit) w h = search rules
place_in_limits (Up (Slot k) limit) w h = search rules

pub place_within : (t : Term) → is_limited_term t ≡ true → IsPlace (place_of t)
place_within t h = place_in_limits t.measure t.weight h

pub tagged_place : (l : LabelView) (ts : List Term) (i : ℕ) (d : Term) (p : Place) → is_limited_label l ≡ true → ts ≡ l.terms → i < length ts → p ≡ place_of (get_or ts i d) → IsPlace p
tagged_place l ts i d p limited e h place = subst IsPlace (sym place) (place_within (get_or ts i d) (limited_here l ts i d limited e h))
