-- What each kind of instruction of a template asks so that it is in order, and what goes on behind it.
use Rattle.std.proofs.Common.{◌≡◌, ℕ, ℤ, pos, ◌+ℤ◌, ◌+◌, ◌<◌, List, [], ◌∷◌, ◌++◌, length, get_or, Bool, true, false, Option, Some, None, refl, sym, ap, ap₂, ◌∙◌, subst, arith}
use Rattle.std.specs.Prelude.{not, ◌&&◌, ◌||◌, ◌==◌, is_none, is_some, option_map, option_and_then}
use Rattle.std.specs.List.{list_any}
use Rattle.std.proofs.lemmas.Bool.{cond-true, cond-false, or_from, and_left, and_right, ne_eqb}
use Rattle.bpf_insn.specs.Instruction.{Instructions, slots, slot_count, target}
use Rattle.bpf_insn.specs.declared.instruction.Reg.{Reg}
use Rattle.bpf_insn.specs.declared.instruction.Reg.TheVariants.{R0}
use Rattle.bpf_insn.specs.declared.instruction.Operand.{Operand}
use Rattle.bpf_insn.specs.declared.instruction.Width.{Width}
use Rattle.bpf_insn.specs.declared.instruction.Cond.{Cond}
use Rattle.bpf_insn.specs.declared.instruction.Insn.{Insn}
use Rattle.bpf_insn.specs.declared.instruction.Insn.TheVariants.{Ja, JumpIf, Exit}
use Rattle.bpf_state.specs.Entails.{state_entails, register_entails}
use Rattle.bpf_state.specs.Fault.{some_passes, fault_of}
use Rattle.bpf_state.specs.State.{AbstractState, register, callee_state}
use Rattle.bpf_state.specs.Transfer.{after, branch}
use Rattle.bpf_state.specs.declared.known.RegState.TheVariants.{Num}
use Rattle.bpf_cert.specs.View.{LabelView, FunctionView, CertificateView}
use Rattle.bpf_safety.specs.Labels.{label_at}
use Rattle.bpf_safety.specs.Flow.{Arrival, Visit, callee, cost_after, jump_target, jump_state, next_state, passed_on, arrives}
use Rattle.bpf_safety.specs.Budget.{budget, least_slack}
use Rattle.bpf_safety.specs.Flaw.{is_negative_if, Edge, edge_to, edges, is_refused_by, is_unpaid, lacks_label, enters_wrongly, returns_wrongly, exits_unpaid, falls_past_end, calls_nowhere}
use Rattle.bpf_classic.specs.Longest.{longest_of}
use Rattle.bpf_classic.specs.declared.layout.Layout.{Layout}
use Rattle.bpf_classic.specs.declared.layout.Annotated.{Annotated}
use Rattle.bpf_conversion.specs.Claim.{label_of, wants_label, claim_of}
use Rattle.bpf_conversion.specs.Outline.{IsNarrow}
use Rattle.bpf_conversion.proofs.LongestLemmas.{slots_are}
use Rattle.bpf_conversion.proofs.Numbers.{IsWord, word_entails}
use Rattle.bpf_conversion.proofs.Lookups.{function_of, function_is, label_is}
use Rattle.bpf_conversion.proofs.Steps.{Done, exit_done}
use Rattle.bpf_conversion.proofs.Visits.{Clean, visit, IsFine, clean_more}

-- an edge that is in order: to the label there, if one stands there
pub record IsOpen (l : Layout) (marked : List Annotated) (p : Instructions) (slot : ℕ) (i : Insn) (r : Arrival) (t : ℕ) (e : AbstractState) : Type 0 where
  pub inside : t < length p.list
  pub accepted : is_refused_by (claim_of l marked p.list) (record { slot = t; state = e }) ≡ false
  pub paid : is_unpaid (claim_of l marked p.list) (visit slot i (Some r)) r (record { slot = t; state = e }) ≡ false

-- what goes on at the next instruction alone
pub record IsPlain (p : Instructions) (c : CertificateView) (i : Insn) : Type 0 where
  pub one : slot_count i ≡ 1
  pub no_target : (slot : ℕ) → jump_target slot i ≡ None
  pub next : (slot : ℕ) (s : AbstractState) → next_state p c slot i s ≡ after p.order i s
  pub cost : (slot : ℕ) (r : Arrival) → cost_after c slot i r ≡ option_map (λ n. n +ℤ pos 1) r.cost
  pub no_callee : (slot : ℕ) → callee c slot i ≡ None
  pub no_call : (v : Visit) → calls_nowhere c v i ≡ false
  pub no_return : (v : Visit) (r : Arrival) → returns_wrongly c v r i ≡ false
  pub no_exit : (v : Visit) (r : Arrival) (o : Option ℤ) → exits_unpaid v r o i ≡ false
  pub way : (behind : List ℕ) → longest_of i behind ≡ 1 + get_or behind 0 0

module _ (l : Layout) (marked : List Annotated) (p : Instructions) (narrow : IsNarrow p.list) where
  abbrev c : CertificateView
  c = claim_of l marked p.list

  -- where no label stands, nothing is asked
  pub unlabelled_open : (slot : ℕ) (i : Insn) (r : Arrival) (t : ℕ) (e : AbstractState) → t < length p.list → wants_label l marked p.list t ≡ false → IsOpen l marked p slot i r t e
  unlabelled_open slot i r t e lt wanted =
      let none : label_at c t ≡ None = label_is l marked p.list t lt ∙ cond-false (wants_label l marked p.list t) (Some (label_of l marked p.list t)) None wanted in
      record {
        inside = lt;
        accepted = ap (some_passes (λ (x : LabelView). not (state_entails e x.state))) none;
        paid = ap (some_passes (λ (x : LabelView). is_negative_if (option_and_then (λ cost. least_slack (budget r.label) r.at_label cost e (budget x)) (cost_after c slot i r)))) none;
      }

  -- no edge is refused or unpaid
  pub no_edge : (slot : ℕ) (i : Insn) (r : Arrival) (t : ℕ) (e : AbstractState) (rest : List Edge) → IsOpen l marked p slot i r t e → list_any (is_refused_by c) rest ≡ false → list_any (is_refused_by c) (record { slot = t; state = e } ∷ rest) ≡ false
  no_edge slot i r t e rest h more = or_from (is_refused_by c (record { slot = t; state = e })) (list_any (is_refused_by c) rest) h.accepted more

  -- edges that may be there
  refused_if : (slot : ℕ) (i : Insn) (r : Arrival) (t : ℕ) (o : Option AbstractState) (rest : List Edge) → ((e : AbstractState) → o ≡ Some e → IsOpen l marked p slot i r t e) → list_any (is_refused_by c) rest ≡ false → list_any (is_refused_by c) (edge_to (Some t) o ++ rest) ≡ false
  refused_if slot i r t None rest h more = more
  refused_if slot i r t (Some e) rest h more = no_edge slot i r t e rest (h e refl) more

  unpaid_if : (slot : ℕ) (i : Insn) (r : Arrival) (t : ℕ) (o : Option AbstractState) (rest : List Edge) → ((e : AbstractState) → o ≡ Some e → IsOpen l marked p slot i r t e) → list_any (is_unpaid c (visit slot i (Some r)) r) rest ≡ false → list_any (is_unpaid c (visit slot i (Some r)) r) (edge_to (Some t) o ++ rest) ≡ false
  unpaid_if slot i r t None rest h more = more
  unpaid_if slot i r t (Some e) rest h more = or_from (is_unpaid c (visit slot i (Some r)) r (record { slot = t; state = e })) (list_any (is_unpaid c (visit slot i (Some r)) r) rest) (h e refl).paid more

  -- an instruction with these edges
  pub fine : (slot : ℕ) (i : Insn) (r : Arrival) (rest : List Edge) → fault_of l.length r.state i ≡ None → lacks_label c (visit slot i (Some r)) ≡ false → edges p c (visit slot i (Some r)) r ≡ rest → list_any (is_refused_by c) rest ≡ false → list_any (is_unpaid c (visit slot i (Some r)) r) rest ≡ false
      → callee c slot i ≡ None → calls_nowhere c (visit slot i (Some r)) i ≡ false → returns_wrongly c (visit slot i (Some r)) r i ≡ false → exits_unpaid (visit slot i (Some r)) r (cost_after c slot i r) i ≡ false → falls_past_end p c (visit slot i (Some r)) r ≡ false → IsFine p c slot i r
  fine slot i r rest fault label edges_are refused unpaid no_callee no_call no_return no_exit inside =
      let v : Visit = visit slot i (Some r) in
      record {
        fault = fault;
        label = label;
        entailed =
            or_from (list_any (is_refused_by c) (edges p c v r) || enters_wrongly c v r) (returns_wrongly c v r i)
            (or_from (list_any (is_refused_by c) (edges p c v r)) (enters_wrongly c v r) (ap (list_any (is_refused_by c)) edges_are ∙ refused)
            (ap (some_passes (λ (g : FunctionView). some_passes (λ (x : LabelView). not (state_entails (callee_state r.state) x.state)) (label_at c g.first))) no_callee)) no_return;
        paid = or_from (list_any (is_unpaid c v r) (edges p c v r)) (exits_unpaid v r (cost_after c slot i r) i) (ap (list_any (is_unpaid c v r)) edges_are ∙ unpaid) no_exit;
        inside = inside;
        not_call = no_callee;
        stays_in = no_call;
      }

  not_last : (slot : ℕ) (o : Bool) → slot + 1 < length p.list → ((slot + 1 == slots p.list) && o) ≡ false
  not_last slot o lt = and_left (slot + 1 == slots p.list) o (ne_eqb (slot + 1) (slots p.list) (λ e. let n = slots_are p.list narrow in omega (arith, e, n)))

  -- ---- an instruction that goes on at the next one alone

  pub plain_step : (slot : ℕ) (i : Insn) (is : List Insn) (spent : ℕ) (r : Arrival) (passed : Option Arrival) (s' : AbstractState) → IsPlain p c i → r.cost ≡ Some (pos spent) → arrives c slot passed ≡ Some r → Done p.order l.length i r.state s' → slot + 1 < length p.list → IsOpen l marked p slot i r (slot + 1) s'
      → Clean p c (slot + 1) (Some (record r { state = s'; cost = Some (pos (spent + 1)) })) is → Clean p c slot passed (i ∷ is)
  plain_step slot i is spent r passed s' plain cost_is here done lt edge rest =
      let v : Visit = visit slot i (Some r) in
      let next : next_state p c slot i r.state ≡ Some s' = plain.next slot r.state ∙ done.after_is in
      let at : slot + slot_count i ≡ slot + 1 = ap (λ n. slot + n) plain.one in
      let edges_are : edges p c v r ≡ record { slot = slot + 1; state = s' } ∷ [] =
      ap₂ (λ t o. edge_to t (jump_state slot i r.state) ++ edge_to (Some (slot + slot_count i)) o) (plain.no_target slot) next ∙ ap (λ n. record { slot = n; state = s' } ∷ []) at in
      let cost : cost_after c slot i r ≡ Some (pos (spent + 1)) = plain.cost slot r ∙ ap (option_map (λ n. n +ℤ pos 1)) cost_is in
      let passed_is : passed_on p c slot i r ≡ Some (record r { state = s'; cost = Some (pos (spent + 1)) }) =
      ap₂ (λ o k. option_map (λ s. record r { state = s; cost = k }) o) next cost in
      clean_more p c (function_of l marked p.list) slot passed i is r (function_is l marked p.list) here
      (fine slot i r (record { slot = slot + 1; state = s' } ∷ []) done.fault (ap (some_passes (λ t. is_none (label_at c t))) (plain.no_target slot)) edges_are
      (no_edge slot i r (slot + 1) s' [] edge refl) (or_from (is_unpaid c v r (record { slot = slot + 1; state = s' })) false edge.paid refl)
      (plain.no_callee slot) (plain.no_call v) (plain.no_return v r) (plain.no_exit v r (cost_after c slot i r))
      (subst (λ n. ((n == slots p.list) && is_some (next_state p c slot i r.state)) ≡ false) (sym at) (not_last slot (is_some (next_state p c slot i r.state)) lt)))
      (subst (λ n. Clean p c n (passed_on p c slot i r) is) (sym at) (subst (λ o. Clean p c (slot + 1) o is) (sym passed_is) rest))

  -- ---- tests

  wanted : (t : ℕ) → t < length p.list → wants_label l marked p.list t ≡ true → label_at c t ≡ Some (label_of l marked p.list t)
  wanted t lt w = label_is l marked p.list t lt ∙ cond-true (wants_label l marked p.list t) (Some (label_of l marked p.list t)) None w

  refused_last : (slot : ℕ) (i : Insn) (r : Arrival) (t : ℕ) (o : Option AbstractState) → ((e : AbstractState) → o ≡ Some e → IsOpen l marked p slot i r t e) → list_any (is_refused_by c) (edge_to (Some t) o) ≡ false
  refused_last slot i r t None h = refl
  refused_last slot i r t (Some e) h = no_edge slot i r t e [] (h e refl) refl

  unpaid_last : (slot : ℕ) (i : Insn) (r : Arrival) (t : ℕ) (o : Option AbstractState) → ((e : AbstractState) → o ≡ Some e → IsOpen l marked p slot i r t e) → list_any (is_unpaid c (visit slot i (Some r)) r) (edge_to (Some t) o) ≡ false
  unpaid_last slot i r t None h = refl
  unpaid_last slot i r t (Some e) h = or_from (is_unpaid c (visit slot i (Some r)) r (record { slot = t; state = e })) false (h e refl).paid refl

  pub test_step : (slot : ℕ) (test : Cond) (width : Width) (dst : Reg) (src : Operand) (d : ℕ) (is : List Insn) (r : Arrival) (passed : Option Arrival) → arrives c slot passed ≡ Some r → fault_of l.length r.state (JumpIf test width dst src (pos d)) ≡ None
      → slot + 1 + d < length p.list → wants_label l marked p.list (slot + 1 + d) ≡ true → slot + 1 < length p.list
      → ((e : AbstractState) → branch (JumpIf test width dst src (pos d)) true r.state ≡ Some e → IsOpen l marked p slot (JumpIf test width dst src (pos d)) r (slot + 1 + d) e)
      → ((e : AbstractState) → branch (JumpIf test width dst src (pos d)) false r.state ≡ Some e → IsOpen l marked p slot (JumpIf test width dst src (pos d)) r (slot + 1) e)
      → ((o : Option Arrival) → Clean p c (slot + 1) o is) → Clean p c slot passed (JumpIf test width dst src (pos d) ∷ is)
  test_step slot test width dst src d is r passed here fault to there next taken other rest =
      let i : Insn = JumpIf test width dst src (pos d) in
      let v : Visit = visit slot i (Some r) in
      clean_more p c (function_of l marked p.list) slot passed i is r (function_is l marked p.list) here
      (fine slot i r (edge_to (Some (slot + 1 + d)) (branch i true r.state) ++ edge_to (Some (slot + 1)) (branch i false r.state)) fault (ap is_none (wanted (slot + 1 + d) to there)) refl
      (refused_if slot i r (slot + 1 + d) (branch i true r.state) (edge_to (Some (slot + 1)) (branch i false r.state)) taken (refused_last slot i r (slot + 1) (branch i false r.state) other))
      (unpaid_if slot i r (slot + 1 + d) (branch i true r.state) (edge_to (Some (slot + 1)) (branch i false r.state)) taken (unpaid_last slot i r (slot + 1) (branch i false r.state) other))
      refl refl refl refl (not_last slot (is_some (branch i false r.state)) next))
      (rest (passed_on p c slot i r))

  -- ---- jumps

  pub jump_step : (slot : ℕ) (off : ℤ) (t : ℕ) (is : List Insn) (r : Arrival) (passed : Option Arrival) → arrives c slot passed ≡ Some r → target slot off ≡ Some t → t < length p.list → wants_label l marked p.list t ≡ true → IsOpen l marked p slot (Ja off) r t r.state
      → ((o : Option Arrival) → Clean p c (slot + 1) o is) → Clean p c slot passed (Ja off ∷ is)
  jump_step slot off t is r passed here leads to there edge rest =
      let i : Insn = Ja off in
      let v : Visit = visit slot i (Some r) in
      clean_more p c (function_of l marked p.list) slot passed i is r (function_is l marked p.list) here
      (fine slot i r (record { slot = t; state = r.state } ∷ []) refl (ap (some_passes (λ t. is_none (label_at c t))) leads ∙ ap is_none (wanted t to there)) (ap (λ o. edge_to o (Some r.state) ++ []) leads)
      (no_edge slot i r t r.state [] edge refl) (or_from (is_unpaid c v r (record { slot = t; state = r.state })) false edge.paid refl)
      refl refl refl refl (and_right (slot + 1 == slots p.list) false refl))
      (rest (passed_on p c slot i r))

  -- ---- ends

  pub exit_step : (slot : ℕ) (is : List Insn) (r : Arrival) (passed : Option Arrival) → arrives c slot passed ≡ Some r → IsWord (register r.state R0) → exits_unpaid (visit slot Exit (Some r)) r (cost_after c slot Exit r) Exit ≡ false
      → ((o : Option Arrival) → Clean p c (slot + 1) o is) → Clean p c slot passed (Exit ∷ is)
  exit_step slot is r passed here word paid rest =
      let v : Visit = visit slot Exit (Some r) in
      clean_more p c (function_of l marked p.list) slot passed Exit is r (function_is l marked p.list) here
      (fine slot Exit r [] (exit_done p.order l.length r.state word) refl refl refl refl refl refl
      (ap (some_passes (λ (f : FunctionView). not (register_entails (register r.state R0) (Num f.ret)))) (function_is l marked p.list slot) ∙ ap not (word_entails (register r.state R0) word))
      paid (and_right (slot + 1 == slots p.list) false refl))
      (rest (passed_on p c slot Exit r))
