-- Certified programs are safe, from the laws of the machine and of abstract states.
use Rattle.std.proofs.Common.{◌≡◌, ℕ, zero, suc, ◌+◌, ◌≤◌, ◌<◌, ◌⊎◌, inl, inr, refl, sym, ap, ◌∙◌, subst, arith, Bool, true, false, List, [], ◌∷◌, Option, Some, None, is_some, option_and_then}
use Rattle.std.proofs.lemmas.Bool.{false≢true, cases_order}
use Rattle.bpf_insn.specs.declared.instruction.Insn.{Insn}
use Rattle.bpf_insn.specs.declared.instruction.Insn.TheVariants.{Exit}
use Rattle.bpf_insn.specs.declared.instruction.Reg.TheVariants.{R0}
use Rattle.bpf_insn.specs.Instruction.{Instructions, insn_at, slots}
use Rattle.bpf_insn.specs.Image.{IsProgram}
use Rattle.bpf_semantics.specs.State as machine
use Rattle.bpf_semantics.specs.Step.{Step, step_of, Finish, finish_of, IsStuck, result_of_exit}
use Rattle.bpf_semantics.specs.Run.{Steps, IsDone}
use Rattle.bpf_num.specs.Number.{Has}
use Rattle.bpf_cert.specs.View.{FunctionView, CertificateView}
use Rattle.bpf_safety.specs.Certified.{Certified}
use Rattle.bpf_safety.specs.Theorems.{IsContext, EndsWithin, IsSafe}
use Rattle.bpf_safety.proofs.Here.{IsWellFormed, Here, Advances, ReachesExit}
use Rattle.bpf_safety.proofs.LawsBelow.{Laws}
use Rattle.bpf_safety.proofs.Runs.{runs, same_run, goes_on, no_longer}
use Rattle.bpf_safety.proofs.Visits.{stands_here, slots-cons, some_slots}
use Rattle.bpf_safety.proofs.Enter.{advance, at_exit, not_stuck, begins, Callees}

-- ---- EXIT

is_exit : Insn → Bool
is_exit Exit = true
is_exit i = false

pub exit_or_not : (i : Insn) → (i ≡ Exit) ⊎ (i ≡ Exit → ⊥)
unfolding is_exit
exit_or_not Exit = inl refl
exit_or_not i = inr (λ e. false≢true (ap is_exit e))

only_exit : (waiting : List machine.StackFrame) (r0 : Option ℕ) (i : Insn) (v : ℕ) → result_of_exit waiting r0 i ≡ Some v → i ≡ Exit
only_exit [] r0 Exit v e = refl
only_exit [] r0 i v e = absurd (false≢true (ap is_some e))
only_exit (f ∷ fs) r0 i v e = absurd (false≢true (ap is_some e))

finish_exits : (p : Instructions) (m : machine.State) (i : Insn) (v : ℕ) → insn_at p.list m.top.slot ≡ Some i → Finish p m v → i ≡ Exit
unfolding finish_of
finish_exits p m i v e f = only_exit m.waiting (machine.number_of_register m R0) i v (ap (λ o. option_and_then (λ j. result_of_exit m.waiting (machine.number_of_register m R0) j) o) (sym e) ∙ f)

pub exit_finishes : (p : Instructions) (m : machine.State) (v : ℕ) → insn_at p.list m.top.slot ≡ Some Exit → m.waiting ≡ [] → machine.number_of_register m R0 ≡ Some v → Finish p m v
unfolding finish_of
exit_finishes p m v e w r = ap (λ o. option_and_then (λ j. result_of_exit m.waiting (machine.number_of_register m R0) j) o) e ∙ ap (λ fs. result_of_exit fs (machine.number_of_register m R0) Exit) w ∙ r

-- ---- time: by the budget, then by the slots that are left

module _ (p : Instructions) (c : CertificateView) (laws : Laws) (program : IsProgram p.list) (certificate : IsWellFormed c) (certified : Certified p c) where
  makes_step : (m : machine.State) (budget spent : ℕ) (here : Here p c m budget spent) → (here.insn ≡ Exit → ⊥) → (m' : machine.State) × Step p m m'
  makes_step m budget spent here no_exit = by_step (step_of p m) refl
    where
      by_step : (o : Option machine.State) → step_of p m ≡ o → (m' : machine.State) × Step p m m'
      by_step (Some m') e = (m', e)
      by_step None e =
          absurd (not_stuck p c laws program certificate certified m budget spent here
          (record {
            no_step = λ t s. false≢true (ap is_some (sym e ∙ s));
            no_finish = λ v f. no_exit (finish_exits p m here.insn v (stands_here p c m.top.slot here.passed here.insn here.rest here.reaches) f);
          }))

  -- a run from the next state, with the run to it before
  after_run : (m m' : machine.State) (function : FunctionView) (budget spent : ℕ) → (a : Advances p c m m' function budget spent) → ReachesExit p c m' a.here.function a.budget' a.spent' → ReachesExit p c m function budget spent
  after_run m m' function budget spent a r =
      let t = r.in_time in
      let q = a.pays in
      record {
        steps = a.steps + r.steps;
        state = r.state;
        run = runs p a.steps r.steps m m' r.state a.run r.run;
        waiting_same = r.waiting_same ∙ a.waiting_same;
        at_exit = r.at_exit;
        value = r.value;
        value_is = r.value_is;
        state_is = r.state_is;
        context_is = r.context_is;
        returns = subst (λ f. Has f.ret r.value) a.same_function r.returns;
        in_time = omega arith;
      }

  Lower : ℕ → ℕ → Type 0
  Lower d n = (m : machine.State) (budget spent : ℕ) (h : Here p c m budget spent) → h.function.depth < d → budget < n → ReachesExit p c m h.function budget spent

  InBlock : ℕ → ℕ → ℕ → Type 0
  InBlock d n w = (m : machine.State) (budget spent : ℕ) (h : Here p c m budget spent) → h.function.depth < suc d → budget ≤ n → slots p.list ≤ m.top.slot + w → ReachesExit p c m h.function budget spent

  one : (d n w : ℕ) → Callees p c laws program certificate certified d → Lower (suc d) n → ((w' : ℕ) → w ≡ suc w' → InBlock d n w') → InBlock d n w
  unfolding Lower InBlock
  one d n w callees lower later m budget spent here deep le few = by_exit (exit_or_not here.insn)
    where
      stands : insn_at p.list m.top.slot ≡ Some here.insn
      stands = stands_here p c m.top.slot here.passed here.insn here.rest here.reaches

      in_reach : m.top.slot < slots p.list
      in_reach = let e = here.reaches.ends in let f = slots-cons here.insn here.rest in let g = some_slots here.insn in omega arith

      by_fall : (m' : machine.State) (a : Advances p c m m' here.function budget spent) (w' : ℕ) → w ≡ w' → (a.budget' < budget) ⊎ ((a.budget' ≡ budget) × (m.top.slot < m'.top.slot)) → ReachesExit p c m' a.here.function a.budget' a.spent'
      by_fall m' a w' e (inl less) = let s = ap (λ f. f.depth) a.same_function in lower m' a.budget' a.spent' a.here (omega arith) (omega arith)
      by_fall m' a zero e (inr same) = let r = in_reach in absurd (omega arith)
      by_fall m' a (suc w') e (inr same) = let b = same.0 in let s = same.1 in let f = ap (λ f. f.depth) a.same_function in later w' e m' a.budget' a.spent' a.here (omega arith) (omega arith) (omega arith)

      by_exit : (here.insn ≡ Exit) ⊎ (here.insn ≡ Exit → ⊥) → ReachesExit p c m here.function budget spent
      by_exit (inl e) =
          let r = at_exit p c laws program certificate certified m budget spent here e in
          let t = r.in_time in
          record { steps = 0; state = m; run = refl; waiting_same = refl; at_exit = stands ∙ ap Some e; value = r.value; value_is = r.value_is; state_is = here.state; context_is = here.described.length_within; returns = r.returns; in_time = omega arith }
      by_exit (inr no_exit) =
          let s = makes_step m budget spent here no_exit in
          let a = advance p c laws program certificate certified m budget spent here no_exit (λ m1 b h1 less. callees m1 b h1 (omega arith)) s.0 s.1 in
          after_run m a.0 here.function budget spent a.1 (by_fall a.0 a.1 w refl a.1.falls)

  in_block : (d n : ℕ) → Callees p c laws program certificate certified d → Lower (suc d) n → (w : ℕ) → InBlock d n w
  in_block d n callees lower zero = one d n zero callees lower (λ w' e. absurd (omega arith))
  in_block d n callees lower (suc w) = one d n (suc w) callees lower (λ w' e. subst (InBlock d n) (omega arith) (in_block d n callees lower w))

  by_budget : (d : ℕ) → Callees p c laws program certificate certified d → (n : ℕ) → Lower (suc d) n
  unfolding Lower InBlock
  by_budget d callees zero m budget spent here deep lt = absurd (omega arith)
  by_budget d callees (suc n) m budget spent here deep lt = in_block d n callees (by_budget d callees n) (slots p.list) m budget spent here deep (omega arith) (omega arith)

  by_depth : (d : ℕ) → Callees p c laws program certificate certified d
  unfolding Lower
  by_depth zero m budget here deep = absurd (omega arith)
  by_depth (suc d) m budget here deep = by_budget d (by_depth d) (suc budget) m budget 0 here deep (omega arith)

  ends : (context : List ℕ) → IsContext c.least c.most context → EndsWithin p context c.steps
  ends context is_context =
      let b = begins p c laws program certificate certified context is_context in
      let r = by_depth (suc b.2.function.depth) (machine.start context) b.0 b.2 (omega arith) in
      let t = r.in_time in
      let most = b.1 in
      record { value = r.value; steps = suc r.steps; in_time = omega arith; done = (r.state, r.run, exit_finishes p r.state r.value r.at_exit r.waiting_same r.value_is) }

  never_stuck : (context : List ℕ) (k : ℕ) (s : machine.State) → IsContext c.least c.most context → Steps p k (machine.start context) s → IsStuck p s → ⊥
  never_stuck context k s is_context run stuck = let e = ends context is_context in by_steps e.value e.steps e.done
    where
      by_steps : (v n : ℕ) → IsDone p context v n → ⊥
      by_steps v zero done = done
      by_steps v (suc n) done = by_order (cases_order k n)
        where
          by_order : (k ≡ n) ⊎ ((k < n) ⊎ (n < k)) → ⊥
          by_order (inl e) = stuck.no_finish v (subst (λ z. Finish p z v) (same_run p n (machine.start context) done.0 s done.1 (subst (λ i. Steps p i (machine.start context) s) e run)) done.2)
          by_order (inr (inl less)) = let g = goes_on p k n (machine.start context) s done.0 run done.1 less in stuck.no_step g.0 g.1
          by_order (inr (inr more)) = let most = no_longer laws.finish_is_last p n k (machine.start context) done.0 s v done.1 done.2 run in omega arith

  pub certified_is_safe : IsSafe p c.least c.most c.steps
  certified_is_safe = record { never_stuck = never_stuck; ends = ends }
