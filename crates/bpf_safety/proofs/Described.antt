-- Each state of a run is described by what the certificate says of its slot, in every frame: callers wait with what they know.
use Rattle.std.proofs.Common.{◌≡◌, ℕ, zero, suc, ◌+◌, ◌≤◌, ◌⊎◌, inl, inr, refl, sym, ap, ◌∙◌, subst, arith, ℤ, List, [], Some}
use Rattle.bpf_insn.specs.declared.instruction.Insn.TheVariants.{CallLocal, Exit}
use Rattle.bpf_insn.specs.Instruction.{Instructions, insn_at}
use Rattle.bpf_insn.specs.Image.{IsProgram}
use Rattle.bpf_semantics.specs.State as machine
use Rattle.bpf_semantics.specs.Step.{Step}
use Rattle.bpf_semantics.specs.Run.{Steps}
use Rattle.bpf_num.specs.Number.{Has}
use Rattle.bpf_cert.specs.View.{CertificateView}
use Rattle.bpf_safety.specs.Flow.{arrives}
use Rattle.bpf_safety.specs.Certified.{Certified}
use Rattle.bpf_safety.specs.Theorems.{IsContext, IsDescribed}
use Rattle.bpf_safety.proofs.Basics.{some_is}
use Rattle.bpf_safety.proofs.Here.{IsWellFormed, Here, Advances, ReachesExit}
use Rattle.bpf_safety.proofs.LawsBelow.{Laws}
use Rattle.bpf_safety.proofs.Runs.{runs}
use Rattle.bpf_safety.proofs.Visits.{is_visited, stands_here}
use Rattle.bpf_safety.proofs.Enter.{at_exit, begins, call_enters, call_or_not, step_advance}
use Rattle.bpf_safety.proofs.Safe.{exit_finishes, exit_or_not}

module _ (p : Instructions) (c : CertificateView) (laws : Laws) (program : IsProgram p.list) (certificate : IsWellFormed c) (certified : Certified p c) where
  -- a function's run from its entry on, with all that it called and what came back
  record Running (m1 : machine.State) (budget1 : ℕ) (h1 : Here p c m1 budget1 0) (m : machine.State) : Type 0 where
    pub budget : ℕ
    pub spent : ℕ
    pub here : Here p c m budget spent
    pub same_function : here.function ≡ h1.function
    pub steps : ℕ
    pub run : Steps p steps m1 m
    pub pays : budget + steps ≤ budget1 + spent
    pub waiting_same : m.waiting ≡ m1.waiting

  -- Where a function was entered: by the call of one that runs, and goes on when this one comes to its EXIT in time.
  record Called (Below : (m : machine.State) (budget : ℕ) → Here p c m budget 0 → Type 0) (m1 : machine.State) (budget1 : ℕ) (h1 : Here p c m1 budget1 0) : Type 0 where
    pub first : machine.State
    pub first_budget : ℕ
    pub first_here : Here p c first first_budget 0
    pub below : Below first first_budget first_here
    pub caller : machine.State
    pub running : Running first first_budget first_here caller
    pub back : (r : ReachesExit p c m1 h1.function budget1 0) → (m' : machine.State) × Step p r.state m' × Advances p c caller m' running.here.function running.budget running.spent

  -- behind so many calls; or at the start
  IsEntry : ℕ → (m1 : machine.State) (budget1 : ℕ) → Here p c m1 budget1 0 → Type 0
  IsEntry zero m1 budget1 h1 = m1.waiting ≡ []
  IsEntry (suc d) m1 budget1 h1 = Called (IsEntry d) m1 budget1 h1

  record InFunction (m : machine.State) : Type 0 where
    pub calls : ℕ
    pub first : machine.State
    pub first_budget : ℕ
    pub first_here : Here p c first first_budget 0
    pub entry : IsEntry calls first first_budget first_here
    pub running : Running first first_budget first_here m

  -- the run goes on by an instruction, or by a whole call
  goes_on : (m1 : machine.State) (budget1 : ℕ) (h1 : Here p c m1 budget1 0) (m m' : machine.State) (r : Running m1 budget1 h1 m) → Advances p c m m' r.here.function r.budget r.spent → Running m1 budget1 h1 m'
  goes_on m1 budget1 h1 m m' r a =
      let before = r.pays in
      let pays = a.pays in
      record {
        budget = a.budget';
        spent = a.spent';
        here = a.here;
        same_function = a.same_function ∙ r.same_function;
        steps = r.steps + a.steps;
        run = runs p r.steps a.steps m1 m m' r.run a.run;
        pays = omega arith;
        waiting_same = a.waiting_same ∙ r.waiting_same;
      }

  -- ---- a step

  stands : (m : machine.State) (f : InFunction m) → insn_at p.list m.top.slot ≡ Some f.running.here.insn
  stands m f = let h = f.running.here in stands_here p c m.top.slot h.passed h.insn h.rest h.reaches

  called : (m m' : machine.State) (f : InFunction m) (off : ℤ) → f.running.here.insn ≡ CallLocal off → Step p m m' → InFunction m'
  unfolding IsEntry
  called m m' f off e step =
      let r = f.running in
      let entered = call_enters p c laws program certificate certified m r.budget r.spent r.here off e m' step in
      record {
        calls = suc f.calls;
        first = m';
        first_budget = entered.callee_budget;
        first_here = entered.here;
        entry = record { first = f.first; first_budget = f.first_budget; first_here = f.first_here; below = f.entry; caller = m; running = r; back = entered.back };
        running = record { budget = entered.callee_budget; spent = 0; here = entered.here; same_function = refl; steps = 0; run = refl; pays = omega arith; waiting_same = refl };
      }

  returned : (m m' : machine.State) (f : InFunction m) → f.running.here.insn ≡ Exit → Step p m m' → InFunction m'
  unfolding IsEntry
  returned m m' f e step = by_calls f.calls f.first f.first_budget f.first_here f.entry f.running e
    where
      by_calls : (d : ℕ) (m1 : machine.State) (budget1 : ℕ) (h1 : Here p c m1 budget1 0) → IsEntry d m1 budget1 h1 → (r : Running m1 budget1 h1 m) → r.here.insn ≡ Exit → InFunction m'
      by_calls zero m1 budget1 h1 none r e =
          let h = r.here in
          let x = at_exit p c laws program certificate certified m r.budget r.spent h e in
          absurd (laws.finish_is_last p m m' x.value (exit_finishes p m x.value (stands_here p c m.top.slot h.passed h.insn h.rest h.reaches ∙ ap Some e) (r.waiting_same ∙ none) x.value_is) step)
      by_calls (suc d) m1 budget1 h1 o r e =
          let h = r.here in
          let x = at_exit p c laws program certificate certified m r.budget r.spent h e in
          let t = x.in_time in
          let pays = r.pays in
          let exit : ReachesExit p c m1 h1.function budget1 0 = record {
            steps = r.steps;
            state = m;
            run = r.run;
            waiting_same = r.waiting_same;
            at_exit = stands_here p c m.top.slot h.passed h.insn h.rest h.reaches ∙ ap Some e;
            value = x.value;
            value_is = x.value_is;
            state_is = h.state;
            context_is = h.described.length_within;
            returns = subst (λ f. Has f.ret x.value) r.same_function x.returns;
            in_time = omega arith;
          } in
          let b = o.back exit in
          let same : b.0 ≡ m' = some_is b.0 m' (sym b.1 ∙ step) in
          record {
            calls = d;
            first = o.first;
            first_budget = o.first_budget;
            first_here = o.first_here;
            entry = o.below;
            running = subst (Running o.first o.first_budget o.first_here) same (goes_on o.first o.first_budget o.first_here o.caller b.0 o.running b.2);
          }

  steps_on : (m m' : machine.State) → InFunction m → Step p m m' → InFunction m'
  steps_on m m' f step = by_call (call_or_not f.running.here.insn)
    where
      by_exit : ((off : ℤ) → f.running.here.insn ≡ CallLocal off → ⊥) → (f.running.here.insn ≡ Exit) ⊎ (f.running.here.insn ≡ Exit → ⊥) → InFunction m'
      by_exit calls_not (inl e) = returned m m' f e step
      by_exit calls_not (inr no_exit) =
          let r = f.running in
          record {
            calls = f.calls;
            first = f.first;
            first_budget = f.first_budget;
            first_here = f.first_here;
            entry = f.entry;
            running = goes_on f.first f.first_budget f.first_here m m' r (step_advance p c laws program certificate certified m m' r.budget r.spent r.here calls_not no_exit step);
          }

      by_call : ((off : ℤ) × (f.running.here.insn ≡ CallLocal off)) ⊎ ((off : ℤ) → f.running.here.insn ≡ CallLocal off → ⊥) → InFunction m'
      by_call (inl call) = called m m' f call.0 call.1 step
      by_call (inr other) = by_exit other (exit_or_not f.running.here.insn)

  -- ---- a run

  at_start : (context : List ℕ) → IsContext c.least c.most context → InFunction (machine.start context)
  unfolding IsEntry
  at_start context is_context =
      let b = begins p c laws program certificate certified context is_context in
      record {
        calls = 0;
        first = machine.start context;
        first_budget = b.0;
        first_here = b.2;
        entry = refl;
        running = record { budget = b.0; spent = 0; here = b.2; same_function = refl; steps = 0; run = refl; pays = omega arith; waiting_same = refl };
      }

  reached : (context : List ℕ) (k : ℕ) (m : machine.State) → IsContext c.least c.most context → Steps p k (machine.start context) m → InFunction m
  reached context zero m is_context run = subst InFunction (sym run) (at_start context is_context)
  reached context (suc k) m is_context run = steps_on run.0 m (reached context k run.0 is_context run.1) run.2

  pub certified_describes : (context : List ℕ) (k : ℕ) (m : machine.State) → IsContext c.least c.most context → Steps p k (machine.start context) m → IsDescribed p c m
  certified_describes context k m is_context run =
      let f = reached context k m is_context run in
      let h = f.running.here in
      record {
        visit = record { slot = m.top.slot; insn = h.insn; arrival = arrives c m.top.slot h.passed };
        is_visit = is_visited p c m.top.slot h.passed h.insn h.rest h.reaches;
        slot_is = refl;
        insn_is = stands m f;
        arrival = h.arrival;
        arrival_is = h.arrives_is;
        at_label = h.x;
        valid = h.valid;
        described = h.described;
      }
