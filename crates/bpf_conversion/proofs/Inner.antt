-- Steps inside of templates, and where templates lead to.
use Rattle.std.proofs.Common.{◌≡◌, ℕ, pos, ◌+ℤ◌, ◌-ℤ◌, ◌+◌, ◌*◌, ◌<◌, ◌≤◌, List, [], ◌∷◌, ◌++◌, length, drop, Bool, true, false, Option, Some, None, inl, refl, sym, ap, ap₂, ◌∙◌, subst, arith}
use Rattle.std.specs.Prelude.{◌||◌, option_map, option_and_then, slice_get}
use Rattle.std.proofs.lemmas.Bool.{cond-true, false≢true}
use Rattle.std.proofs.lemmas.Int.{clamps}
use Rattle.bpf_insn.specs.Instruction.{Instructions}
use Rattle.bpf_insn.specs.declared.instruction.Reg.{Reg}
use Rattle.bpf_insn.specs.declared.instruction.Reg.TheVariants.{R0, R4, R5}
use Rattle.bpf_insn.specs.declared.instruction.Operand.{Operand}
use Rattle.bpf_insn.specs.declared.instruction.Width.{Width}
use Rattle.bpf_insn.specs.declared.instruction.Cond.{Cond}
use Rattle.bpf_insn.specs.declared.instruction.Insn.{Insn}
use Rattle.bpf_insn.specs.declared.instruction.Insn.TheVariants.{Ja, JumpIf, Exit}
use Rattle.bpf_state.specs.State.{AbstractState, register, register_tag}
use Rattle.bpf_state.specs.Entails.{register_entails}
use Rattle.bpf_state.specs.Fault.{fault_of}
use Rattle.bpf_state.specs.Transfer.{branch}
use Rattle.bpf_cert.specs.View.{LabelView, CertificateView}
use Rattle.bpf_safety.specs.Budget.{budget, least_budget}
use Rattle.bpf_safety.specs.Flow.{Arrival, arrives, cost_after}
use Rattle.bpf_safety.specs.Flaw.{is_negative_if}
use Rattle.bpf_classic.specs.Longest.{longest_ways, turn}
use Rattle.bpf_classic.specs.Template.{size, total, ahead_in, code_of, template, code}
use Rattle.bpf_classic.specs.Flow.{leads_to, all_agree, sets_a, sets_x}
use Rattle.bpf_classic.specs.declared.layout.Layout.{Layout}
use Rattle.bpf_classic.specs.declared.layout.Annotated.{Annotated}
use Rattle.bpf_classic.proofs.Steps.{HasAt, Stands, far, far_behind, has_back}
use Rattle.bpf_classic.proofs.Places.{template_length, code_at}
use Rattle.bpf_conversion.specs.Parts.{part_at, opens_at}
use Rattle.bpf_conversion.specs.Known.{index_known, may_turn}
use Rattle.bpf_conversion.specs.Leaders.{is_leader}
use Rattle.bpf_conversion.specs.Claim.{base_at, terms_at, wants_label, claim_of}
use Rattle.bpf_conversion.specs.declared.parts.Stretch.{Stretch}
use Rattle.bpf_conversion.specs.declared.parts.Stretch.TheVariants.{Entry, Template, Trap}
use Rattle.bpf_conversion.proofs.Numbers.{IsIn, IsWord}
use Rattle.bpf_conversion.proofs.TemplateStates.{InBounds, Sat, weaker, without_members}
use Rattle.bpf_conversion.proofs.Steps.{Done}
use Rattle.bpf_conversion.proofs.Pays.{pays_exit, pays_exit_turns}
use Rattle.bpf_conversion.proofs.Visits.{Clean}
use Rattle.bpf_conversion.proofs.Arrivals.{Phase, Good, counts, budget_by, few_turns}
use Rattle.bpf_conversion.proofs.Edges.{IsOpen, IsPlain, plain_step, test_step, jump_step, exit_step}
use Rattle.bpf_conversion.proofs.Starts.{StandsAt, part_in, further, turns_entail, agreed, led_to}
use Rattle.bpf_conversion.proofs.Plain.{Ready, Comes, comes, same_phase, on_plain}
use Rattle.bpf_conversion.proofs.Words.{Place, Going}
use Rattle.bpf_conversion.proofs.TemplateEdges.{World, is_led, agree_behind, jump_leads, end_leads, wants_start, open_start, open_inner, unlabelled, TrapAt, wants_trap, open_trap}
use Rattle.bpf_conversion.proofs.TestEdges.{Keeps}

module _ (l : Layout) (marked : List Annotated) (p : Instructions) (w : World l marked p) where
  abbrev c : CertificateView
  c = claim_of l marked p.list

  -- ---- how a template is written

  pub record Laid (slot : ℕ) (b : Annotated) (behind : List Annotated) (is : List Insn) : Type 0 where
    pub has : HasAt p slot (is ++ code l behind)
    pub long : size l b ≡ length is
    pub back : (passed : Option Arrival) → Clean p c slot passed (is ++ code l behind) → Clean p c slot passed (code l (b ∷ behind))

  pub laid : (slot k : ℕ) (b : Annotated) (behind : List Annotated) (is : List Insn) → Place l marked p slot k b behind → code_of l b b.insn (ahead_in l behind) (total l behind) ≡ is → Laid slot b behind is
  laid slot k b behind is h e =
      let template_is : template l b (ahead_in l behind) (total l behind) ≡ is = cond-true b.reached (code_of l b b.insn (ahead_in l behind) (total l behind)) [] h.reached ∙ e in
      let written : code l (b ∷ behind) ≡ is ++ code l behind = ap (λ xs. xs ++ code l behind) template_is in
      record {
        has = subst (HasAt p slot) written h.has;
        long = sym (template_length l b (ahead_in l behind) (total l behind)) ∙ ap length template_is;
        back = λ passed clean. subst (Clean p c slot passed) (sym written) clean;
      }

  pub ready_led : (slot : ℕ) (behind : List Annotated) (o : Option Arrival) → is_leader p.list slot ≡ true → Ready l marked p slot behind o
  ready_led slot [] o leads = leads
  ready_led slot (b ∷ rest) o leads = inl leads

  -- what comes to the first slot of a template that has one
  pub first_comes : (slot k : ℕ) (b : Annotated) (behind : List Annotated) (passed : Option Arrival) → Place l marked p slot k b behind → 0 < size l b → slot < length p.list → Ready l marked p slot (b ∷ behind) passed → Comes l marked p slot b passed
  first_comes slot k b behind passed h some lt ready = comes l marked p w.narrow w.small slot k b behind passed h.stands some lt ready

  -- ---- where a template leads to

  pub record Landing (b : Annotated) (t : ℕ) : Type 0 where
    pub at : ℕ
    pub next : Annotated
    pub rest : List Annotated
    pub stands : StandsAt l marked at t (next ∷ rest)
    pub has : HasAt p t (code l (next ∷ rest))
    pub agree : all_agree l (next ∷ rest) ≡ true
    pub reached : next.reached ≡ true
    pub a_less : next.a ≡ true → (b.a || sets_a b.insn) ≡ true
    pub x_less : next.x ≡ true → (b.x || sets_x b.insn) ≡ true

  pub landing : (slot k j t : ℕ) (b : Annotated) (behind : List Annotated) (is : List Insn) → Place l marked p slot k b behind → Laid slot b behind is → leads_to b (slice_get behind j) ≡ true → t ≡ slot + length is + ahead_in l behind j → Landing b t
  landing slot k j t b behind is h laid leads at =
      let led = is_led b behind j leads in
      let long = laid.long in
      let there : slot + size l b + ahead_in l behind j ≡ t = omega (arith, at, long) in
      let next = led_to b led.next led.leads in
      let stands = subst (λ n. StandsAt l marked (k + 1 + j) n (drop j behind)) there (further l marked k slot j b behind h.stands) in
      let has = subst (λ n. HasAt p n (code l (drop j behind))) (sym at) (code_at l p behind j (slot + length is) (has_back p slot is (code l behind) laid.has)) in
      let agree = agree_behind l j behind (agreed l b behind h.reached h.agree).others in
      record {
        at = k + 1 + j;
        next = led.next;
        rest = led.behind;
        stands = subst (StandsAt l marked (k + 1 + j) t) led.drop_is stands;
        has = subst (λ rest. HasAt p t (code l rest)) led.drop_is has;
        agree = subst (λ rest. all_agree l rest ≡ true) led.drop_is agree;
        reached = next.reached;
        a_less = next.a_less;
        x_less = next.x_less;
      }

  pub open_landing : (slot t : ℕ) (i : Insn) (a x a' x' : Bool) (r : Arrival) (e : AbstractState) (b : Annotated) → cost_after c slot i r ≡ option_map (λ n. n +ℤ pos 1) r.cost → Good l marked p slot a x r → (to : Landing b t) → (to.next.a ≡ true → a' ≡ true) → (to.next.x ≡ true → x' ≡ true)
      → Sat InBounds l marked a' x' e → register_tag e R5 ≡ register_tag r.state R5 → register e R5 ≡ register r.state R5 → far p t + 1 ≤ far p slot → IsOpen l marked p slot i r t e
  open_landing slot t i a x a' x' r e b costs g to fa fx sat tag same less = open_start l marked p w slot t to.at i a x a' x' r e to.next to.rest costs g to.stands to.has to.agree to.reached fa fx sat tag same less

  pub wants_landing : (t : ℕ) (b : Annotated) → Landing b t → is_leader p.list t ≡ true → wants_label l marked p.list t ≡ true
  wants_landing t b to leads = wants_start l marked p w to.at t (to.next ∷ to.rest) to.stands leads

  -- it lies in the program
  pub landing_inside : (slot t : ℕ) (i : Insn) (a x : Bool) (r : Arrival) (b : Annotated) → cost_after c slot i r ≡ option_map (λ n. n +ℤ pos 1) r.cost → Good l marked p slot a x r → (to : Landing b t) → (to.next.a ≡ true → a ≡ true) → (to.next.x ≡ true → x ≡ true) → far p t + 1 ≤ far p slot → t < length p.list
  landing_inside slot t i a x r b costs g to fa fx less = (open_landing slot t i a x a x r r.state b costs g to fa fx (without_members l marked a x r.state g.state) refl refl less).inside

  -- ---- ways

  pub plain_way : (slot : ℕ) (i : Insn) → IsPlain p c i → Stands p slot i → far p slot ≡ 1 + far p (slot + 1)
  plain_way slot i plain here =
      let n : slot + 1 + 0 ≡ slot + 1 = omega arith in
      here.ways ∙ plain.way (drop (slot + 1) (longest_ways p.list)) ∙ ap (λ d. 1 + d) (far_behind p slot 0 ∙ ap (far p) n)

  pub jump_way : (slot d : ℕ) → Stands p slot (Ja (pos d)) → far p (slot + 1 + d) + 1 ≤ far p slot
  jump_way slot d here = (let e = far_behind p slot d in let f = here.ways in omega (arith, e, f))

  pub test_way : (slot d : ℕ) (test : Cond) (width : Width) (dst : Reg) (src : Operand) → Stands p slot (JumpIf test width dst src (pos d)) → far p (slot + 1 + d) + 1 ≤ far p slot
  test_way slot d test width dst src here = (let e = far_behind p slot d in let f = here.ways in omega (arith, clamps, e, f))

  pub other_way : (slot d : ℕ) (test : Cond) (width : Width) (dst : Reg) (src : Operand) → Stands p slot (JumpIf test width dst src (pos d)) → far p (slot + 1) + 1 ≤ far p slot
  other_way slot d test width dst src here =
      let n : slot + 1 + 0 ≡ slot + 1 = omega arith in
      let e = far_behind p slot 0 ∙ ap (far p) n in
      let f = here.ways in
      omega (arith, clamps, e, f)

  -- ---- an instruction with another one of its template behind it

  pub inner_by : (slot o : ℕ) (i : Insn) (is : List Insn) (a x a' x' : Bool) (r : Arrival) (passed : Option Arrival) (s' : AbstractState) (b : Annotated) → IsPlain p c i → Good l marked p slot a x r → arrives c slot passed ≡ Some r → Stands p slot i → Done p.order l.length i r.state s'
      → part_at l marked (slot + 1) ≡ Template b o → slot + 1 < length p.list → may_turn b.insn o ≡ false → Sat IsIn l marked a' x' s' → register_tag s' R5 ≡ register_tag r.state R5 → register s' R5 ≡ register r.state R5
      → (b.a ≡ true → a' ≡ true) → (b.x ≡ true → x' ≡ true) → register_entails (register s' R4) (index_known l b.insn o) ≡ true
      → ((r' : Arrival) → r'.state ≡ s' → Good l marked p (slot + 1) a' x' r' → Clean p c (slot + 1) (Some r') is) → Clean p c slot passed (i ∷ is)
  inner_by slot o i is a x a' x' r passed s' b plain g here stands done part lt none sat tag turns fa fx index rest =
      let way = plain_way slot i plain stands in
      let within = g.within in
      let r' : Arrival = record r { state = s'; cost = Some (pos (g.spent + 1)) } in
      let good : Good l marked p (slot + 1) a' x' r' = record {
        at = g.at;
        label_is = g.label_is;
        spent = g.spent + 1;
        cost_is = refl;
        within = omega (arith, within, way);
        phase = same_phase l p (part_at l marked g.at) r.at_label r.state s' tag g.phase;
        state = sat;
      } in
      let bounds = without_members l marked b.a b.x s' (weaker IsIn l marked a' x' b.a b.x s' fa fx sat) in
      plain_step l marked p w.narrow slot i is g.spent r passed s' plain g.cost_is here done lt
      (open_inner l marked p w slot (slot + 1) o i a x a' x' r s' b (plain.cost slot r) g part lt bounds index (turns_entail l b.insn o s' none bounds.turns_in) tag (λ loops. few_turns l marked p r.state s' (g.state.turns_in loops) turns) (omega (arith, way)))
      (rest r' refl good)

  -- where no label stands
  pub inner : (slot o : ℕ) (i : Insn) (is : List Insn) (a x a' x' : Bool) (r : Arrival) (passed : Option Arrival) (s' : AbstractState) (b : Annotated) → IsPlain p c i → Good l marked p slot a x r → arrives c slot passed ≡ Some r → Stands p slot i → Done p.order l.length i r.state s'
      → part_at l marked (slot + 1) ≡ Template b o → slot + 1 < length p.list → opens_at b b.insn o ≡ false → may_turn b.insn o ≡ false → Sat IsIn l marked a' x' s' → register_tag s' R5 ≡ register_tag r.state R5 → register s' R5 ≡ register r.state R5
      → (b.a ≡ true → a' ≡ true) → (b.x ≡ true → x' ≡ true) → register_entails (register s' R4) (index_known l b.insn o) ≡ true
      → ((r' : Arrival) → r'.state ≡ s' → Good l marked p (slot + 1) a' x' r' → arrives c (slot + 1) (Some r') ≡ Some r' → Clean p c (slot + 1) (Some r') is) → Clean p c slot passed (i ∷ is)
  inner slot o i is a x a' x' r passed s' b plain g here stands done part lt closed none sat tag turns fa fx index rest =
      inner_by slot o i is a x a' x' r passed s' b plain g here stands done part lt none sat tag turns fa fx index
      (λ r' state_is good. rest r' state_is good (unlabelled l marked p w (slot + 1) o b (Some r') part lt closed))

  -- the last one goes on at the template of the next instruction
  pub last : (slot k t : ℕ) (i : Insn) (b : Annotated) (behind : List Annotated) (a x a' x' : Bool) (r : Arrival) (passed : Option Arrival) (s' : AbstractState) → Place l marked p slot k b behind → t + 1 ≡ slot + size l b → HasAt p t (i ∷ code l behind) → leads_to b (slice_get behind 0) ≡ true
      → IsPlain p c i → Good l marked p t a x r → arrives c t passed ≡ Some r → Done p.order l.length i r.state s' → Sat IsIn l marked a' x' s' → register_tag s' R5 ≡ register_tag r.state R5 → register s' R5 ≡ register r.state R5
      → ((b.a || sets_a b.insn) ≡ true → a' ≡ true) → ((b.x || sets_x b.insn) ≡ true → x' ≡ true) → Going l marked p (slot + size l b) behind → Clean p c t passed (i ∷ code l behind)
  last slot k t i b [] a x a' x' r passed s' h at has leads plain g here done sat tag turns fa fx go = absurd (false≢true leads)
  last slot k t i b (b' ∷ rest) a x a' x' r passed s' h at has leads plain g here done sat tag turns fa fx go =
      let next = led_to b b' leads in
      let n : slot + size l b + ahead_in l (b' ∷ rest) 0 ≡ t + 1 = omega (arith, at) in
      let stands = subst (λ m. StandsAt l marked (k + 1 + 0) m (b' ∷ rest)) n (further l marked k slot 0 b (b' ∷ rest) h.stands) in
      on_plain l marked p w.narrow w.small t (k + 1 + 0) i b b' rest a x r passed s' plain g here has.0 done a' x' sat tag turns stands has.1 (agreed l b (b' ∷ rest) h.reached h.agree).others next.reached
      (λ e. fa (next.a_less e)) (λ e. fx (next.x_less e)) (subst (λ n. Going l marked p n (b' ∷ rest)) (sym at) go)

  -- ---- jumps, tests and ends

  pub jumping : (slot d : ℕ) (is : List Insn) (a x : Bool) (r : Arrival) (passed : Option Arrival) (b : Annotated) → Good l marked p slot a x r → arrives c slot passed ≡ Some r → Stands p slot (Ja (pos d)) → slot < length p.list → (to : Landing b (slot + 1 + d)) → (to.next.a ≡ true → a ≡ true) → (to.next.x ≡ true → x ≡ true)
      → (is_leader p.list (slot + 1) ≡ true → (o : Option Arrival) → Clean p c (slot + 1) o is) → Clean p c slot passed (Ja (pos d) ∷ is)
  jumping slot d is a x r passed b g here stands lt to fa fx rest =
      let t = slot + 1 + d in
      let edge = open_landing slot t (Ja (pos d)) a x a x r r.state b refl g to fa fx (without_members l marked a x r.state g.state) refl refl (jump_way slot d stands) in
      jump_step l marked p w.narrow slot (pos d) t is r passed here refl edge.inside (wants_landing t b to (jump_leads l marked p w slot t (Ja (pos d)) lt stands refl)) edge
      (rest (end_leads l marked p w slot (Ja (pos d)) lt stands refl))

  exit_by : (from : Stretch) (at spent : ℕ) (at_label s : AbstractState) → Phase l p from at_label s → spent + 1 ≤ far p at
      → is_negative_if (option_and_then (λ spent. option_map (λ b. b -ℤ spent) (least_budget (record { base = base_at l (longest_ways p.list) (turn p.list) from at; terms = terms_at l (turn p.list) from }) at_label)) (Some (pos (spent + 1)))) ≡ false
  exit_by Entry at spent at_label s phase le = pays_exit (far p at + l.turns * turn p.list) (spent + 1) at_label (omega (arith, le))
  exit_by (Template b o) at spent at_label s phase le = by_counts (counts l p) refl
    where
      by_counts : (k : Bool) → counts l p ≡ k → is_negative_if (option_and_then (λ spent. option_map (λ b. b -ℤ spent) (least_budget (budget_by l marked p k (far p at)) at_label)) (Some (pos (spent + 1)))) ≡ false
      by_counts true is = let h = phase is in pays_exit_turns (turn p.list) (far p at) (spent + 1) at_label h.1 h.2 le
      by_counts false is = pays_exit (far p at) (spent + 1) at_label le
  exit_by (Trap o) at spent at_label s phase le = absurd (false≢true (sym phase))

  pub exiting : (slot : ℕ) (is : List Insn) (a x : Bool) (r : Arrival) (passed : Option Arrival) → Good l marked p slot a x r → arrives c slot passed ≡ Some r → Stands p slot Exit → slot < length p.list → IsWord (register r.state R0)
      → (is_leader p.list (slot + 1) ≡ true → (o : Option Arrival) → Clean p c (slot + 1) o is) → Clean p c slot passed (Exit ∷ is)
  exiting slot is a x r passed g here stands lt word rest =
      let within = g.within in
      let way : far p slot ≡ 1 = stands.ways in
      exit_step l marked p w.narrow slot is r passed here word
      (ap₂ (λ (y : LabelView) o. is_negative_if (option_and_then (λ spent. option_map (λ b. b -ℤ spent) (least_budget (budget y) r.at_label)) o)) g.label_is (ap (option_map (λ n. n +ℤ pos 1)) g.cost_is)
      ∙ exit_by (part_at l marked g.at) g.at g.spent r.at_label r.state g.phase (omega (arith, within, way)))
      (rest (end_leads l marked p w slot Exit lt stands refl))

  -- ---- to the exit that answers 0

  pub jump_to_trap : (slot d : ℕ) (is : List Insn) (a x : Bool) (r : Arrival) (passed : Option Arrival) → Good l marked p slot a x r → arrives c slot passed ≡ Some r → Stands p slot (Ja (pos d)) → slot < length p.list → TrapAt l marked p w (slot + 1 + d)
      → (is_leader p.list (slot + 1) ≡ true → (o : Option Arrival) → Clean p c (slot + 1) o is) → Clean p c slot passed (Ja (pos d) ∷ is)
  jump_to_trap slot d is a x r passed g here stands lt trap rest =
      let t = slot + 1 + d in
      jump_step l marked p w.narrow slot (pos d) t is r passed here refl trap.inside (wants_trap l marked p w t trap (jump_leads l marked p w slot t (Ja (pos d)) lt stands refl))
      (open_trap l marked p w slot t (Ja (pos d)) a x a x r r.state refl g trap (without_members l marked a x r.state g.state) refl (λ loops. few_turns l marked p r.state r.state (g.state.turns_in loops) refl) (jump_way slot d stands))
      (rest (end_leads l marked p w slot (Ja (pos d)) lt stands refl))

  -- a test that leads there, and else to the next slot of its template
  pub test_to_trap : (slot o d : ℕ) (test : Cond) (width : Width) (dst : Reg) (src : Operand) (is : List Insn) (r : Arrival) (passed : Option Arrival) (b : Annotated) → Good l marked p slot b.a b.x r → arrives c slot passed ≡ Some r → Stands p slot (JumpIf test width dst src (pos d)) → slot + 1 < length p.list
      → fault_of l.length r.state (JumpIf test width dst src (pos d)) ≡ None → TrapAt l marked p w (slot + 1 + d)
      → ((taken : Bool) (e : AbstractState) → branch (JumpIf test width dst src (pos d)) taken r.state ≡ Some e → Keeps l marked b.a b.x r.state e)
      → part_at l marked (slot + 1) ≡ Template b o → may_turn b.insn o ≡ false → ((e : AbstractState) → branch (JumpIf test width dst src (pos d)) false r.state ≡ Some e → register_entails (register e R4) (index_known l b.insn o) ≡ true)
      → (is_leader p.list (slot + 1) ≡ true → (o : Option Arrival) → Clean p c (slot + 1) o is) → Clean p c slot passed (JumpIf test width dst src (pos d) ∷ is)
  test_to_trap slot o d test width dst src is r passed b g here stands lt' fault trap keeps part none index rest =
      let i : Insn = JumpIf test width dst src (pos d) in
      let t = slot + 1 + d in
      let lt : slot < length p.list = omega (arith, lt') in
      test_step l marked p w.narrow slot test width dst src d is r passed here fault trap.inside (wants_trap l marked p w t trap (jump_leads l marked p w slot t i lt stands refl)) lt'
      (λ e eq.
      let k = keeps true e eq in
      open_trap l marked p w slot t i b.a b.x b.a b.x r e refl g trap k.sat k.tag (λ loops. few_turns l marked p r.state e (g.state.turns_in loops) k.turns) (test_way slot d test width dst src stands))
      (λ e eq.
      let k = keeps false e eq in
      open_inner l marked p w slot (slot + 1) o i b.a b.x b.a b.x r e b refl g part lt' k.sat (index e eq) (turns_entail l b.insn o e none k.sat.turns_in) k.tag (λ loops. few_turns l marked p r.state e (g.state.turns_in loops) k.turns) (other_way slot d test width dst src stands))
      (rest (end_leads l marked p w slot i lt stands refl))

  -- the slot o of a template
  pub part_on : (slot k o : ℕ) (b : Annotated) (behind : List Annotated) → Place l marked p slot k b behind → o < size l b → part_at l marked (slot + o) ≡ Template b o
  part_on slot k o b behind h lt = part_in l marked k slot o b behind h.stands lt
