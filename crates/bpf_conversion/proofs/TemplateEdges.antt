-- Edges of templates: to the slot behind, to where another template begins, and to the exit that answers 0.
use Rattle.std.proofs.Common.{◌≡◌, ℕ, zero, suc, pos, ◌+ℤ◌, ◌+◌, ◌-◌, ◌<◌, ◌≤◌, List, [], ◌∷◌, length, drop, Bool, true, false, Option, Some, None, refl, sym, ap, ◌∙◌, subst, arith}
use Rattle.std.specs.Prelude.{nat_lt, option_map, slice_get}
use Rattle.std.proofs.lemmas.Bool.{cond-true, cond-false, and_from, and_right, and_parts, le-ltb, false≢true}
use Rattle.std.proofs.lemmas.Option.{none-some, same_Some}
use Rattle.std.proofs.lemmas.List.{drop_all}
use Rattle.bpf_insn.specs.Instruction.{Instructions}
use Rattle.bpf_insn.specs.declared.instruction.Reg.{Reg}
use Rattle.bpf_insn.specs.declared.instruction.Reg.TheVariants.{R4, R5}
use Rattle.bpf_insn.specs.declared.instruction.Insn.{Insn}
use Rattle.bpf_state.specs.State.{AbstractState, register, register_tag}
use Rattle.bpf_state.specs.Entails.{state_entails, register_entails}
use Rattle.bpf_safety.specs.Flow.{Arrival, arrives, arrives_at, cost_after}
use Rattle.bpf_classic.specs.Template.{head, size, total, ahead_in, code, entry}
use Rattle.bpf_classic.specs.Flow.{leads_to, all_agree, all_turn}
use Rattle.bpf_classic.specs.declared.layout.Layout.{Layout}
use Rattle.bpf_classic.specs.declared.layout.Annotated.{Annotated}
use Rattle.bpf_classic.proofs.Steps.{HasAt, Stands, far, has_length}
use Rattle.bpf_classic.proofs.Places.{code_length}
use Rattle.bpf_conversion.specs.Parts.{part_behind, part_at, opens_at, opens}
use Rattle.bpf_conversion.specs.Known.{index_known, turns_known, template_known, known_at}
use Rattle.bpf_conversion.specs.Leaders.{is_leader, behind_end, jump_to}
use Rattle.bpf_conversion.specs.Claim.{label_of, wants_label, claim_of}
use Rattle.bpf_conversion.specs.Outline.{IsNarrow}
use Rattle.bpf_conversion.specs.declared.parts.Stretch.TheVariants.{Entry, Template, Trap}
use Rattle.bpf_conversion.specs.Known.{may_turn}
use Rattle.bpf_conversion.proofs.LongestLemmas.{insn_is}
use Rattle.bpf_conversion.proofs.LimitLemmas.{start_opens}
use Rattle.bpf_conversion.proofs.PartLemmas.{less_behind, with_trap}
use Rattle.bpf_conversion.proofs.Lookups.{label_is, jumps_lead, ends_lead}
use Rattle.bpf_conversion.proofs.TemplateStates.{InBounds, Sat, sat_entails, trap_entails}
use Rattle.bpf_conversion.proofs.LabelStates.{Tight, AreSmall}
use Rattle.bpf_conversion.proofs.Visits.{visit}
use Rattle.bpf_conversion.proofs.Arrivals.{Good, IsInside, FewTurns, few_turns, not_refused, is_paid, forward_few, begins}
use Rattle.bpf_conversion.proofs.Edges.{IsOpen}
use Rattle.bpf_conversion.proofs.Starts.{StandsAt, further, trap_in, start}

-- what is known of the program as a whole
pub record World (l : Layout) (marked : List Annotated) (p : Instructions) : Type 0 where
  pub narrow : IsNarrow p.list
  pub small : AreSmall l
  pub has : HasAt p (length (entry l marked)) (code l marked)
  pub agree : all_agree l marked ≡ true
  pub turns : all_turn l marked marked ≡ true
  pub fits : head l.form ≤ l.length

-- ---- where a template begins

behind_is : (l : Layout) (marked : List Annotated) (k : ℕ) → part_behind l marked (ahead_in l marked k) ≡ part_behind l (drop k marked) 0
behind_is l marked zero = (let e : total l marked - total l marked ≡ 0 = omega arith in ap (part_behind l marked) e)
behind_is l [] (suc k) = refl
behind_is l (a ∷ rest) (suc k) =
    let less = less_behind l k rest in
    let e : size l a + total l rest - total l (drop k rest) - size l a ≡ total l rest - total l (drop k rest) = omega (arith, less) in
    cond-false (nat_lt (size l a + total l rest - total l (drop k rest)) (size l a)) (Template a (size l a + total l rest - total l (drop k rest))) (part_behind l rest (size l a + total l rest - total l (drop k rest) - size l a))
    (le-ltb (size l a + total l rest - total l (drop k rest)) (size l a) (omega (arith, less)))
    ∙ ap (part_behind l rest) e ∙ behind_is l rest k

pub part_start : (l : Layout) (marked : List Annotated) (k slot : ℕ) (rest : List Annotated) → StandsAt l marked k slot rest → part_at l marked slot ≡ part_behind l rest 0
part_start l marked k slot rest h =
    let e : ℕ = length (entry l marked) in
    let slot_is = h.slot_is in
    let offset : slot - e ≡ ahead_in l marked k = omega (arith, slot_is) in
    cond-false (nat_lt slot e) Entry (part_behind l marked (slot - e)) (le-ltb slot e (omega (arith, slot_is)))
    ∙ ap (part_behind l marked) offset ∙ behind_is l marked k ∙ ap (λ rest. part_behind l rest 0) h.rest_is

-- an instruction further on, and those behind it
pub dropped : (k : ℕ) (rest : List Annotated) (b : Annotated) → slice_get rest k ≡ Some b → drop k rest ≡ b ∷ drop (suc k) rest
dropped zero [] b e = absurd (none-some b e)
dropped zero (a ∷ rest) b e = ap (λ a. a ∷ rest) (same_Some a b e)
dropped (suc k) [] b e = absurd (none-some b e)
dropped (suc k) (a ∷ rest) b e = dropped k rest b e

pub record IsLed (a : Annotated) (rest : List Annotated) (k : ℕ) : Type 0 where
  pub next : Annotated
  pub behind : List Annotated
  pub drop_is : drop k rest ≡ next ∷ behind
  pub leads : leads_to a (Some next) ≡ true

pub is_led : (a : Annotated) (rest : List Annotated) (k : ℕ) → leads_to a (slice_get rest k) ≡ true → IsLed a rest k
is_led a rest k h = by_next (slice_get rest k) refl h
  where
    by_next : (o : Option Annotated) → slice_get rest k ≡ o → leads_to a o ≡ true → IsLed a rest k
    by_next None e h = absurd (false≢true h)
    by_next (Some b) e h = record { next = b; behind = drop (suc k) rest; drop_is = dropped k rest b e; leads = h }

pub agree_behind : (l : Layout) (k : ℕ) (rest : List Annotated) → all_agree l rest ≡ true → all_agree l (drop k rest) ≡ true
agree_behind l zero rest h = h
agree_behind l (suc k) [] h = h
agree_behind l (suc k) (a ∷ rest) h = agree_behind l k rest (and_parts _ (all_agree l rest) h).1

module _ (l : Layout) (marked : List Annotated) (p : Instructions) (w : World l marked p) where
  -- ---- leaders

  pub stands_in : (slot : ℕ) (i : Insn) (is : List Insn) → HasAt p slot (i ∷ is) → slot < length p.list
  stands_in slot i is has = (let all = has_length p slot (i ∷ is) has in omega (arith, all))

  pub jump_leads : (slot t : ℕ) (i : Insn) → slot < length p.list → Stands p slot i → jump_to slot i ≡ Some t → is_leader p.list t ≡ true
  jump_leads slot t i lt here e = jumps_lead l marked p.list slot t i lt (sym (insn_is p.list slot w.narrow) ∙ here.insn) e

  pub end_leads : (slot : ℕ) (i : Insn) → slot < length p.list → Stands p slot i → behind_end slot i ≡ Some (slot + 1) → is_leader p.list (slot + 1) ≡ true
  end_leads slot i lt here e = ends_lead l marked p.list slot i lt (sym (insn_is p.list slot w.narrow) ∙ here.insn) e

  pub wants_start : (k t : ℕ) (rest : List Annotated) → StandsAt l marked k t rest → is_leader p.list t ≡ true → wants_label l marked p.list t ≡ true
  wants_start k t rest stands leads = and_from (is_leader p.list t) (opens l (part_at l marked t) t) leads (ap (λ part. opens l part t) (part_start l marked k t rest stands) ∙ start_opens l rest t)

  -- ---- edges

  abbrev pub Costs : ℕ → Insn → Arrival → Type 0
  Costs slot i r = cost_after (claim_of l marked p.list) slot i r ≡ option_map (λ n. n +ℤ pos 1) r.cost

  pub open_by : (slot t : ℕ) (i : Insn) (a x : Bool) (r : Arrival) (e : AbstractState) → Costs slot i r → Good l marked p slot a x r → t < length p.list → IsInside (part_at l marked t) → state_entails e (known_at l marked (part_at l marked t) t) ≡ true
      → register_tag e R5 ≡ register_tag r.state R5 → (l.loops ≡ true → FewTurns l marked p e) → far p t + 1 ≤ far p slot → IsOpen l marked p slot i r t e
  open_by slot t i a x r e costs g lt inside entails tag turns less =
      let cost = costs ∙ ap (option_map (λ n. n +ℤ pos 1)) g.cost_is in
      record {
        inside = lt;
        accepted = not_refused l marked p t e lt entails;
        paid = is_paid l marked p t e (visit slot i (Some r)) r (pos (g.spent + 1)) lt cost (forward_few l marked p slot t a x r e g inside tag turns less);
      }

  -- to where the template of an instruction further on begins
  pub open_start : (slot t k : ℕ) (i : Insn) (a x a' x' : Bool) (r : Arrival) (e : AbstractState) (b : Annotated) (rest : List Annotated) → Costs slot i r → Good l marked p slot a x r → StandsAt l marked k t (b ∷ rest) → HasAt p t (code l (b ∷ rest)) → all_agree l (b ∷ rest) ≡ true → b.reached ≡ true
      → (b.a ≡ true → a' ≡ true) → (b.x ≡ true → x' ≡ true) → Sat InBounds l marked a' x' e → register_tag e R5 ≡ register_tag r.state R5 → register e R5 ≡ register r.state R5 → far p t + 1 ≤ far p slot → IsOpen l marked p slot i r t e
  open_start slot t k i a x a' x' r e b rest costs g stands has agree reached fa fx sat tag same less =
      let h = start l marked p rest k t a' x' e b stands has agree reached fa fx sat in
      open_by slot t i a x r e costs g h.inside h.not_entry h.entails tag (λ loops. few_turns l marked p r.state e (g.state.turns_in loops) same) less

  -- to a slot of a template
  pub open_inner : (slot t o : ℕ) (i : Insn) (a x a' x' : Bool) (r : Arrival) (e : AbstractState) (b : Annotated) → Costs slot i r → Good l marked p slot a x r → part_at l marked t ≡ Template b o → t < length p.list
      → Sat InBounds l marked b.a b.x e → register_entails (register e R4) (index_known l b.insn o) ≡ true → register_entails (register e R5) (turns_known l b.insn o) ≡ true
      → register_tag e R5 ≡ register_tag r.state R5 → (l.loops ≡ true → FewTurns l marked p e) → far p t + 1 ≤ far p slot → IsOpen l marked p slot i r t e
  open_inner slot t o i a x a' x' r e b costs g part lt sat index turns tag few less =
      open_by slot t i a x r e costs g lt (subst IsInside (sym part) tt)
      (subst (λ part. state_entails e (known_at l marked part t) ≡ true) (sym part) (sat_entails l marked b o e sat index turns)) tag few less

  -- ---- the exit that answers 0

  pub record TrapAt (t : ℕ) : Type 0 where
    pub part : part_at l marked t ≡ Trap 0
    pub inside : t < length p.list

  pub trap_stands : (slot k : ℕ) (b : Annotated) (rest : List Annotated) → StandsAt l marked k slot (b ∷ rest) → HasAt p slot (code l (b ∷ rest)) → l.trap ≡ true → TrapAt (slot + size l b + total l rest)
  trap_stands slot k b rest stands has trap =
      let j = length rest in
      let none : drop j rest ≡ [] = drop_all j rest (omega arith) in
      let zero_is : total l (drop j rest) ≡ 0 = ap (total l) none in
      let at : slot + size l b + ahead_in l rest j ≡ slot + size l b + total l rest = omega (arith, zero_is) in
      let on : slot + size l b + total l rest + 0 ≡ slot + size l b + total l rest = omega arith in
      let there : StandsAt l marked (k + 1 + j) (slot + size l b + total l rest) [] = subst (λ n. StandsAt l marked (k + 1 + j) n []) at (subst (StandsAt l marked (k + 1 + j) (slot + size l b + ahead_in l rest j)) none (further l marked k slot j b rest stands)) in
      let all = has_length p slot (code l (b ∷ rest)) has in
      let long = code_length l (b ∷ rest) in
      let two = with_trap l trap in
      record {
        part = ap (part_at l marked) (sym on) ∙ trap_in l marked (k + 1 + j) (slot + size l b + total l rest) 0 there;
        inside = omega (arith, all, long, two);
      }

  pub wants_trap : (t : ℕ) → TrapAt t → is_leader p.list t ≡ true → wants_label l marked p.list t ≡ true
  wants_trap t h leads = and_from (is_leader p.list t) (opens l (part_at l marked t) t) leads (ap (λ part. opens l part t) h.part)

  pub open_trap : (slot t : ℕ) (i : Insn) (a x a' x' : Bool) (r : Arrival) (e : AbstractState) → Costs slot i r → Good l marked p slot a x r → TrapAt t → Sat InBounds l marked a' x' e → register_tag e R5 ≡ register_tag r.state R5 → (l.loops ≡ true → FewTurns l marked p e) → far p t + 1 ≤ far p slot → IsOpen l marked p slot i r t e
  open_trap slot t i a x a' x' r e costs g h sat tag turns less =
      open_by slot t i a x r e costs g h.inside (subst IsInside (sym h.part) tt)
      (subst (λ part. state_entails e (known_at l marked part t) ≡ true) (sym h.part) (trap_entails l marked InBounds a' x' e sat)) tag turns less

  -- ---- what comes to a slot of a template

  pub record Reaches (slot o : ℕ) (b : Annotated) (passed : Option Arrival) : Type 0 where
    pub arrival : Arrival
    pub arrives_is : arrives (claim_of l marked p.list) slot passed ≡ Some arrival
    pub good : Good l marked p slot b.a b.x arrival
    pub each : (r : Reg) → Tight (register (template_known l marked b o) r) (register arrival.state r)

  pub wants_inner : (slot o : ℕ) (b : Annotated) → part_at l marked slot ≡ Template b o → is_leader p.list slot ≡ true → opens_at b b.insn o ≡ true → wants_label l marked p.list slot ≡ true
  wants_inner slot o b part leads opened = and_from (is_leader p.list slot) (opens l (part_at l marked slot) slot) leads (ap (λ part. opens l part slot) part ∙ opened)

  -- from its label
  pub at_label : (slot o : ℕ) (b : Annotated) (passed : Option Arrival) → part_at l marked slot ≡ Template b o → slot < length p.list → is_leader p.list slot ≡ true → opens_at b b.insn o ≡ true → may_turn b.insn o ≡ false → Reaches slot o b passed
  at_label slot o b passed part lt leads opened none =
      let h = begins l marked p slot b o w.small part none in
      let wanted = and_from (is_leader p.list slot) (opens l (part_at l marked slot) slot) leads (ap (λ part. opens l part slot) part ∙ opened) in
      record {
        arrival = h.arrival;
        arrives_is = ap (λ o. arrives_at o passed) (label_is l marked p.list slot lt ∙ cond-true (wants_label l marked p.list slot) (Some (label_of l marked p.list slot)) None wanted) ∙ h.arrives_is;
        good = h.good;
        each = h.each;
      }

  -- where none can stand, what is passed on
  pub unlabelled : (slot o : ℕ) (b : Annotated) (passed : Option Arrival) → part_at l marked slot ≡ Template b o → slot < length p.list → opens_at b b.insn o ≡ false → arrives (claim_of l marked p.list) slot passed ≡ passed
  unlabelled slot o b passed part lt closed =
      ap (λ o. arrives_at o passed)
      (label_is l marked p.list slot lt
      ∙ cond-false (wants_label l marked p.list slot) (Some (label_of l marked p.list slot)) None (and_right (is_leader p.list slot) (opens l (part_at l marked slot) slot) (ap (λ part. opens l part slot) part ∙ closed)))
