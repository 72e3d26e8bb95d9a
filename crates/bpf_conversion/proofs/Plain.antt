-- Templates of one instruction that goes on at the next one: constants, lengths, cells, words, negations and moves.
use Rattle.std.proofs.Common.{◌≡◌, ℕ, pos, ◌+ℤ◌, ◌+◌, ◌-◌, ◌<◌, List, [], ◌∷◌, length, drop, Bool, true, false, Option, Some, None, inr, refl, sym, ap, ◌∙◌, ⊎_elim, arith}
use Rattle.std.specs.Prelude.{◌⊎◌, nat_lt, option_map}
use Rattle.std.proofs.lemmas.Bool.{cond-true, cond-false, and_from, lt-ltb, false≢true}
use Rattle.bpf_insn.specs.Instruction.{Instructions}
use Rattle.bpf_insn.specs.declared.instruction.Reg.TheVariants.{R5}
use Rattle.bpf_insn.specs.declared.instruction.Insn.{Insn}
use Rattle.bpf_state.specs.State.{AbstractState, register, register_tag}
use Rattle.bpf_safety.specs.Flow.{Arrival, arrives, arrives_at}
use Rattle.bpf_classic.specs.Longest.{longest_ways}
use Rattle.bpf_classic.specs.Template.{size, code}
use Rattle.bpf_classic.specs.Flow.{all_agree}
use Rattle.bpf_classic.specs.declared.layout.Layout.{Layout}
use Rattle.bpf_classic.specs.declared.layout.Annotated.{Annotated}
use Rattle.bpf_classic.proofs.Steps.{HasAt, Stands, far, far_behind}
use Rattle.bpf_conversion.specs.Parts.{part_behind, part_at, opens}
use Rattle.bpf_conversion.specs.Leaders.{is_leader}
use Rattle.bpf_conversion.specs.Claim.{label_of, wants_label, claim_of}
use Rattle.bpf_conversion.specs.Outline.{IsNarrow}
use Rattle.bpf_conversion.specs.declared.parts.Stretch.{Stretch}
use Rattle.bpf_conversion.specs.declared.parts.Stretch.TheVariants.{Entry, Template, Trap}
use Rattle.bpf_conversion.proofs.LimitLemmas.{start_opens}
use Rattle.bpf_conversion.proofs.Numbers.{IsIn}
use Rattle.bpf_conversion.proofs.Lookups.{label_is}
use Rattle.bpf_conversion.proofs.TemplateStates.{Sat, weaker, without_members}
use Rattle.bpf_conversion.proofs.LabelStates.{AreSmall}
use Rattle.bpf_conversion.proofs.Steps.{Done}
use Rattle.bpf_conversion.proofs.Visits.{Clean, visit}
use Rattle.bpf_conversion.proofs.Arrivals.{Phase, Good, not_refused, forward, is_paid, begins}
use Rattle.bpf_conversion.proofs.Edges.{IsPlain, plain_step}
use Rattle.bpf_conversion.proofs.Starts.{StandsAt, part_in, first_turn, start}

-- what goes on to the first slot of an instruction's template, where no label stands
pub record Falls (l : Layout) (marked : List Annotated) (p : Instructions) (slot : ℕ) (b : Annotated) (passed : Option Arrival) : Type 0 where
  pub reached : b.reached ≡ true
  pub arrival : Arrival
  pub passed_is : passed ≡ Some arrival
  pub good : Good l marked p slot b.a b.x arrival

-- the slot is a leader, or the way in front goes on to it
abbrev pub Ready : Layout → List Annotated → Instructions → ℕ → List Annotated → Option Arrival → Type 0
Ready l marked p slot [] passed = is_leader p.list slot ≡ true
Ready l marked p slot (b ∷ rest) passed = (is_leader p.list slot ≡ true) ⊎ Falls l marked p slot b passed

pub record Comes (l : Layout) (marked : List Annotated) (p : Instructions) (slot : ℕ) (b : Annotated) (passed : Option Arrival) : Type 0 where
  pub arrival : Arrival
  pub arrives_is : arrives (claim_of l marked p.list) slot passed ≡ Some arrival
  pub good : Good l marked p slot b.a b.x arrival

pub same_phase : (l : Layout) (p : Instructions) (part : Stretch) (at_label s s' : AbstractState) → register_tag s' R5 ≡ register_tag s R5 → Phase l p part at_label s → Phase l p part at_label s'
same_phase l p Entry at_label s s' same h = λ e. same ∙ h e
same_phase l p (Template b o) at_label s s' same h = λ e. (let k = h e in (same ∙ k.0, k.1, k.2))
same_phase l p (Trap o) at_label s s' same h = h

module _ (l : Layout) (marked : List Annotated) (p : Instructions) (narrow : IsNarrow p.list) (small : AreSmall l) where
  -- what comes to the first slot of a template
  pub comes : (slot k : ℕ) (b : Annotated) (rest : List Annotated) (passed : Option Arrival) → StandsAt l marked k slot (b ∷ rest) → 0 < size l b → slot < length p.list → Ready l marked p slot (b ∷ rest) passed → Comes l marked p slot b passed
  comes slot k b rest passed stands some lt ready = by_wanted (wants_label l marked p.list slot) refl
    where
      zero_on : slot + 0 ≡ slot
      zero_on = omega arith

      part : part_at l marked slot ≡ Template b 0
      part = ap (part_at l marked) (sym zero_on) ∙ part_in l marked k slot 0 b rest stands some

      opened : opens l (part_at l marked slot) slot ≡ true
      opened = ap (λ part. opens l part slot) (part ∙ sym (cond-true (nat_lt 0 (size l b)) (Template b 0) (part_behind l [] (0 - size l b)) (lt-ltb 0 (size l b) some))) ∙ start_opens l (b ∷ []) slot

      by_wanted : (t : Bool) → wants_label l marked p.list slot ≡ t → Comes l marked p slot b passed
      by_wanted true w =
          let h = begins l marked p slot b 0 small part (first_turn b.insn) in
          record {
            arrival = h.arrival;
            arrives_is = ap (λ o. arrives_at o passed) (label_is l marked p.list slot lt ∙ cond-true (wants_label l marked p.list slot) (Some (label_of l marked p.list slot)) None w) ∙ h.arrives_is;
            good = h.good;
          }
      by_wanted false w =
          ⊎_elim
          (λ (leads : is_leader p.list slot ≡ true). absurd (false≢true (sym w ∙ and_from (is_leader p.list slot) (opens l (part_at l marked slot) slot) leads opened)))
          (λ (f : Falls l marked p slot b passed). record {
            arrival = f.arrival;
            arrives_is = ap (λ o. arrives_at o passed) (label_is l marked p.list slot lt ∙ cond-false (wants_label l marked p.list slot) (Some (label_of l marked p.list slot)) None w) ∙ f.passed_is;
            good = f.good;
          })
          ready

  -- an instruction that goes on at the template of the next one
  pub on_plain : (slot k : ℕ) (i : Insn) (b b' : Annotated) (rest : List Annotated) (a x : Bool) (r : Arrival) (passed : Option Arrival) (s' : AbstractState) → IsPlain p (claim_of l marked p.list) i → (g : Good l marked p slot a x r) → arrives (claim_of l marked p.list) slot passed ≡ Some r → Stands p slot i
      → Done p.order l.length i r.state s' → (a' x' : Bool) → Sat IsIn l marked a' x' s' → register_tag s' R5 ≡ register_tag r.state R5 → register s' R5 ≡ register r.state R5
      → StandsAt l marked k (slot + 1) (b' ∷ rest) → HasAt p (slot + 1) (code l (b' ∷ rest)) → all_agree l (b' ∷ rest) ≡ true → b'.reached ≡ true → (b'.a ≡ true → a' ≡ true) → (b'.x ≡ true → x' ≡ true)
      → ((o : Option Arrival) → Ready l marked p (slot + 1) (b' ∷ rest) o → Clean p (claim_of l marked p.list) (slot + 1) o (code l (b' ∷ rest)))
      → Clean p (claim_of l marked p.list) slot passed (i ∷ code l (b' ∷ rest))
  on_plain slot k i b b' rest a x r passed s' plain g here stands done a' x' sat tag turns next has agree reached fa fx go =
      let c = claim_of l marked p.list in
      let h = start l marked p rest k (slot + 1) a' x' s' b' next has agree reached fa fx (without_members l marked a' x' s' sat) in
      let n : slot + 1 + 0 ≡ slot + 1 = omega arith in
      let way : far p slot ≡ 1 + far p (slot + 1) = stands.ways ∙ plain.way (drop (slot + 1) (longest_ways p.list)) ∙ ap (λ d. 1 + d) (far_behind p slot 0 ∙ ap (far p) n) in
      let within = g.within in
      let cost = plain.cost slot r ∙ ap (option_map (λ n. n +ℤ pos 1)) g.cost_is in
      let r' : Arrival = record r { state = s'; cost = Some (pos (g.spent + 1)) } in
      let good : Good l marked p (slot + 1) a' x' r' = record {
        at = g.at;
        label_is = g.label_is;
        spent = g.spent + 1;
        cost_is = refl;
        within = omega (arith, within, way);
        phase = same_phase l p (part_at l marked g.at) r.at_label r.state s' tag g.phase;
        state = sat;
      } in
      plain_step l marked p narrow slot i (code l (b' ∷ rest)) g.spent r passed s' plain g.cost_is here done h.inside
      (record {
        inside = h.inside;
        accepted = not_refused l marked p (slot + 1) s' h.inside h.entails;
        paid = is_paid l marked p (slot + 1) s' (visit slot i (Some r)) r (pos (g.spent + 1)) h.inside cost (forward l marked p slot (slot + 1) a x r s' g h.not_entry tag turns (omega (arith, way)));
      })
      (go (Some r') (inr (record {
        reached = reached;
        arrival = r';
        passed_is = refl;
        good = record {
          at = g.at;
          label_is = g.label_is;
          spent = g.spent + 1;
          cost_is = refl;
          within = omega (arith, within, way);
          phase = same_phase l p (part_at l marked g.at) r.at_label r.state s' tag g.phase;
          state = weaker IsIn l marked a' x' b'.a b'.x s' fa fx sat;
        };
      })))
