-- The entry: instructions, some of which may not be there, that go on one after another up to the first template.
use Rattle.std.proofs.Common.{◌≡◌, ℕ, suc, pos, ◌+ℤ◌, ◌+◌, ◌<◌, ◌≤◌, List, [], ◌∷◌, ◌++◌, length, Bool, true, false, cond, Option, Some, None, inr, refl, sym, ap, ◌∙◌, subst, arith, length-append}
use Rattle.std.specs.Prelude.{nat_le, option_map}
use Rattle.std.proofs.lemmas.Bool.{cond-false, and_parts}
use Rattle.bpf_insn.specs.Instruction.{Instructions}
use Rattle.bpf_insn.specs.declared.instruction.Reg.TheVariants.{R5}
use Rattle.bpf_insn.specs.declared.instruction.Insn.{Insn}
use Rattle.bpf_state.specs.State.{AbstractState, register_tag}
use Rattle.bpf_cert.specs.View.{LabelView, CertificateView}
use Rattle.bpf_safety.specs.Budget.{budget, least_slack}
use Rattle.bpf_safety.specs.Flow.{Arrival, arrives, arrives_at, cost_after}
use Rattle.bpf_safety.specs.Flaw.{is_negative_if}
use Rattle.bpf_classic.specs.Template.{known_first, code, entry}
use Rattle.bpf_classic.specs.Flow.{starts_well, all_agree}
use Rattle.bpf_classic.specs.declared.layout.Layout.{Layout}
use Rattle.bpf_classic.specs.declared.layout.Annotated.{Annotated}
use Rattle.bpf_classic.proofs.Steps.{HasAt, far, has_length}
use Rattle.bpf_conversion.specs.Parts.{part_at}
use Rattle.bpf_conversion.specs.Claim.{label_of, wants_label, claim_of}
use Rattle.bpf_conversion.specs.declared.parts.Stretch.TheVariants.{Entry}
use Rattle.bpf_conversion.proofs.Numbers.{IsIn}
use Rattle.bpf_conversion.proofs.Lookups.{label_is}
use Rattle.bpf_conversion.proofs.TemplateStates.{InBounds, Sat, weaker, without_members}
use Rattle.bpf_conversion.proofs.Steps.{Done}
use Rattle.bpf_conversion.proofs.Visits.{Clean, visit}
use Rattle.bpf_conversion.proofs.Arrivals.{Phase, Good, FewTurns, few_turns, forward_by, not_refused, is_paid}
use Rattle.bpf_conversion.proofs.Edges.{IsOpen, IsPlain, unlabelled_open, plain_step}
use Rattle.bpf_conversion.proofs.Starts.{StandsAt, implied, start}
use Rattle.bpf_conversion.proofs.TemplateEdges.{World}
use Rattle.bpf_conversion.proofs.Inner.{plain_way}
use Rattle.bpf_conversion.proofs.Templates.{templates_clean}

-- instructions, each of which is there or not
pub data Maybes : Type 0 where
  End : Maybes
  May : Bool → Insn → Maybes → Maybes

abbrev pub written : Maybes → List Insn
written End = []
written (May there i more) = cond there (i ∷ []) [] ++ written more

module _ (l : Layout) (marked : List Annotated) (p : Instructions) (w : World l marked p) where
  abbrev c : CertificateView
  c = claim_of l marked p.list

  -- where the first template begins
  abbrev pub first_slot : ℕ
  first_slot = length (entry l marked)

  -- ---- the states behind the instructions, one after another

  pub record Traced (i : Insn) (s : AbstractState) (More : AbstractState → Type 0) : Type 0 where
    pub state : AbstractState
    pub is_done : Done p.order l.length i s state
    pub plain : IsPlain p c i
    pub no_tag : register_tag state R5 ≡ None
    pub more : More state

  abbrev pub Step : Bool → Insn → AbstractState → (AbstractState → Type 0) → Type 0
  Step true i s More = Traced i s More
  Step false i s More = More s

  abbrev pub Trace : Maybes → AbstractState → Type 0
  Trace End s = Sat IsIn l marked l.zero_a l.zero_x s
  Trace (May there i more) s = Step there i s (Trace more)

  -- where nothing is left, all holds
  pub last_state : (is : Maybes) (s : AbstractState) → Trace is s → written is ≡ [] → Sat IsIn l marked l.zero_a l.zero_x s
  last_state End s trace e = trace
  last_state (May true i more) s trace e = cc
  last_state (May false i more) s trace e = last_state more s trace e

  -- ---- what arrives in the entry

  pub record Entered (u : ℕ) (r : Arrival) : Type 0 where
    pub at : ℕ
    pub part_is : part_at l marked at ≡ Entry
    pub label_is : r.label ≡ label_of l marked p.list at
    pub spent : ℕ
    pub cost_is : r.cost ≡ Some (pos spent)
    pub within : spent + far p u ≤ far p at
    pub tag : register_tag r.state R5 ≡ None

  -- at a slot of the entry this arrives, and no label stands behind it
  pub record Flows (u : ℕ) (passed : Option Arrival) (r : Arrival) : Type 0 where
    pub entered : Entered u r
    pub here : u < first_slot → arrives c u passed ≡ Some r
    pub at_end : u ≡ first_slot → passed ≡ Some r
    pub closed : (t : ℕ) → u < t → t < first_slot → wants_label l marked p.list t ≡ false

  -- the first instruction is marked with no more than what the entry sets
  pub record First (b : Annotated) (rest : List Annotated) : Type 0 where
    pub is : marked ≡ b ∷ rest
    pub reached : b.reached ≡ true
    pub a_less : b.a ≡ true → l.zero_a ≡ true
    pub x_less : b.x ≡ true → l.zero_x ≡ true

  pub first_of : (b : Annotated) (rest : List Annotated) → marked ≡ b ∷ rest → starts_well l (Some b) ≡ true → First b rest
  first_of b rest e h =
      let one = and_parts b.reached _ h in
      let two = and_parts (nat_le b.known (known_first l)) _ one.1 in
      let three = and_parts _ _ two.1 in
      record { is = e; reached = one.0; a_less = implied b.a l.zero_a three.0; x_less = implied b.x l.zero_x three.1 }

  module _ (b : Annotated) (rest : List Annotated) (first : First b rest) where
    pub first_stands : StandsAt l marked 0 first_slot (b ∷ rest)
    first_stands = record { rest_is = first.is; slot_is = omega arith }

    pub first_has : HasAt p first_slot (code l (b ∷ rest))
    first_has = subst (λ xs. HasAt p first_slot (code l xs)) first.is w.has

    pub first_agrees : all_agree l (b ∷ rest) ≡ true
    first_agrees = subst (λ xs. all_agree l xs ≡ true) first.is w.agree

    -- the edge to the first template
    pub first_open : (u : ℕ) (i : Insn) (r : Arrival) (s' : AbstractState) → cost_after c u i r ≡ option_map (λ n. n +ℤ pos 1) r.cost → Entered u r → register_tag s' R5 ≡ None → Sat InBounds l marked l.zero_a l.zero_x s' → (l.loops ≡ true → FewTurns l marked p s') → far p first_slot + 1 ≤ far p u → IsOpen l marked p u i r first_slot s'
    first_open u i r s' costs g tag sat few less =
        let h = start l marked p rest 0 first_slot l.zero_a l.zero_x s' b first_stands first_has first_agrees first.reached first.a_less first.x_less sat in
        let within = g.within in
        record {
          inside = h.inside;
          accepted = not_refused l marked p first_slot s' h.inside h.entails;
          paid =
              is_paid l marked p first_slot s' (visit u i (Some r)) r (pos (g.spent + 1)) h.inside (costs ∙ ap (option_map (λ n. n +ℤ pos 1)) g.cost_is)
              (ap (λ (y : LabelView). is_negative_if (least_slack (budget y) r.at_label (pos (g.spent + 1)) s' (budget (label_of l marked p.list first_slot)))) g.label_is
              ∙ forward_by l marked p (part_at l marked g.at) (part_at l marked first_slot) g.at first_slot g.spent r.at_label s' s' h.not_entry (subst (λ part. Phase l p part r.at_label s') (sym g.part_is) (λ _. tag)) refl few (omega (arith, within, less)));
        }

    pub first_inside : (s : AbstractState) → Sat IsIn l marked l.zero_a l.zero_x s → first_slot < length p.list
    first_inside s sat = (start l marked p rest 0 first_slot l.zero_a l.zero_x s b first_stands first_has first_agrees first.reached first.a_less first.x_less (without_members l marked l.zero_a l.zero_x s sat)).inside

    -- from the first template on
    enters : (r : Arrival) → Entered first_slot r → Sat IsIn l marked l.zero_a l.zero_x r.state → Clean p c first_slot (Some r) (code l marked)
    enters r g sat =
        let good : Good l marked p first_slot b.a b.x r = record {
          at = g.at;
          label_is = g.label_is;
          spent = g.spent;
          cost_is = g.cost_is;
          within = g.within;
          phase = subst (λ part. Phase l p part r.at_label r.state) (sym g.part_is) (λ _. g.tag);
          state = weaker IsIn l marked l.zero_a l.zero_x b.a b.x r.state first.a_less first.x_less sat;
        } in
        subst (λ xs. Clean p c first_slot (Some r) (code l xs)) (sym first.is)
        (templates_clean l marked p w (b ∷ rest) first_slot 0 (Some r) first_stands first_has first_agrees (inr (record { reached = first.reached; arrival = r; passed_is = refl; good = good })))

    -- one instruction of the entry
    one_more : (u : ℕ) (i : Insn) (es : List Insn) (passed : Option Arrival) (r : Arrival) (s' : AbstractState) → Flows u passed r → u + suc (length es) ≡ first_slot → HasAt p u (i ∷ es ++ code l marked) → IsPlain p c i → Done p.order l.length i r.state s' → register_tag s' R5 ≡ None → (es ≡ [] → Sat IsIn l marked l.zero_a l.zero_x s')
        → ((r' : Arrival) → r'.state ≡ s' → Flows (u + 1) (Some r') r' → Clean p c (u + 1) (Some r') (es ++ code l marked)) → Clean p c u passed (i ∷ es ++ code l marked)
    one_more u i es passed r s' f long has plain done tag sat go =
        let g = f.entered in
        let within = g.within in
        let way = plain_way l marked p w u i plain has.0 in
        let r' : Arrival = record r { state = s'; cost = Some (pos (g.spent + 1)) } in
        let inside : first_slot ≤ length p.list = (let all = has_length p u (i ∷ es ++ code l marked) has in let both = length-append es (code l marked) in omega (arith, all, both, long)) in
        let next : Entered (u + 1) r' = record { at = g.at; part_is = g.part_is; label_is = g.label_is; spent = g.spent + 1; cost_is = refl; within = omega (arith, within, way); tag = tag } in
        plain_step l marked p w.narrow u i (es ++ code l marked) g.spent r passed s' plain g.cost_is (f.here (omega (arith, long))) done (next_inside es long inside sat)
        (by_rest es long inside sat way)
        (go r' refl (record {
          entered = next;
          here = λ lt. ap (λ o. arrives_at o (Some r')) (label_is l marked p.list (u + 1) (omega (arith, lt, inside)) ∙ cond-false (wants_label l marked p.list (u + 1)) (Some (label_of l marked p.list (u + 1))) None (f.closed (u + 1) (omega arith) lt));
          at_end = λ e. refl;
          closed = λ t low high. f.closed t (omega (arith, low)) high;
        }))
      where
        next_inside : (es : List Insn) → u + suc (length es) ≡ first_slot → first_slot ≤ length p.list → (es ≡ [] → Sat IsIn l marked l.zero_a l.zero_x s') → u + 1 < length p.list
        next_inside [] long inside sat = (let some = first_inside s' (sat refl) in omega (arith, long, some))
        next_inside (e ∷ es) long inside sat = omega (arith, long, inside)

        by_rest : (es : List Insn) → u + suc (length es) ≡ first_slot → first_slot ≤ length p.list → (es ≡ [] → Sat IsIn l marked l.zero_a l.zero_x s') → far p u ≡ 1 + far p (u + 1) → IsOpen l marked p u i r (u + 1) s'
        by_rest [] long inside sat way =
            let at : first_slot ≡ u + 1 = omega (arith, long) in
            subst (λ t. IsOpen l marked p u i r t s') at (first_open u i r s' (plain.cost u r) f.entered tag (without_members l marked l.zero_a l.zero_x s' (sat refl)) (λ loops. few_turns l marked p s' s' ((sat refl).turns_in loops) refl) (subst (λ t. far p t + 1 ≤ far p u) (sym at) (omega (arith, way))))
        by_rest (e ∷ es) long inside sat way = unlabelled_open l marked p w.narrow u i r (u + 1) s' (omega (arith, long, inside)) (f.closed (u + 1) (omega arith) (omega (arith, long)))

    -- all of them
    pub traced : (is : Maybes) (u : ℕ) (passed : Option Arrival) (r : Arrival) → Flows u passed r → u + length (written is) ≡ first_slot → HasAt p u (written is ++ code l marked) → Trace is r.state → Clean p c u passed (written is ++ code l marked)
    traced End u passed r f long has trace =
        let e : u ≡ first_slot = omega (arith, long) in
        subst (λ o. Clean p c u o (code l marked)) (sym (f.at_end e))
        (subst (λ u. Clean p c u (Some r) (code l marked)) (sym e) (enters r (subst (λ u. Entered u r) e f.entered) trace))
    traced (May true i more) u passed r f long has trace =
        one_more u i (written more) passed r trace.state f (omega (arith, long)) has trace.plain trace.is_done trace.no_tag (λ e. last_state more trace.state trace.more e)
        (λ r' is f'. traced more (u + 1) (Some r') r' f' (omega (arith, long)) has.1 (subst (Trace more) (sym is) trace.more))
    traced (May false i more) u passed r f long has trace = traced more u passed r f long has trace
