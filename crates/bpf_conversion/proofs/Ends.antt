-- Templates that end: answers, and the exit that answers 0.
use Rattle.std.proofs.Common.{◌≡◌, ℕ, pos, ◌-ℤ◌, ◌+◌, List, [], ◌∷◌, true, Option, Some, None, refl, sym, ap, ◌∙◌, subst, arith}
use Rattle.std.specs.Prelude.{option_map, option_and_then}
use Rattle.std.specs.Int.{cast_signed, w32}
use Rattle.std.proofs.lemmas.Bool.{cond-true, cond-false, and_from, and_right}
use Rattle.std.proofs.lemmas.List.{get_or-set_other}
use Rattle.bpf_insn.specs.Instruction.{Instructions}
use Rattle.bpf_insn.specs.declared.instruction.Reg.TheVariants.{R0, R4, R5}
use Rattle.bpf_insn.specs.declared.instruction.Operand.TheVariants.{Imm}
use Rattle.bpf_insn.specs.declared.instruction.Width.TheVariants.{W32}
use Rattle.bpf_insn.specs.declared.instruction.AluOp.TheVariants.{Mov}
use Rattle.bpf_insn.specs.declared.instruction.Insn.{Insn}
use Rattle.bpf_insn.specs.declared.instruction.Insn.TheVariants.{Alu as AluInsn, Exit}
use Rattle.bpf_state.specs.State.{AbstractState, blank, register, put_register}
use Rattle.bpf_state.specs.Entails.{register_entails}
use Rattle.bpf_cert.specs.View.{CertificateView}
use Rattle.bpf_safety.specs.Budget.{budget, least_budget}
use Rattle.bpf_safety.specs.Flow.{Arrival, arrives, arrives_at, label_state, at_label_arrival}
use Rattle.bpf_safety.specs.Flaw.{is_negative_if}
use Rattle.bpf_classic.specs.declared.instruction.Classic.TheVariants.{Return, ReturnA}
use Rattle.bpf_classic.specs.Template.{constant, size, total, ahead_in, trap_code, code_of, code}
use Rattle.bpf_classic.specs.Flow.{reads_a}
use Rattle.bpf_classic.specs.declared.layout.Layout.{Layout}
use Rattle.bpf_classic.specs.declared.layout.Annotated.{Annotated}
use Rattle.bpf_classic.proofs.Steps.{HasAt, far}
use Rattle.bpf_conversion.specs.Parts.{part_at, opens, opens_at}
use Rattle.bpf_conversion.specs.Known.{index_known, may_turn}
use Rattle.bpf_conversion.specs.Leaders.{is_leader}
use Rattle.bpf_conversion.specs.Claim.{label_in, label_of, wants_label, claim_of}
use Rattle.bpf_conversion.specs.declared.parts.Stretch.TheVariants.{Trap}
use Rattle.bpf_conversion.proofs.Numbers.{IsIn, IsWord}
use Rattle.bpf_conversion.proofs.Lookups.{label_is}
use Rattle.bpf_conversion.proofs.TemplateStates.{put_r0, other_register, same_register}
use Rattle.bpf_conversion.proofs.Steps.{move_constant}
use Rattle.bpf_conversion.proofs.Pays.{pays_exit}
use Rattle.bpf_conversion.proofs.Visits.{Clean}
use Rattle.bpf_conversion.proofs.Edges.{unlabelled_open, plain_step, exit_step}
use Rattle.bpf_conversion.proofs.Starts.{StandsAt, trap_in, agreed}
use Rattle.bpf_conversion.proofs.Plain.{Ready}
use Rattle.bpf_conversion.proofs.Words.{Place, Going, plain_alu}
use Rattle.bpf_conversion.proofs.TemplateEdges.{World, stands_in}
use Rattle.bpf_conversion.proofs.Inner.{laid, ready_led, first_comes, plain_way, inner, exiting, part_on}

module _ (l : Layout) (marked : List Annotated) (p : Instructions) (w : World l marked p) where
  abbrev c : CertificateView
  c = claim_of l marked p.list

  -- what has no flaw if nothing behind has one
  abbrev pub Whole : ℕ → ℕ → Annotated → List Annotated → Option Arrival → Type 0
  Whole slot k b behind passed = Place l marked p slot k b behind → Ready l marked p slot (b ∷ behind) passed → Going l marked p (slot + size l b) behind → Clean p c slot passed (code l (b ∷ behind))

  pub return_a : (slot k : ℕ) (b : Annotated) (behind : List Annotated) (passed : Option Arrival) → b.insn ≡ ReturnA → Whole slot k b behind passed
  return_a slot k b behind passed is h ready go =
      let g = agreed l b behind h.reached h.agree in
      let put = laid l marked p w slot k b behind (Exit ∷ []) h (ap (λ j. code_of l b j (ahead_in l behind) (total l behind)) is) in
      let lt = stands_in l marked p w slot Exit (code l behind) put.has in
      let long = put.long in
      let here = first_comes l marked p w slot k b behind passed h (omega (arith, long)) lt ready in
      let next : slot + size l b ≡ slot + 1 = omega (arith, long) in
      put.back passed
      (exiting l marked p w slot (code l behind) b.a b.x here.arrival passed here.good here.arrives_is put.has.0 lt (here.good.state.a_in (g.a_set (ap reads_a is)))
      (λ leads o. subst (λ n. Going l marked p n behind) next go o (ready_led l marked p w (slot + 1) behind o leads)))

  pub return_constant : (slot k n : ℕ) (b : Annotated) (behind : List Annotated) (passed : Option Arrival) → b.insn ≡ Return n → Whole slot k b behind passed
  return_constant slot k n b behind passed is h ready go =
      let i : Insn = AluInsn Mov W32 R0 (constant n) in
      let put = laid l marked p w slot k b behind (i ∷ Exit ∷ []) h (ap (λ j. code_of l b j (ahead_in l behind) (total l behind)) is) in
      let lt = stands_in l marked p w slot i (Exit ∷ code l behind) put.has in
      let lt' = stands_in l marked p w (slot + 1) Exit (code l behind) put.has.1 in
      let long = put.long in
      let here = first_comes l marked p w slot k b behind passed h (omega (arith, long)) lt ready in
      let s = here.arrival.state in
      let given = move_constant p.order l.length s R0 (cast_signed w32 n) refl in
      let s' : AbstractState = put_register R0 given.value given.tag s in
      let word : IsWord (register s' R0) = subst IsWord (sym (same_register s R0 given.value given.tag here.good.state.eleven)) given.is_word in
      let next : slot + size l b ≡ slot + 1 + 1 = omega (arith, long) in
      put.back passed
      (inner l marked p w slot 1 i (Exit ∷ code l behind) b.a b.x true b.x here.arrival passed s' b (plain_alu p c Mov W32 R0 (constant n)) here.good here.arrives_is put.has.0 given.is_done
      (part_on l marked p w slot k 1 b behind h (omega (arith, long))) lt' (ap (λ j. opens_at b j 1) is) (ap (λ j. may_turn j 1) is)
      (put_r0 IsIn l marked b.a b.x s given.value given.tag here.good.state true given.is_word) (get_or-set_other s.register_tags 0 5 given.tag None (λ e. omega (arith, e))) (other_register s R0 R5 given.value given.tag (λ e. omega (arith, e))) (λ e. refl) (λ e. e) (subst (λ j. register_entails (register s' R4) (index_known l j 1) ≡ true) (sym is) refl)
      (λ r' state_is good arrives_is.
      exiting l marked p w (slot + 1) (code l behind) true b.x r' (Some r') good arrives_is put.has.1.0 lt' (subst (λ s. IsWord (register s R0)) (sym state_is) word)
      (λ leads o. subst (λ n. Going l marked p n behind) next go o (ready_led l marked p w (slot + 1 + 1) behind o leads))))

  -- ---- the exit that answers 0

  blank_at_label : (t : ℕ) → part_at l marked t ≡ Trap 0 → at_label_arrival (label_of l marked p.list t) ≡ Some (record { state = blank; label = label_of l marked p.list t; at_label = blank; cost = Some (pos 0) })
  blank_at_label t part =
      let state_is : label_state (label_of l marked p.list t) ≡ Some blank = ap (λ part. label_state (label_in l marked p.list part t)) part in
      ap (option_map (λ (s : AbstractState). record { state = s; label = label_of l marked p.list t; at_label = s; cost = Some (pos 0) })) state_is

  pub trapped : (slot k : ℕ) (passed : Option Arrival) → StandsAt l marked k slot [] → HasAt p slot trap_code → is_leader p.list slot ≡ true → Clean p c slot passed trap_code
  trapped slot k passed stands has leads =
      let i : Insn = AluInsn Mov W32 R0 (Imm (pos 0)) in
      let on : slot + 0 ≡ slot = omega arith in
      let part : part_at l marked slot ≡ Trap 0 = ap (part_at l marked) (sym on) ∙ trap_in l marked k slot 0 stands in
      let behind : part_at l marked (slot + 1) ≡ Trap 1 = trap_in l marked k slot 1 stands in
      let lt = stands_in l marked p w slot i (Exit ∷ []) has in
      let lt' = stands_in l marked p w (slot + 1) Exit [] has.1 in
      let label = label_of l marked p.list slot in
      let r : Arrival = record { state = blank; label = label; at_label = blank; cost = Some (pos 0) } in
      let wanted = and_from (is_leader p.list slot) (opens l (part_at l marked slot) slot) leads (ap (λ part. opens l part slot) part) in
      let here : arrives c slot passed ≡ Some r =
      ap (λ o. arrives_at o passed) (label_is l marked p.list slot lt ∙ cond-true (wants_label l marked p.list slot) (Some (label_of l marked p.list slot)) None wanted) ∙ blank_at_label slot part in
      let g = move_constant p.order l.length blank R0 (pos 0) refl in
      let s' : AbstractState = put_register R0 g.value g.tag blank in
      let r' : Arrival = record r { state = s'; cost = Some (pos 1) } in
      let way = plain_way l marked p w slot i (plain_alu p c Mov W32 R0 (Imm (pos 0))) has.0 in
      let last : far p (slot + 1) ≡ 1 = has.1.0.ways in
      let there : arrives c (slot + 1) (Some r') ≡ Some r' =
      ap (λ o. arrives_at o (Some r'))
      (label_is l marked p.list (slot + 1) lt'
      ∙ cond-false (wants_label l marked p.list (slot + 1)) (Some (label_of l marked p.list (slot + 1))) None (and_right (is_leader p.list (slot + 1)) (opens l (part_at l marked (slot + 1)) (slot + 1)) (ap (λ part. opens l part (slot + 1)) behind))) in
      plain_step l marked p w.narrow slot i (Exit ∷ []) 0 r passed s' (plain_alu p c Mov W32 R0 (Imm (pos 0))) refl here g.is_done lt'
      (unlabelled_open l marked p w.narrow slot i r (slot + 1) s' lt' (and_right (is_leader p.list (slot + 1)) (opens l (part_at l marked (slot + 1)) (slot + 1)) (ap (λ part. opens l part (slot + 1)) behind)))
      (exit_step l marked p w.narrow (slot + 1) [] r' (Some r') there (subst IsWord (sym (same_register blank R0 g.value g.tag refl)) g.is_word)
      (ap (λ part. is_negative_if (option_and_then (λ spent. option_map (λ b. b -ℤ spent) (least_budget (budget (label_in l marked p.list part slot)) blank)) (Some (pos 2)))) part ∙ pays_exit (far p slot) 2 blank (omega (arith, way, last)))
      (λ o. refl))
