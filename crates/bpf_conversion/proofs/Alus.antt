-- Templates of an operation by X that tests it first: divisions by zero answer 0, and shifts by 32 or more leave 0.
use Rattle.std.proofs.Common.{◌≡◌, ℕ, pos, ◌+◌, ◌<◌, List, [], ◌∷◌, length, Bool, true, false, Option, Some, refl, sym, ap, ◌∙◌, subst, arith}
use Rattle.std.specs.Prelude.{nat_lt, not, ◌&&◌, ◌||◌, slice_get}
use Rattle.std.proofs.lemmas.Bool.{cond-true, cond-false, and_from, or_left, le-ltb}
use Rattle.bpf_insn.specs.Instruction.{Instructions}
use Rattle.bpf_insn.specs.declared.instruction.Reg.TheVariants.{R0, R3, R4}
use Rattle.bpf_insn.specs.declared.instruction.Operand.TheVariants.{Imm, Reg as FromReg}
use Rattle.bpf_insn.specs.declared.instruction.Width.TheVariants.{W32}
use Rattle.bpf_insn.specs.declared.instruction.AluOp.TheVariants.{Mov}
use Rattle.bpf_insn.specs.declared.instruction.Cond.TheVariants.{Eq as IsEq, Lt as IsLt}
use Rattle.bpf_insn.specs.declared.instruction.Insn.{Insn}
use Rattle.bpf_insn.specs.declared.instruction.Insn.TheVariants.{Alu as AluInsn, JumpIf as JumpIfInsn}
use Rattle.bpf_state.specs.State.{AbstractState, register}
use Rattle.bpf_state.specs.Entails.{register_entails}
use Rattle.bpf_cert.specs.View.{CertificateView}
use Rattle.bpf_safety.specs.Flow.{Arrival, arrives}
use Rattle.bpf_classic.specs.Machine.{same_op, divides, shifts}
use Rattle.bpf_classic.specs.declared.instruction.Op.{Op}
use Rattle.bpf_classic.specs.declared.instruction.Source.TheVariants.{X as FromX}
use Rattle.bpf_classic.specs.declared.instruction.Classic.TheVariants.{Alu}
use Rattle.bpf_classic.specs.Template.{room, is_masked, is_beyond, code_of, size, total, ahead_in, code}
use Rattle.bpf_classic.specs.Flow.{reads_a, reads_x, sets_a, sets_x, leads_to, leads_on, leads_to_trap}
use Rattle.bpf_classic.specs.declared.layout.Layout.{Layout}
use Rattle.bpf_classic.specs.declared.layout.Annotated.{Annotated}
use Rattle.bpf_classic.proofs.Steps.{HasAt}
use Rattle.bpf_conversion.specs.Parts.{part_at, opens_at}
use Rattle.bpf_conversion.specs.Known.{index_known, may_turn}
use Rattle.bpf_conversion.specs.Claim.{claim_of}
use Rattle.bpf_conversion.specs.declared.parts.Stretch.TheVariants.{Template}
use Rattle.bpf_conversion.proofs.Steps.{move_constant, operate, test_done}
use Rattle.bpf_conversion.proofs.Visits.{Clean}
use Rattle.bpf_conversion.proofs.Arrivals.{Good, few_turns}
use Rattle.bpf_conversion.proofs.Edges.{test_step}
use Rattle.bpf_conversion.proofs.Starts.{Agrees, agreed, turns_entail}
use Rattle.bpf_conversion.proofs.Words.{Place, Going, makes_a, plain_alu}
use Rattle.bpf_conversion.proofs.TestEdges.{edge_x}
use Rattle.bpf_conversion.proofs.TemplateEdges.{World, stands_in, TrapAt, trap_stands, jump_leads, end_leads, at_label, wants_inner, open_inner}
use Rattle.bpf_conversion.proofs.Inner.{laid, first_comes, inner_by, last, test_to_trap, test_way, other_way, part_on}
use Rattle.bpf_conversion.proofs.Ends.{Whole}

not_beyond : (l : Layout) (b : Bool) → (nat_lt (room l) 0 || b) ≡ true → b ≡ true
not_beyond l b h = sym (ap (λ t. t || b) (le-ltb (room l) 0 (omega arith))) ∙ h

module _ (l : Layout) (marked : List Annotated) (p : Instructions) (w : World l marked p) (op : Op) (b : Annotated) (behind : List Annotated) (is : b.insn ≡ Alu op FromX) where
  abbrev c : CertificateView
  c = claim_of l marked p.list

  opened : (o : ℕ) → opens_at b b.insn o ≡ true
  opened o = ap (λ i. opens_at b i o) is

  none : (o : ℕ) → may_turn b.insn o ≡ false
  none o = ap (λ i. may_turn i o) is

  index : (o : ℕ) (s : AbstractState) → register_entails (register s R4) (index_known l b.insn o) ≡ true
  index o s = subst (λ i. register_entails (register s R4) (index_known l i o) ≡ true) (sym is) refl

  leads : Agrees l b behind → leads_to b (slice_get behind 0) ≡ true
  leads g = not_beyond l (leads_to b (slice_get behind 0)) (subst (λ i. (is_beyond l i || leads_on b i behind) ≡ true) is g.leads)

  abbrev it : Insn
  it = AluInsn (same_op op) W32 R0 (FromReg R3)

  -- the operation itself, at a slot where a label stands
  operation_at : (slot k t : ℕ) (r : Arrival) (passed : Option Arrival) → (h : Place l marked p slot k b behind) → t + 1 ≡ slot + size l b → HasAt p t (it ∷ code l behind) → Good l marked p t b.a b.x r → arrives c t passed ≡ Some r → Going l marked p (slot + size l b) behind → Clean p c t passed (it ∷ code l behind)
  operation_at slot k t r passed h at has good here go =
      let g = agreed l b behind h.reached h.agree in
      let s = r.state in
      let m = makes_a l marked p it b s (ap sets_x is) good.state (operate p.order l.length s op (FromReg R3) (good.state.a_in (g.a_set (ap reads_a is))) (good.state.x_in (g.x_set (ap reads_x is)))) in
      last l marked p w slot k t it b behind b.a b.x (b.a || sets_a b.insn) (b.x || sets_x b.insn) r passed m.state h at has (leads g) (plain_alu p c (same_op op) W32 R0 (FromReg R3)) good here m.is_done m.sat m.tag m.turns (λ e. e) (λ e. e) go

  pub division : (slot k : ℕ) (passed : Option Arrival) → divides op ≡ true → Whole l marked p w slot k b behind passed
  division slot k passed d h ready go =
      let g = agreed l b behind h.reached h.agree in
      let out = total l behind in
      let test : Insn = JumpIfInsn IsEq W32 R3 (Imm (pos 0)) (pos (out + 1)) in
      let put = laid l marked p w slot k b behind (test ∷ it ∷ []) h (ap (λ j. code_of l b j (ahead_in l behind) (total l behind)) is ∙ cond-true (divides op) _ _ d) in
      let lt' = stands_in l marked p w (slot + 1) it (code l behind) put.has.1 in
      let long = put.long in
      let here = first_comes l marked p w slot k b behind passed h (omega (arith, long)) (omega (arith, lt')) ready in
      let r = here.arrival in
      let sat = here.good.state in
      let x_set = g.x_set (ap reads_x is) in
      let trap = g.trap (and_from b.reached (leads_to_trap l b b.insn) h.reached (ap (leads_to_trap l b) is ∙ d)) in
      let at : slot + size l b + out ≡ slot + 1 + (out + 1) = omega (arith, long) in
      let part = part_on l marked p w slot k 1 b behind h (omega (arith, long)) in
      put.back passed
      (test_to_trap l marked p w slot 1 (out + 1) IsEq W32 R3 (Imm (pos 0)) (it ∷ code l behind) r passed b here.good here.arrives_is put.has.0 lt'
      (test_done p.order l.length r.state IsEq W32 R3 (Imm (pos 0)) (pos (out + 1)) (sat.x_in x_set) tt)
      (subst (TrapAt l marked p w) at (trap_stands l marked p w slot k b behind h.stands h.has trap))
      (λ taken e eq. edge_x l marked b.a b.x IsEq taken (pos 0) (pos (out + 1)) r.state e refl sat x_set eq)
      part (none 1) (λ e eq. index 1 e)
      (λ led o.
      let there = at_label l marked p w (slot + 1) 1 b o part lt' led (opened 1) (none 1) in
      operation_at slot k (slot + 1) there.arrival o h (omega (arith, long)) put.has.1 there.good there.arrives_is go))

  pub shift : (slot k : ℕ) (passed : Option Arrival) → divides op ≡ false → (shifts op && not (is_masked l)) ≡ true → Whole l marked p w slot k b behind passed
  shift slot k passed d sh h ready go =
      let g = agreed l b behind h.reached h.agree in
      let test : Insn = JumpIfInsn IsLt W32 R3 (Imm (pos 32)) (pos 1) in
      let zeroed : Insn = AluInsn Mov W32 R0 (Imm (pos 0)) in
      let put = laid l marked p w slot k b behind (test ∷ zeroed ∷ it ∷ []) h (ap (λ j. code_of l b j (ahead_in l behind) (total l behind)) is ∙ cond-false (divides op) _ _ d ∙ cond-true (shifts op && not (is_masked l)) _ _ sh) in
      let lt' = stands_in l marked p w (slot + 1) zeroed (it ∷ code l behind) put.has.1 in
      let lt'' = stands_in l marked p w (slot + 1 + 1) it (code l behind) put.has.1.1 in
      let lt : slot < length p.list = omega (arith, lt') in
      let long = put.long in
      let here = first_comes l marked p w slot k b behind passed h (omega (arith, long)) lt ready in
      let r = here.arrival in
      let sat = here.good.state in
      let x_set = g.x_set (ap reads_x is) in
      let part = part_on l marked p w slot k 1 b behind h (omega (arith, long)) in
      let on : slot + 2 ≡ slot + 1 + 1 = omega arith in
      let part' : part_at l marked (slot + 1 + 1) ≡ Template b 2 = ap (part_at l marked) (sym on) ∙ part_on l marked p w slot k 2 b behind h (omega (arith, long)) in
      let stands = put.has.0 in
      let led' = jump_leads l marked p w slot (slot + 1 + 1) test lt stands refl in
      put.back passed
      (test_step l marked p w.narrow slot IsLt W32 R3 (Imm (pos 32)) 1 (zeroed ∷ it ∷ code l behind) r passed here.arrives_is
      (test_done p.order l.length r.state IsLt W32 R3 (Imm (pos 32)) (pos 1) (sat.x_in x_set) tt)
      lt'' (wants_inner l marked p w (slot + 1 + 1) 2 b part' led' (opened 2)) lt'
      (λ e eq.
      let kept = edge_x l marked b.a b.x IsLt true (pos 32) (pos 1) r.state e refl sat x_set eq in
      open_inner l marked p w slot (slot + 1 + 1) 2 test b.a b.x b.a b.x r e b refl here.good part' lt'' kept.sat (index 2 e) (turns_entail l b.insn 2 e (none 2) kept.sat.turns_in) kept.tag (λ loops. few_turns l marked p r.state e (sat.turns_in loops) kept.turns)
      (test_way l marked p w slot 1 IsLt W32 R3 (Imm (pos 32)) stands))
      (λ e eq.
      let kept = edge_x l marked b.a b.x IsLt false (pos 32) (pos 1) r.state e refl sat x_set eq in
      open_inner l marked p w slot (slot + 1) 1 test b.a b.x b.a b.x r e b refl here.good part lt' kept.sat (index 1 e) (turns_entail l b.insn 1 e (none 1) kept.sat.turns_in) kept.tag (λ loops. few_turns l marked p r.state e (sat.turns_in loops) kept.turns)
      (other_way l marked p w slot 1 IsLt W32 R3 (Imm (pos 32)) stands))
      (λ o.
      let there = at_label l marked p w (slot + 1) 1 b o part lt' (end_leads l marked p w slot test lt stands refl) (opened 1) (none 1) in
      let s = there.arrival.state in
      let m = makes_a l marked p zeroed b s (ap sets_x is) there.good.state (move_constant p.order l.length s R0 (pos 0) refl) in
      inner_by l marked p w (slot + 1) 2 zeroed (it ∷ code l behind) b.a b.x (b.a || sets_a b.insn) (b.x || sets_x b.insn) there.arrival o m.state b (plain_alu p c Mov W32 R0 (Imm (pos 0))) there.good there.arrives_is put.has.1.0 m.is_done part' lt'' (none 2) m.sat m.tag m.turns
      (λ e. or_left b.a (sets_a b.insn) e) (λ e. or_left b.x (sets_x b.insn) e) (index 2 m.state)
      (λ r' state_is good.
      let last_of = at_label l marked p w (slot + 1 + 1) 2 b (Some r') part' lt'' led' (opened 2) (none 2) in
      operation_at slot k (slot + 1 + 1) last_of.arrival (Some r') h (omega (arith, long)) put.has.1.1 last_of.good last_of.arrives_is go)))
