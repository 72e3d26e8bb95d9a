-- Templates of jumps and of tests.
use Rattle.std.proofs.Common.{◌≡◌, ℕ, pos, ◌+◌, ◌<◌, ◌≤◌, List, [], ◌∷◌, length, Bool, true, false, cond, Option, Some, inl, inr, refl, sym, ap, ap₂, ◌∙◌, subst, ⊎_elim, arith}
use Rattle.std.specs.Prelude.{nat_lt, not, ◌&&◌, ◌||◌, ◌==◌, slice_get}
use Rattle.std.proofs.lemmas.Bool.{and_parts, le-ltb, false≢true, eqb-true}
use Rattle.bpf_insn.specs.Instruction.{Instructions}
use Rattle.bpf_insn.specs.declared.instruction.Reg.TheVariants.{R0, R4}
use Rattle.bpf_insn.specs.declared.instruction.Width.TheVariants.{W32}
use Rattle.bpf_insn.specs.declared.instruction.Cond.{Cond}
use Rattle.bpf_insn.specs.declared.instruction.Cond.TheVariants.{Set as IsSet, Ne as IsNe, Lt as IsLt, Le as IsLe}
use Rattle.bpf_insn.specs.declared.instruction.Insn.{Insn}
use Rattle.bpf_insn.specs.declared.instruction.Insn.TheVariants.{Ja, JumpIf as JumpIfInsn}
use Rattle.bpf_num.specs.Refine.{is_signed}
use Rattle.bpf_state.specs.State.{AbstractState, register}
use Rattle.bpf_state.specs.Entails.{register_entails}
use Rattle.bpf_state.specs.Transfer.{branch}
use Rattle.bpf_cert.specs.View.{CertificateView}
use Rattle.bpf_safety.specs.Flow.{Arrival}
use Rattle.bpf_classic.specs.Machine.{same_test}
use Rattle.bpf_classic.specs.declared.instruction.Source.{Source}
use Rattle.bpf_classic.specs.declared.instruction.Source.TheVariants.{K, X as FromX}
use Rattle.bpf_classic.specs.declared.instruction.Test.{Test}
use Rattle.bpf_classic.specs.declared.instruction.Test.TheVariants.{Eq, Gt, Ge, Set}
use Rattle.bpf_classic.specs.declared.instruction.Classic.TheVariants.{Jump, JumpIf}
use Rattle.bpf_classic.specs.Template.{room, is_register, is_beyond, operand_of, inverse, jump_code, unless_code, if_code, code_of, size, total, ahead_in, code}
use Rattle.bpf_classic.specs.Flow.{reads_a, reads_x, sets_a, sets_x, leads_to, leads_on}
use Rattle.bpf_classic.specs.declared.layout.Layout.{Layout}
use Rattle.bpf_classic.specs.declared.layout.Annotated.{Annotated}
use Rattle.bpf_classic.proofs.Steps.{far}
use Rattle.bpf_conversion.specs.Parts.{opens_at}
use Rattle.bpf_conversion.specs.Known.{index_known, may_turn}
use Rattle.bpf_conversion.specs.Leaders.{is_leader}
use Rattle.bpf_conversion.specs.Claim.{claim_of}
use Rattle.bpf_conversion.proofs.Numbers.{IsIn}
use Rattle.bpf_conversion.proofs.TemplateStates.{Sat, weaker}
use Rattle.bpf_conversion.proofs.Steps.{HasWord, test_done}
use Rattle.bpf_conversion.proofs.Visits.{Clean}
use Rattle.bpf_conversion.proofs.Arrivals.{Good, few_turns}
use Rattle.bpf_conversion.proofs.Edges.{IsOpen, test_step}
use Rattle.bpf_conversion.proofs.Starts.{agreed, led_to, turns_entail}
use Rattle.bpf_conversion.proofs.Plain.{Ready, Falls}
use Rattle.bpf_conversion.proofs.Words.{Place, Going}
use Rattle.bpf_conversion.proofs.TestEdges.{edge_a}
use Rattle.bpf_conversion.proofs.TemplateEdges.{World, stands_in, jump_leads, end_leads, at_label, open_inner}
use Rattle.bpf_conversion.proofs.Inner.{laid, ready_led, first_comes, Landing, landing, open_landing, wants_landing, landing_inside, jumping, test_way, other_way, part_on}
use Rattle.bpf_conversion.proofs.Ends.{Whole}

without : (b c : Bool) → c ≡ false → (b || c) ≡ true → b ≡ true
without true c e h = refl
without false c e h = absurd (false≢true (sym e ∙ h))

not_beyond : (l : Layout) (b : Bool) → (nat_lt (room l) 0 || b) ≡ true → b ≡ true
not_beyond l b h = sym (ap (λ t. t || b) (le-ltb (room l) 0 (omega arith))) ∙ h

module _ (l : Layout) (marked : List Annotated) (p : Instructions) (w : World l marked p) where
  abbrev c : CertificateView
  c = claim_of l marked p.list

  -- ---- a template without instructions

  pub empty : (slot k : ℕ) (b : Annotated) (behind : List Annotated) (passed : Option Arrival) → Place l marked p slot k b behind → code_of l b b.insn (ahead_in l behind) (total l behind) ≡ [] → leads_to b (slice_get behind 0) ≡ true → sets_a b.insn ≡ false → sets_x b.insn ≡ false
      → Ready l marked p slot (b ∷ behind) passed → Going l marked p (slot + size l b) behind → Clean p c slot passed (code l (b ∷ behind))
  empty slot k b [] passed h none leads no_a no_x ready go = absurd (false≢true leads)
  empty slot k b (b' ∷ rest) passed h none leads no_a no_x ready go =
      let put = laid l marked p w slot k b (b' ∷ rest) [] h none in
      let long = put.long in
      let same : slot + size l b ≡ slot = omega (arith, long) in
      let next = led_to b b' leads in
      put.back passed
      (subst (λ n. Going l marked p n (b' ∷ rest)) same go passed
      (⊎_elim (λ (led : is_leader p.list slot ≡ true). inl led)
      (λ (f : Falls l marked p slot b passed). inr (record {
        reached = next.reached;
        arrival = f.arrival;
        passed_is = f.passed_is;
        good = (let g = f.good in record {
          at = g.at;
          label_is = g.label_is;
          spent = g.spent;
          cost_is = g.cost_is;
          within = g.within;
          phase = g.phase;
          state = weaker IsIn l marked b.a b.x b'.a b'.x f.arrival.state (λ e. without b.a (sets_a b.insn) no_a (next.a_less e)) (λ e. without b.x (sets_x b.insn) no_x (next.x_less e)) g.state;
        });
      }))
      ready))

  -- ---- jumps

  one_jump : (slot k j : ℕ) (b : Annotated) (behind : List Annotated) (passed : Option Arrival) → Place l marked p slot k b behind → code_of l b b.insn (ahead_in l behind) (total l behind) ≡ Ja (pos (ahead_in l behind j)) ∷ [] → leads_to b (slice_get behind j) ≡ true → sets_a b.insn ≡ false → sets_x b.insn ≡ false
      → Ready l marked p slot (b ∷ behind) passed → Going l marked p (slot + size l b) behind → Clean p c slot passed (code l (b ∷ behind))
  one_jump slot k j b behind passed h written leads no_a no_x ready go =
      let d = ahead_in l behind j in
      let put = laid l marked p w slot k b behind (Ja (pos d) ∷ []) h written in
      let lt = stands_in l marked p w slot (Ja (pos d)) (code l behind) put.has in
      let long = put.long in
      let here = first_comes l marked p w slot k b behind passed h (omega (arith, long)) lt ready in
      let next : slot + size l b ≡ slot + 1 = omega (arith, long) in
      let to = landing l marked p w slot k j (slot + 1 + d) b behind (Ja (pos d) ∷ []) h put leads refl in
      put.back passed
      (jumping l marked p w slot d (code l behind) b.a b.x here.arrival passed b here.good here.arrives_is put.has.0 lt to (λ e. without b.a (sets_a b.insn) no_a (to.a_less e)) (λ e. without b.x (sets_x b.insn) no_x (to.x_less e))
      (λ led o. subst (λ n. Going l marked p n behind) next go o (ready_led l marked p w (slot + 1) behind o led)))

  -- a jump over instructions, or nothing
  jumps_over : (slot k j : ℕ) (b : Annotated) (behind : List Annotated) (passed : Option Arrival) → Place l marked p slot k b behind → code_of l b b.insn (ahead_in l behind) (total l behind) ≡ jump_code j (ahead_in l behind j) → leads_to b (slice_get behind j) ≡ true → sets_a b.insn ≡ false → sets_x b.insn ≡ false
      → Ready l marked p slot (b ∷ behind) passed → Going l marked p (slot + size l b) behind → Clean p c slot passed (code l (b ∷ behind))
  jumps_over slot k j b behind passed h written leads no_a no_x ready go = by_zero (j == 0) refl written
    where
      by_zero : (t : Bool) → (j == 0) ≡ t → code_of l b b.insn (ahead_in l behind) (total l behind) ≡ cond t [] (Ja (pos (ahead_in l behind j)) ∷ []) → Clean p c slot passed (code l (b ∷ behind))
      by_zero true z e = empty slot k b behind passed h e (subst (λ n. leads_to b (slice_get behind n) ≡ true) (eqb-true j 0 z) leads) no_a no_x ready go
      by_zero false z e = one_jump slot k j b behind passed h e leads no_a no_x ready go

  pub jump : (slot k j : ℕ) (b : Annotated) (behind : List Annotated) (passed : Option Arrival) → b.insn ≡ Jump j → Whole l marked p w slot k b behind passed
  jump slot k j b behind passed is h ready go =
      jumps_over slot k j b behind passed h (ap (λ i. code_of l b i (ahead_in l behind) (total l behind)) is)
      (not_beyond l (leads_to b (slice_get behind j)) (subst (λ i. (is_beyond l i || leads_on b i behind) ≡ true) is (agreed l b behind h.reached h.agree).leads))
      (ap sets_a is) (ap sets_x is) ready go

  -- ---- tests of A

  -- what a test of A reads is set
  record Tested (b : Annotated) (source : Source) : Type 0 where
    a_set : b.a ≡ true
    x_set : is_register source ≡ true → b.x ≡ true
    no_a : sets_a b.insn ≡ false
    no_x : sets_x b.insn ≡ false

  source_word : (b : Annotated) (source : Source) (s : AbstractState) → Tested b source → Sat IsIn l marked b.a b.x s → HasWord p.order l.length s (operand_of source)
  source_word b (K k) s t sat = tt
  source_word b FromX s t sat = sat.x_in (t.x_set refl)

  -- an edge of a test of A to where a template begins
  test_lands : (slot d t : ℕ) (test : Cond) (source : Source) (taken : Bool) (r : Arrival) (e : AbstractState) (b : Annotated) → is_signed test ≡ false → Tested b source → Good l marked p slot b.a b.x r → Landing l marked p w b t → far p t + 1 ≤ far p slot
      → branch (JumpIfInsn test W32 R0 (operand_of source) (pos d)) taken r.state ≡ Some e → IsOpen l marked p slot (JumpIfInsn test W32 R0 (operand_of source) (pos d)) r t e
  test_lands slot d t test source taken r e b unsigned reads g to less eq =
      let k = edge_a l marked b.a b.x source test taken (pos d) r.state e unsigned g.state reads.a_set reads.x_set eq in
      open_landing l marked p w slot t (JumpIfInsn test W32 R0 (operand_of source) (pos d)) b.a b.x b.a b.x r e b refl g to
      (λ e. without b.a (sets_a b.insn) reads.no_a (to.a_less e)) (λ e. without b.x (sets_x b.insn) reads.no_x (to.x_less e)) k.sat k.tag k.turns less

  test_inside : (slot d t : ℕ) (test : Cond) (source : Source) (r : Arrival) (b : Annotated) → Tested b source → Good l marked p slot b.a b.x r → Landing l marked p w b t → far p t + 1 ≤ far p slot → t < length p.list
  test_inside slot d t test source r b reads g to less =
      landing_inside l marked p w slot t (JumpIfInsn test W32 R0 (operand_of source) (pos d)) b.a b.x r b refl g to (λ e. without b.a (sets_a b.insn) reads.no_a (to.a_less e)) (λ e. without b.x (sets_x b.insn) reads.no_x (to.x_less e)) less

  -- a test alone
  test_alone : (slot k j : ℕ) (test : Cond) (source : Source) (b : Annotated) (behind : List Annotated) (passed : Option Arrival) → is_signed test ≡ false → Tested b source → Place l marked p slot k b behind
      → code_of l b b.insn (ahead_in l behind) (total l behind) ≡ JumpIfInsn test W32 R0 (operand_of source) (pos (ahead_in l behind j)) ∷ [] → leads_to b (slice_get behind j) ≡ true → leads_to b (slice_get behind 0) ≡ true
      → Ready l marked p slot (b ∷ behind) passed → Going l marked p (slot + size l b) behind → Clean p c slot passed (code l (b ∷ behind))
  test_alone slot k j test source b behind passed unsigned reads h written leads leads' ready go =
      let d = ahead_in l behind j in
      let i : Insn = JumpIfInsn test W32 R0 (operand_of source) (pos d) in
      let put = laid l marked p w slot k b behind (i ∷ []) h written in
      let lt = stands_in l marked p w slot i (code l behind) put.has in
      let long = put.long in
      let here = first_comes l marked p w slot k b behind passed h (omega (arith, long)) lt ready in
      let r = here.arrival in
      let next : slot + size l b ≡ slot + 1 = omega (arith, long) in
      let to = landing l marked p w slot k j (slot + 1 + d) b behind (i ∷ []) h put leads refl in
      let on = landing l marked p w slot k 0 (slot + 1) b behind (i ∷ []) h put leads' (omega arith) in
      let stands = put.has.0 in
      let led = end_leads l marked p w slot i lt stands refl in
      let sat = here.good.state in
      put.back passed
      (test_step l marked p w.narrow slot test W32 R0 (operand_of source) d (code l behind) r passed here.arrives_is
      (test_done p.order l.length r.state test W32 R0 (operand_of source) (pos d) (sat.a_in reads.a_set) (source_word b source r.state reads sat))
      (test_inside slot d (slot + 1 + d) test source r b reads here.good to (test_way l marked p w slot d test W32 R0 (operand_of source) stands)) (wants_landing l marked p w (slot + 1 + d) b to (jump_leads l marked p w slot (slot + 1 + d) i lt stands refl)) (test_inside slot d (slot + 1) test source r b reads here.good on (other_way l marked p w slot d test W32 R0 (operand_of source) stands))
      (λ e eq. test_lands slot d (slot + 1 + d) test source true r e b unsigned reads here.good to (test_way l marked p w slot d test W32 R0 (operand_of source) stands) eq)
      (λ e eq. test_lands slot d (slot + 1) test source false r e b unsigned reads here.good on (other_way l marked p w slot d test W32 R0 (operand_of source) stands) eq)
      (λ o. subst (λ n. Going l marked p n behind) next go o (ready_led l marked p w (slot + 1) behind o led)))

  -- a test, and a jump behind it
  test_and_jump : (slot k d j m : ℕ) (test : Cond) (source : Source) (b : Annotated) (behind : List Annotated) (passed : Option Arrival) → is_signed test ≡ false → Tested b source → Place l marked p slot k b behind
      → code_of l b b.insn (ahead_in l behind) (total l behind) ≡ JumpIfInsn test W32 R0 (operand_of source) (pos d) ∷ Ja (pos (ahead_in l behind m)) ∷ [] → d ≡ ahead_in l behind j + 1 → leads_to b (slice_get behind j) ≡ true → leads_to b (slice_get behind m) ≡ true
      → opens_at b b.insn 1 ≡ true → may_turn b.insn 1 ≡ false → ((s : AbstractState) → register_entails (register s R4) (index_known l b.insn 1) ≡ true)
      → Ready l marked p slot (b ∷ behind) passed → Going l marked p (slot + size l b) behind → Clean p c slot passed (code l (b ∷ behind))
  test_and_jump slot k d j m test source b behind passed unsigned reads h written d_is leads leads' opened none index ready go =
      let i : Insn = JumpIfInsn test W32 R0 (operand_of source) (pos d) in
      let e = ahead_in l behind m in
      let put = laid l marked p w slot k b behind (i ∷ Ja (pos e) ∷ []) h written in
      let lt = stands_in l marked p w slot i (Ja (pos e) ∷ code l behind) put.has in
      let lt' = stands_in l marked p w (slot + 1) (Ja (pos e)) (code l behind) put.has.1 in
      let long = put.long in
      let here = first_comes l marked p w slot k b behind passed h (omega (arith, long)) lt ready in
      let r = here.arrival in
      let next : slot + size l b ≡ slot + 1 + 1 = omega (arith, long) in
      let to = landing l marked p w slot k j (slot + 1 + d) b behind (i ∷ Ja (pos e) ∷ []) h put leads (omega (arith, d_is)) in
      let to' = landing l marked p w slot k m (slot + 1 + 1 + e) b behind (i ∷ Ja (pos e) ∷ []) h put leads' (omega arith) in
      let stands = put.has.0 in
      let led = end_leads l marked p w slot i lt stands refl in
      let part = part_on l marked p w slot k 1 b behind h (omega (arith, long)) in
      let sat = here.good.state in
      put.back passed
      (test_step l marked p w.narrow slot test W32 R0 (operand_of source) d (Ja (pos e) ∷ code l behind) r passed here.arrives_is
      (test_done p.order l.length r.state test W32 R0 (operand_of source) (pos d) (sat.a_in reads.a_set) (source_word b source r.state reads sat))
      (test_inside slot d (slot + 1 + d) test source r b reads here.good to (test_way l marked p w slot d test W32 R0 (operand_of source) stands)) (wants_landing l marked p w (slot + 1 + d) b to (jump_leads l marked p w slot (slot + 1 + d) i lt stands refl)) lt'
      (λ e eq. test_lands slot d (slot + 1 + d) test source true r e b unsigned reads here.good to (test_way l marked p w slot d test W32 R0 (operand_of source) stands) eq)
      (λ e eq.
      let kept = edge_a l marked b.a b.x source test false (pos d) r.state e unsigned sat reads.a_set reads.x_set eq in
      open_inner l marked p w slot (slot + 1) 1 i b.a b.x b.a b.x r e b refl here.good part lt' kept.sat (index e) (turns_entail l b.insn 1 e none kept.sat.turns_in) kept.tag (λ loops. few_turns l marked p r.state e (sat.turns_in loops) kept.turns)
      (other_way l marked p w slot d test W32 R0 (operand_of source) stands))
      (λ o.
      let there = at_label l marked p w (slot + 1) 1 b o part lt' led opened none in
      jumping l marked p w (slot + 1) e (code l behind) b.a b.x there.arrival o b there.good there.arrives_is put.has.1.0 lt' to' (λ e. without b.a (sets_a b.insn) reads.no_a (to'.a_less e)) (λ e. without b.x (sets_x b.insn) reads.no_x (to'.x_less e))
      (λ led o. subst (λ n. Going l marked p n behind) next go o (ready_led l marked p w (slot + 1 + 1) behind o led))))

  unsigned_test : (test : Test) → is_signed (same_test test) ≡ false
  unsigned_test Eq = refl
  unsigned_test Gt = refl
  unsigned_test Ge = refl
  unsigned_test Set = refl

  pub test_of_a : (slot k : ℕ) (test : Test) (source : Source) (jt jf : ℕ) (b : Annotated) (behind : List Annotated) (passed : Option Arrival) → b.insn ≡ JumpIf test source jt jf → Whole l marked p w slot k b behind passed
  test_of_a slot k test source jt jf b behind passed is h ready go = by_same (jt == jf) refl written
    where
      here : List Insn
      here = code_of l b b.insn (ahead_in l behind) (total l behind)

      written : here ≡ if_code test source jt jf (ahead_in l behind jt) (ahead_in l behind jf)
      written = ap (λ i. code_of l b i (ahead_in l behind) (total l behind)) is

      both : (leads_to b (slice_get behind jt) ≡ true) × (leads_to b (slice_get behind jf) ≡ true)
      both = and_parts (leads_to b (slice_get behind jt)) (leads_to b (slice_get behind jf)) (not_beyond l (leads_to b (slice_get behind jt) && leads_to b (slice_get behind jf)) (subst (λ i. (is_beyond l i || leads_on b i behind) ≡ true) is (agreed l b behind h.reached h.agree).leads))

      reads : (jt == jf) ≡ false → Tested b source
      reads ne = record {
        a_set = (agreed l b behind h.reached h.agree).a_set (ap reads_a is ∙ ap not ne);
        x_set = λ e. (agreed l b behind h.reached h.agree).x_set (ap reads_x is ∙ ap₂ (λ r t. r && not t) e ne);
        no_a = ap sets_a is;
        no_x = ap sets_x is;
      }

      opened : opens_at b b.insn 1 ≡ true
      opened = ap (λ i. opens_at b i 1) is

      none : may_turn b.insn 1 ≡ false
      none = ap (λ i. may_turn i 1) is

      index : (s : AbstractState) → register_entails (register s R4) (index_known l b.insn 1) ≡ true
      index s = subst (λ i. register_entails (register s R4) (index_known l i 1) ≡ true) (sym is) refl

      -- the next instruction follows where the test holds
      unless : (test : Test) → jt ≡ 0 → (jt == jf) ≡ false → here ≡ unless_code (inverse test) source (ahead_in l behind jf) → Clean p c slot passed (code l (b ∷ behind))
      unless Eq z ne e = test_alone slot k jf IsNe source b behind passed refl (reads ne) h e both.1 (subst (λ n. leads_to b (slice_get behind n) ≡ true) z both.0) ready go
      unless Gt z ne e = test_alone slot k jf IsLe source b behind passed refl (reads ne) h e both.1 (subst (λ n. leads_to b (slice_get behind n) ≡ true) z both.0) ready go
      unless Ge z ne e = test_alone slot k jf IsLt source b behind passed refl (reads ne) h e both.1 (subst (λ n. leads_to b (slice_get behind n) ≡ true) z both.0) ready go
      unless Set z ne e = test_and_jump slot k 1 0 jf IsSet source b behind passed refl (reads ne) h e (omega arith) (subst (λ n. leads_to b (slice_get behind n) ≡ true) z both.0) both.1 opened none index ready go

      -- a jump stands behind the test, or nothing
      by_last : (t : Bool) → (jf == 0) ≡ t → (jt == jf) ≡ false → here ≡ JumpIfInsn (same_test test) W32 R0 (operand_of source) (pos (ahead_in l behind jt + length (cond t [] (Ja (pos 0) ∷ [])))) ∷ cond t [] (Ja (pos (ahead_in l behind jf)) ∷ []) → Clean p c slot passed (code l (b ∷ behind))
      by_last true z ne e =
          test_alone slot k jt (same_test test) source b behind passed (unsigned_test test) (reads ne) h
          (e ∙ (let n : ahead_in l behind jt + 0 ≡ ahead_in l behind jt = omega arith in ap (λ d. JumpIfInsn (same_test test) W32 R0 (operand_of source) (pos d) ∷ []) n))
          both.0 (subst (λ n. leads_to b (slice_get behind n) ≡ true) (eqb-true jf 0 z) both.1) ready go
      by_last false z ne e = test_and_jump slot k (ahead_in l behind jt + 1) jt jf (same_test test) source b behind passed (unsigned_test test) (reads ne) h e refl both.0 both.1 opened none index ready go

      by_zero : (t : Bool) → (jt == 0) ≡ t → (jt == jf) ≡ false → here ≡ cond t (unless_code (inverse test) source (ahead_in l behind jf)) (JumpIfInsn (same_test test) W32 R0 (operand_of source) (pos (ahead_in l behind jt + length (jump_code jf 0))) ∷ jump_code jf (ahead_in l behind jf)) → Clean p c slot passed (code l (b ∷ behind))
      by_zero true z ne e = unless test (eqb-true jt 0 z) ne e
      by_zero false z ne e = by_last (jf == 0) refl ne e

      by_same : (t : Bool) → (jt == jf) ≡ t → here ≡ cond t (jump_code jt (ahead_in l behind jt)) (cond (jt == 0) (unless_code (inverse test) source (ahead_in l behind jf)) (JumpIfInsn (same_test test) W32 R0 (operand_of source) (pos (ahead_in l behind jt + length (jump_code jf 0))) ∷ jump_code jf (ahead_in l behind jf))) → Clean p c slot passed (code l (b ∷ behind))
      by_same true s e = jumps_over slot k jt b behind passed h e both.0 (ap sets_a is) (ap sets_x is) ready go
      by_same false s e = by_zero (jt == 0) refl s e
