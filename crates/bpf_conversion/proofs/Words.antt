-- Templates of one instruction that writes a number to A or X: constants, negations and moves.
use Rattle.std.proofs.Common.{◌≡◌, ℕ, ◌+◌, List, [], ◌∷◌, ◌++◌, length, Bool, true, false, Option, None, refl, sym, ap, ◌∙◌, subst, arith}
use Rattle.std.specs.Prelude.{nat_lt, ◌||◌, slice_get}
use Rattle.std.specs.Int.{cast_signed, w32}
use Rattle.std.proofs.lemmas.Bool.{cond-true, le-ltb, false≢true}
use Rattle.std.proofs.lemmas.List.{get_or-set_other}
use Rattle.bpf_insn.specs.Instruction.{Instructions}
use Rattle.bpf_insn.specs.declared.instruction.Reg.TheVariants.{R0, R3, R5}
use Rattle.bpf_insn.specs.declared.instruction.Width.{Width}
use Rattle.bpf_insn.specs.declared.instruction.Width.TheVariants.{W32}
use Rattle.bpf_insn.specs.declared.instruction.Operand.{Operand}
use Rattle.bpf_insn.specs.declared.instruction.Operand.TheVariants.{Reg as FromReg}
use Rattle.bpf_insn.specs.declared.instruction.AluOp.{AluOp}
use Rattle.bpf_insn.specs.declared.instruction.AluOp.TheVariants.{Mov}
use Rattle.bpf_insn.specs.declared.instruction.Reg.{Reg}
use Rattle.bpf_insn.specs.declared.instruction.Insn.{Insn}
use Rattle.bpf_insn.specs.declared.instruction.Insn.TheVariants.{Alu as AluInsn, Neg as NegInsn}
use Rattle.bpf_state.specs.State.{AbstractState, register, register_tag, put_register}
use Rattle.bpf_cert.specs.View.{CertificateView}
use Rattle.bpf_safety.specs.Flow.{Arrival}
use Rattle.bpf_classic.specs.declared.instruction.Register.TheVariants.{A, X}
use Rattle.bpf_classic.specs.declared.instruction.Classic.TheVariants.{Constant, Neg, Tax, Txa}
use Rattle.bpf_classic.specs.Template.{room, constant, is_beyond, code_of, nowhere, size, total, ahead_in, code}
use Rattle.bpf_classic.specs.Flow.{reads_a, reads_x, sets_a, sets_x, leads_to, leads_on, all_agree}
use Rattle.bpf_classic.specs.declared.layout.Layout.{Layout}
use Rattle.bpf_classic.specs.declared.layout.Annotated.{Annotated}
use Rattle.bpf_classic.proofs.Steps.{HasAt, has_length}
use Rattle.bpf_conversion.specs.Claim.{claim_of}
use Rattle.bpf_conversion.specs.Outline.{IsNarrow}
use Rattle.bpf_conversion.proofs.Numbers.{IsIn}
use Rattle.bpf_conversion.proofs.TemplateStates.{Sat, put_r0, put_r3, weaker, other_register}
use Rattle.bpf_conversion.proofs.LabelStates.{AreSmall}
use Rattle.bpf_conversion.proofs.Steps.{Done, Gives, move_constant, move_register, negate}
use Rattle.bpf_conversion.proofs.Visits.{Clean}
use Rattle.bpf_conversion.proofs.Edges.{IsPlain}
use Rattle.bpf_conversion.proofs.Starts.{StandsAt, further, agreed, led_to}
use Rattle.bpf_conversion.proofs.Plain.{Ready, comes, on_plain}

-- where the template of an instruction that is reached stands
pub record Place (l : Layout) (marked : List Annotated) (p : Instructions) (slot k : ℕ) (b : Annotated) (behind : List Annotated) : Type 0 where
  pub stands : StandsAt l marked k slot (b ∷ behind)
  pub has : HasAt p slot (code l (b ∷ behind))
  pub agree : all_agree l (b ∷ behind) ≡ true
  pub reached : b.reached ≡ true

-- whatever goes on to a slot, no flaw is found from there on
abbrev pub Going : Layout → List Annotated → Instructions → ℕ → List Annotated → Type 0
Going l marked p slot behind = (o : Option Arrival) → Ready l marked p slot behind o → Clean p (claim_of l marked p.list) slot o (code l behind)

-- what an instruction makes of a state; r5 stays
pub record Makes (l : Layout) (marked : List Annotated) (p : Instructions) (i : Insn) (b : Annotated) (s : AbstractState) : Type 0 where
  pub state : AbstractState
  pub is_done : Done p.order l.length i s state
  pub sat : Sat IsIn l marked (b.a || sets_a b.insn) (b.x || sets_x b.insn) state
  pub tag : register_tag state R5 ≡ register_tag s R5
  pub turns : register state R5 ≡ register s R5

without : (b c : Bool) → c ≡ false → (b || c) ≡ true → b ≡ true
without true c e h = refl
without false c e h = absurd (false≢true (sym e ∙ h))

not_beyond : (l : Layout) (b : Bool) → (nat_lt (room l) 0 || b) ≡ true → b ≡ true
not_beyond l b h = sym (ap (λ t. t || b) (le-ltb (room l) 0 (omega arith))) ∙ h

pub plain_alu : (p : Instructions) (c : CertificateView) (op : AluOp) (width : Width) (dst : Reg) (src : Operand) → IsPlain p c (AluInsn op width dst src)
plain_alu p c op width dst src = record { one = refl; no_target = λ slot. refl; next = λ slot s. refl; cost = λ slot r. refl; no_callee = λ slot. refl; no_call = λ v. refl; no_return = λ v r. refl; no_exit = λ v r o. refl; way = λ behind. refl }

pub plain_neg : (p : Instructions) (c : CertificateView) (width : Width) (dst : Reg) → IsPlain p c (NegInsn width dst)
plain_neg p c width dst = record { one = refl; no_target = λ slot. refl; next = λ slot s. refl; cost = λ slot r. refl; no_callee = λ slot. refl; no_call = λ v. refl; no_return = λ v r. refl; no_exit = λ v r o. refl; way = λ behind. refl }

module _ (l : Layout) (marked : List Annotated) (p : Instructions) where
  -- a number in A, and in X
  pub makes_a : (i : Insn) (b : Annotated) (s : AbstractState) → sets_x b.insn ≡ false → Sat IsIn l marked b.a b.x s → Gives p.order l.length i s R0 → Makes l marked p i b s
  makes_a i b s none h g = record {
    state = put_register R0 g.value g.tag s;
    is_done = g.is_done;
    sat = weaker IsIn l marked true b.x (b.a || sets_a b.insn) (b.x || sets_x b.insn) (put_register R0 g.value g.tag s) (λ _. refl) (λ e. without b.x (sets_x b.insn) none e) (put_r0 IsIn l marked b.a b.x s g.value g.tag h true g.is_word);
    tag = get_or-set_other s.register_tags 0 5 g.tag None (λ e. omega (arith, e));
    turns = other_register s R0 R5 g.value g.tag (λ e. omega (arith, e));
  }

  pub makes_x : (i : Insn) (b : Annotated) (s : AbstractState) → sets_a b.insn ≡ false → Sat IsIn l marked b.a b.x s → Gives p.order l.length i s R3 → Makes l marked p i b s
  makes_x i b s none h g = record {
    state = put_register R3 g.value g.tag s;
    is_done = g.is_done;
    sat = weaker IsIn l marked b.a true (b.a || sets_a b.insn) (b.x || sets_x b.insn) (put_register R3 g.value g.tag s) (λ e. without b.a (sets_a b.insn) none e) (λ _. refl) (put_r3 IsIn l marked b.a b.x s g.value g.tag h true g.is_word);
    tag = get_or-set_other s.register_tags 3 5 g.tag None (λ e. omega (arith, e));
    turns = other_register s R3 R5 g.value g.tag (λ e. omega (arith, e));
  }

module _ (l : Layout) (marked : List Annotated) (p : Instructions) (narrow : IsNarrow p.list) (small : AreSmall l) where
  -- the template of one instruction that goes on at the next one's
  pub one_plain : (slot k : ℕ) (i : Insn) (b : Annotated) (behind : List Annotated) (passed : Option Arrival) → (h : Place l marked p slot k b behind) → ((f : ℕ → ℕ) (out : ℕ) → code_of l b b.insn f out ≡ i ∷ []) → leads_to b (slice_get behind 0) ≡ true
      → IsPlain p (claim_of l marked p.list) i → ((s : AbstractState) → Sat IsIn l marked b.a b.x s → Makes l marked p i b s) → Ready l marked p slot (b ∷ behind) passed → Going l marked p (slot + 1) behind → Clean p (claim_of l marked p.list) slot passed (code l (b ∷ behind))
  one_plain slot k i b [] passed h code_is leads plain makes ready go = absurd (false≢true leads)
  one_plain slot k i b (b' ∷ rest) passed h code_is leads plain makes ready go =
      let behind : List Annotated = b' ∷ rest in
      let written : code l (b ∷ behind) ≡ i ∷ code l behind =
      ap (λ xs. xs ++ code l behind) (cond-true b.reached (code_of l b b.insn (ahead_in l behind) (total l behind)) [] h.reached ∙ code_is (ahead_in l behind) (total l behind)) in
      let long : size l b ≡ 1 = ap length (cond-true b.reached (code_of l b b.insn nowhere 0) [] h.reached ∙ code_is nowhere 0) in
      let has : HasAt p slot (i ∷ code l behind) = subst (HasAt p slot) written h.has in
      let all = has_length p slot (i ∷ code l behind) has in
      let here = comes l marked p narrow small slot k b behind passed h.stands (omega (arith, long)) (omega (arith, all)) ready in
      let w = makes here.arrival.state here.good.state in
      let next = led_to b b' leads in
      let n : slot + size l b + ahead_in l behind 0 ≡ slot + 1 = omega (arith, long) in
      let stands : StandsAt l marked (k + 1 + 0) (slot + 1) behind = subst (λ m. StandsAt l marked (k + 1 + 0) m behind) n (further l marked k slot 0 b behind h.stands) in
      subst (Clean p (claim_of l marked p.list) slot passed) (sym written)
      (on_plain l marked p narrow small slot (k + 1 + 0) i b b' rest b.a b.x here.arrival passed w.state plain here.good here.arrives_is has.0 w.is_done (b.a || sets_a b.insn) (b.x || sets_x b.insn) w.sat w.tag w.turns stands has.1
      (agreed l b behind h.reached h.agree).others next.reached next.a_less next.x_less go)

  abbrev Ends : ℕ → ℕ → Annotated → List Annotated → Option Arrival → Type 0
  Ends slot k b behind passed = Place l marked p slot k b behind → Ready l marked p slot (b ∷ behind) passed → Going l marked p (slot + 1) behind → Clean p (claim_of l marked p.list) slot passed (code l (b ∷ behind))

  pub constant_a : (slot k n : ℕ) (b : Annotated) (behind : List Annotated) (passed : Option Arrival) → b.insn ≡ Constant A n → Ends slot k b behind passed
  constant_a slot k n b behind passed is h ready go =
      one_plain slot k (AluInsn Mov W32 R0 (constant n)) b behind passed h (λ f out. ap (λ j. code_of l b j f out) is)
      (not_beyond l (leads_to b (slice_get behind 0)) (subst (λ j. (is_beyond l j || leads_on b j behind) ≡ true) is (agreed l b behind h.reached h.agree).leads))
      (plain_alu p (claim_of l marked p.list) Mov W32 R0 (constant n))
      (λ s sat. makes_a l marked p (AluInsn Mov W32 R0 (constant n)) b s (ap sets_x is) sat (move_constant p.order l.length s R0 (cast_signed w32 n) refl)) ready go

  pub constant_x : (slot k n : ℕ) (b : Annotated) (behind : List Annotated) (passed : Option Arrival) → b.insn ≡ Constant X n → Ends slot k b behind passed
  constant_x slot k n b behind passed is h ready go =
      one_plain slot k (AluInsn Mov W32 R3 (constant n)) b behind passed h (λ f out. ap (λ j. code_of l b j f out) is)
      (not_beyond l (leads_to b (slice_get behind 0)) (subst (λ j. (is_beyond l j || leads_on b j behind) ≡ true) is (agreed l b behind h.reached h.agree).leads))
      (plain_alu p (claim_of l marked p.list) Mov W32 R3 (constant n))
      (λ s sat. makes_x l marked p (AluInsn Mov W32 R3 (constant n)) b s (ap sets_a is) sat (move_constant p.order l.length s R3 (cast_signed w32 n) refl)) ready go

  pub negation : (slot k : ℕ) (b : Annotated) (behind : List Annotated) (passed : Option Arrival) → b.insn ≡ Neg → Ends slot k b behind passed
  negation slot k b behind passed is h ready go =
      let g = agreed l b behind h.reached h.agree in
      one_plain slot k (NegInsn W32 R0) b behind passed h (λ f out. ap (λ j. code_of l b j f out) is)
      (not_beyond l (leads_to b (slice_get behind 0)) (subst (λ j. (is_beyond l j || leads_on b j behind) ≡ true) is g.leads))
      (plain_neg p (claim_of l marked p.list) W32 R0)
      (λ s sat. makes_a l marked p (NegInsn W32 R0) b s (ap sets_x is) sat (negate p.order l.length s (sat.a_in (g.a_set (ap reads_a is))))) ready go

  pub to_x : (slot k : ℕ) (b : Annotated) (behind : List Annotated) (passed : Option Arrival) → b.insn ≡ Tax → Ends slot k b behind passed
  to_x slot k b behind passed is h ready go =
      let g = agreed l b behind h.reached h.agree in
      one_plain slot k (AluInsn Mov W32 R3 (FromReg R0)) b behind passed h (λ f out. ap (λ j. code_of l b j f out) is)
      (not_beyond l (leads_to b (slice_get behind 0)) (subst (λ j. (is_beyond l j || leads_on b j behind) ≡ true) is g.leads))
      (plain_alu p (claim_of l marked p.list) Mov W32 R3 (FromReg R0))
      (λ s sat. makes_x l marked p (AluInsn Mov W32 R3 (FromReg R0)) b s (ap sets_a is) sat (move_register p.order l.length s R3 R0 refl (sat.a_in (g.a_set (ap reads_a is))))) ready go

  pub to_a : (slot k : ℕ) (b : Annotated) (behind : List Annotated) (passed : Option Arrival) → b.insn ≡ Txa → Ends slot k b behind passed
  to_a slot k b behind passed is h ready go =
      let g = agreed l b behind h.reached h.agree in
      one_plain slot k (AluInsn Mov W32 R0 (FromReg R3)) b behind passed h (λ f out. ap (λ j. code_of l b j f out) is)
      (not_beyond l (leads_to b (slice_get behind 0)) (subst (λ j. (is_beyond l j || leads_on b j behind) ≡ true) is g.leads))
      (plain_alu p (claim_of l marked p.list) Mov W32 R0 (FromReg R3))
      (λ s sat. makes_a l marked p (AluInsn Mov W32 R0 (FromReg R3)) b s (ap sets_x is) sat (move_register p.order l.length s R0 R3 refl (sat.x_in (g.x_set (ap reads_x is))))) ready go
