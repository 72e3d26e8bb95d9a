-- Templates that load from the packet at a constant offset.
use Rattle.std.proofs.Common.{◌≡◌, ℕ, suc, pos, ◌+ℤ◌, ◌≤ℤ◌, ◌+◌, ◌<◌, ◌≤◌, List, [], ◌∷◌, ◌++◌, length, Bool, true, false, cond, Option, Some, None, inl, inr, refl, sym, ap, ◌∙◌, subst, ⊎_elim, arith}
use Rattle.std.specs.Prelude.{◌⊎◌, nat_lt, ◌&&◌, ◌||◌, ◌==◌, slice_get}
use Rattle.std.proofs.lemmas.Bool.{cond-true, cond-false, or_left, or_right, or_from, and_from, and_left, and_right, false≢true, cases_lt, lt-ltb, ne_eqb}
use Rattle.std.proofs.lemmas.Int.{ints}
use Rattle.bpf_insn.specs.Instruction.{Instructions, byte_count}
use Rattle.bpf_insn.specs.Effects.{is_frame_pointer}
use Rattle.bpf_insn.specs.declared.instruction.Reg.{Reg}
use Rattle.bpf_insn.specs.declared.instruction.Reg.TheVariants.{R0, R1, R2, R3, R4}
use Rattle.bpf_insn.specs.declared.instruction.Operand.TheVariants.{Imm}
use Rattle.bpf_insn.specs.declared.instruction.Width.TheVariants.{W32, W64}
use Rattle.bpf_insn.specs.declared.instruction.Size.{Size}
use Rattle.bpf_insn.specs.declared.instruction.Size.TheVariants.{B}
use Rattle.bpf_insn.specs.declared.instruction.AluOp.TheVariants.{And as AndWith, Lsh as ShiftUp}
use Rattle.bpf_insn.specs.declared.instruction.Cond.TheVariants.{Lt as IsLt}
use Rattle.bpf_insn.specs.declared.instruction.EndBits.{EndBits}
use Rattle.bpf_insn.specs.declared.instruction.EndKind.TheVariants.{Be}
use Rattle.bpf_insn.specs.declared.instruction.Insn.{Insn}
use Rattle.bpf_insn.specs.declared.instruction.Insn.TheVariants.{Alu as AluInsn, End, Load, Ja, JumpIf as JumpIfInsn}
use Rattle.std.specs.Int.{cast_signed, w32}
use Rattle.bpf_state.specs.State.{AbstractState, register, start_of}
use Rattle.bpf_state.specs.Entails.{register_entails}
use Rattle.bpf_state.specs.declared.known.Area.TheVariants.{Context}
use Rattle.bpf_cert.specs.View.{CertificateView}
use Rattle.bpf_safety.specs.Flow.{Arrival, arrives}
use Rattle.bpf_classic.specs.Machine.{bytes}
use Rattle.bpf_classic.specs.declared.instruction.LoadSize.{LoadSize}
use Rattle.bpf_classic.specs.declared.instruction.LoadSize.TheVariants.{Byte, Half, Word}
use Rattle.bpf_classic.specs.declared.instruction.Classic.{Classic}
use Rattle.bpf_classic.specs.declared.instruction.Classic.TheVariants.{At, Header}
use Rattle.bpf_classic.specs.Template.{head, room, need, is_beyond, constant, insn_size, end_bits, is_swapped, swap_if, swap_of, length_test, at_code, header_code, code_of, size, total, ahead_in, code}
use Rattle.bpf_classic.specs.Flow.{sets_a, sets_x, leads_to, leads_on, tests_length, leads_to_trap, uses_trap}
use Rattle.bpf_classic.specs.declared.layout.Layout.{Layout}
use Rattle.bpf_classic.specs.declared.layout.Annotated.{Annotated}
use Rattle.bpf_classic.proofs.Steps.{HasAt}
use Rattle.bpf_conversion.specs.Parts.{part_at, tests_first, opens_at}
use Rattle.bpf_conversion.specs.Known.{index_known, may_turn}
use Rattle.bpf_conversion.specs.Claim.{claim_of}
use Rattle.bpf_conversion.specs.declared.parts.Stretch.TheVariants.{Template}
use Rattle.bpf_conversion.proofs.Numbers.{IsIn, any_word}
use Rattle.bpf_conversion.proofs.TemplateStates.{Sat, weaker}
use Rattle.bpf_conversion.proofs.Steps.{Gives, load_context, and_constant, shift_constant, swap, test_done}
use Rattle.bpf_conversion.proofs.Visits.{Clean}
use Rattle.bpf_conversion.proofs.Arrivals.{Good}
use Rattle.bpf_conversion.proofs.Edges.{IsPlain}
use Rattle.bpf_conversion.proofs.Starts.{Agrees, agreed}
use Rattle.bpf_conversion.proofs.Plain.{Ready}
use Rattle.bpf_conversion.proofs.Words.{Place, Going, Makes, makes_a, makes_x, plain_alu}
use Rattle.bpf_conversion.proofs.Contexts.{plain_load}
use Rattle.bpf_conversion.proofs.TestEdges.{edge_room}
use Rattle.bpf_conversion.proofs.TemplateEdges.{World, stands_in, TrapAt, trap_stands, at_label}
use Rattle.bpf_conversion.proofs.Inner.{laid, ready_led, first_comes, inner, last, jump_to_trap, test_to_trap, part_on}
use Rattle.bpf_conversion.proofs.Ends.{Whole}

plain_end : (p : Instructions) (c : CertificateView) (bits : EndBits) → IsPlain p c (End Be bits R0)
plain_end p c bits = record { one = refl; no_target = λ slot. refl; next = λ slot s. refl; cost = λ slot r. refl; no_callee = λ slot. refl; no_call = λ v. refl; no_return = λ v r. refl; no_exit = λ v r o. refl; way = λ behind. refl }

-- a swap, or none
abbrev pub SwapOrNone : List Insn → Type 0
SwapOrNone sw = (sw ≡ []) ⊎ ((bits : EndBits) × (sw ≡ End Be bits R0 ∷ []))

swap_shape : (o : Option EndBits) → SwapOrNone (swap_if o)
swap_shape None = inl refl
swap_shape (Some bits) = inr (bits, refl)

pub swaps : (l : Layout) (size : LoadSize) → SwapOrNone (swap_of l size)
swaps l size = by_swapped (is_swapped l)
  where
    by_swapped : (t : Bool) → SwapOrNone (cond t (swap_if (end_bits size)) [])
    by_swapped true = swap_shape (end_bits size)
    by_swapped false = inl refl

pub size_bytes : (size : LoadSize) → byte_count (insn_size size) ≡ bytes size
size_bytes Byte = refl
size_bytes Half = refl
size_bytes Word = refl

-- only its first slots can have labels
abbrev pub Closed : Annotated → ℕ → Type 0
Closed b o = (j : ℕ) → o < j → opens_at b b.insn j ≡ false

module _ (l : Layout) (marked : List Annotated) (p : Instructions) (w : World l marked p) where
  abbrev c : CertificateView
  c = claim_of l marked p.list

  -- ---- beyond every packet there is nothing to load

  pub beyond : (slot k : ℕ) (b : Annotated) (behind : List Annotated) (passed : Option Arrival) → code_of l b b.insn (ahead_in l behind) (total l behind) ≡ Ja (pos (total l behind)) ∷ [] → l.trap ≡ true → Whole l marked p w slot k b behind passed
  beyond slot k b behind passed written trap h ready go =
      let d = total l behind in
      let put = laid l marked p w slot k b behind (Ja (pos d) ∷ []) h written in
      let lt = stands_in l marked p w slot (Ja (pos d)) (code l behind) put.has in
      let long = put.long in
      let here = first_comes l marked p w slot k b behind passed h (omega (arith, long)) lt ready in
      let next : slot + size l b ≡ slot + 1 = omega (arith, long) in
      let at : slot + size l b + d ≡ slot + 1 + d = omega (arith, long) in
      put.back passed
      (jump_to_trap l marked p w slot d (code l behind) b.a b.x here.arrival passed here.good here.arrives_is put.has.0 lt (subst (TrapAt l marked p w) at (trap_stands l marked p w slot k b behind h.stands h.has trap))
      (λ led o. subst (λ n. Going l marked p n behind) next go o (ready_led l marked p w (slot + 1) behind o led)))

  -- ---- the number of bytes is tested, or known

  -- what comes behind the test, at a slot of the template
  abbrev pub Body : ℕ → Annotated → List Annotated → List Insn → Type 0
  Body slot b behind tail = (t o : ℕ) (r : Arrival) (passed : Option Arrival) → t ≡ slot + o → Good l marked p t b.a b.x r → arrives c t passed ≡ Some r → HasAt p t (tail ++ code l behind) → t + length tail ≡ slot + size l b → Closed b o → Clean p c t passed (tail ++ code l behind)

  pub tested : (slot k : ℕ) (b : Annotated) (behind : List Annotated) (passed : Option Arrival) (i : Insn) (is : List Insn) → code_of l b b.insn (ahead_in l behind) (total l behind) ≡ length_test b (1 + length is) (total l behind) ++ i ∷ is → (tests_first b ≡ true → l.trap ≡ true)
      → (tests_first b ≡ true → opens_at b b.insn 1 ≡ true) → (tests_first b ≡ true → Closed b 1) → (tests_first b ≡ false → Closed b 0) → may_turn b.insn 1 ≡ false → ((s : AbstractState) → register_entails (register s R4) (index_known l b.insn 1) ≡ true)
      → Body slot b behind (i ∷ is) → Place l marked p slot k b behind → Ready l marked p slot (b ∷ behind) passed → Clean p c slot passed (code l (b ∷ behind))
  tested slot k b behind passed i is written trap opened closed closed' none index body h ready = by_test (tests_first b) refl written
    where
      tail : List Insn
      tail = i ∷ is

      d : ℕ
      d = total l behind + (1 + length is)

      test : Insn
      test = JumpIfInsn IsLt W64 R2 (constant (need b.insn)) (pos d)

      by_test : (t : Bool) → tests_first b ≡ t → code_of l b b.insn (ahead_in l behind) (total l behind) ≡ cond t (test ∷ []) [] ++ tail → Clean p c slot passed (code l (b ∷ behind))
      by_test true t e =
          let put = laid l marked p w slot k b behind (test ∷ tail) h e in
          let lt' = stands_in l marked p w (slot + 1) i (is ++ code l behind) put.has.1 in
          let long = put.long in
          let here = first_comes l marked p w slot k b behind passed h (omega (arith, long)) (omega (arith, lt')) ready in
          let r = here.arrival in
          let sat = here.good.state in
          let at : slot + size l b + total l behind ≡ slot + 1 + d = omega (arith, long) in
          let part = part_on l marked p w slot k 1 b behind h (omega (arith, long)) in
          put.back passed
          (test_to_trap l marked p w slot 1 d IsLt W64 R2 (constant (need b.insn)) (tail ++ code l behind) r passed b here.good here.arrives_is put.has.0 lt'
          (test_done p.order l.length r.state IsLt W64 R2 (constant (need b.insn)) (pos d) (any_word _ _ (register r.state R2) sat.room_in) tt)
          (subst (TrapAt l marked p w) at (trap_stands l marked p w slot k b behind h.stands h.has (trap t)))
          (λ taken e eq. edge_room l marked b.a b.x taken (cast_signed w32 (need b.insn)) (pos d) r.state e sat eq)
          part none (λ e eq. index e)
          (λ led o.
          let there = at_label l marked p w (slot + 1) 1 b o part lt' led (opened t) none in
          body (slot + 1) 1 there.arrival o refl there.good there.arrives_is put.has.1 (omega (arith, long)) (closed t)))
      by_test false t e =
          let put = laid l marked p w slot k b behind tail h e in
          let lt = stands_in l marked p w slot i (is ++ code l behind) put.has in
          let long = put.long in
          let here = first_comes l marked p w slot k b behind passed h (omega (arith, long)) lt ready in
          put.back passed (body slot 0 here.arrival passed (omega arith) here.good here.arrives_is put.has (omega (arith, long)) (closed' t))

  -- ---- a load into A, and its bytes exchanged where they lie in the other order

  pub load_swap : (slot k t o : ℕ) (i : Insn) (sw : List Insn) (b : Annotated) (behind : List Annotated) (r : Arrival) (passed : Option Arrival) → SwapOrNone sw → Place l marked p slot k b behind → t ≡ slot + o → t + suc (length sw) ≡ slot + size l b → Closed b o → HasAt p t (i ∷ sw ++ code l behind)
      → IsPlain p c i → Good l marked p t b.a b.x r → arrives c t passed ≡ Some r → Gives p.order l.length i r.state R0 → leads_to b (slice_get behind 0) ≡ true → sets_a b.insn ≡ true → sets_x b.insn ≡ false
      → ((j : ℕ) → may_turn b.insn j ≡ false) → ((s : AbstractState) → register_entails (register s R4) (index_known l b.insn (o + 1)) ≡ true) → Going l marked p (slot + size l b) behind → Clean p c t passed (i ∷ sw ++ code l behind)
  load_swap slot k t o i sw b behind r passed shape h at long closed has plain g here gives leads a_set no_x none index go =
      ⊎_elim
      (λ (e : sw ≡ []).
      let short : t + 1 ≡ slot + size l b = (let n = ap length e in omega (arith, long, n)) in
      subst (λ sw. Clean p c t passed (i ∷ sw ++ code l behind)) (sym e)
      (last l marked p w slot k t i b behind b.a b.x (b.a || sets_a b.insn) (b.x || sets_x b.insn) r passed m.state h short (subst (λ sw. HasAt p t (i ∷ sw ++ code l behind)) e has) leads plain g here m.is_done m.sat m.tag m.turns (λ e. e) (λ e. e) go))
      (λ (e : (bits : EndBits) × (sw ≡ End Be bits R0 ∷ [])).
      let j : Insn = End Be e.0 R0 in
      let has' : HasAt p t (i ∷ j ∷ code l behind) = subst (λ sw. HasAt p t (i ∷ sw ++ code l behind)) e.1 has in
      let lt' = stands_in l marked p w (t + 1) j (code l behind) has'.1 in
      let n = ap length e.1 in
      let on : slot + (o + 1) ≡ t + 1 = omega (arith, at) in
      let part : part_at l marked (t + 1) ≡ Template b (o + 1) = ap (part_at l marked) (sym on) ∙ part_on l marked p w slot k (o + 1) b behind h (omega (arith, long, n, at)) in
      subst (λ sw. Clean p c t passed (i ∷ sw ++ code l behind)) (sym e.1)
      (inner l marked p w t (o + 1) i (j ∷ code l behind) b.a b.x (b.a || sets_a b.insn) (b.x || sets_x b.insn) r passed m.state b plain g here has'.0 m.is_done part lt' (closed (o + 1) (omega arith)) (none (o + 1)) m.sat m.tag m.turns
      (λ e. or_left b.a (sets_a b.insn) e) (λ e. or_left b.x (sets_x b.insn) e) (index m.state)
      (λ r' state_is good arrives_is.
      let s = r'.state in
      let word = good.state.a_in (or_right b.a (sets_a b.insn) a_set) in
      let m' = makes_a l marked p j b s no_x (weaker IsIn l marked (b.a || sets_a b.insn) (b.x || sets_x b.insn) b.a b.x s (λ e. or_left b.a (sets_a b.insn) e) (λ e. or_left b.x (sets_x b.insn) e) good.state) (swap p.order l.length s Be e.0 word) in
      last l marked p w slot k (t + 1) j b behind (b.a || sets_a b.insn) (b.x || sets_x b.insn) (b.a || sets_a b.insn) (b.x || sets_x b.insn) r' (Some r') m'.state h (omega (arith, long, n)) has'.1 leads (plain_end p c e.0) good arrives_is m'.is_done m'.sat m'.tag m'.turns (λ e. e) (λ e. e) go)))
      shape
    where
      m : Makes l marked p i b r.state
      m = makes_a l marked p i b r.state no_x g.state gives

  -- where the bytes lie in the context
  from_context : (s : AbstractState) (a x : Bool) (size : Size) (dst : Reg) (at : ℕ) → Sat IsIn l marked a x s → is_frame_pointer dst ≡ false → at + byte_count size ≤ l.length → Gives p.order l.length (Load size dst R1 (pos at)) s dst
  from_context s a x size dst at sat ten fits =
      load_context p.order l.length s size dst R1 (pos at) (start_of Context) ten sat.context refl (low at) (high at (byte_count size) l.length fits)
    where
      low : (n : ℕ) → pos 0 ≤ℤ (pos 0 +ℤ pos n)
      low n = grind (arith, ints)

      high : (n count least : ℕ) → n + count ≤ least → ((pos 0 +ℤ pos n) +ℤ pos count) ≤ℤ pos least
      high n count least h = grind (arith, ints, h)

  -- what is needed is there
  not_beyond : (b : Annotated) (i : Classic) (n : ℕ) → is_beyond l i ≡ false → need i ≡ n → head l.form + n ≤ l.length
  not_beyond b i n inside is =
      let fits = w.fits in
      ⊎_elim
      (λ (lt : room l < need i). absurd (false≢true (sym inside ∙ lt-ltb (room l) (need i) lt)))
      (λ (le : need i ≤ room l). omega (arith, le, is, fits))
      (cases_lt (room l) (need i))

  -- which slots can have labels
  closed_first : (b : Annotated) (j : ℕ) → tests_first b ≡ false → 0 < j → ((j == 0) || (tests_first b && (j == 1))) ≡ false
  closed_first b j none some = or_from (j == 0) (tests_first b && (j == 1)) (ne_eqb j 0 (λ e. omega (arith, e, some))) (and_left (tests_first b) (j == 1) none)

  closed_second : (b : Annotated) (j : ℕ) → 1 < j → ((j == 0) || (tests_first b && (j == 1))) ≡ false
  closed_second b j some = or_from (j == 0) (tests_first b && (j == 1)) (ne_eqb j 0 (λ e. omega (arith, e, some))) (and_right (tests_first b) (j == 1) (ne_eqb j 1 (λ e. omega (arith, e, some))))

  uses : (b : Annotated) → b.reached ≡ true → leads_to_trap l b b.insn ≡ true → uses_trap l b ≡ true
  uses b reached leads = and_from b.reached (leads_to_trap l b b.insn) reached leads

  pub at_constant : (slot k n : ℕ) (size : LoadSize) (b : Annotated) (behind : List Annotated) (passed : Option Arrival) → b.insn ≡ At size n → Whole l marked p w slot k b behind passed
  at_constant slot k n size b behind passed is h ready go = by_beyond (is_beyond l b.insn) refl
    where
      g : Agrees l b behind
      g = agreed l b behind h.reached h.agree

      written : code_of l b b.insn (ahead_in l behind) (total l behind) ≡ cond (is_beyond l b.insn) (Ja (pos (total l behind)) ∷ []) (at_code l b size n (total l behind))
      written = ap (λ j. code_of l b j (ahead_in l behind) (total l behind)) is ∙ ap (λ j. cond (is_beyond l j) (Ja (pos (total l behind)) ∷ []) (at_code l b size n (total l behind))) (sym is)

      trap : tests_length l b ≡ true → l.trap ≡ true
      trap e = g.trap (uses b h.reached (ap (leads_to_trap l b) is ∙ e))

      load : Insn
      load = Load (insn_size size) R0 R1 (pos (head l.form + n))

      by_beyond : (t : Bool) → is_beyond l b.insn ≡ t → Clean p c slot passed (code l (b ∷ behind))
      by_beyond true t = beyond slot k b behind passed (written ∙ cond-true (is_beyond l b.insn) (Ja (pos (total l behind)) ∷ []) (at_code l b size n (total l behind)) t) (trap (or_left (is_beyond l b.insn) (nat_lt b.known (need b.insn)) t)) h ready go
      by_beyond false t =
          let inside = not_beyond b b.insn (n + bytes size) t (ap need is) in
          let count = size_bytes size in
          let leads : leads_to b (slice_get behind 0) ≡ true = next_leads (is_beyond l b.insn) (leads_to b (slice_get behind 0)) t (subst (λ i. (is_beyond l b.insn || leads_on b i behind) ≡ true) is g.leads) in
          tested slot k b behind passed load (swap_of l size) (written ∙ cond-false (is_beyond l b.insn) (Ja (pos (total l behind)) ∷ []) (at_code l b size n (total l behind)) t)
          (λ e. trap (or_right (is_beyond l b.insn) (nat_lt b.known (need b.insn)) e))
          (λ e. ap (λ j. opens_at b j 1) is ∙ or_right (1 == 0) (tests_first b && (1 == 1)) (and_from (tests_first b) (1 == 1) e refl))
          (λ e j lt. ap (λ i. opens_at b i j) is ∙ closed_second b j lt) (λ e j lt. ap (λ i. opens_at b i j) is ∙ closed_first b j e lt)
          (ap (λ i. may_turn i 1) is) (λ s. subst (λ i. register_entails (register s R4) (index_known l i 1) ≡ true) (sym is) refl)
          (λ t o r passed at good here has long closed.
          load_swap slot k t o load (swap_of l size) b behind r passed (swaps l size) h at long closed has (plain_load p c (insn_size size) R0 R1 (pos (head l.form + n))) good here
          (from_context r.state b.a b.x (insn_size size) R0 (head l.form + n) good.state refl (omega (arith, inside, count))) leads (ap sets_a is) (ap sets_x is)
          (λ j. ap (λ i. may_turn i j) is) (λ s. subst (λ i. register_entails (register s R4) (index_known l i (o + 1)) ≡ true) (sym is) refl) go)
          h ready
        where
          next_leads : (b c : Bool) → b ≡ false → (b || c) ≡ true → c ≡ true
          next_leads true c e h = absurd (false≢true (sym e))
          next_leads false c e h = h

  pub header : (slot k n : ℕ) (b : Annotated) (behind : List Annotated) (passed : Option Arrival) → b.insn ≡ Header n → Whole l marked p w slot k b behind passed
  header slot k n b behind passed is h ready go = by_beyond (is_beyond l b.insn) refl
    where
      g : Agrees l b behind
      g = agreed l b behind h.reached h.agree

      written : code_of l b b.insn (ahead_in l behind) (total l behind) ≡ cond (is_beyond l b.insn) (Ja (pos (total l behind)) ∷ []) (header_code l b n (total l behind))
      written = ap (λ j. code_of l b j (ahead_in l behind) (total l behind)) is ∙ ap (λ j. cond (is_beyond l j) (Ja (pos (total l behind)) ∷ []) (header_code l b n (total l behind))) (sym is)

      trap : tests_length l b ≡ true → l.trap ≡ true
      trap e = g.trap (uses b h.reached (ap (leads_to_trap l b) is ∙ e))

      load : Insn
      load = Load B R3 R1 (pos (head l.form + n))

      masked : Insn
      masked = AluInsn AndWith W32 R3 (Imm (pos 15))

      shifted : Insn
      shifted = AluInsn ShiftUp W32 R3 (Imm (pos 2))

      -- what is set by now
      a' : Bool
      a' = b.a || sets_a b.insn

      x' : Bool
      x' = b.x || sets_x b.insn

      fewer : (s : AbstractState) → Sat IsIn l marked a' x' s → Sat IsIn l marked b.a b.x s
      fewer s sat = weaker IsIn l marked a' x' b.a b.x s (λ e. or_left b.a (sets_a b.insn) e) (λ e. or_left b.x (sets_x b.insn) e) sat

      x_set : x' ≡ true
      x_set = or_right b.x (sets_x b.insn) (ap sets_x is)

      index : (o : ℕ) (s : AbstractState) → register_entails (register s R4) (index_known l b.insn o) ≡ true
      index o s = subst (λ i. register_entails (register s R4) (index_known l i o) ≡ true) (sym is) refl

      by_beyond : (t : Bool) → is_beyond l b.insn ≡ t → Clean p c slot passed (code l (b ∷ behind))
      by_beyond true t = beyond slot k b behind passed (written ∙ cond-true (is_beyond l b.insn) (Ja (pos (total l behind)) ∷ []) (header_code l b n (total l behind)) t) (trap (or_left (is_beyond l b.insn) (nat_lt b.known (need b.insn)) t)) h ready go
      by_beyond false t =
          let inside = not_beyond b b.insn (n + 1) t (ap need is) in
          let leads : leads_to b (slice_get behind 0) ≡ true = next_leads (is_beyond l b.insn) (leads_to b (slice_get behind 0)) t (subst (λ i. (is_beyond l b.insn || leads_on b i behind) ≡ true) is g.leads) in
          tested slot k b behind passed load (masked ∷ shifted ∷ []) (written ∙ cond-false (is_beyond l b.insn) (Ja (pos (total l behind)) ∷ []) (header_code l b n (total l behind)) t)
          (λ e. trap (or_right (is_beyond l b.insn) (nat_lt b.known (need b.insn)) e))
          (λ e. ap (λ j. opens_at b j 1) is ∙ or_right (1 == 0) (tests_first b && (1 == 1)) (and_from (tests_first b) (1 == 1) e refl))
          (λ e j lt. ap (λ i. opens_at b i j) is ∙ closed_second b j lt) (λ e j lt. ap (λ i. opens_at b i j) is ∙ closed_first b j e lt)
          (ap (λ i. may_turn i 1) is) (index 1) (body inside leads) h ready
        where
          next_leads : (b c : Bool) → b ≡ false → (b || c) ≡ true → c ≡ true
          next_leads true c e h = absurd (false≢true (sym e))
          next_leads false c e h = h

          body : head l.form + (n + 1) ≤ l.length → leads_to b (slice_get behind 0) ≡ true → Body slot b behind (load ∷ masked ∷ shifted ∷ [])
          body inside leads t o r passed at good here has long closed =
              let one = makes_x l marked p load b r.state (ap sets_a is) good.state (from_context r.state b.a b.x B R3 (head l.form + n) good.state refl (omega (arith, inside))) in
              let lt' = stands_in l marked p w (t + 1) masked (shifted ∷ code l behind) has.1 in
              let lt'' = stands_in l marked p w (t + 1 + 1) shifted (code l behind) has.1.1 in
              let on : slot + (o + 1) ≡ t + 1 = omega (arith, at) in
              let on' : slot + (o + 2) ≡ t + 1 + 1 = omega (arith, at) in
              let part : part_at l marked (t + 1) ≡ Template b (o + 1) = ap (part_at l marked) (sym on) ∙ part_on l marked p w slot k (o + 1) b behind h (omega (arith, long, at)) in
              let part' : part_at l marked (t + 1 + 1) ≡ Template b (o + 2) = ap (part_at l marked) (sym on') ∙ part_on l marked p w slot k (o + 2) b behind h (omega (arith, long, at)) in
              inner l marked p w t (o + 1) load (masked ∷ shifted ∷ code l behind) b.a b.x a' x' r passed one.state b (plain_load p c B R3 R1 (pos (head l.form + n))) good here has.0 one.is_done part lt' (closed (o + 1) (omega arith)) (ap (λ i. may_turn i (o + 1)) is) one.sat one.tag one.turns
              (λ e. or_left b.a (sets_a b.insn) e) (λ e. or_left b.x (sets_x b.insn) e) (index (o + 1) one.state)
              (λ r1 is1 good1 here1.
              let two = makes_x l marked p masked b r1.state (ap sets_a is) (fewer r1.state good1.state) (and_constant p.order l.length r1.state (pos 15) (good1.state.x_in x_set)) in
              inner l marked p w (t + 1) (o + 2) masked (shifted ∷ code l behind) a' x' a' x' r1 (Some r1) two.state b (plain_alu p c AndWith W32 R3 (Imm (pos 15))) good1 here1 has.1.0 two.is_done part' lt'' (closed (o + 2) (omega arith)) (ap (λ i. may_turn i (o + 2)) is) two.sat two.tag two.turns
              (λ e. or_left b.a (sets_a b.insn) e) (λ e. or_left b.x (sets_x b.insn) e) (index (o + 2) two.state)
              (λ r2 is2 good2 here2.
              let three = makes_x l marked p shifted b r2.state (ap sets_a is) (fewer r2.state good2.state) (shift_constant p.order l.length r2.state (pos 2) (good2.state.x_in x_set)) in
              last l marked p w slot k (t + 1 + 1) shifted b behind a' x' a' x' r2 (Some r2) three.state h (omega (arith, long)) has.1.1 leads (plain_alu p c ShiftUp W32 R3 (Imm (pos 2))) good2 here2 three.is_done three.sat three.tag three.turns (λ e. e) (λ e. e) go))
