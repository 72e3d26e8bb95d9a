-- Tests: the new program's answers as the old one's, on what is the same, on what differs by one term, and on offsets in place of pointers.
use Rattle.std.proofs.Common.{◌≡◌, ℕ, ◌*◌, ◌+◌, ◌-◌, ◌%◌, ◌^◌, ◌<◌, ◌==◌, inl, inr, refl, sym, ap, ap₂, ◌∙◌, subst, arith, Bool, true, false, ◌∷◌, suc, Option, Some, None}
use Rattle.std.specs.Prelude.{ℤ, pos, negsuc, ◌+ℤ◌, ◌-ℤ◌, int_lt, int_le, nat_lt, nat_le, ◌&&◌, not, get_or}
use Rattle.std.specs.Int.{cast_signed, w32, w64}
use Rattle.std.specs.List.{AllByRecursion, list_all}
use Rattle.std.specs.Option.{option_map_or}
use Rattle.std.proofs.lemmas.Bool.{and_parts, or_cases, eqb-true, cases_lt, lt-ltb, le-ltb, le-leb, lt-leb, false≢true}
use Rattle.std.proofs.lemmas.Bool.Decides.{Decides-eqb}
use Rattle.std.proofs.lemmas.Int.{ints}
use Rattle.std.proofs.lemmas.Option.{option_and_then_some}
use Rattle.bpf_insn.specs.Arithmetic.{modulo, compare, jumps, low}
use Rattle.bpf_insn.specs.Effects.{operand_register}
use Rattle.bpf_insn.specs.Instruction.{register_number}
use Rattle.bpf_insn.specs.declared.order.Order.{Order}
use Rattle.bpf_insn.specs.declared.instruction.Reg.{Reg}
use Rattle.bpf_insn.specs.declared.instruction.Operand.{Operand}
use Rattle.bpf_insn.specs.declared.instruction.Operand.TheVariants.{Imm, Reg as FromReg}
use Rattle.bpf_insn.specs.declared.instruction.Width.{Width}
use Rattle.bpf_insn.specs.declared.instruction.Width.TheVariants.{W32, W64}
use Rattle.bpf_insn.specs.declared.instruction.Cond.{Cond}
use Rattle.bpf_insn.specs.declared.instruction.Cond.TheVariants.{Eq, Gt, Ge, Ne, SGt, SGe, Lt, Le, SLt, SLe}
use Rattle.bpf_insn.specs.declared.instruction.Insn.TheVariants.{JumpIf}
use Rattle.bpf_semantics.specs.Flat.{FlatState, addresses, flat_register, flat_operand}
use Rattle.bpf_semantics.proofs.FlatArith.{Same, modulo_same, same_refl, same_sym, same_trans, same_minus, same_equal, modulo_of_small, same_answer}
use Rattle.bpf_semantics.proofs.StateLemmas.{option_map_some}
use Rattle.bpf_kept.specs.Far.{middle}
use Rattle.bpf_kept.specs.declared.notes.Term.{Term}
use Rattle.bpf_kept.specs.Terms.{Packet, Facts, Differs, AreLow, shift}
use Rattle.bpf_kept.specs.Rules.{Known, own, is_same, is_low, reads_low, reads_same, turned_test, same_term, is_offset, are_offsets, are, by_equality, is_kept, old_number}
use Rattle.bpf_kept.specs.Ways.{answer, surely_jumps, surely_falls}
use Rattle.bpf_kept.proofs.TermLaw.{differs_same}
use Rattle.bpf_kept.proofs.HoldsLaw.{plain_shift}
use Rattle.bpf_kept.proofs.PutLaw.{AtOnce, register_differs, reads_all_same, reads_all_low}
use Rattle.bpf_kept.proofs.PinLaw.{old_number_is}

-- ---- pointers into the context, in order

centre : (a b : ℕ) → a < 2 ^ 64 → b ≡ (a + 2 ^ 63) % 2 ^ 64 → cast_signed w64 b ≡ pos a -ℤ pos (2 ^ 63)
centre a b small e = elim (cases_lt b (2 ^ 63)) [
  | inl lower ↦ omega (arith, ints)
  | inr upper ↦ (let c : cast_signed w64 b ≡ negsuc (2 ^ 64 - suc b) = rw (le-ltb b (2 ^ 63) upper) refl in rw c (omega (arith, ints)))
]

lt_moved : (a b : ℕ) (x y : ℤ) → x ≡ pos a -ℤ pos (2 ^ 63) → y ≡ pos b -ℤ pos (2 ^ 63) → int_lt x y ≡ nat_lt a b
lt_moved a b x y ex ey = elim (cases_lt a b) [
  | inl less ↦ rw (lt-ltb a b less) (grind (arith, ints))
  | inr more ↦ rw (le-ltb a b more) (grind (arith, ints))
]

le_moved : (a b : ℕ) (x y : ℤ) → x ≡ pos a -ℤ pos (2 ^ 63) → y ≡ pos b -ℤ pos (2 ^ 63) → int_le x y ≡ nat_le a b
le_moved a b x y ex ey = elim (cases_lt b a) [
  | inl less ↦ rw (lt-leb a b less) (grind (arith, ints))
  | inr more ↦ rw (le-leb a b more) (grind (arith, ints))
]

-- a number that is half of the addresses further on, and that one
pub record AreOpposite (x y : ℕ) : Type 0 where
  pub small : x < 2 ^ 64
  pub small' : y < 2 ^ 64
  pub is : y ≡ (x + 2 ^ 63) % 2 ^ 64
  pub back : x ≡ (y + 2 ^ 63) % 2 ^ 64

-- Order of pointers into the context is order of offsets with their signs, and the other way round, for all numbers.
pub order_turns : (cond other : Cond) (a b x y : ℕ) → turned_test cond other ≡ true → AreOpposite a x → AreOpposite b y → compare w64 other x y ≡ compare w64 cond a b
order_turns Gt SGt a b x y e p q = (lt_moved b a _ _ (centre b y q.small q.is) (centre a x p.small p.is))
order_turns Ge SGe a b x y e p q = (le_moved b a _ _ (centre b y q.small q.is) (centre a x p.small p.is))
order_turns Lt SLt a b x y e p q = (lt_moved a b _ _ (centre a x p.small p.is) (centre b y q.small q.is))
order_turns Le SLe a b x y e p q = (le_moved a b _ _ (centre a x p.small p.is) (centre b y q.small q.is))
order_turns SGt Gt a b x y e p q = (sym (lt_moved y x _ _ (centre y b q.small' q.back) (centre x a p.small' p.back)))
order_turns SGe Ge a b x y e p q = (sym (le_moved y x _ _ (centre y b q.small' q.back) (centre x a p.small' p.back)))
order_turns SLt Lt a b x y e p q = (sym (lt_moved x y _ _ (centre x a p.small' p.back) (centre y b q.small' q.back)))
order_turns SLe Le a b x y e p q = (sym (le_moved x y _ _ (centre x a p.small' p.back) (centre y b q.small' q.back)))
order_turns cond other a b x y e p q = absurd (false≢true e)

opposite : (start : ℕ) (t : Term) (x y : ℕ) → x < addresses → is_offset t ≡ true → Differs start t x y → AreOpposite x y
opposite start t x y small o d =
    let a = and_parts (t.frames == 0) (t.moved == middle) o in
    let by : shift start t ≡ pos middle = plain_shift start t a.0 ∙ ap pos (eqb-true t.moved middle a.1) in
    let is : y ≡ (x + 2 ^ 63) % 2 ^ 64 = d ∙ ap (λ z. modulo (pos x +ℤ z) addresses) by in
    record { small = small; small' = omega arith; is = is; back = omega arith }

-- ---- numbers that differ by the same

alike_shift : (start : ℕ) (a b : Term) → same_term a b ≡ true → shift start a ≡ shift start b
alike_shift start a b e =
    let h = and_parts (a.frames == b.frames) (a.moved == b.moved) e in
    ap₂ (λ d k. pos k -ℤ pos (d * start)) (eqb-true a.frames b.frames h.0) (eqb-true a.moved b.moved h.1)

pub cancelled : (x y z w : ℕ) (s : ℤ) → x < addresses → y < addresses → Same (pos z) (pos x +ℤ s) → Same (pos w) (pos y +ℤ s) → z ≡ w → x ≡ y
cancelled x y z w s hx hy p q e =
    let both : Same (pos x +ℤ s) (pos y +ℤ s) = same_trans (same_sym p) (subst (λ v. Same (pos v) (pos y +ℤ s)) (sym e) q) in
    let ex : (pos x +ℤ s) -ℤ s ≡ pos x = omega (arith, ints) in
    let ey : (pos y +ℤ s) -ℤ s ≡ pos y = omega (arith, ints) in
    let same : Same (pos x) (pos y) = same_trans (same_equal (sym ex)) (same_trans (same_minus both (same_refl s)) (same_equal ey)) in
    sym (modulo_of_small x hx) ∙ modulo_same same ∙ modulo_of_small y hy

pub equality_stays : (start : ℕ) (a b : Term) (x y z w : ℕ) → x < addresses → y < addresses → same_term a b ≡ true → Differs start a x z → Differs start b y w → (z == w) ≡ (x == y)
equality_stays start a b x y z w hx hy e p q =
    let s = alike_shift start a b e in
    let p' = differs_same start a x z p in
    let q' : Same (pos w) (pos y +ℤ shift start a) = subst (λ v. Same (pos w) (pos y +ℤ v)) (sym s) (differs_same start b y w q) in
    same_answer (Decides-eqb z w) (Decides-eqb x y) (cancelled x y z w (shift start a) hx hy p' q')
    (λ same. p ∙ ap₂ (λ v u. modulo (pos v +ℤ u) addresses) same s ∙ sym q)

-- ---- all tests

record AreTerms (test : Term → Term → Bool) (facts : Facts) (dst src : Reg) : Type 0 where
  left : Term
  right : Term
  left_is : own facts dst ≡ Some left
  right_is : own facts src ≡ Some right
  passes : test left right ≡ true

are_terms : (test : Term → Term → Bool) (facts : Facts) (dst src : Reg) → are test facts dst src ≡ true → AreTerms test facts dst src
are_terms test facts dst src e = by_left (own facts dst) refl e
  where
    by_right : (a : Term) → own facts dst ≡ Some a → (o : Option Term) → own facts src ≡ o → option_map_or (test a) o false ≡ true → AreTerms test facts dst src
    by_right a ea None eo h = absurd (false≢true h)
    by_right a ea (Some b) eo h = record { left = a; right = b; left_is = ea; right_is = eo; passes = h }

    by_left : (o : Option Term) → own facts dst ≡ o → option_map_or (λ a. option_map_or (test a) (own facts src) false) o false ≡ true → AreTerms test facts dst src
    by_left None eo h = absurd (false≢true h)
    by_left (Some a) eo h = by_right a eo (own facts src) refl h

module _ (order : Order) (start : ℕ) (packet : Packet) (known : Known) (f g : FlatState) (at : AtOnce order start packet known f g) where
  abbrev facts : Facts
  facts = known.facts

  operand_same : (src : Operand) → AllByRecursion (λ r. get_or g.registers (register_number r) 0 ≡ flat_register f r) (operand_register src) → flat_operand g src ≡ flat_operand f src
  operand_same (Imm imm) h = refl
  operand_same (FromReg r) h = h.0

  operand_low : (src : Operand) → AllByRecursion (λ r. AreLow (flat_register f r) (get_or g.registers (register_number r) 0)) (operand_register src) → AreLow (flat_operand f src) (flat_operand g src)
  operand_low (Imm imm) h = refl
  operand_low (FromReg r) h = h.0

  by_low : (cond : Cond) (width : Width) (dst : Reg) (src : Operand) → reads_low (JumpIf cond width dst src (pos 0)) ≡ true → AllByRecursion (λ r. AreLow (flat_register f r) (get_or g.registers (register_number r) 0)) (dst ∷ operand_register src)
      → jumps width cond (flat_register g dst) (flat_operand g src) ≡ jumps width cond (flat_register f dst) (flat_operand f src)
  by_low cond W32 dst src e h = ap₂ (λ a b. compare w32 cond a b) h.0 (operand_low src h.1)
  by_low cond W64 dst src e h = absurd (false≢true e)

  by_reads : (cond : Cond) (width : Width) (dst : Reg) (src : Operand) → reads_same facts (JumpIf cond width dst src (pos 0)) ≡ true → jumps width cond (flat_register g dst) (flat_operand g src) ≡ jumps width cond (flat_register f dst) (flat_operand f src)
  unfolding reads_same
  by_reads cond width dst src e = elim (or_cases (list_all (is_same facts) (dst ∷ operand_register src)) (reads_low (JumpIf cond width dst src (pos 0)) && list_all (is_low facts) (dst ∷ operand_register src)) e) [
    | inl same ↦ (let h = reads_all_same order start packet known f g (dst ∷ operand_register src) at same in ap₂ (λ a b. jumps width cond a b) h.0 (operand_same src h.1))
    | inr low ↦ (let h = and_parts (reads_low (JumpIf cond width dst src (pos 0))) (list_all (is_low facts) (dst ∷ operand_register src)) low in by_low cond width dst src h.0 (reads_all_low order start packet known f g (dst ∷ operand_register src) at h.1))
  ]

  equal_there : (dst src : Reg) → are same_term facts dst src ≡ true → (flat_register g dst == flat_register g src) ≡ (flat_register f dst == flat_register f src)
  equal_there dst src e =
      let t = are_terms same_term facts dst src e in
      equality_stays start t.left t.right (flat_register f dst) (flat_register f src) (flat_register g dst) (flat_register g src) (at.flat.numbers (register_number dst)) (at.flat.numbers (register_number src)) t.passes
      (register_differs order start packet facts f g dst t.left at.all t.left_is) (register_differs order start packet facts f g src t.right at.all t.right_is)

  equality_there : (cond : Cond) (width : Width) (dst : Reg) (src : Operand) (off : ℤ) → by_equality facts (JumpIf cond width dst src off) ≡ true → jumps width cond (flat_register g dst) (flat_operand g src) ≡ jumps width cond (flat_register f dst) (flat_operand f src)
  equality_there Eq W64 dst (FromReg src) off e = equal_there dst src e
  equality_there Ne W64 dst (FromReg src) off e = ap not (equal_there dst src e)
  equality_there cond width dst src off e = absurd (false≢true e)

  -- the same test
  pub same_test : (cond : Cond) (width : Width) (dst : Reg) (src : Operand) (off : ℤ) → is_kept facts (JumpIf cond width dst src off) ≡ true → jumps width cond (flat_register g dst) (flat_operand g src) ≡ jumps width cond (flat_register f dst) (flat_operand f src)
  same_test cond width dst src off e = elim (or_cases (reads_same facts (JumpIf cond width dst src (pos 0))) (by_equality facts (JumpIf cond width dst src off)) e) [
    | inl same ↦ by_reads cond width dst src same
    | inr equal ↦ equality_there cond width dst src off equal
  ]

  -- which way the old one surely goes
  answer_is : (cond : Cond) (width : Width) (dst : Reg) (src : Operand) (off : ℤ) (b : Bool) → answer facts (JumpIf cond width dst src off) ≡ Some b
      → jumps width cond (flat_register f dst) (flat_operand f src) ≡ b
  answer_is cond width dst src off b e = option_and_then_some _ (old_number facts (FromReg dst)) b e (λ a ea e1.
      let h = option_map_some (jumps width cond a) (old_number facts src) b e1 in
      ap₂ (λ a b. jumps width cond a b) (number (FromReg dst) a ea) (number src h.0 h.1) ∙ h.2)
    where
      number : (src : Operand) (n : ℕ) → old_number facts src ≡ Some n → flat_operand f src ≡ n
      number src n e = old_number_is order start packet facts f g at.room at.flat at.pointers.0 at.all src n e

  pub always_jumps : (cond : Cond) (width : Width) (dst : Reg) (src : Operand) (off : ℤ) → surely_jumps facts (JumpIf cond width dst src off) ≡ true
      → jumps width cond (flat_register f dst) (flat_operand f src) ≡ true
  always_jumps cond width dst src off e = by_answer (answer facts (JumpIf cond width dst src off)) refl e
    where
      by_answer : (o : Option Bool) → answer facts (JumpIf cond width dst src off) ≡ o → option_map_or (λ taken. taken) o false ≡ true
          → jumps width cond (flat_register f dst) (flat_operand f src) ≡ true
      by_answer None eo h = absurd (false≢true h)
      by_answer (Some b) eo h = answer_is cond width dst src off b eo ∙ h

  pub never_jumps : (cond : Cond) (width : Width) (dst : Reg) (src : Operand) (off : ℤ) → surely_falls facts (JumpIf cond width dst src off) ≡ true
      → jumps width cond (flat_register f dst) (flat_operand f src) ≡ false
  never_jumps cond width dst src off e = by_answer (answer facts (JumpIf cond width dst src off)) refl e
    where
      by_answer : (o : Option Bool) → answer facts (JumpIf cond width dst src off) ≡ o → option_map_or not o false ≡ true
          → jumps width cond (flat_register f dst) (flat_operand f src) ≡ false
      by_answer None eo h = absurd (false≢true h)
      by_answer (Some true) eo h = absurd (false≢true h)
      by_answer (Some false) eo h = answer_is cond width dst src off false eo

  -- one for the other
  pub order_test : (cond other : Cond) (dst src : Reg) → turned_test cond other ≡ true → are are_offsets facts dst src ≡ true → jumps W64 other (flat_register g dst) (flat_register g src) ≡ jumps W64 cond (flat_register f dst) (flat_register f src)
  order_test cond other dst src t e =
      let h = are_terms are_offsets facts dst src e in
      let both = and_parts (is_offset h.left) (is_offset h.right) h.passes in
      order_turns cond other (flat_register f dst) (flat_register f src) (flat_register g dst) (flat_register g src) t
      (opposite start h.left (flat_register f dst) (flat_register g dst) (at.flat.numbers (register_number dst)) both.0 (register_differs order start packet facts f g dst h.left at.all h.left_is))
      (opposite start h.right (flat_register f src) (flat_register g src) (at.flat.numbers (register_number src)) both.1 (register_differs order start packet facts f g src h.right at.all h.right_is))
