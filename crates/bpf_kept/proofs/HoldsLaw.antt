-- What facts say of registers and slots, which facts give which, and what is left of them behind an instruction.
use Rattle.std.proofs.Common.{◌≡◌, ℕ, zero, suc, ◌+◌, ◌*◌, ◌/◌, ◌%◌, ◌^◌, ◌<◌, ◌==◌, inl, inr, refl, sym, ap, ◌∙◌, subst, arith, Bool, true, false, List, [], ◌∷◌, ◌++◌, length, Option, Some, None, cond}
use Rattle.std.specs.Prelude.{pos, ◌+ℤ◌, ◌-ℤ◌, ◌&&◌, not, is_none, get_or, set, ltb}
use Rattle.std.specs.List.{AllByRecursion, find, list_all, list_any}
use Rattle.std.specs.Option.{is_some, option_map_or}
use Rattle.std.proofs.lemmas.Bool.{and_parts, or_cases, eqb-true, eqb-false, false≢true}
use Rattle.std.proofs.lemmas.Int.{ints}
use Rattle.std.proofs.lemmas.List.{get_or-set_same, get_or-set_other}
use Rattle.std.proofs.lemmas.Option.{none-some, same_Some, option_and_then_some}
use Rattle.bpf_insn.specs.Instruction.{register_number}
use Rattle.bpf_insn.specs.Order.{number_of}
use Rattle.bpf_insn.specs.declared.order.Order.{Order}
use Rattle.bpf_insn.specs.declared.instruction.Reg.{Reg}
use Rattle.bpf_insn.specs.declared.instruction.Reg.TheVariants.{R0, R1, R2, R3, R4, R5, R6, R7, R8, R9, R10}
use Rattle.bpf_insn.proofs.RegisterLemmas.{reg_below}
use Rattle.bpf_semantics.specs.Flat.{FlatState, addresses, bytes_from, flat_register, flat_put}
use Rattle.bpf_semantics.proofs.FlatArith.{Same}
use Rattle.bpf_kept.specs.declared.notes.Holder.{Holder}
use Rattle.bpf_kept.specs.declared.notes.Holder.TheVariants.{Register, Slot, Length}
use Rattle.bpf_kept.specs.declared.notes.Term.{Term}
use Rattle.bpf_kept.specs.declared.notes.Fact.{Fact}
use Rattle.bpf_kept.specs.Terms.{Packet, Facts, Values, Differs, AreLow, DiffersBy, Holds, AllHold, value_in, shift}
use Rattle.bpf_kept.specs.Rules.{same_register, same_holder, is_holder, is_register, is_base, is_high, is_enough, gives, is_own, own_in, own, is_pin, pinned, is_number, numbered, is_zero, is_same, is_low_fact, is_low}
use Rattle.bpf_kept.specs.Behind.{stays}
use Rattle.bpf_kept.proofs.TermLaw.{differs_same, zero_differs}

-- ---- lists

pub any_holds : {A : Type 0} (test : A → Bool) (P : A → Type 0) (xs : List A) → list_any test xs ≡ true → AllByRecursion P xs → (x : A) × (test x ≡ true) × P x
any_holds test P [] e h = absurd (false≢true e)
any_holds test P (x ∷ xs) e h = elim (or_cases (test x) (list_any test xs) e) [
  | inl here ↦ (x, here, h.0)
  | inr later ↦ any_holds test P xs later h.1
]

pub all_of : {A : Type 0} (test : A → Bool) (P : A → Type 0) (xs : List A) → list_all test xs ≡ true → ((x : A) → test x ≡ true → P x) → AllByRecursion P xs
all_of test P [] e each = tt
all_of test P (x ∷ xs) e each = let h = and_parts (test x) (list_all test xs) e in (each x h.0, all_of test P xs h.1 each)

pub all_both : {A : Type 0} (P : A → Type 0) (xs ys : List A) → AllByRecursion P xs → AllByRecursion P ys → AllByRecursion P (xs ++ ys)
all_both P [] ys h k = k
all_both P (x ∷ xs) ys h k = (h.0, all_both P xs ys h.1 k)

pub found_holds : {A : Type 0} (test : A → Bool) (P : A → Type 0) (xs : List A) (x : A) → find test xs ≡ Some x → AllByRecursion P xs → (test x ≡ true) × P x
found_holds test P [] x e h = absurd (none-some _ e)
found_holds test P (y ∷ ys) x e h = by_test (λ n. found_holds test P ys x n h.1) (test y) refl e
  where
    by_test : (find test ys ≡ Some x → (test x ≡ true) × P x) → (b : Bool) → test y ≡ b → cond b (Some y) (find test ys) ≡ Some x → (test x ≡ true) × P x
    by_test later false eb n = later n
    by_test later true eb n = let same = same_Some y x n in (subst (λ z. test z ≡ true) same eb, subst P same h.0)

-- ---- a register or slot by itself

abbrev named : ℕ → Reg
named zero = R0
named (suc zero) = R1
named (suc (suc zero)) = R2
named (suc (suc (suc zero))) = R3
named (suc (suc (suc (suc zero)))) = R4
named (suc (suc (suc (suc (suc zero))))) = R5
named (suc (suc (suc (suc (suc (suc zero)))))) = R6
named (suc (suc (suc (suc (suc (suc (suc zero))))))) = R7
named (suc (suc (suc (suc (suc (suc (suc (suc zero)))))))) = R8
named (suc (suc (suc (suc (suc (suc (suc (suc (suc zero))))))))) = R9
named n = R10

named_is : (r : Reg) → named (register_number r) ≡ r
named_is R0 = refl
named_is R1 = refl
named_is R2 = refl
named_is R3 = refl
named_is R4 = refl
named_is R5 = refl
named_is R6 = refl
named_is R7 = refl
named_is R8 = refl
named_is R9 = refl
named_is R10 = refl

pub register_is : (a b : Reg) → same_register a b ≡ true → b ≡ a
register_is a b e = sym (named_is b) ∙ ap named (sym (eqb-true (register_number a) (register_number b) e)) ∙ named_is a

pub holder_is : (a b : Holder) → same_holder a b ≡ true → b ≡ a
holder_is (Register a) (Register b) e = ap Register (register_is a b e)
holder_is (Slot m) (Slot n) e = ap Slot (sym (eqb-true m n e))
holder_is Length Length e = refl
holder_is a b e = absurd (false≢true e)

pub held : (v : Values) (h : Holder) (base : Option Holder) → is_holder h base ≡ true → v base ≡ v (Some h)
held v h None e = absurd (false≢true e)
held v h (Some of) e = ap (λ b. v (Some b)) (sym (holder_is of h e))

pub none_is : (v : Values) (base : Option Holder) → is_none base ≡ true → v base ≡ v None
none_is v None e = refl
none_is v (Some h) e = absurd (false≢true e)

pub base_same : (v : Values) (a b : Option Holder) → is_base a b ≡ true → v a ≡ v b
base_same v None b e = sym (none_is v b e)
base_same v (Some h) b e = sym (held v h b e)

module _ (start : ℕ) (old new : Values) where
  own_is : (h : Holder) (fact : Fact) (t : Term) → is_own h fact ≡ true → fact.by ≡ Some t → Holds start old new fact → Differs start t (old (Some h)) (new (Some h))
  own_is h fact t e n k =
      let c = and_parts (is_holder h fact.of) (is_holder h fact.base && is_some fact.by) e in
      let b = and_parts (is_holder h fact.base) (is_some fact.by) c.1 in
      let d : DiffersBy start (Some t) (old fact.base) (new fact.of) = subst (λ by. DiffersBy start by (old fact.base) (new fact.of)) n k in
      subst (λ y. Differs start t (old (Some h)) y) (held new h fact.of c.0) (subst (λ x. Differs start t x (new fact.of)) (held old h fact.base b.0) d)

  pub own_differs : (facts : Facts) (h : Holder) (t : Term) → AllHold start old new facts → own_in facts h ≡ Some t → Differs start t (old (Some h)) (new (Some h))
  unfolding own_in
  own_differs facts h t all e = option_and_then_some _ (find (is_own h) facts) t e (λ fact ef et.
      let k = found_holds (is_own h) (Holds start old new) facts fact ef all in own_is h fact t k.0 et k.1)

  -- what the old program has by itself, and what the new one has
  pub pinned_differs : (facts : Facts) (h : Holder) (t : Term) → AllHold start old new facts → pinned facts h ≡ Some t → Differs start t (old (Some h)) (new None)
  unfolding pinned
  pinned_differs facts h t all e = option_and_then_some _ (find (is_pin h) facts) t e (λ fact ef et.
      let k = found_holds (is_pin h) (Holds start old new) facts fact ef all in
      let c = and_parts (is_none fact.of) (is_holder h fact.base && is_some fact.by) k.0 in
      let b = and_parts (is_holder h fact.base) (is_some fact.by) c.1 in
      let d : DiffersBy start (Some t) (old fact.base) (new fact.of) = subst (λ by. DiffersBy start by (old fact.base) (new fact.of)) et k.1 in
      subst (λ y. Differs start t (old (Some h)) y) (none_is new fact.of c.0) (subst (λ x. Differs start t x (new fact.of)) (held old h fact.base b.0) d))

  pub numbered_differs : (facts : Facts) (h : Holder) (t : Term) → AllHold start old new facts → numbered facts h ≡ Some t → Differs start t (old None) (new (Some h))
  unfolding numbered
  numbered_differs facts h t all e = option_and_then_some _ (find (is_number h) facts) t e (λ fact ef et.
      let k = found_holds (is_number h) (Holds start old new) facts fact ef all in
      let c = and_parts (is_holder h fact.of) (is_none fact.base && is_some fact.by) k.0 in
      let b = and_parts (is_none fact.base) (is_some fact.by) c.1 in
      let d : DiffersBy start (Some t) (old fact.base) (new fact.of) = subst (λ by. DiffersBy start by (old fact.base) (new fact.of)) et k.1 in
      subst (λ y. Differs start t (old None) y) (held new h fact.of c.0) (subst (λ x. Differs start t x (new fact.of)) (none_is old fact.base b.0) d))

-- where no frame is taken away
pub plain_shift : (start : ℕ) (t : Term) → (t.frames == 0) ≡ true → shift start t ≡ pos t.moved
plain_shift start t e =
    let none : t.frames ≡ 0 = eqb-true t.frames 0 e in
    let product : t.frames * start ≡ 0 = ap (λ n. n * start) none ∙ (omega arith) in
    omega (arith, ints)

pub zero_shift : (start : ℕ) (t : Term) → is_zero t ≡ true → shift start t ≡ pos 0
zero_shift start t e =
    let a = and_parts (t.frames == 0) (t.moved == 0) e in
    plain_shift start t a.0 ∙ ap pos (eqb-true t.moved 0 a.1)

-- ---- low halves

-- a frame begins at a multiple of 2 ^ 32
pub record IsHigh (start : ℕ) : Type 0 where
  pub part : ℕ
  pub is : start ≡ 2 ^ 32 * part

low_of : (x y m k p q : ℕ) → Same (pos y) (pos x +ℤ (pos k -ℤ pos p)) → k ≡ 2 ^ 32 * m → p ≡ 2 ^ 32 * q → AreLow x y
low_of x y m k p q s ek ep = let e = s.same in omega (arith, ints)

times_part : (d start m : ℕ) → start ≡ 2 ^ 32 * m → d * start ≡ 2 ^ 32 * (d * m)
times_part d start m e = ap (λ n. d * n) e ∙ (omega arith)

pub low_differs : (start : ℕ) (t : Term) (x y : ℕ) → IsHigh start → is_high t ≡ true → Differs start t x y → AreLow x y
low_differs start t x y high e d =
    let whole : t.moved % 2 ^ 32 ≡ 0 = eqb-true (t.moved % 2 ^ 32) 0 e in
    low_of x y (t.moved / 2 ^ 32) t.moved (t.frames * start) (t.frames * high.part) (differs_same start t x y d) (omega arith) (times_part t.frames start high.part high.is)

-- ---- which gives which

pub enough_differs : (start : ℕ) (have want : Option Term) (x y : ℕ) → IsHigh start → is_enough have want ≡ true → DiffersBy start have x y → DiffersBy start want x y
enough_differs start (Some t) (Some u) x y high e d =
    let c = and_parts (t.frames == u.frames) (t.moved == u.moved) e in
    subst (λ k. Differs start (record { frames = u.frames; moved = k }) x y) (eqb-true t.moved u.moved c.1) (subst (λ n. Differs start (record { frames = n; moved = t.moved }) x y) (eqb-true t.frames u.frames c.0) d)
enough_differs start (Some t) None x y high e d = low_differs start t x y high e d
enough_differs start None None x y high e d = d
enough_differs start None (Some u) x y high e d = absurd (false≢true e)

module _ (start : ℕ) (high : IsHigh start) (old new : Values) where
  -- what is known of one value, of another
  pub value_holds : (base : Option Holder) (by : Option Term) (y : ℕ) (want : Fact) → DiffersBy start by (old base) y → is_base base want.base ≡ true → is_enough by want.by ≡ true → y ≡ new want.of → Holds start old new want
  value_holds base by y want d eb ee ey =
      enough_differs start by want.by (old want.base) (new want.of) high ee
      (subst (λ x. DiffersBy start by x (new want.of)) (base_same old base want.base eb) (subst (λ y. DiffersBy start by (old base) y) ey d))

  pub gives_holds : (have want : Fact) → gives have want ≡ true → Holds start old new have → Holds start old new want
  gives_holds have want e h =
      let a = and_parts (is_base have.of want.of) (is_base have.base want.base && is_enough have.by want.by) e in
      let b = and_parts (is_base have.base want.base) (is_enough have.by want.by) a.1 in
      value_holds have.base have.by (new have.of) want h b.0 b.1 (base_same new have.of want.of a.0)

  low_is : (r : Reg) (fact : Fact) → is_low_fact r fact ≡ true → Holds start old new fact → AreLow (old (Some (Register r))) (new (Some (Register r)))
  low_is r fact e h =
      let a = and_parts (is_register r fact.of) (is_register r fact.base && is_enough fact.by None) e in
      let b = and_parts (is_register r fact.base) (is_enough fact.by None) a.1 in
      subst (λ y. AreLow (old (Some (Register r))) y) (held new (Register r) fact.of a.0)
      (subst (λ x. AreLow x (new fact.of)) (held old (Register r) fact.base b.0) (enough_differs start fact.by None (old fact.base) (new fact.of) high b.1 h))

  pub low_value : (facts : Facts) (r : Reg) → AllHold start old new facts → is_low facts r ≡ true → AreLow (old (Some (Register r))) (new (Some (Register r)))
  low_value facts r all e = let h = any_holds (is_low_fact r) (Holds start old new) facts e all in low_is r h.0 h.1 h.2

  pub all_low : (facts : Facts) (rs : List Reg) → AllHold start old new facts → list_all (is_low facts) rs ≡ true → AllByRecursion (λ r. AreLow (old (Some (Register r))) (new (Some (Register r)))) rs
  all_low facts rs all e = all_of (is_low facts) (λ r. AreLow (old (Some (Register r))) (new (Some (Register r)))) rs e (λ r s. low_value facts r all s)

-- ---- what is the same

module _ (start : ℕ) (old new : Values) (small : (r : Reg) → old (Some (Register r)) < addresses) where
  pub same_value : (facts : Facts) (r : Reg) → AllHold start old new facts → is_same facts r ≡ true → new (Some (Register r)) ≡ old (Some (Register r))
  same_value facts r all e = by_term (own facts r) refl e
    where
      by_term : (o : Option Term) → own facts r ≡ o → option_map_or is_zero o false ≡ true → new (Some (Register r)) ≡ old (Some (Register r))
      by_term None eo z = absurd (false≢true z)
      by_term (Some t) eo z = zero_differs start (old (Some (Register r))) (new (Some (Register r))) t (small r) (zero_shift start t z) (own_differs start old new facts (Register r) t all eo)

  pub all_same : (facts : Facts) (rs : List Reg) → AllHold start old new facts → list_all (is_same facts) rs ≡ true → AllByRecursion (λ r. new (Some (Register r)) ≡ old (Some (Register r))) rs
  all_same facts rs all e = all_of (is_same facts) (λ r. new (Some (Register r)) ≡ old (Some (Register r))) rs e (λ r s. same_value facts r all s)

-- ---- what is left behind a write

-- all but one register or slot hold what they held
abbrev pub Elsewhere : Holder → Values → Values → Type 0
Elsewhere h before after = (of : Option Holder) → not (is_holder h of) ≡ true → after of ≡ before of

pub register_elsewhere : (order : Order) (own : ℕ) (packet : Packet) (f g : FlatState) (r : Reg) (x : ℕ) → g.registers ≡ set f.registers (register_number r) x → g.memory ≡ f.memory → Elsewhere (Register r) (value_in order own packet f) (value_in order own packet g)
register_elsewhere order own packet f g r x registers memory None e = refl
register_elsewhere order own packet f g r x registers memory (Some Length) e = refl
register_elsewhere order own packet f g r x registers memory (Some (Slot n)) e = ap (λ m. cond (ltb n 64) (number_of order 8 (bytes_from m (own + 8 * n) 8)) 0) memory
register_elsewhere order own packet f g r x registers memory (Some (Register of)) e =
    ap (λ rs. get_or rs (register_number of) 0) registers ∙ get_or-set_other f.registers (register_number r) (register_number of) x 0 (eqb-false (register_number of) (register_number r) (no (register_number of == register_number r) e))
  where
    no : (b : Bool) → not b ≡ true → b ≡ false
    no true e = absurd (false≢true e)
    no false e = refl

pub register_now : (f : FlatState) (r : Reg) (x : ℕ) → length f.registers ≡ 11 → flat_register (flat_put r x f) r ≡ x
register_now f r x many = get_or-set_same f.registers (register_number r) x 0 (subst (λ k. register_number r < k) (sym many) (reg_below r))

pub stays_holds : (start : ℕ) (h : Holder) (old old' new new' : Values) (fact : Fact) → Elsewhere h old old' → Elsewhere h new new' → stays h fact ≡ true → Holds start old new fact → Holds start old' new' fact
stays_holds start h old old' new new' fact p q e k =
    let c = and_parts (not (is_holder h fact.of)) (not (is_holder h fact.base)) e in
    subst (λ z. DiffersBy start fact.by z (new' fact.of)) (sym (p fact.base c.1)) (subst (λ z. DiffersBy start fact.by (old fact.base) z) (sym (q fact.of c.0)) k)

pub other_holds : (start : ℕ) (h : Holder) (old new new' : Values) (fact : Fact) → Elsewhere h new new' → not (is_holder h fact.of) ≡ true → Holds start old new fact → Holds start old new' fact
other_holds start h old new new' fact q e k = subst (λ z. DiffersBy start fact.by (old fact.base) z) (sym (q fact.of e)) k
