-- What a certified program has at each visit and at each label.
use Rattle.std.proofs.Common.{⊎_elim, true≢false, option_and_then, option_map, nat_le, ◌≡◌, ℕ, zero, suc, ◌<◌, ◌⊎◌, inl, inr, refl, sym, ap, ◌∙◌, subst, arith, Bool, true, false, cond, not, List, [], ◌∷◌, ◌++◌, length, Option, Some, None, is_some, is_none, slice_get, Contains, flat_map, ◌||◌, ◌==◌}
use Rattle.std.specs.List.{list_any}
use Rattle.std.proofs.lemmas.Bool.{false≢true, or_parts}
use Rattle.std.proofs.lemmas.Bool.Decides.{nat_tests}
use Rattle.std.proofs.lemmas.List.Elements.{Contains-append_left, Contains-append_right, Contains-append_cases}
use Rattle.bpf_insn.specs.Instruction.{Instructions, insn_at}
use Rattle.bpf_state.specs.State.{first_state, tightened}
use Rattle.bpf_state.specs.Entails.{state_entails}
use Rattle.bpf_state.specs.Fault.{fault_of, some_passes}
use Rattle.bpf_cert.specs.View.{LabelView, FunctionView, CertificateView}
use Rattle.bpf_safety.specs.Labels.{labels, label_at, first_with, last_from, function_at, function_from}
use Rattle.bpf_safety.specs.Flow.{Arrival, Visit, visits, sound_arrival}
use Rattle.bpf_safety.specs.Flaw.{number_if, numbers_of_visit, numbers_of_arrival, numbers_of_label, function_flaws, at, fault_at, lacks_label, is_not_entailed, is_over_budget, falls_past_end, calls_no_deeper, is_never_reached, leaves_function, is_bad_term, is_outside, is_first_label, begins_wrongly, begins_elsewhere, starts_at, is_not, starts_over_budget}
use Rattle.bpf_safety.specs.Certified.{Certified}
use Rattle.std.specs.Prelude.{get_or}
use Rattle.std.specs.Option.{option_to_list}
use Rattle.bpf_safety.proofs.Basics.{some_is}
use Rattle.bpf_safety.proofs.Here.{IsRight, IsRightLabel}

-- ---- elements of lists

Contains-here : {X : Type 0} (x : X) (xs : List X) → Contains (x ∷ xs) x
Contains-here x xs = (0, omega arith, refl)

Contains-there : {X : Type 0} (x y : X) (xs : List X) → Contains xs x → Contains (y ∷ xs) x
Contains-there x y xs h = let lt = h.1 in (suc h.0, omega arith, h.2)

Contains-nil : {X : Type 0} (x : X) → Contains [] x → ⊥
Contains-nil x h = let lt = h.1 in omega arith

pub Contains-flat : {X Y : Type 0} (f : X → List Y) (xs : List X) (x : X) (y : Y) → Contains xs x → Contains (f x) y → Contains (flat_map f xs) y
Contains-flat f [] x y h g = absurd (Contains-nil x h)
Contains-flat f (z ∷ xs) x y h g = by_place (λ k lt e. Contains-flat f xs x y (k, lt, e) g) h.0 h.1 h.2
  where
    by_place : ((k : ℕ) → k < length xs → get_or xs k x ≡ x → Contains (flat_map f xs) y) → (k : ℕ) → k < suc (length xs) → get_or (z ∷ xs) k x ≡ x → Contains (f z ++ flat_map f xs) y
    by_place later zero lt e = Contains-append_left (f z) (flat_map f xs) y (subst (λ w. Contains (f w) y) (sym e) g)
    by_place later (suc k) lt e = Contains-append_right (f z) (flat_map f xs) y (later k (omega arith) e)

pub record IsIn {X Y : Type 0} (f : X → List Y) (xs : List X) (y : Y) : Type 0 where
  pub from : X
  pub is_element : Contains xs from
  pub has : Contains (f from) y

pub Contains-from_flat : {X Y : Type 0} (f : X → List Y) (xs : List X) (y : Y) → Contains (flat_map f xs) y → IsIn f xs y
Contains-from_flat f [] y h = absurd (Contains-nil y h)
Contains-from_flat f (z ∷ xs) y h =
    ⊎_elim (λ g. record { from = z; is_element = Contains-here z xs; has = g })
    (λ g. let r = Contains-from_flat f xs y g in record { from = r.from; is_element = Contains-there r.from z xs r.is_element; has = r.has })
    (Contains-append_cases (f z) (flat_map f xs) y h)

-- ---- tests on elements

any_none : {X : Type 0} (test : X → Bool) (xs : List X) (j : ℕ) (x : X) → list_any test xs ≡ false → slice_get xs j ≡ Some x → test x ≡ false
any_none test [] j x e h = absurd (false≢true (ap is_some h))
any_none test (y ∷ xs) zero x e h = ap test (sym (some_is y x h)) ∙ (or_parts (test y) (list_any test xs) e).0
any_none test (y ∷ xs) (suc j) x e h = any_none test xs j x (or_parts (test y) (list_any test xs) e).1 h

pub passes_none : {X : Type 0} (test : X → Bool) (o : Option X) (x : X) → some_passes test o ≡ false → o ≡ Some x → test x ≡ false
passes_none test o x e h = sym (ap (some_passes test) h) ∙ e

pub record IsFirst {X : Type 0} (test : X → Bool) (xs : List X) (x : X) : Type 0 where
  pub passes : test x ≡ true
  pub is_element : Contains xs x

pub is_first : {X : Type 0} (test : X → Bool) (xs : List X) (x : X) → first_with test xs ≡ Some x → IsFirst test xs x
is_first test [] x e = absurd (false≢true (ap is_some e))
is_first {X} test (y ∷ xs) x e = by_test (test y) refl e (is_first test xs x)
  where
    by_test : (b : Bool) → test y ≡ b → cond b (Some y) (first_with test xs) ≡ Some x → (first_with test xs ≡ Some x → IsFirst test xs x) → IsFirst test (y ∷ xs) x
    by_test true t e later = record { passes = ap test (sym (some_is y x e)) ∙ t; is_element = subst (λ w. Contains (y ∷ xs) w) (some_is y x e) (Contains-here y xs) }
    by_test false t e later = let r = later e in record { passes = r.passes; is_element = Contains-there x y xs r.is_element }

first_there : {X : Type 0} (test : X → Bool) (xs : List X) (x : X) → Contains xs x → test x ≡ true → (y : X) × (first_with test xs ≡ Some y)
first_there test [] x h e = absurd (Contains-nil x h)
first_there {X} test (z ∷ xs) x h e = by_test (test z) refl (λ k lt g. first_there test xs x (k, lt, g) e) h.0 h.1 h.2
  where
    by_test : (b : Bool) → test z ≡ b → ((k : ℕ) → k < length xs → get_or xs k x ≡ x → (y : X) × (first_with test xs ≡ Some y)) → (k : ℕ) → k < suc (length xs) → get_or (z ∷ xs) k x ≡ x → (y : X) × (cond b (Some z) (first_with test xs) ≡ Some y)
    by_test true t later k lt g = (z, refl)
    by_test false t later zero lt g = absurd (true≢false (sym e ∙ ap test (sym g) ∙ t))
    by_test false t later (suc k) lt g = later k (omega arith) g

-- ---- numbers that aren't in a list

number-none : (n : ℕ) (test : Bool) → (Contains (number_if n test) n → ⊥) → test ≡ false
number-none n true none = absurd (none (Contains-here n []))
number-none n false none = refl

Contains-at : (slot : ℕ) (ns : List ℕ) (n : ℕ) → Contains ns n → Contains (at slot ns) (slot, n)
Contains-at slot [] n h = absurd (Contains-nil n h)
Contains-at slot (m ∷ ns) n h = by_place (λ k lt e. Contains-at slot ns n (k, lt, e)) h.0 h.1 h.2
  where
    by_place : ((k : ℕ) → k < length ns → get_or ns k n ≡ n → Contains (at slot ns) (slot, n)) → (k : ℕ) → k < suc (length ns) → get_or (m ∷ ns) k n ≡ n → Contains (at slot (m ∷ ns)) (slot, n)
    by_place later zero lt e = subst (λ w. Contains (at slot (m ∷ ns)) (slot, w)) e (Contains-here (slot, m) (at slot ns))
    by_place later (suc k) lt e = Contains-there (slot, n) (slot, m) (at slot ns) (later k (omega arith) e)

module _ (p : Instructions) (c : CertificateView) (certified : Certified p c) where
  abbrev of_start : List (ℕ × ℕ)
  of_start = at 0 (number_if 13 (begins_wrongly c) ++ number_if 9 (starts_over_budget c))

  abbrev of_visits : List (ℕ × ℕ)
  of_visits = flat_map (λ v. at v.slot (numbers_of_visit p c v)) (visits p c)

  abbrev of_functions : List (ℕ × ℕ)
  of_functions = flat_map (function_flaws p c) c.functions

  no_number : (v : Visit) → Contains (visits p c) v → (n : ℕ) → Contains (numbers_of_visit p c v) n → ⊥
  no_number v h n g =
      certified v.slot n
      (Contains-append_left (of_start ++ of_visits) of_functions (v.slot, n)
      (Contains-append_right of_start of_visits (v.slot, n)
      (Contains-flat (λ v. at v.slot (numbers_of_visit p c v)) (visits p c) v (v.slot, n) h (Contains-at v.slot (numbers_of_visit p c v) n g))))

  -- the parts of a visit's numbers
  abbrev arrived : Visit → List ℕ
  arrived v = numbers_of_arrival p c v (sound_arrival c v.insn v.arrival)

  before_calls : (v : Visit) (n : ℕ) → Contains (number_if 1 (lacks_label c v) ++ fault_at c v ++ arrived v) n → Contains (numbers_of_visit p c v) n
  before_calls v n h =
      let front = number_if 1 (lacks_label c v) ++ fault_at c v ++ arrived v in
      let calls = number_if 10 (calls_no_deeper c v) in
      let never = number_if 11 (is_never_reached c v) in
      Contains-append_left (front ++ calls ++ never) (number_if 12 (leaves_function p c v)) n
      (Contains-append_left (front ++ calls) never n (Contains-append_left front calls n h))

  no_fault : (v : Visit) → Contains (visits p c) v → (a : Arrival) → v.arrival ≡ Some a → fault_of c.least a.state v.insn ≡ None
  no_fault v h a e = by_fault (fault_of c.least a.state v.insn) (ap (λ o. option_to_list (option_and_then (λ b. fault_of c.least b.state v.insn) o)) e)
    where
      by_fault : (o : Option ℕ) → fault_at c v ≡ option_to_list o → o ≡ None
      by_fault None f = refl
      by_fault (Some n) f =
          absurd (no_number v h n (before_calls v n
          (Contains-append_left (number_if 1 (lacks_label c v) ++ fault_at c v) (arrived v) n
          (Contains-append_right (number_if 1 (lacks_label c v)) (fault_at c v) n
          (subst (λ xs. Contains xs n) (sym f) (Contains-here n []))))))

  sound_is : (v : Visit) → Contains (visits p c) v → (a : Arrival) → v.arrival ≡ Some a → sound_arrival c v.insn v.arrival ≡ Some a
  sound_is v h a e = ap (sound_arrival c v.insn) e ∙ ap (λ o. cond (is_none o) (Some a) None) (no_fault v h a e)

  numbers_arrived : (v : Visit) (a : Arrival) → Contains (visits p c) v → v.arrival ≡ Some a → (n : ℕ) → Contains (numbers_of_arrival p c v (Some a)) n → ⊥
  numbers_arrived v a h e n g =
      no_number v h n (before_calls v n
      (Contains-append_right (number_if 1 (lacks_label c v) ++ fault_at c v) (arrived v) n
      (subst (λ o. Contains (numbers_of_arrival p c v o) n) (sym (sound_is v h a e)) g)))

  pub is_right : (v : Visit) → Contains (visits p c) v → IsRight p c v
  is_right v h =
      let first = number_if 1 (lacks_label c v) in
      let front = number_if 1 (lacks_label c v) ++ fault_at c v ++ arrived v in
      record {
        has_label = number-none 1 (lacks_label c v) (λ g. no_number v h 1 (before_calls v 1 (Contains-append_left (first ++ fault_at c v) (arrived v) 1 (Contains-append_left first (fault_at c v) 1 g))));
        deeper = number-none 10 (calls_no_deeper c v) (λ g. no_number v h 10 (Contains-append_left (front ++ number_if 10 (calls_no_deeper c v) ++ number_if 11 (is_never_reached c v)) (number_if 12 (leaves_function p c v)) 10 (Contains-append_left (front ++ number_if 10 (calls_no_deeper c v)) (number_if 11 (is_never_reached c v)) 10 (Contains-append_right front (number_if 10 (calls_no_deeper c v)) 10 g))));
        stays = number-none 12 (leaves_function p c v) (λ g. no_number v h 12 (Contains-append_right (front ++ number_if 10 (calls_no_deeper c v) ++ number_if 11 (is_never_reached c v)) (number_if 12 (leaves_function p c v)) 12 g));
        no_fault = no_fault v h;
        entailed = λ a e. number-none 8 (is_not_entailed p c v a) (λ g. numbers_arrived v a h e 8 (Contains-append_left (number_if 8 (is_not_entailed p c v a) ++ number_if 9 (is_over_budget p c v a)) (number_if 11 (falls_past_end p c v a)) 8 (Contains-append_left (number_if 8 (is_not_entailed p c v a)) (number_if 9 (is_over_budget p c v a)) 8 g)));
        paid = λ a e. number-none 9 (is_over_budget p c v a) (λ g. numbers_arrived v a h e 9 (Contains-append_left (number_if 8 (is_not_entailed p c v a) ++ number_if 9 (is_over_budget p c v a)) (number_if 11 (falls_past_end p c v a)) 9 (Contains-append_right (number_if 8 (is_not_entailed p c v a)) (number_if 9 (is_over_budget p c v a)) 9 g)));
        not_past = λ a e. number-none 11 (falls_past_end p c v a) (λ g. numbers_arrived v a h e 11 (Contains-append_right (number_if 8 (is_not_entailed p c v a) ++ number_if 9 (is_over_budget p c v a)) (number_if 11 (falls_past_end p c v a)) 11 g));
        reached = number-none 11 (is_never_reached c v) (λ g. no_number v h 11 (Contains-append_left (front ++ number_if 10 (calls_no_deeper c v) ++ number_if 11 (is_never_reached c v)) (number_if 12 (leaves_function p c v)) 11 (Contains-append_right (front ++ number_if 10 (calls_no_deeper c v)) (number_if 11 (is_never_reached c v)) 11 g)));
      }

  -- ---- labels

  function_flaw : (f : FunctionView) → Contains c.functions f → (flaw : ℕ × ℕ) → Contains (function_flaws p c f) flaw → ⊥
  function_flaw f h flaw g = certified flaw.0 flaw.1 (Contains-append_right (of_start ++ of_visits) of_functions flaw (Contains-flat (function_flaws p c) c.functions f flaw h g))

  no_label_number : (f : FunctionView) → Contains c.functions f → (l : LabelView) → Contains f.labels l → (n : ℕ) → Contains (numbers_of_label p c f l) n → ⊥
  no_label_number f h l k n g =
      function_flaw f h (l.slot, n)
      (Contains-append_right (at f.first (number_if 13 (not (is_first_label f)))) (flat_map (λ l. at l.slot (numbers_of_label p c f l)) f.labels) (l.slot, n)
      (Contains-flat (λ l. at l.slot (numbers_of_label p c f l)) f.labels l (l.slot, n) k (Contains-at l.slot (numbers_of_label p c f l) n g)))

  label_of : (slot : ℕ) (l : LabelView) → label_at c slot ≡ Some l → IsFirst (λ k. k.slot == slot) (labels c) l
  label_of slot l e = is_first (λ k. k.slot == slot) (labels c) l e

  pub is_right_label : (slot : ℕ) (l : LabelView) → label_at c slot ≡ Some l → IsRightLabel p l
  is_right_label slot l e =
      let f = Contains-from_flat (λ f. f.labels) c.functions l (label_of slot l e).is_element in
      let none = no_label_number f.from f.is_element l f.has in
      let first = number_if 2 (is_none (insn_at p.list l.slot)) in
      let bad = number_if 9 (list_any (is_bad_term l) l.terms) in
      let last = number_if 13 (is_outside c f.from l || is_none (tightened l.state)) in
      record {
        stands = number-none 2 (is_none (insn_at p.list l.slot)) (λ g. none 2 (Contains-append_left (first ++ bad) last 2 (Contains-append_left first bad 2 g)));
        terms = λ j t h. any_none (is_bad_term l) l.terms j t (number-none 9 (list_any (is_bad_term l) l.terms) (λ g. none 9 (Contains-append_left (first ++ bad) last 9 (Contains-append_right first bad 9 g)))) h;
        tightens = (or_parts (is_outside c f.from l) (is_none (tightened l.state)) (number-none 13 (is_outside c f.from l || is_none (tightened l.state)) (λ g. none 13 (Contains-append_right (first ++ bad) last 13 g)))).1;
      }

  pub slot_of_label : (slot : ℕ) (l : LabelView) → label_at c slot ≡ Some l → l.slot ≡ slot
  slot_of_label slot l e = let t = (label_of slot l e).passes in grind (arith, nat_tests)

  -- ---- the start

  pub begins_right : (begins_wrongly c ≡ false) × (starts_over_budget c ≡ false)
  begins_right =
      let ns = number_if 13 (begins_wrongly c) ++ number_if 9 (starts_over_budget c) in
      let none : (n : ℕ) → Contains ns n → ⊥ = λ n g. certified 0 n (Contains-append_left (of_start ++ of_visits) of_functions (0, n) (Contains-append_left of_start of_visits (0, n) (Contains-at 0 ns n g))) in (
        number-none 13 (begins_wrongly c) (λ g. none 13 (Contains-append_left (number_if 13 (begins_wrongly c)) (number_if 9 (starts_over_budget c)) 13 g)),
        number-none 9 (starts_over_budget c) (λ g. none 9 (Contains-append_right (number_if 13 (begins_wrongly c)) (number_if 9 (starts_over_budget c)) 9 g)),
      )

  -- the first function begins at slot 0 with a label
  pub first_label : (l : LabelView) × (label_at c 0 ≡ Some l)
  first_label = by_functions c.functions (or_parts (begins_elsewhere c.functions) (some_passes (λ l. not (state_entails (first_state c.least c.most) l.state)) (label_at c 0)) begins_right.0).0 (λ f h. function_flaw f h (f.first, 13))
    where
      by_labels : (first : ℕ) (ls more : List LabelView) → starts_at first ls ≡ true → (first == 0) ≡ true → (l : LabelView) × (first_with (λ l. l.slot == 0) (ls ++ more) ≡ Some l)
      by_labels first [] more s z = absurd (false≢true s)
      by_labels first (l ∷ ls) more s z = let e : l.slot ≡ 0 = grind (arith, nat_tests) in (l, ap (λ n. cond (n == 0) (Some l) (first_with (λ l. l.slot == 0) (ls ++ more))) e)

      by_functions : (fs : List FunctionView) → begins_elsewhere fs ≡ false → ((f : FunctionView) → Contains fs f → Contains (function_flaws p c f) (f.first, 13) → ⊥) → (l : LabelView) × (first_with (λ l. l.slot == 0) (flat_map (λ f. f.labels) fs) ≡ Some l)
      by_functions [] e none = absurd (true≢false e)
      by_functions (f ∷ fs) e none =
          let starts : not (is_first_label f) ≡ false = number-none 13 (not (is_first_label f)) (λ g. none f (Contains-here f fs) (Contains-append_left (at f.first (number_if 13 (not (is_first_label f)))) (flat_map (λ l. at l.slot (numbers_of_label p c f l)) f.labels) (f.first, 13) (Contains-at f.first (number_if 13 (not (is_first_label f))) 13 g))) in
          by_labels f.first f.labels (flat_map (λ f. f.labels) fs) (not_is (is_first_label f) starts) (not_is (f.first == 0) e)
        where
          not_is : (b : Bool) → not b ≡ false → b ≡ true
          not_is true e = refl
          not_is false e = absurd (true≢false e)

  -- ---- functions

  from_not : (o : Option ℕ) (n : ℕ) → is_not o n ≡ false → o ≡ Some n
  from_not (Some k) n e = ap Some (equal k n e)
    where
      equal : (a b : ℕ) → not (a == b) ≡ false → a ≡ b
      equal a b e = grind (arith, nat_tests)
  from_not None n e = absurd (true≢false e)

  last_in : (found : Option FunctionView) (slot : ℕ) (fs : List FunctionView) (f : FunctionView) → last_from found slot fs ≡ Some f → (found ≡ Some f) ⊎ Contains fs f
  last_in found slot [] f e = inl e
  last_in found slot (g ∷ gs) f e = by_test (nat_le g.first slot) e (last_in (Some g) slot gs f)
    where
      by_test : (b : Bool) → cond b (last_from (Some g) slot gs) found ≡ Some f → (last_from (Some g) slot gs ≡ Some f → (Some g ≡ Some f) ⊎ Contains gs f) → (found ≡ Some f) ⊎ Contains (g ∷ gs) f
      by_test true e a = ⊎_elim (λ s. inr (subst (λ h. Contains (g ∷ gs) h) (some_is g f s) (Contains-here g gs))) (λ h. inr (Contains-there f g gs h)) (a e)
      by_test false e a = inl e

  pub function_in : (slot : ℕ) (f : FunctionView) → function_at c slot ≡ Some f → Contains c.functions f
  function_in slot f e = ⊎_elim (λ n. absurd (false≢true (ap is_some n))) (λ h. h) (last_in None slot c.functions f e)

  one_first : (f : FunctionView) (o : Option FunctionView) → option_map (λ g. g.first) o ≡ Some f.first → (g : FunctionView) × (o ≡ Some g) × (g.first ≡ f.first)
  one_first f (Some g) e = (g, refl, some_is g.first f.first e)
  one_first f None e = absurd (false≢true (ap is_some e))

  pub from_function : (slot : ℕ) (g : FunctionView) → function_from c slot ≡ Some g → Contains c.functions g × (g.first ≡ slot)
  from_function slot g e = let r = is_first (λ f. f.first == slot) c.functions g e in let t = r.passes in (r.is_element, grind (arith, nat_tests))

  module _ (one_each : (f g : FunctionView) → Contains c.functions f → Contains c.functions g → f.first ≡ g.first → f ≡ g) where
    -- the function at a slot that isn't outside of f is f
    pub same_function : (f : FunctionView) (slot : ℕ) → Contains c.functions f → is_not (option_map (λ g. g.first) (function_at c slot)) f.first ≡ false → function_at c slot ≡ Some f
    same_function f slot h e =
        let g = one_first f (function_at c slot) (from_not (option_map (λ g. g.first) (function_at c slot)) f.first e) in
        g.1 ∙ ap Some (one_each g.0 f (function_in slot g.0 g.1) h g.2)

    -- the first label of a function
    pub label_at_first : (f : FunctionView) → Contains c.functions f → (l : LabelView) × (label_at c f.first ≡ Some l) × (function_at c f.first ≡ Some f)
    label_at_first f h =
        let none : Contains (number_if 13 (not (is_first_label f))) 13 → ⊥ = λ g. function_flaw f h (f.first, 13) (Contains-append_left (at f.first (number_if 13 (not (is_first_label f)))) (flat_map (λ l. at l.slot (numbers_of_label p c f l)) f.labels) (f.first, 13) (Contains-at f.first (number_if 13 (not (is_first_label f))) 13 g)) in
        by_labels f.labels refl (not_is (is_first_label f) (number-none 13 (not (is_first_label f)) none))
      where
        not_is : (b : Bool) → not b ≡ false → b ≡ true
        not_is true e = refl
        not_is false e = absurd (true≢false e)

        by_labels : (ls : List LabelView) → f.labels ≡ ls → starts_at f.first ls ≡ true → (l : LabelView) × (label_at c f.first ≡ Some l) × (function_at c f.first ≡ Some f)
        by_labels [] e s = absurd (false≢true s)
        by_labels (l ∷ ls) e s =
            let is : l.slot ≡ f.first = grind (arith, nat_tests) in
            let has : Contains f.labels l = subst (λ ks. Contains ks l) (sym e) (Contains-here l ls) in
            let k = first_there (λ k. k.slot == f.first) (labels c) l (Contains-flat (λ f. f.labels) c.functions f l h has) s in
            let none = no_label_number f h l has in
            let first = number_if 2 (is_none (insn_at p.list l.slot)) in
            let bad = number_if 9 (list_any (is_bad_term l) l.terms) in
            let inside = (or_parts (is_outside c f l) (is_none (tightened l.state)) (number-none 13 (is_outside c f l || is_none (tightened l.state)) (λ g. none 13 (Contains-append_right (first ++ bad) (number_if 13 (is_outside c f l || is_none (tightened l.state))) 13 g)))).0 in
            (k.0, k.1, ap (function_at c) (sym is) ∙ same_function f l.slot h inside)

    pub function_at_zero : (g : FunctionView) × (function_at c 0 ≡ Some g)
    function_at_zero = by_functions c.functions (or_parts (begins_elsewhere c.functions) (some_passes (λ l. not (state_entails (first_state c.least c.most) l.state)) (label_at c 0)) begins_right.0).0 (λ f h. h)
      where
        by_functions : (fs : List FunctionView) → begins_elsewhere fs ≡ false → ((f : FunctionView) → Contains fs f → Contains c.functions f) → (g : FunctionView) × (function_at c 0 ≡ Some g)
        by_functions [] e h = absurd (true≢false e)
        by_functions (f ∷ fs) e h =
            let zero' : f.first ≡ 0 = grind (arith, nat_tests) in
            (f, ap (function_at c) (sym zero') ∙ (label_at_first f (h f (Contains-here f fs))).2)
