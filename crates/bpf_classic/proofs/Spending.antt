-- What filters with loops answer with more turns, with none left, and without loops.
use Rattle.std.proofs.Common.{◌≡◌, ℕ, zero, suc, ◌+◌, ◌-◌, ◌<◌, ◌≤◌, List, [], ◌∷◌, length, drop, Bool, true, false, cond, Option, Some, None, refl, sym, ap, ◌∙◌, subst, arith}
use Rattle.std.specs.Prelude.{not, ◌&&◌, ◌==◌}
use Rattle.std.proofs.lemmas.Bool.{false≢true, and_parts, cond_both}
use Rattle.std.proofs.lemmas.Option.{none-some}
use Rattle.std.proofs.lemmas.List.{length-drop}
use Rattle.bpf_insn.specs.Arithmetic.{jumps}
use Rattle.bpf_insn.specs.declared.instruction.Width.TheVariants.{W32}
use Rattle.bpf_classic.specs.Machine.{Given, Machine, Next, operand, divides, same_test, bytes, read, loaded, next, go_on, run_from, turned, blank}
use Rattle.bpf_classic.specs.Machine.Next.{Ends as EndsWith, Goes, Turns}
use Rattle.bpf_classic.specs.Valid.{AreFaultless}
use Rattle.bpf_classic.specs.declared.refusal.Kind.{Kind}
use Rattle.bpf_classic.specs.declared.instruction.Classic.{Classic}
use Rattle.bpf_classic.specs.declared.instruction.Classic.TheVariants.{Constant, Length, Cell, Store, At, Index, Header, Extension, Alu, Neg, Jump, Back, JumpIf, Return, ReturnA, Tax, Txa}
use Rattle.bpf_classic.specs.Turns.{jumps_back, is_straight, MoreTurnsKeepAnswers, AnswersAreKept, NoAnswerIs0, StraightFiltersAnswer}
use Rattle.bpf_classic.proofs.Answering.{LeadsOn, leads_on, faultless, drop_faultless, answered}

abbrev Turning : Type 0
Turning = ℕ → Machine → Option ℕ

-- ---- what answers goes on to do so

abbrev Keeps : Turning → Turning → Type 0
Keeps back other = (left : ℕ) (m : Machine) (v : ℕ) → back left m ≡ Some v → other left m ≡ Some v

run_keeps : (back other : Turning) (n : ℕ) (g : Given) (filter : List Classic) (m : Machine) (v : ℕ) → Keeps back other → run_from back n g filter m ≡ Some v → run_from other n g filter m ≡ Some v
run_keeps back other zero g filter m v keeps run = run
run_keeps back other (suc n) g [] m v keeps run = run
run_keeps back other (suc n) g (i ∷ rest) m v keeps run =
    let then : Turning → Turning = λ back k m'. run_from back n g (drop k rest) m' in
    let turn : Turning → Turning = λ back k m'. back (length rest + k) m' in
    let by : (o : Next) → go_on o (then back) (turn back) ≡ Some v → go_on o (then other) (turn other) ≡ Some v =
    λ o. elim o as (λ o. go_on o (then back) (turn back) ≡ Some v → go_on o (then other) (turn other) ≡ Some v) [
      | EndsWith w ↦ (λ e. e)
      | Goes k m' ↦ (λ e. run_keeps back other n g (drop k rest) m' v keeps e)
      | Turns k m' ↦ (λ e. keeps (length rest + k) m' v e)
    ] in
    by (next g i m) run

turned_more : (n : ℕ) (g : Given) (filter : List Classic) → Keeps (turned None n g filter) (turned None (suc n) g filter)
turned_more zero g filter left m v e = absurd (none-some _ e)
turned_more (suc n) g filter left m v e =
    run_keeps (turned None n g filter) (turned None (suc n) g filter) (length filter) g (drop (length filter - left) filter) m v (turned_more n g filter) e

turned_by : (d n : ℕ) (g : Given) (filter : List Classic) → Keeps (turned None n g filter) (turned None (d + n) g filter)
turned_by zero n g filter left m v e = let z : n ≡ 0 + n = omega arith in subst (λ n. turned None n g filter left m ≡ Some v) z e
turned_by (suc d) n g filter left m v e =
    let z : suc (d + n) ≡ suc d + n = omega arith in
    subst (λ n. turned None n g filter left m ≡ Some v) z (turned_more (d + n) g filter left m v (turned_by d n g filter left m v e))

pub more_turns_keep_answers : MoreTurnsKeepAnswers
more_turns_keep_answers turns more g filter v less e =
    let z : more - turns + turns ≡ more = omega arith in
    subst (λ n. run_from (turned None n g filter) (length filter) g filter blank ≡ Some v) z
    (run_keeps (turned None turns g filter) (turned None (more - turns + turns) g filter) (length filter) g filter blank v (turned_by (more - turns) turns g filter) e)

turned_kept : (n : ℕ) (g : Given) (filter : List Classic) → Keeps (turned None n g filter) (turned (Some 0) n g filter)
turned_kept zero g filter left m v e = absurd (none-some _ e)
turned_kept (suc n) g filter left m v e = run_keeps (turned None n g filter) (turned (Some 0) n g filter) (length filter) g (drop (length filter - left) filter) m v (turned_kept n g filter) e

pub answers_are_kept : AnswersAreKept
answers_are_kept turns g filter v e = run_keeps (turned None turns g filter) (turned (Some 0) turns g filter) (length filter) g filter blank v (turned_kept turns g filter) e

-- ---- what doesn't answer has spent its turns

abbrev Spends : ℕ → Turning → Turning → Type 0
Spends most back other = (left : ℕ) (m : Machine) → 0 < left → left ≤ most → back left m ≡ None → other left m ≡ Some 0

run_spends : (kind : Kind) (g : Given) (back other : Turning) (most n before : ℕ) (filter : List Classic) (m : Machine) → Spends most back other → before + length filter ≡ most → length filter ≤ n → 0 < length filter → AreFaultless kind before filter
    → run_from back n g filter m ≡ None → run_from other n g filter m ≡ Some 0
run_spends kind g back other most zero before filter m spends whole few some h run = absurd (omega arith)
run_spends kind g back other most (suc n) before [] m spends whole few some h run = absurd (omega arith)
run_spends kind g back other most (suc n) before (i ∷ rest) m spends whole few some h run =
    let then : Turning → Turning = λ back k m'. run_from back n g (drop k rest) m' in
    let turn : Turning → Turning = λ back k m'. back (length rest + k) m' in
    let by : (o : Next) → LeadsOn before (length rest) o → go_on o (then back) (turn back) ≡ None → go_on o (then other) (turn other) ≡ Some 0 =
    λ o. elim o as (λ o. LeadsOn before (length rest) o → go_on o (then back) (turn back) ≡ None → go_on o (then other) (turn other) ≡ Some 0) [
      | EndsWith w ↦ (λ _ e. absurd (none-some _ (sym e)))
      | Goes k m' ↦ (λ lt e.
          let long = length-drop k rest in
          run_spends kind g back other most n (before + 1 + k) (drop k rest) m' spends (omega (arith, long, whole)) (omega (arith, long)) (omega (arith, long)) (drop_faultless kind (before + 1) k rest h.1) e)
      | Turns k m' ↦ (λ lt e. let some = lt.0 in let low = lt.1 in spends (length rest + k) m' (omega (arith, some)) (omega (arith, low, whole)) e)
    ] in
    by (next g i m) (leads_on g before (length rest) i m (faultless kind before (length rest) i h.0).inside) run

turned_spends : (kind : Kind) (g : Given) (filter : List Classic) → AreFaultless kind 0 filter → (n : ℕ) → Spends (length filter) (turned None n g filter) (turned (Some 0) n g filter)
turned_spends kind g filter h zero left m some few e = refl
turned_spends kind g filter h (suc n) left m some few e =
    let at : ℕ = length filter - left in
    let long = length-drop at filter in
    let zero_on : 0 + at ≡ at = omega arith in
    run_spends kind g (turned None n g filter) (turned (Some 0) n g filter) (length filter) (length filter) at (drop at filter) m (turned_spends kind g filter h n) (omega (arith, long)) (omega (arith, long)) (omega (arith, long))
    (subst (λ b. AreFaultless kind b (drop at filter)) zero_on (drop_faultless kind 0 at filter h)) e

pub no_answer_is_0 : NoAnswerIs0
no_answer_is_0 kind turns g filter valid e =
    run_spends kind g (turned None turns g filter) (turned (Some 0) turns g filter) (length filter) (length filter) 0 filter blank (turned_spends kind g filter valid.each turns) (omega arith) (omega arith) valid.some valid.each e

-- ---- without loops

abbrev Stays : Next → Type 0
Stays (EndsWith v) = Unit {0}
Stays (Goes k m) = Unit {0}
Stays (Turns k m) = true ≡ false

loaded_stays : (o : Option ℕ) (to : ℕ → Machine) → Stays (loaded o to)
loaded_stays None to = tt
loaded_stays (Some n) to = tt

stays : (g : Given) (i : Classic) (m : Machine) → jumps_back i ≡ false → Stays (next g i m)
unfolding next
stays g (Constant to k) m e = tt
stays g (Length to) m e = tt
stays g (Cell to i) m e = tt
stays g (Store from i) m e = tt
stays g (At size k) m e = loaded_stays (read g k (bytes size)) _
stays g (Index size k) m e = loaded_stays (read g (m.x + k) (bytes size)) _
stays g (Header k) m e = loaded_stays (read g k 1) _
stays g (Extension word) m e = tt
stays g (Alu op source) m e = cond_both (divides op && (operand source m == 0)) (EndsWith 0) _ Stays (λ _. tt) (λ _. tt)
stays g Neg m e = tt
stays g (Jump k) m e = tt
stays g (Back k) m e = e
stays g (JumpIf test source jt jf) m e = tt
stays g (Return k) m e = tt
stays g ReturnA m e = tt
stays g Tax m e = tt
stays g Txa m e = tt

not_so : (b : Bool) → not b ≡ true → b ≡ false
not_so true e = absurd (false≢true e)
not_so false e = refl

straight_drop : (k : ℕ) (rest : List Classic) → is_straight rest ≡ true → is_straight (drop k rest) ≡ true
straight_drop zero rest e = e
straight_drop (suc k) [] e = refl
straight_drop (suc k) (i ∷ rest) e = straight_drop k rest (and_parts _ _ e).1

run_straight : (back other : Turning) (n : ℕ) (g : Given) (filter : List Classic) (m : Machine) → is_straight filter ≡ true → run_from back n g filter m ≡ run_from other n g filter m
run_straight back other zero g filter m straight = refl
run_straight back other (suc n) g [] m straight = refl
run_straight back other (suc n) g (i ∷ rest) m straight =
    let parts = and_parts _ _ straight in
    let then : Turning → Turning = λ back k m'. run_from back n g (drop k rest) m' in
    let turn : Turning → Turning = λ back k m'. back (length rest + k) m' in
    let by : (o : Next) → Stays o → go_on o (then back) (turn back) ≡ go_on o (then other) (turn other) =
    λ o. elim o as (λ o. Stays o → go_on o (then back) (turn back) ≡ go_on o (then other) (turn other)) [
      | EndsWith v ↦ (λ _. refl)
      | Goes k m' ↦ (λ _. run_straight back other n g (drop k rest) m' (straight_drop k rest parts.1))
      | Turns k m' ↦ (λ e. absurd (false≢true (sym e)))
    ] in
    by (next g i m) (stays g i m (not_so (jumps_back i) parts.0))

pub straight_filters_answer : StraightFiltersAnswer
straight_filters_answer kind g filter valid straight =
    let found = answered kind g 0 filter valid.some valid.each in
    (found.0, λ turns. run_straight (turned None turns g filter) (turned (Some 0) 0 g filter) (length filter) g filter blank straight ∙ found.1)
