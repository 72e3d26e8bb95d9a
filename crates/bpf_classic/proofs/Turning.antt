-- What the template of a jump back does.
use Rattle.std.proofs.Common.{◌≡◌, ℕ, zero, suc, ◌+◌, ◌-◌, ◌<◌, ◌≤◌, List, [], ◌∷◌, length, drop, Bool, true, false, cond, Option, Some, None, refl, sym, ◌∙◌, subst, arith}
use Rattle.std.specs.Prelude.{pos, negsuc, max, slice_get, ◌||◌}
use Rattle.std.proofs.lemmas.Bool.{false≢true, and_parts, eqb-true, leb-true}
use Rattle.std.proofs.lemmas.Int.{clamps}
use Rattle.std.proofs.lemmas.Option.{same_Some}
use Rattle.bpf_insn.specs.Arithmetic.{extended, jumps}
use Rattle.bpf_insn.specs.Instruction.{Instructions}
use Rattle.bpf_insn.specs.declared.instruction.Reg.TheVariants.{R5}
use Rattle.bpf_insn.specs.declared.instruction.Operand.TheVariants.{Imm}
use Rattle.bpf_insn.specs.declared.instruction.Width.TheVariants.{W64}
use Rattle.bpf_insn.specs.declared.instruction.Cond.TheVariants.{Eq as IsEq}
use Rattle.bpf_classic.specs.Machine.{Given, Machine}
use Rattle.bpf_classic.specs.declared.instruction.Classic.TheVariants.{Back}
use Rattle.bpf_classic.specs.Template.{ahead_in, back_of, total, code}
use Rattle.bpf_classic.specs.Flow.{sets_a, sets_x, known_behind, uses_trap, leads_to, head_at, turns_to}
use Rattle.bpf_classic.specs.Longest.{turn}
use Rattle.bpf_classic.specs.declared.layout.Layout.{Layout}
use Rattle.bpf_classic.specs.declared.layout.Annotated.{Annotated}
use Rattle.bpf_classic.proofs.Steps.{HasAt, Ends, Moves, far, after, after_back, either}
use Rattle.bpf_classic.proofs.Places.{code_at, slots_between}
use Rattle.bpf_classic.proofs.Machine.{Fixed, Now, at, with_left, tests, left_is, counts, steps_back}
use Rattle.bpf_classic.proofs.Known.{Turns, TurnsFrom, TurnsOn, Agreed, implied, marked, Holds, Behind, same_knows, trapped}

by_number : (n : ℕ) (P : ℕ → Type 0) → P 0 → ((k : ℕ) → P (suc k)) → P n
by_number zero P z s = z
by_number (suc k) P z s = s k

module _ (l : Layout) (p : Instructions) (g : Given) (f : Fixed) (wanted : ℕ → Bool) where
  -- what the instruction that is led to is marked with is known
  pub weaker : (a b : Annotated) (m : Machine) (w : Now) → leads_to a (Some b) ≡ true → Behind l p g f wanted a m w → (b.reached ≡ true) × Holds l p g f wanted b.a b.x b.known m w
  weaker a b m w e h =
      let one = and_parts _ _ e in
      let two = and_parts _ _ one.1 in
      let three = and_parts _ _ two.1 in
      let less = leb-true b.known (known_behind a) two.0 in
      let there = h.there in (
        one.0,
        record {
          a_is = λ s. h.a_is (implied b.a (a.a || sets_a a.insn) three.0 s);
          x_is = λ s. h.x_is (implied b.x (a.x || sets_x a.insn) three.1 s);
          there = omega (arith, less, there);
          a_small = h.a_small;
          x_small = h.x_small;
          cells = h.cells;
        },
      )

  -- a jump back that may not be done answers 0
  spent : (rest : List Annotated) (slot v : ℕ) (w : Now) → Moves p (at f slot w) (cond (jumps W64 IsEq 0 (extended (pos 0))) (at f (slot + 1 + (total l rest + 2)) w) (at f (slot + 1) w))
      → l.trap ≡ true → HasAt p (slot + 1 + 1 + 1) (code l rest) → 0 ≡ v → Ends p f.spare (at f slot w) v
  spent rest slot v w moves trap has zero_is =
      let there : slot + 1 + 1 + 1 + total l rest ≡ slot + 1 + (total l rest + 2) = omega arith in
      after p (at f slot w) (at f (slot + 1 + (total l rest + 2)) w) v moves
      (subst (λ n. Ends p f.spare (at f n w) v) there (trapped l p g f wanted rest (slot + 1 + 1 + 1) v w trap has zero_is))

  pub back : (all : List Annotated) (start k known : ℕ) (sa sx : Bool) (over : ℕ) (rest : List Annotated) (slot v : ℕ) (m : Machine) (w : Now) → (l.loops ≡ true → Turns l p g f wanted all start)
      → HasAt p slot (code l (marked (Back k) known sa sx over ∷ rest)) → Agreed l (marked (Back k) known sa sx over) rest → turns_to l all (marked (Back k) known sa sx over) (length rest + k) (total l rest) ≡ true
      → Holds l p g f wanted sa sx known m w → f.back (length rest + k) m ≡ Some v → Ends p f.spare (at f slot w) v
  back all start k known sa sx over rest slot v m w turns has agree to knows run =
      let a : Annotated = marked (Back k) known sa sx over in
      let left : ℕ = length rest + k in
      let h : ℕ = head_at all left in
      let d : ℕ = back_of a in
      let out : ℕ = total l rest in
      let one = and_parts _ _ to in
      let two = and_parts _ _ one.1 in
      let three = and_parts _ _ two.1 in
      let slots = eqb-true (d + 1 + out) (total l (drop h all)) three.1 in
      let loop = turns one.0 in
      let trap : l.trap ≡ true = implied (uses_trap l a) l.trap agree.trap refl in
      let there : ℕ = start + ahead_in l all h in
      let behind = has.1.1.1 in
      let between = slots_between l p rest (drop h all) (slot + 1 + 1 + 1) there behind (code_at l p all h start loop.here) in
      let far_back : there + d ≡ slot + 1 + 1 = omega (arith, slots, between) in
      let more = knows.there in
      let known_here : Behind l p g f wanted a m w = same_knows l p g f wanted known (max known 0) sa sx m w (omega (arith, clamps, more)) knows in
      let test : (n : ℕ) → f.left ≡ Some n → Moves p (at f slot w) (cond (jumps W64 IsEq n (extended (pos 0))) (at f (slot + 1 + (out + 2)) w) (at f (slot + 1) w)) =
      λ n e. tests p f slot w W64 IsEq R5 (Imm (pos 0)) n (extended (pos 0)) (out + 2) has.0 (left_is p f slot w n e) refl in
      let found : (b : Annotated) → slice_get all h ≡ Some b → leads_to a (Some b) ≡ true → (n : ℕ) → f.left ≡ Some (suc n) → TurnsOn l p g f wanted all start n → Ends p f.spare (at f slot w) v =
      λ b e t n left_now on.
      let known_there = weaker a b m w t known_here in
      let some : 0 < far p (slot + 1 + 1) = (let ways = has.1.1.0.ways in omega (arith, ways)) in
      let at_head : slot + 1 + 1 - d ≡ there = omega (arith, far_back) in
      let less : far p there ≤ turn p.list = subst (λ n. far p n ≤ turn p.list) at_head has.1.1.0.back in
      let goes_on : Ends p on.spare (at (with_left n f) there w) v = on.on left v b m w e known_there.0 known_there.1 run in
      let jumped : Ends p (on.spare + turn p.list) (at (with_left n f) (slot + 1 + 1) w) v =
      after_back p on.spare (at (with_left n f) (slot + 1 + 1) w) (at (with_left n f) there w) v (steps_back p (with_left n f) (slot + 1 + 1) w d there far_back has.1.1.0) some less goes_on in
      let counted : Ends p (on.spare + turn p.list) (at f (slot + 1) w) v = after p (at f (slot + 1) w) (at (with_left n f) (slot + 1 + 1) w) v (counts p f (slot + 1) w n on.few left_now has.1.0) jumped in
      subst (λ c. Ends p c (at f slot w) v) (sym on.spared)
      (either p (at f slot w) (jumps W64 IsEq (suc n) (extended (pos 0))) (at f (slot + 1 + (out + 2)) w) (at f (slot + 1) w) v (test (suc n) left_now)
      (λ e. absurd (let z = eqb-true (suc n) 0 e in omega (arith, z))) (λ e. counted)) in
      let by_head : (o : Option Annotated) → slice_get all h ≡ o → leads_to a o ≡ true → (n : ℕ) → f.left ≡ Some (suc n) → TurnsOn l p g f wanted all start n → Ends p f.spare (at f slot w) v =
      λ o. elim o as (λ o. slice_get all h ≡ o → leads_to a o ≡ true → (n : ℕ) → f.left ≡ Some (suc n) → TurnsOn l p g f wanted all start n → Ends p f.spare (at f slot w) v) [
        | None ↦ (λ e t. absurd (false≢true t))
        | Some b ↦ found b
      ] in
      by_number loop.count (λ n. f.left ≡ Some n → TurnsFrom l p g f wanted all start n → Ends p f.spare (at f slot w) v)
      (λ e zero_from. spent rest slot v w (test 0 e) trap behind (same_Some 0 v (sym (zero_from left m) ∙ run)))
      (λ n e on. by_head (slice_get all h) refl three.0 n e on) loop.left loop.go
