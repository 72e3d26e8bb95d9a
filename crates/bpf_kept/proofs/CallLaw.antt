-- Calls at one placement: what is known at the entry of a function, and behind the call.
use Rattle.std.proofs.Common.{◌≡◌, ℕ, ◌+◌, ◌*◌, ◌%◌, ◌^◌, ◌<◌, ◌≤◌, ◌⊎◌, inl, inr, refl, sym, ◌∙◌, subst, arith, Bool, true, false, List, [], ◌∷◌, ◌++◌, length, Option, Some, None}
use Rattle.std.specs.Prelude.{pos, ◌+ℤ◌, ◌&&◌, ◌||◌, not, filter, get_or, take, drop, leb, ltb}
use Rattle.std.specs.List.{AllByRecursion, list_all}
use Rattle.std.proofs.lemmas.Bool.{and_parts, cond_both, cases_lt, leb-true, le-leb, ltb-true, lt-ltb, false≢true}
use Rattle.std.proofs.lemmas.List.{get_or-drop, length-take-le, length-drop}
use Rattle.bpf_insn.specs.Arithmetic.{modulo}
use Rattle.bpf_insn.specs.Limits.{frame_bytes}
use Rattle.bpf_insn.specs.Instruction.{register_number}
use Rattle.bpf_insn.specs.declared.order.Order.{Order}
use Rattle.bpf_insn.specs.declared.instruction.Reg.{Reg}
use Rattle.bpf_insn.specs.declared.instruction.Reg.TheVariants.{R0, R1, R2, R3, R4, R5, R6, R7, R8, R9, R10}
use Rattle.bpf_semantics.specs.Flat.{Return, FlatState, IsFlat, IsAmong, addresses, flat_register}
use Rattle.bpf_kept.specs.Zero.{cleared}
use Rattle.bpf_kept.specs.declared.notes.Holder.{Holder}
use Rattle.bpf_kept.specs.declared.notes.Holder.TheVariants.{Register, Slot, Length}
use Rattle.bpf_kept.specs.declared.notes.Term.{Term}
use Rattle.bpf_kept.specs.declared.notes.Fact.{Fact}
use Rattle.bpf_kept.specs.declared.notes.Change.TheVariants.{Kept}
use Rattle.bpf_kept.specs.Terms.{Packet, Facts, Values, IsWaiting, IsSeen, IsApart, IsCommon, Differs, DiffersBy, Holds, AllHold, value_in, is_noted}
use Rattle.bpf_kept.specs.Rules.{Known}
use Rattle.bpf_kept.specs.Behind.{by_itself}
use Rattle.bpf_kept.specs.Calls.{is_of, is_between, is_frameless, is_carried, is_handed, is_result, fresh_facts, known_entered, waits, fact_waits, scratch_facts, known_returned, apart_waits}
use Rattle.bpf_kept.proofs.HoldsLaw.{IsHigh, all_both, plain_shift}
use Rattle.bpf_kept.proofs.FrameLaw.{IsRoomy, slot_passes, slot_same}
use Rattle.bpf_kept.proofs.PutLaw.{AtOnce}
use Rattle.bpf_kept.proofs.ExtraLaw.{kept_hold}
use Rattle.bpf_kept.proofs.EdgeLaw.{Behind, numbers_equal}
use Rattle.bpf_kept.proofs.StartLaw.{IsClear, slots_hold}

-- ---- lists

all_filter : {A : Type 0} (P Q : A → Type 0) (test : A → Bool) (xs : List A) → AllByRecursion P xs → ((x : A) → test x ≡ true → P x → Q x) → AllByRecursion Q (filter test xs)
all_filter P Q test [] h each = tt
all_filter P Q test (x ∷ xs) h each =
    let rest = all_filter P Q test xs h.1 each in
    cond_both (test x) (x ∷ filter test xs) (filter test xs) (AllByRecursion Q) (λ e. (each x e h.0, rest)) (λ e. rest)

-- what a call gives to the registers
record AreEntered (args : List ℕ) (end : ℕ) : Type 0 where
  sixth : get_or (0 ∷ args ++ 0 ∷ 0 ∷ 0 ∷ 0 ∷ end ∷ []) 6 0 ≡ 0
  seventh : get_or (0 ∷ args ++ 0 ∷ 0 ∷ 0 ∷ 0 ∷ end ∷ []) 7 0 ≡ 0
  eighth : get_or (0 ∷ args ++ 0 ∷ 0 ∷ 0 ∷ 0 ∷ end ∷ []) 8 0 ≡ 0
  ninth : get_or (0 ∷ args ++ 0 ∷ 0 ∷ 0 ∷ 0 ∷ end ∷ []) 9 0 ≡ 0
  tenth : get_or (0 ∷ args ++ 0 ∷ 0 ∷ 0 ∷ 0 ∷ end ∷ []) 10 0 ≡ end

are_entered : (args : List ℕ) (end : ℕ) → length args ≡ 5 → AreEntered args end
are_entered (a ∷ b ∷ c ∷ d ∷ e ∷ []) end l = record { sixth = refl; seventh = refl; eighth = refl; ninth = refl; tenth = refl }
are_entered [] end l = absurd (omega arith)
are_entered (a ∷ []) end l = absurd (omega arith)
are_entered (a ∷ b ∷ []) end l = absurd (omega arith)
are_entered (a ∷ b ∷ c ∷ []) end l = absurd (omega arith)
are_entered (a ∷ b ∷ c ∷ d ∷ []) end l = absurd (omega arith)
are_entered (a ∷ b ∷ c ∷ d ∷ e ∷ x ∷ xs) end l = absurd (omega arith)

five_handed : (xs : List ℕ) → length xs ≡ 11 → length (take 5 (drop 1 xs)) ≡ 5
five_handed xs eleven = length-take-le 5 (drop 1 xs) (rw (length-drop 1 xs, eleven) (omega arith))

-- r1 to r5
handed_at : (xs rest : List ℕ) → length xs ≡ 11 → (r : Reg) → is_between 1 6 (Register r) ≡ true → get_or (0 ∷ take 5 (drop 1 xs) ++ rest) (register_number r) 0 ≡ get_or xs (register_number r) 0
handed_at (x0 ∷ x1 ∷ x2 ∷ x3 ∷ x4 ∷ x5 ∷ xs) rest l R1 e = refl
handed_at (x0 ∷ x1 ∷ x2 ∷ x3 ∷ x4 ∷ x5 ∷ xs) rest l R2 e = refl
handed_at (x0 ∷ x1 ∷ x2 ∷ x3 ∷ x4 ∷ x5 ∷ xs) rest l R3 e = refl
handed_at (x0 ∷ x1 ∷ x2 ∷ x3 ∷ x4 ∷ x5 ∷ xs) rest l R4 e = refl
handed_at (x0 ∷ x1 ∷ x2 ∷ x3 ∷ x4 ∷ x5 ∷ xs) rest l R5 e = refl
handed_at (x0 ∷ x1 ∷ x2 ∷ x3 ∷ x4 ∷ x5 ∷ xs) rest l R0 e = absurd (false≢true e)
handed_at (x0 ∷ x1 ∷ x2 ∷ x3 ∷ x4 ∷ x5 ∷ xs) rest l R6 e = absurd (false≢true e)
handed_at (x0 ∷ x1 ∷ x2 ∷ x3 ∷ x4 ∷ x5 ∷ xs) rest l R7 e = absurd (false≢true e)
handed_at (x0 ∷ x1 ∷ x2 ∷ x3 ∷ x4 ∷ x5 ∷ xs) rest l R8 e = absurd (false≢true e)
handed_at (x0 ∷ x1 ∷ x2 ∷ x3 ∷ x4 ∷ x5 ∷ xs) rest l R9 e = absurd (false≢true e)
handed_at (x0 ∷ x1 ∷ x2 ∷ x3 ∷ x4 ∷ x5 ∷ xs) rest l R10 e = absurd (false≢true e)
handed_at [] rest l r e = absurd (omega arith)
handed_at (x0 ∷ []) rest l r e = absurd (omega arith)
handed_at (x0 ∷ x1 ∷ []) rest l r e = absurd (omega arith)
handed_at (x0 ∷ x1 ∷ x2 ∷ []) rest l r e = absurd (omega arith)
handed_at (x0 ∷ x1 ∷ x2 ∷ x3 ∷ []) rest l r e = absurd (omega arith)
handed_at (x0 ∷ x1 ∷ x2 ∷ x3 ∷ x4 ∷ []) rest l r e = absurd (omega arith)

-- r6 to r10 behind the call
waited_at : (left x : ℕ) (xs : List ℕ) (r : Reg) → waits left (Register r) ≡ true → get_or (x ∷ 0 ∷ 0 ∷ 0 ∷ 0 ∷ 0 ∷ drop 6 xs) (register_number r) 0 ≡ get_or xs (register_number r) 0
waited_at left x xs R6 e = get_or-drop 6 xs 0 0
waited_at left x xs R7 e = get_or-drop 6 xs 1 0
waited_at left x xs R8 e = get_or-drop 6 xs 2 0
waited_at left x xs R9 e = get_or-drop 6 xs 3 0
waited_at left x xs R10 e = get_or-drop 6 xs 4 0
waited_at left x xs R0 e = absurd (false≢true e)
waited_at left x xs R1 e = absurd (false≢true e)
waited_at left x xs R2 e = absurd (false≢true e)
waited_at left x xs R3 e = absurd (false≢true e)
waited_at left x xs R4 e = absurd (false≢true e)
waited_at left x xs R5 e = absurd (false≢true e)

-- ---- facts in which no frame counts

elsewhere : (start next : ℕ) (by : Option Term) (x y : ℕ) → is_frameless by ≡ true → DiffersBy start by x y → DiffersBy next by x y
elsewhere start next None x y e d = d
elsewhere start next (Some t) x y e d = subst (λ z. y ≡ modulo (pos x +ℤ z) addresses) (plain_shift start t e ∙ sym (plain_shift next t e)) d

carried_holds : (from to start next : ℕ) (old new old' new' : Values) (fact : Fact) → ((of : Option Holder) → is_of (is_between from to) of ≡ true → (old' of ≡ old of) × (new' of ≡ new of)) → is_carried from to fact ≡ true → Holds start old new fact → Holds next old' new' fact
carried_holds from to start next old new old' new' fact same e h =
    let a = and_parts (is_of (is_between from to) fact.of) (is_of (is_between from to) fact.base && is_frameless fact.by) e in
    let b = and_parts (is_of (is_between from to) fact.base) (is_frameless fact.by) a.1 in
    subst (λ x. DiffersBy next fact.by x (new' fact.of)) (sym (same fact.base b.0).0) (subst (λ y. DiffersBy next fact.by (old fact.base) y) (sym (same fact.of a.0).1) (elsewhere start next fact.by (old fact.base) (new fact.of) b.1 h))

-- ---- the states

-- at the entry of a function whose frame begins there
abbrev pub entered_state : ℕ → FlatState → ℕ → List Return → FlatState
entered_state next f slot returns = record { slot = slot; registers = 0 ∷ take 5 (drop 1 f.registers) ++ 0 ∷ 0 ∷ 0 ∷ 0 ∷ (next + frame_bytes) % addresses ∷ []; memory = cleared next f.memory; returns = returns }

-- behind the call of a state, with what is given back, and another memory
abbrev pub returned_state : FlatState → ℕ → ℕ → (ℕ → ℕ) → List Return → FlatState
returned_state f x slot memory returns = record { slot = slot; registers = x ∷ 0 ∷ 0 ∷ 0 ∷ 0 ∷ 0 ∷ drop 6 f.registers; memory = memory; returns = returns }

-- a function's frame lies above the own one, this above those that wait, and what is given above all
pub record IsAround (start next : ℕ) (packet : Packet) : Type 0 where
  pub given : 2 ^ 63 ≤ packet.first
  pub above : start + 512 ≤ next
  pub lower : (a : ℕ) → IsWaiting packet.left packet.waiting a → a < start
  pub room : IsRoomy next
  pub high : IsHigh next

-- around the function's frame
abbrev pub inner : ℕ → Packet → Packet
inner start packet = record { first = packet.first; length = packet.length; waiting = start ∷ packet.waiting; left = packet.left }

-- what the function gives back, in front of its EXIT and behind the call
pub result_holds : (order : Order) (start next x y : ℕ) (packet : Packet) (fc gc f g : FlatState) (slot new_slot : ℕ) (m w : ℕ → ℕ) (rs qs : List Return) (back : Facts) → list_all is_result back ≡ true → flat_register f R0 ≡ x → flat_register g R0 ≡ y
    → AllHold next (value_in order next (inner start packet) f) (value_in order next (inner start packet) g) back → AllHold start (value_in order start packet (returned_state fc x slot m rs)) (value_in order start packet (returned_state gc y new_slot w qs)) back
result_holds order start next x y packet fc gc f g slot new_slot m w rs qs [] e ex ey all = tt
result_holds order start next x y packet fc gc f g slot new_slot m w rs qs (fact ∷ back) e ex ey all =
    let h = and_parts (is_result fact) (list_all is_result back) e in (
      carried_holds 0 1 next start (value_in order next (inner start packet) f) (value_in order next (inner start packet) g) (value_in order start packet (returned_state fc x slot m rs)) (value_in order start packet (returned_state gc y new_slot w qs)) fact same h.0 all.0,
      result_holds order start next x y packet fc gc f g slot new_slot m w rs qs back h.1 ex ey all.1,
    )
  where
    same : (of : Option Holder) → is_of (is_between 0 1) of ≡ true → (value_in order start packet (returned_state fc x slot m rs) of ≡ value_in order next (inner start packet) f of) × (value_in order start packet (returned_state gc y new_slot w qs) of ≡ value_in order next (inner start packet) g of)
    same None e = (refl, refl)
    same (Some Length) e = (refl, refl)
    same (Some (Slot n)) e = absurd (false≢true e)
    same (Some (Register R0)) e = (sym ex, sym ey)
    same (Some (Register R1)) e = absurd (false≢true e)
    same (Some (Register R2)) e = absurd (false≢true e)
    same (Some (Register R3)) e = absurd (false≢true e)
    same (Some (Register R4)) e = absurd (false≢true e)
    same (Some (Register R5)) e = absurd (false≢true e)
    same (Some (Register R6)) e = absurd (false≢true e)
    same (Some (Register R7)) e = absurd (false≢true e)
    same (Some (Register R8)) e = absurd (false≢true e)
    same (Some (Register R9)) e = absurd (false≢true e)
    same (Some (Register R10)) e = absurd (false≢true e)

module _ (order : Order) (start next : ℕ) (packet : Packet) (known : Known) (f g : FlatState) (at : AtOnce order start packet known f g) (around : IsAround start next packet) (left_is : known.left ≡ packet.left) (low : apart_waits known ≡ true) where
  -- a byte in a slot that may differ is among the lowest ones
  apart_low : (a : ℕ) → IsApart start known.apart a → (a < start + packet.left) × ((start ≤ a) × (a < start + 512))
  apart_low a apart =
      let n : ℕ = apart.0 in
      let few = apart.1 in
      let from = apart.3.0 in
      let to = apart.3.1 in
      let h = noted (is_noted known.apart n) (leb (8 * n + 8) known.left) apart.2 (slot_passes (λ n. not (is_noted known.apart n) || leb (8 * n + 8) known.left) n 64 low few) in
      let le : 8 * n + 8 ≤ packet.left = subst (λ left. 8 * n + 8 ≤ left) left_is (leb-true (8 * n + 8) known.left h) in
      (omega arith, (omega arith, omega arith))
    where
      noted : (a b : Bool) → a ≡ true → (not a || b) ≡ true → b ≡ true
      noted true b e h = h
      noted false b e h = absurd (false≢true e)

  -- ---- the entry

  -- what the function may come to, but for its own frame, is the same in front of the call
  outer_same : (a : ℕ) → a < addresses → IsSeen next (inner start packet) a → (IsAmong next 512 a → ⊥) → g.memory a ≡ f.memory a
  outer_same a small (inl among) out =
      let from = among.0 in
      let given = around.given in
      let to = at.room.to in
      at.common a small (inl among) (λ apart. let l = apart_low a apart in let high = l.1.1 in absurd (omega arith))
  outer_same a small (inr (inl own)) out = absurd (out own)
  outer_same a small (inr (inr (inl here))) out =
      let from = here.0 in
      let to = here.1 in
      at.common a small (inr (inl (omega arith, to))) (λ apart. let l = (apart_low a apart).0 in absurd (omega arith))
  outer_same a small (inr (inr (inr later))) out =
      let below = around.lower a later in
      at.common a small (inr (inr later)) (λ apart. let l = (apart_low a apart).1.0 in absurd (omega arith))

  entered_clear : (h : FlatState) (slot : ℕ) (rs : List Return) → IsClear next (entered_state next h slot rs)
  entered_clear h slot rs a low high = cond_both (leb next a && ltb a (next + frame_bytes)) 0 (h.memory a) (λ z. z ≡ 0) (λ e. refl) (λ e. absurd (false≢true (sym e ∙ both_true (leb next a) (ltb a (next + frame_bytes)) (le-leb next a low) (lt-ltb a (next + frame_bytes) high))))
    where
      both_true : (a b : Bool) → a ≡ true → b ≡ true → (a && b) ≡ true
      both_true true b ea eb = eb
      both_true false b ea eb = absurd (false≢true ea)

  entered_common : (slot new_slot : ℕ) (rs qs : List Return) → IsCommon next (inner start packet) [] (entered_state next f slot rs) (entered_state next g new_slot qs)
  entered_common slot new_slot rs qs a small seen out = elim (cases_lt a next) [
    | inl below ↦ outside (λ among. let from = among.0 in absurd (omega arith))
    | inr from ↦ elim (cases_lt a (next + 512)) [
      | inl to ↦ entered_clear g new_slot qs a from to ∙ sym (entered_clear f slot rs a from to)
      | inr above ↦ outside (λ among. let to = among.1 in absurd (omega arith))
    ]
  ]
    where
      unclear : (h : FlatState) → (IsAmong next 512 a → ⊥) → cleared next h.memory a ≡ h.memory a
      unclear h out = cond_both (leb next a && ltb a (next + frame_bytes)) 0 (h.memory a) (λ z. z ≡ h.memory a)
          (λ e. let c = and_parts (leb next a) (ltb a (next + frame_bytes)) e in absurd (out (leb-true next a c.0, ltb-true a (next + frame_bytes) c.1))) (λ e. refl)

      outside : (IsAmong next 512 a → ⊥) → cleared next g.memory a ≡ cleared next f.memory a
      outside out = unclear g out ∙ outer_same a small seen out ∙ sym (unclear f out)

  handed_same : (slot new_slot : ℕ) (rs qs : List Return) (of : Option Holder) → is_of (is_between 1 6) of ≡ true
      → (value_in order next (inner start packet) (entered_state next f slot rs) of ≡ value_in order start packet f of) × (value_in order next (inner start packet) (entered_state next g new_slot qs) of ≡ value_in order start packet g of)
  handed_same slot new_slot rs qs None e = (refl, refl)
  handed_same slot new_slot rs qs (Some Length) e = (refl, refl)
  handed_same slot new_slot rs qs (Some (Slot n)) e = absurd (false≢true e)
  handed_same slot new_slot rs qs (Some (Register r)) e = (handed_at f.registers (0 ∷ 0 ∷ 0 ∷ 0 ∷ (next + frame_bytes) % addresses ∷ []) at.flat.eleven r e, handed_at g.registers (0 ∷ 0 ∷ 0 ∷ 0 ∷ (next + frame_bytes) % addresses ∷ []) at.new_flat.eleven r e)

  entered_holds : (slot new_slot : ℕ) (rs qs : List Return) → IsFlat (entered_state next f slot rs) → IsFlat (entered_state next g new_slot qs)
      → AllHold next (value_in order next (inner start packet) (entered_state next f slot rs)) (value_in order next (inner start packet) (entered_state next g new_slot qs)) (filter is_handed known.facts ++ fresh_facts)
  entered_holds slot new_slot rs qs flat flat' =
      all_both (Holds next old new) (filter is_handed known.facts) fresh_facts
      (all_filter (Holds start (value_in order start packet f) (value_in order start packet g)) (Holds next old new) is_handed known.facts at.all
      (λ fact e h. carried_holds 1 6 start next (value_in order start packet f) (value_in order start packet g) old new fact (handed_same slot new_slot rs qs) e h)) (
        number R0 0 refl refl,
        (
          number R6 0 x.sixth y.sixth,
          (number R7 0 x.seventh y.seventh, (number R8 0 x.eighth y.eighth, (number R9 0 x.ninth y.ninth, (number R10 end x.tenth y.tenth, slots_hold order next (inner start packet) f' g' around.room flat (entered_clear f slot rs) (entered_clear g new_slot qs))))),
        ),
      )
    where
      f' : FlatState
      f' = entered_state next f slot rs

      g' : FlatState
      g' = entered_state next g new_slot qs

      old : Values
      old = value_in order next (inner start packet) f'

      new : Values
      new = value_in order next (inner start packet) g'

      end : ℕ
      end = (next + frame_bytes) % addresses

      x : AreEntered (take 5 (drop 1 f.registers)) end
      x = are_entered (take 5 (drop 1 f.registers)) end (five_handed f.registers at.flat.eleven)

      y : AreEntered (take 5 (drop 1 g.registers)) end
      y = are_entered (take 5 (drop 1 g.registers)) end (five_handed g.registers at.new_flat.eleven)

      number : (r : Reg) (n : ℕ) → flat_register f' r ≡ n → flat_register g' r ≡ n → Holds next old new (by_itself (Register r))
      number r n ef eg = numbers_equal next (flat_register f' r) (flat_register g' r) (flat.numbers (register_number r)) (eg ∙ sym ef)

  -- what is known at the entry
  pub entered_behind : (back : Facts) (spare : Option ℕ) (slot new_slot : ℕ) (rs qs : List Return) → IsFlat (entered_state next f slot rs) → IsFlat (entered_state next g new_slot qs) → Behind order next (inner start packet) (known_entered known back spare) Kept (entered_state next f slot rs) (entered_state next g new_slot qs)
  entered_behind back spare slot new_slot rs qs flat flat' =
      let end : ℕ = (next + frame_bytes) % addresses in
      record {
        high = around.high;
        room = around.room;
        flat = flat;
        new_flat = flat';
        pointers = (
          (are_entered (take 5 (drop 1 f.registers)) end (five_handed f.registers at.flat.eleven)).tenth,
          (are_entered (take 5 (drop 1 g.registers)) end (five_handed g.registers at.new_flat.eleven)).tenth,
        );
        holds = λ want e. kept_hold next (filter is_handed known.facts ++ fresh_facts) around.high (value_in order next (inner start packet) (entered_state next f slot rs)) (value_in order next (inner start packet) (entered_state next g new_slot qs)) want refl refl
            (entered_holds slot new_slot rs qs flat flat') e;
        common = λ a small seen out. entered_common slot new_slot rs qs a small seen (λ apart. out apart.0 apart.1 apart.2 apart.3);
      }

  -- ---- behind the call

  -- what waits is what it was
  pub waited_same : (h : FlatState) (x slot : ℕ) (m : ℕ → ℕ) (rs : List Return) → ((a : ℕ) → IsAmong start packet.left a → a < start + 512 → m a ≡ h.memory a) → (of : Option Holder) → is_of (waits known.left) of ≡ true → value_in order start packet (returned_state h x slot m rs) of ≡ value_in order start packet h of
  waited_same h x slot m rs kept None e = refl
  waited_same h x slot m rs kept (Some Length) e = refl
  waited_same h x slot m rs kept (Some (Register r)) e = waited_at known.left x h.registers r e
  waited_same h x slot m rs kept (Some (Slot n)) e =
      let le : 8 * n + 8 ≤ packet.left = subst (λ left. 8 * n + 8 ≤ left) left_is (leb-true (8 * n + 8) known.left e) in
      slot_same order start n h (returned_state h x slot m rs) at.room (λ a few small among. let from = among.0 in let to = among.1 in kept a (omega arith, omega arith) (omega arith))

  waited_holds : (x y slot new_slot : ℕ) (m w : ℕ → ℕ) (rs qs : List Return) → ((a : ℕ) → IsAmong start packet.left a → a < start + 512 → m a ≡ f.memory a) → ((a : ℕ) → IsAmong start packet.left a → a < start + 512 → w a ≡ g.memory a) → (fact : Fact) → fact_waits known.left fact ≡ true
      → Holds start (value_in order start packet f) (value_in order start packet g) fact → Holds start (value_in order start packet (returned_state f x slot m rs)) (value_in order start packet (returned_state g y new_slot w qs)) fact
  waited_holds x y slot new_slot m w rs qs kept new_kept fact e h =
      let c = and_parts (is_of (waits known.left) fact.of) (is_of (waits known.left) fact.base) e in
      subst (λ z. DiffersBy start fact.by z (value_in order start packet (returned_state g y new_slot w qs) fact.of)) (sym (waited_same f x slot m rs kept fact.base c.1)) (subst (λ z. DiffersBy start fact.by (value_in order start packet f fact.base) z) (sym (waited_same g y new_slot w qs new_kept fact.of c.0)) h)

  -- what is known behind the call, where the function's frame is left with these bytes
  pub returned_behind : (x y slot new_slot : ℕ) (m w : ℕ → ℕ) (rs qs : List Return) (apart : List Bool) (back : Facts) (spare : Option ℕ) → ((a : ℕ) → IsAmong start packet.left a → a < start + 512 → m a ≡ f.memory a) → ((a : ℕ) → IsAmong start packet.left a → a < start + 512 → w a ≡ g.memory a)
      → ((a : ℕ) → a < addresses → IsSeen next (inner start packet) a → (IsApart next apart a → ⊥) → w a ≡ m a) → IsFlat (returned_state f x slot m rs) → IsFlat (returned_state g y new_slot w qs)
      → AllHold start (value_in order start packet (returned_state f x slot m rs)) (value_in order start packet (returned_state g y new_slot w qs)) back → Behind order start packet (known_returned known back spare) Kept (returned_state f x slot m rs) (returned_state g y new_slot w qs)
  returned_behind x y slot new_slot m w rs qs apart back spare kept new_kept common flat flat' result =
      record {
        high = at.high;
        room = at.room;
        flat = flat;
        new_flat = flat';
        pointers = (waited_at known.left x f.registers R10 refl ∙ at.pointers.0, waited_at known.left y g.registers R10 refl ∙ at.pointers.1);
        holds = λ want e. kept_hold start (filter (fact_waits known.left) known.facts ++ back ++ scratch_facts) at.high old new want refl refl
            (all_both (Holds start old new) (filter (fact_waits known.left) known.facts ++ back) scratch_facts
            (all_both (Holds start old new) (filter (fact_waits known.left) known.facts) back
            (all_filter (Holds start (value_in order start packet f) (value_in order start packet g)) (Holds start old new) (fact_waits known.left) known.facts at.all (λ fact e h. waited_holds x y slot new_slot m w rs qs kept new_kept fact e h)) result) (none, (none, (none, (none, (none, tt)))))) e;
        common = λ a small seen out. by_seen a small seen (λ apart. out apart.0 apart.1 apart.2 apart.3);
      }
    where
      old : Values
      old = value_in order start packet (returned_state f x slot m rs)

      new : Values
      new = value_in order start packet (returned_state g y new_slot w qs)

      none : Differs start (record { frames = 0; moved = 0 }) 0 0
      none = numbers_equal start 0 0 (omega arith) refl

      -- in no slot of the function's frame
      outside : (a : ℕ) → a < next ⊎ (2 ^ 63 ≤ a) → IsApart next apart a → ⊥
      outside a (inl below) apart = let from = apart.3.0 in absurd (omega arith)
      outside a (inr above) apart = let few = apart.1 in let to = apart.3.1 in let room = around.room.to in absurd (omega arith)

      by_seen : (a : ℕ) → a < addresses → IsSeen start packet a → (IsApart start known.apart a → ⊥) → w a ≡ m a
      by_seen a small (inl among) out = let from = among.0 in let given = around.given in common a small (inl among) (outside a (inr (omega arith)))
      by_seen a small (inr (inr later)) out = let below = around.lower a later in let above = around.above in common a small (inr (inr (inr later))) (outside a (inl (omega arith)))
      by_seen a small (inr (inl own)) out =
          let from = own.0 in
          let to = own.1 in
          let above = around.above in
          elim (cases_lt a (start + packet.left)) [
            | inl lowest ↦ new_kept a (from, lowest) to ∙ at.common a small (inr (inl own)) out ∙ sym (kept a (from, lowest) to)
            | inr higher ↦ common a small (inr (inr (inl (higher, to)))) (outside a (inl (omega arith)))
          ]
