-- What the templates of arithmetic do: in front of a division by X a test for 0, in front of a shift by X one for 32.
use Rattle.std.proofs.Common.{◌≡◌, ℕ, ◌+◌, ◌<◌, ◌≤◌, ◌^◌, List, [], ◌∷◌, ◌++◌, length, drop, Bool, true, false, cond, Option, Some, refl, sym, ap, ◌∙◌, subst, arith}
use Rattle.std.specs.Prelude.{pos, nat_le, slice_get, not, ◌&&◌, ◌==◌}
use Rattle.std.specs.Int.{cast_signed, w32}
use Rattle.std.proofs.lemmas.Bool.{false≢true, or_parts, and_from, and_left, and_right, ltb-true, ltb-false, lt-leb, le-leb}
use Rattle.std.proofs.lemmas.Int.{clamps}
use Rattle.std.proofs.lemmas.Option.{same_Some}
use Rattle.bpf_insn.specs.Arithmetic.{low, extended, alu, compute, jumps}
use Rattle.bpf_insn.specs.Instruction.{Instructions}
use Rattle.bpf_insn.specs.declared.instruction.Reg.TheVariants.{R0, R3}
use Rattle.bpf_insn.specs.declared.instruction.Operand.TheVariants.{Imm, Reg as FromReg}
use Rattle.bpf_insn.specs.declared.instruction.Width.TheVariants.{W32}
use Rattle.bpf_insn.specs.declared.instruction.AluOp.TheVariants.{Mov}
use Rattle.bpf_insn.specs.declared.instruction.Cond.TheVariants.{Eq as IsEq, Lt as IsLt}
use Rattle.bpf_insn.specs.declared.instruction.Insn.{Insn}
use Rattle.bpf_insn.specs.declared.instruction.Insn.TheVariants.{Alu as AluInsn, JumpIf as JumpIfInsn}
use Rattle.bpf_semantics.specs.Step.{alu_result}
use Rattle.bpf_semantics.specs.declared.value.Value.TheVariants.{Number}
use Rattle.bpf_classic.specs.Machine.{Given, Machine, put, operand, same_op, divides, shifts, result, next, go_on, run_from}
use Rattle.bpf_classic.specs.Machine.Next.{Ends as EndsWith, Goes}
use Rattle.bpf_classic.specs.declared.instruction.Register.TheVariants.{A}
use Rattle.bpf_classic.specs.declared.instruction.Source.{Source}
use Rattle.bpf_classic.specs.declared.instruction.Source.TheVariants.{K, X as FromX}
use Rattle.bpf_classic.specs.declared.instruction.Op.{Op}
use Rattle.bpf_classic.specs.declared.instruction.Op.TheVariants.{Add, Sub, Mul, Div, Or, And, Lsh, Rsh, Mod, Xor}
use Rattle.bpf_classic.specs.declared.instruction.Classic.TheVariants.{Alu}
use Rattle.bpf_classic.specs.Template.{room, operand_of, is_register, is_masked, total, code}
use Rattle.bpf_classic.specs.Flow.{source_word, leads_to}
use Rattle.bpf_classic.specs.Meaning.{insns}
use Rattle.bpf_classic.specs.declared.layout.Layout.{Layout}
use Rattle.bpf_classic.specs.declared.layout.Annotated.{Annotated}
use Rattle.bpf_classic.proofs.Steps.{HasAt, Stands, Ends, Moves, after, either}
use Rattle.bpf_classic.proofs.Values.{constant_low, low_small, alu_narrow, nothing_left, nothing_right}
use Rattle.bpf_classic.proofs.Machine.{Fixed, Now, at, set_to, alu_moves, tests}
use Rattle.bpf_classic.proofs.Known.{word_below, Fits, Agreed, or_no, or_right, implied, none_below, marked, Holds, Behind, Onward, Follows, pass, trapped}

-- each of them is what eBPF's is
same_result : (op : Op) (a b : ℕ) → alu_result W32 (same_op op) (Some (Number a)) (Number b) ≡ Some (Number (alu W32 (same_op op) a b))
same_result Add a b = refl
same_result Sub a b = refl
same_result Mul a b = refl
same_result Div a b = refl
same_result Or a b = refl
same_result And a b = refl
same_result Lsh a b = refl
same_result Rsh a b = refl
same_result Mod a b = refl
same_result Xor a b = refl

-- none both divides and shifts
no_shift : (op : Op) → divides op ≡ true → shifts op ≡ false
no_shift Add e = refl
no_shift Sub e = refl
no_shift Mul e = refl
no_shift Div e = refl
no_shift Or e = refl
no_shift And e = refl
no_shift Lsh e = absurd (false≢true e)
no_shift Rsh e = absurd (false≢true e)
no_shift Mod e = refl
no_shift Xor e = refl

shifts_nothing : (op : Op) (b : ℕ) → shifts op ≡ true → alu W32 (same_op op) 0 b ≡ 0
shifts_nothing Add b e = absurd (false≢true e)
shifts_nothing Sub b e = absurd (false≢true e)
shifts_nothing Mul b e = absurd (false≢true e)
shifts_nothing Div b e = absurd (false≢true e)
shifts_nothing Or b e = absurd (false≢true e)
shifts_nothing And b e = absurd (false≢true e)
shifts_nothing Lsh b e = nothing_left b
shifts_nothing Rsh b e = nothing_right b
shifts_nothing Mod b e = absurd (false≢true e)
shifts_nothing Xor b e = absurd (false≢true e)

-- which result counts
no_test : (s n t : Bool) → (s && n) ≡ false → ((s && n) && (cond t false true)) ≡ false
no_test s n t e = ap (λ b. b && (cond t false true)) e

unmasked : (s n t : Bool) → (s && not t) ≡ false → ((s && n) && (cond t false true)) ≡ false
unmasked true true true e = refl
unmasked true false true e = refl
unmasked true n false e = absurd (false≢true (sym e))
unmasked false n t e = refl

with_test : (s n t : Bool) → (s && not t) ≡ true → n ≡ true → ((s && n) && (cond t false true)) ≡ true
with_test true n true e h = absurd (false≢true e)
with_test true n false e h = ap (λ n. n && true) h
with_test false n t e h = absurd (false≢true e)

front_is : (s t : Bool) → (s && t) ≡ true → s ≡ true
front_is true t e = refl
front_is false t e = e

abbrev pub IsWord : Source → Type 0
IsWord (K k) = k < 2 ^ 32
IsWord FromX = Unit {0}

pub word_of : (source : Source) → source_word source ≡ true → IsWord source
word_of (K k) e = word_below k e
word_of FromX e = tt

module _ (l : Layout) (p : Instructions) (g : Given) (f : Fixed) (wanted : ℕ → Bool) where
  -- A is set to what the operation gives
  operates : (op : Op) (source : Source) (slot a : ℕ) (m : Machine) (w : Now) → IsWord source → w.r0 ≡ Some (Number a) → (is_register source ≡ true → w.r3 ≡ Some (Number m.x)) → Stands p slot (AluInsn (same_op op) W32 R0 (operand_of source))
      → Moves p (at f slot w) (at f (slot + 1) (set_to A (Number (alu W32 (same_op op) a (operand source m))) w))
  operates op (K k) slot a m w word a_is x_is here =
      let z = cast_signed w32 k in
      let e : alu W32 (same_op op) a (extended z) ≡ alu W32 (same_op op) a k = ap (compute w32 (same_op op) (low W32 a)) (constant_low k word ∙ sym (low_small k word)) in
      subst (λ n. Moves p (at f slot w) (at f (slot + 1) (set_to A (Number n) w))) e
      (alu_moves p f slot w A W32 (same_op op) (Imm z) (Number (extended z)) (Number (alu W32 (same_op op) a (extended z))) here refl
      (ap (λ r. alu_result W32 (same_op op) r (Number (extended z))) a_is ∙ same_result op a (extended z)))
  operates op FromX slot a m w word a_is x_is here =
      alu_moves p f slot w A W32 (same_op op) (FromReg R3) (Number m.x) (Number (alu W32 (same_op op) a m.x)) here (x_is refl)
      (ap (λ r. alu_result W32 (same_op op) r (Number m.x)) a_is ∙ same_result op a m.x)

  abbrev then : List Annotated → ℕ → ℕ → Machine → Option ℕ
  then rest fuel k m = run_from f.back fuel g (drop k (insns rest)) m

  abbrev turned : List Annotated → ℕ → Machine → Option ℕ
  turned rest k m = f.back (length (insns rest) + k) m

  -- the operation alone, where r0 is a and the result that counts is what it gives
  operation : (op : Op) (source : Source) (known : ℕ) (sa sx : Bool) (over : ℕ) (rest : List Annotated) (slot fuel v a : ℕ) (m : Machine) (w : Now)
      → IsWord source → w.r0 ≡ Some (Number a) → (is_register source ≡ true → w.r3 ≡ Some (Number m.x)) → HasAt p slot (AluInsn (same_op op) W32 R0 (operand_of source) ∷ code l rest)
      → leads_to (marked (Alu op source) known sa sx over) (slice_get rest 0) ≡ true → Holds l p g f wanted false sx known m w → Onward l p g f wanted (marked (Alu op source) known sa sx over) rest fuel v
      → (divides op && (operand source m == 0)) ≡ false → result g.masks op m.a (operand source m) ≡ alu W32 (same_op op) a (operand source m)
      → go_on (next g (Alu op source) m) (then rest fuel) (turned rest) ≡ Some v → Ends p f.spare (at f slot w) v
  unfolding next
  operation op source known sa sx over rest slot fuel v a m w word a_is x_is has leads knows onward goes same run =
      let n : ℕ = alu W32 (same_op op) a (operand source m) in
      let more = knows.there in
      let on : run_from f.back fuel g (insns rest) (put A n m) ≡ Some v =
      ap (λ n. run_from f.back fuel g (insns rest) (put A n m)) (sym same)
      ∙ ap (λ b. go_on (cond b (EndsWith 0) (Goes 0 (put A (result g.masks op m.a (operand source m)) m))) (then rest fuel) (turned rest)) (sym goes) ∙ run in
      let behind : Behind l p g f wanted (marked (Alu op source) known sa sx over) (put A n m) (set_to A (Number n) w) = record {
        a_is = λ _. refl;
        x_is = λ e. knows.x_is (or_no sx e);
        there = omega (arith, clamps);
        a_small = alu_narrow (same_op op) a (operand source m);
        x_small = knows.x_small;
        cells = knows.cells;
      } in
      pass l p g f wanted (marked (Alu op source) known sa sx over) rest slot fuel v (put A n m) w (set_to A (Number n) w)
      (operates op source slot a m w word a_is x_is has.0) has.1 onward leads behind on

  -- what is known where r0 isn't A
  without_a : (known : ℕ) (sa sx : Bool) (m : Machine) (w : Now) → Holds l p g f wanted sa sx known m w → Holds l p g f wanted false sx known m w
  without_a known sa sx m w knows = record { a_is = λ e. absurd (false≢true e); x_is = knows.x_is; there = knows.there; a_small = knows.a_small; x_small = knows.x_small; cells = knows.cells }

  with_zero : (known : ℕ) (sa sx : Bool) (m : Machine) (w : Now) → Holds l p g f wanted sa sx known m w → Holds l p g f wanted false sx known m (set_to A (Number 0) w)
  with_zero known sa sx m w knows = record { a_is = λ e. absurd (false≢true e); x_is = knows.x_is; there = knows.there; a_small = knows.a_small; x_small = knows.x_small; cells = knows.cells }

  pub with_constant : (op : Op) (k : ℕ) → Follows l p g f wanted (Alu op (K k))
  with_constant op k known sa sx over rest slot fuel v m w good has agree covers knows onward run =
      let parts = or_parts (divides op && (k == 0)) (shifts op && nat_le 32 k) good.constant in
      operation op (K k) known sa sx over rest slot fuel v m.a m w (word_below k good.word) (knows.a_is (implied true sa agree.a_read refl)) (λ e. absurd (false≢true e)) has
      (or_right _ _ (none_below (room l)) agree.leads) (without_a known sa sx m w knows) onward parts.0
      (ap (λ b. cond b 0 (alu W32 (same_op op) m.a k)) (no_test (shifts op) (nat_le 32 k) g.masks parts.1)) run

  -- what the template of an operation with X has in front of it
  abbrev Case : Op → List Insn → Type 0
  Case op insns_of =
      (known : ℕ) (sa sx : Bool) (over : ℕ) (rest : List Annotated) (slot fuel v : ℕ) (m : Machine) (w : Now)
      → HasAt p slot (insns_of ++ code l rest) → Agreed l (marked (Alu op FromX) known sa sx over) rest → Holds l p g f wanted sa sx known m w
      → Onward l p g f wanted (marked (Alu op FromX) known sa sx over) rest fuel v
      → go_on (next g (Alu op FromX) m) (then rest fuel) (turned rest) ≡ Some v → Ends p f.spare (at f slot w) v

  abbrev itself : Op → Insn
  itself op = AluInsn (same_op op) W32 R0 (FromReg R3)

  divided : (op : Op) → divides op ≡ true → (known : ℕ) (sa sx : Bool) (over : ℕ) (rest : List Annotated) (slot fuel v : ℕ) (m : Machine) (w : Now)
      → HasAt p slot (JumpIfInsn IsEq W32 R3 (Imm (pos 0)) (pos (total l rest + 1)) ∷ itself op ∷ code l rest) → Agreed l (marked (Alu op FromX) known sa sx over) rest → Holds l p g f wanted sa sx known m w
      → Onward l p g f wanted (marked (Alu op FromX) known sa sx over) rest fuel v
      → go_on (next g (Alu op FromX) m) (then rest fuel) (turned rest) ≡ Some v → Ends p f.spare (at f slot w) v
  unfolding next
  divided op d known sa sx over rest slot fuel v m w has agree knows onward run =
      let a_is = knows.a_is (implied true sa agree.a_read refl) in
      let x_is = knows.x_is (implied true sx agree.x_read refl) in
      let low_x : low W32 m.x ≡ m.x = low_small m.x knows.x_small in
      let to : ℕ = total l rest + 1 in
      either p (at f slot w) (jumps W32 IsEq m.x 0) (at f (slot + 1 + to) w) (at f (slot + 1) w) v
      (tests p f slot w W32 IsEq R3 (Imm (pos 0)) m.x 0 to has.0 x_is refl)
      (λ e.
      let zero : (m.x == 0) ≡ true = ap (λ n. n == 0) (sym low_x) ∙ e in
      let there : slot + 1 + 1 + total l rest ≡ slot + 1 + to = omega arith in
      let zero_is : 0 ≡ v = same_Some 0 v (sym (ap (λ b. go_on (cond b (EndsWith 0) (Goes 0 (put A (result g.masks op m.a m.x) m))) (then rest fuel) (turned rest)) (and_from (divides op) (m.x == 0) d zero)) ∙ run) in
      subst (λ n. Ends p f.spare (at f n w) v) there (trapped l p g f wanted rest (slot + 1 + 1) v w (implied (divides op) l.trap agree.trap d) has.1.1 zero_is))
      (λ e.
      let some : (m.x == 0) ≡ false = ap (λ n. n == 0) (sym low_x) ∙ e in
      operation op FromX known sa sx over rest (slot + 1) fuel v m.a m w tt a_is (λ _. x_is) has.1
      (or_right _ _ (none_below (room l)) agree.leads) (without_a known sa sx m w knows) onward (and_right (divides op) (m.x == 0) some)
      (ap (λ b. cond b 0 (alu W32 (same_op op) m.a m.x)) (no_test (shifts op) (nat_le 32 m.x) g.masks (and_left (shifts op) (nat_le 32 m.x) (no_shift op d)))) run)

  shifted : (op : Op) → divides op ≡ false → g.masks ≡ is_masked l → (shifts op && not (is_masked l)) ≡ true
      → Case op (JumpIfInsn IsLt W32 R3 (Imm (pos 32)) (pos 1) ∷ AluInsn Mov W32 R0 (Imm (pos 0)) ∷ itself op ∷ [])
  shifted op d masks s known sa sx over rest slot fuel v m w has agree knows onward run =
      let a_is = knows.a_is (implied true sa agree.a_read refl) in
      let x_is = knows.x_is (implied true sx agree.x_read refl) in
      let low_x : low W32 m.x ≡ m.x = low_small m.x knows.x_small in
      let leads = or_right _ _ (none_below (room l)) agree.leads in
      let goes : (divides op && (m.x == 0)) ≡ false = and_left (divides op) (m.x == 0) d in
      either p (at f slot w) (jumps W32 IsLt m.x 32) (at f (slot + 1 + 1) w) (at f (slot + 1) w) v
      (tests p f slot w W32 IsLt R3 (Imm (pos 32)) m.x 32 1 has.0 x_is refl)
      (λ e.
      let few : m.x < 32 = let lt = ltb-true (low W32 m.x) 32 e in omega (arith, lt, low_x) in
      operation op FromX known sa sx over rest (slot + 1 + 1) fuel v m.a m w tt a_is (λ _. x_is) has.1.1 leads (without_a known sa sx m w knows) onward goes
      (ap (λ b. cond b 0 (alu W32 (same_op op) m.a m.x)) (no_test (shifts op) (nat_le 32 m.x) g.masks (and_right (shifts op) (nat_le 32 m.x) (lt-leb 32 m.x few)))) run)
      (λ e.
      let many : 32 ≤ m.x = let le = ltb-false (low W32 m.x) 32 e in omega (arith, le, low_x) in
      let zero : Now = set_to A (Number 0) w in
      let s' : (shifts op && not g.masks) ≡ true = ap (λ b. shifts op && not b) masks ∙ s in
      after p (at f (slot + 1) w) (at f (slot + 1 + 1) zero) v (alu_moves p f (slot + 1) w A W32 Mov (Imm (pos 0)) (Number 0) (Number 0) has.1.0 refl refl)
      (operation op FromX known sa sx over rest (slot + 1 + 1) fuel v 0 m zero tt refl (λ _. x_is) has.1.1 leads (with_zero known sa sx m w knows) onward goes
      (ap (λ b. cond b 0 (alu W32 (same_op op) m.a m.x)) (with_test (shifts op) (nat_le 32 m.x) g.masks s' (le-leb 32 m.x many)) ∙ sym (shifts_nothing op m.x (front_is (shifts op) (not (is_masked l)) s))) run))

  alone : (op : Op) → divides op ≡ false → g.masks ≡ is_masked l → (shifts op && not (is_masked l)) ≡ false → Case op (itself op ∷ [])
  alone op d masks s known sa sx over rest slot fuel v m w has agree knows onward run =
      let s' : (shifts op && not g.masks) ≡ false = ap (λ b. shifts op && not b) masks ∙ s in
      let x_is = knows.x_is (implied true sx agree.x_read refl) in
      operation op FromX known sa sx over rest slot fuel v m.a m w tt (knows.a_is (implied true sa agree.a_read refl)) (λ _. x_is) has
      (or_right _ _ (none_below (room l)) agree.leads) (without_a known sa sx m w knows) onward (and_left (divides op) (m.x == 0) d)
      (ap (λ b. cond b 0 (alu W32 (same_op op) m.a m.x)) (unmasked (shifts op) (nat_le 32 m.x) g.masks s')) run

  pub with_x : Fits l p g f → (op : Op) → Follows l p g f wanted (Alu op FromX)
  with_x fits op known sa sx over rest slot fuel v m w good has agree covers knows onward run =
      let test : List Insn = JumpIfInsn IsEq W32 R3 (Imm (pos 0)) (pos (total l rest + 1)) ∷ itself op ∷ [] in
      let three : List Insn = JumpIfInsn IsLt W32 R3 (Imm (pos 32)) (pos 1) ∷ AluInsn Mov W32 R0 (Imm (pos 0)) ∷ itself op ∷ [] in
      let shift : Bool = shifts op && not (is_masked l) in
      let by_shift : (t : Bool) → shift ≡ t → divides op ≡ false → HasAt p slot (cond t three (itself op ∷ []) ++ code l rest) → Ends p f.spare (at f slot w) v =
      λ t. elim t as (λ t. shift ≡ t → divides op ≡ false → HasAt p slot (cond t three (itself op ∷ []) ++ code l rest) → Ends p f.spare (at f slot w) v) [
        | true ↦ (λ s d h. shifted op d fits.masks s known sa sx over rest slot fuel v m w h agree knows onward run)
        | false ↦ (λ s d h. alone op d fits.masks s known sa sx over rest slot fuel v m w h agree knows onward run)
      ] in
      let by_division : (t : Bool) → divides op ≡ t → HasAt p slot (cond t test (cond shift three (itself op ∷ [])) ++ code l rest) → Ends p f.spare (at f slot w) v =
      λ t. elim t as (λ t. divides op ≡ t → HasAt p slot (cond t test (cond shift three (itself op ∷ [])) ++ code l rest) → Ends p f.spare (at f slot w) v) [
        | true ↦ (λ d h. divided op d known sa sx over rest slot fuel v m w h agree knows onward run)
        | false ↦ (λ d h. by_shift shift refl d h)
      ] in
      by_division (divides op) refl has
