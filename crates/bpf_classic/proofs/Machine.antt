-- What the instructions of templates do on the states that a converted filter has.
use Rattle.std.proofs.Common.{◌≡◌, ℕ, suc, ◌+◌, ◌%◌, ◌^◌, ◌<◌, ◌≤◌, List, [], ◌∷◌, length, take, drop, get_or, Bool, true, false, cond, Option, Some, None, refl, ap, ap₂, ◌∙◌, arith}
use Rattle.std.specs.Prelude.{ℤ, pos, negsuc, ◌+ℤ◌, max, option_map}
use Rattle.std.proofs.lemmas.Bool.{le-leb, cond_both}
use Rattle.std.proofs.lemmas.Int.{clamps, ints}
use Rattle.bpf_insn.specs.Options.{◌>>=◌}
use Rattle.bpf_insn.specs.Order.{number_of}
use Rattle.bpf_insn.specs.Arithmetic.{alu, jumps, swapped}
use Rattle.bpf_insn.specs.Instruction.{Instructions, byte_count, not_negative}
use Rattle.bpf_insn.specs.declared.order.Order.{Order}
use Rattle.bpf_insn.specs.declared.instruction.Reg.{Reg}
use Rattle.bpf_insn.specs.declared.instruction.Reg.TheVariants.{R0, R4, R5}
use Rattle.bpf_insn.specs.declared.instruction.Operand.{Operand}
use Rattle.bpf_insn.specs.declared.instruction.Operand.TheVariants.{Imm}
use Rattle.bpf_insn.specs.declared.instruction.Width.{Width}
use Rattle.bpf_insn.specs.declared.instruction.Width.TheVariants.{W32, W64}
use Rattle.bpf_insn.specs.declared.instruction.AluOp.{AluOp}
use Rattle.bpf_insn.specs.declared.instruction.AluOp.TheVariants.{Add, Sub}
use Rattle.bpf_insn.specs.declared.instruction.Cond.{Cond}
use Rattle.bpf_insn.specs.declared.instruction.EndBits.{EndBits}
use Rattle.bpf_insn.specs.declared.instruction.EndKind.TheVariants.{Be}
use Rattle.bpf_insn.specs.declared.instruction.Insn.TheVariants.{Alu, Neg, End, Load, Ja, JumpIf}
use Rattle.bpf_semantics.specs.State.{State, Cell, register}
use Rattle.bpf_semantics.specs.Memory.{inside, location_of}
use Rattle.bpf_semantics.specs.Memory.Location.{InContext}
use Rattle.bpf_semantics.specs.Step.{does, Step, operand, alu_result, load, test_of_values}
use Rattle.bpf_semantics.specs.declared.value.Value.{Value}
use Rattle.bpf_semantics.specs.declared.value.Value.TheVariants.{Number, Pointer}
use Rattle.bpf_semantics.specs.declared.value.Region.TheVariants.{Context, Frame as FrameAt}
use Rattle.bpf_classic.specs.Machine.{Machine, bytes}
use Rattle.bpf_classic.specs.declared.instruction.Register.{Register}
use Rattle.bpf_classic.specs.declared.instruction.Register.TheVariants.{A, X}
use Rattle.bpf_classic.specs.declared.instruction.LoadSize.{LoadSize}
use Rattle.bpf_classic.specs.declared.instruction.LoadSize.TheVariants.{Byte, Half, Word}
use Rattle.bpf_classic.specs.Template.{reg_of, insn_size}
use Rattle.bpf_classic.specs.Longest.{longest_ways}
use Rattle.bpf_classic.proofs.Steps.{Stands, Moves, far, far_behind, far_next, doing, stepping}

-- what is the same in all states of a run behind the entry, up to where it jumps back: how many bytes of the packet are there, the context, how often
-- the run may still jump back if that is counted, how the filter's run goes on where it jumps back, and how many instructions that may take
pub record Fixed : Type 0 where
  pub room : ℕ
  pub context : List ℕ
  pub left : Option ℕ
  pub back : ℕ → Machine → Option ℕ
  pub spare : ℕ

-- the same with another packet
abbrev pub placed : Fixed → ℕ → List ℕ → Fixed
placed e room context = record { room = room; context = context; left = e.left; back = e.back; spare = e.spare }

abbrev pub with_left : ℕ → Fixed → Fixed
with_left n f = record { room = f.room; context = f.context; left = Some n; back = f.back; spare = f.spare }

-- what may change: r0, r3 and r4, and the frame's cells
pub record Now : Type 0 where
  pub r0 : Option Value
  pub r3 : Option Value
  pub r4 : Option Value
  pub stack : List (Option Cell)

abbrev pub at : Fixed → ℕ → Now → State
at f slot w =
    record {
      top =
          record {
            slot = slot;
            registers =
                w.r0 ∷ Some (Pointer Context (pos 0)) ∷ Some (Number f.room) ∷ w.r3 ∷ w.r4 ∷ option_map Number f.left
                ∷ None ∷ None ∷ None ∷ None ∷ Some (Pointer (FrameAt 0) (pos 0)) ∷ [];
            stack = w.stack;
          };
      waiting = [];
      context = f.context;
    }

-- the value of A or X, and another one in its place
abbrev pub value_of : Register → Now → Option Value
value_of A w = w.r0
value_of X w = w.r3

abbrev pub set_to : Register → Value → Now → Now
set_to A v w = record { r0 = Some v; r3 = w.r3; r4 = w.r4; stack = w.stack }
set_to X v w = record { r0 = w.r0; r3 = Some v; r4 = w.r4; stack = w.stack }

abbrev pub with_scratch : Value → Now → Now
with_scratch v w = record { r0 = w.r0; r3 = w.r3; r4 = Some v; stack = w.stack }

abbrev pub with_cells : List (Option Cell) → Now → Now
with_cells cells w = record { r0 = w.r0; r3 = w.r3; r4 = w.r4; stack = cells }

-- a load of each size from the context
pub size_bytes : (size : LoadSize) → byte_count (insn_size size) ≡ bytes size
size_bytes Byte = refl
size_bytes Half = refl
size_bytes Word = refl

context_value : (order : Order) (s : State) (size : LoadSize) (i : ℕ) → load order s (insn_size size) (InContext i) ≡ Some (Number (number_of order (bytes size) (take (bytes size) (drop i s.context))))
context_value order s Byte i = refl
context_value order s Half i = refl
context_value order s Word i = refl

module _ (p : Instructions) (f : Fixed) (slot : ℕ) (w : Now) where
  -- ---- arithmetic

  alu_done : (to : Register) (width : Width) (op : AluOp) (src : Operand) (b v : Value) → operand (at f slot w) src ≡ Some b → alu_result width op (value_of to w) b ≡ Some v → does p.order (Alu op width (reg_of to) src) (at f slot w) ≡ Some (at f (slot + 1) (set_to to v w))
  unfolding does
  alu_done A width op src b v eb ev =
      ap (λ o. o >>= λ b. alu_result width op w.r0 b >>= λ v. Some (at f (slot + 1) (set_to A v w))) eb
      ∙ ap (λ o. o >>= λ v. Some (at f (slot + 1) (set_to A v w))) ev
  alu_done X width op src b v eb ev =
      ap (λ o. o >>= λ b. alu_result width op w.r3 b >>= λ v. Some (at f (slot + 1) (set_to X v w))) eb
      ∙ ap (λ o. o >>= λ v. Some (at f (slot + 1) (set_to X v w))) ev

  pub alu_moves : (to : Register) (width : Width) (op : AluOp) (src : Operand) (b v : Value) → Stands p slot (Alu op width (reg_of to) src) → operand (at f slot w) src ≡ Some b → alu_result width op (value_of to w) b ≡ Some v → Moves p (at f slot w) (at f (slot + 1) (set_to to v w))
  alu_moves to width op src b v here eb ev = doing p (at f slot w) (at f (slot + 1) (set_to to v w)) (Alu op width (reg_of to) src) here (alu_done to width op src b v eb ev) (far_next p slot)

  scratch_done : (width : Width) (op : AluOp) (src : Operand) (b v : Value) → operand (at f slot w) src ≡ Some b → alu_result width op w.r4 b ≡ Some v → does p.order (Alu op width R4 src) (at f slot w) ≡ Some (at f (slot + 1) (with_scratch v w))
  unfolding does
  scratch_done width op src b v eb ev =
      ap (λ o. o >>= λ b. alu_result width op w.r4 b >>= λ v. Some (at f (slot + 1) (with_scratch v w))) eb
      ∙ ap (λ o. o >>= λ v. Some (at f (slot + 1) (with_scratch v w))) ev

  pub scratch_moves : (width : Width) (op : AluOp) (src : Operand) (b v : Value) → Stands p slot (Alu op width R4 src) → operand (at f slot w) src ≡ Some b → alu_result width op w.r4 b ≡ Some v → Moves p (at f slot w) (at f (slot + 1) (with_scratch v w))
  scratch_moves width op src b v here eb ev = doing p (at f slot w) (at f (slot + 1) (with_scratch v w)) (Alu op width R4 src) here (scratch_done width op src b v eb ev) (far_next p slot)

  negated : (a : ℕ) → w.r0 ≡ Some (Number a) → does p.order (Neg W32 R0) (at f slot w) ≡ Some (at f (slot + 1) (set_to A (Number (alu W32 Sub 0 a)) w))
  unfolding does
  negated a e = ap (λ r. does p.order (Neg W32 R0) (at f slot (record { r0 = r; r3 = w.r3; r4 = w.r4; stack = w.stack }))) e

  pub negates : (a : ℕ) → Stands p slot (Neg W32 R0) → w.r0 ≡ Some (Number a) → Moves p (at f slot w) (at f (slot + 1) (set_to A (Number (alu W32 Sub 0 a)) w))
  negates a here e = doing p (at f slot w) (at f (slot + 1) (set_to A (Number (alu W32 Sub 0 a)) w)) (Neg W32 R0) here (negated a e) (far_next p slot)

  swaps_done : (bits : EndBits) (a : ℕ) → w.r0 ≡ Some (Number a) → does p.order (End Be bits R0) (at f slot w) ≡ Some (at f (slot + 1) (set_to A (Number (swapped p.order Be bits a)) w))
  unfolding does
  swaps_done bits a e = ap (λ r. does p.order (End Be bits R0) (at f slot (record { r0 = r; r3 = w.r3; r4 = w.r4; stack = w.stack }))) e

  pub swap_moves : (bits : EndBits) (a : ℕ) → Stands p slot (End Be bits R0) → w.r0 ≡ Some (Number a) → Moves p (at f slot w) (at f (slot + 1) (set_to A (Number (swapped p.order Be bits a)) w))
  swap_moves bits a here e = doing p (at f slot w) (at f (slot + 1) (set_to A (Number (swapped p.order Be bits a)) w)) (End Be bits R0) here (swaps_done bits a e) (far_next p slot)

  -- ---- loads from the context

  loaded_done : (to : Register) (size : LoadSize) (src : Reg) (z : ℤ) (j i : ℕ) → register (at f slot w) src ≡ Some (Pointer Context (pos j)) → pos j +ℤ z ≡ pos i → i + bytes size ≤ length f.context
      → does p.order (Load (insn_size size) (reg_of to) src z) (at f slot w) ≡ Some (at f (slot + 1) (set_to to (Number (number_of p.order (bytes size) (take (bytes size) (drop i f.context)))) w))
  unfolding does
  loaded_done to size src z j i er ez le =
      let s : State = at f slot w in
      let v : Value = Number (number_of p.order (bytes size) (take (bytes size) (drop i f.context))) in
      let there : inside (byte_count (insn_size size)) (length f.context) (pos j +ℤ z) ≡ Some i =
      ap₂ (λ n z. inside n (length f.context) z) (size_bytes size) ez ∙ ap (λ b. cond b (Some i) None) (le-leb (i + bytes size) (length f.context) le) in
      let same : (to' : Register) → does p.order (Load (insn_size size) (reg_of to') src z) s ≡ (register s src >>= λ base. location_of s (byte_count (insn_size size)) z base >>= λ location. load p.order s (insn_size size) location >>= λ value. Some (at f (slot + 1) (set_to to' value w))) =
      λ to'. elim to' as (λ to'. does p.order (Load (insn_size size) (reg_of to') src z) s ≡ (register s src >>= λ base. location_of s (byte_count (insn_size size)) z base >>= λ location. load p.order s (insn_size size) location >>= λ value. Some (at f (slot + 1) (set_to to' value w)))) [ A ↦ refl | X ↦ refl ] in
      same to
      ∙ ap (λ o. o >>= λ base. location_of s (byte_count (insn_size size)) z base >>= λ location. load p.order s (insn_size size) location >>= λ value. Some (at f (slot + 1) (set_to to value w))) er
      ∙ ap (λ o. option_map InContext o >>= λ location. load p.order s (insn_size size) location >>= λ value. Some (at f (slot + 1) (set_to to value w))) there
      ∙ ap (λ o. o >>= λ value. Some (at f (slot + 1) (set_to to value w))) (context_value p.order s size i)

  pub context_moves : (to : Register) (size : LoadSize) (src : Reg) (z : ℤ) (j i : ℕ) → Stands p slot (Load (insn_size size) (reg_of to) src z) → register (at f slot w) src ≡ Some (Pointer Context (pos j)) → pos j +ℤ z ≡ pos i → i + bytes size ≤ length f.context
      → Moves p (at f slot w) (at f (slot + 1) (set_to to (Number (number_of p.order (bytes size) (take (bytes size) (drop i f.context)))) w))
  context_moves to size src z j i here er ez le =
      doing p (at f slot w) (at f (slot + 1) (set_to to (Number (number_of p.order (bytes size) (take (bytes size) (drop i f.context)))) w)) (Load (insn_size size) (reg_of to) src z) here
      (loaded_done to size src z j i er ez le) (far_next p slot)

  -- ---- jumps

  went : (d : ℕ) → does p.order (Ja (pos d)) (at f slot w) ≡ Some (at f (slot + 1 + d) w)
  unfolding does
  went d = refl

  pub goes : (d : ℕ) → Stands p slot (Ja (pos d)) → Moves p (at f slot w) (at f (slot + 1 + d) w)
  goes d here = let e = far_behind p slot d in doing p (at f slot w) (at f (slot + 1 + d) w) (Ja (pos d)) here (went d) (omega (arith, e))

  one_way : (b : Bool) (s t : State) → cond b (Some s) (Some t) ≡ Some (cond b s t)
  one_way true s t = refl
  one_way false s t = refl

  tested : (width : Width) (test : Cond) (dst : Reg) (src : Operand) (a b d : ℕ) → register (at f slot w) dst ≡ Some (Number a) → operand (at f slot w) src ≡ Some (Number b)
      → does p.order (JumpIf test width dst src (pos d)) (at f slot w) ≡ Some (cond (jumps width test a b) (at f (slot + 1 + d) w) (at f (slot + 1) w))
  unfolding does
  tested width test dst src a b d ea eb =
      let s : State = at f slot w in
      ap (λ o. o >>= λ a. operand s src >>= λ b. test_of_values width test a b >>= λ taken. cond taken (Some (at f (slot + 1 + d) w)) (Some (at f (slot + 1) w))) ea
      ∙ ap (λ o. o >>= λ b. test_of_values width test (Number a) b >>= λ taken. cond taken (Some (at f (slot + 1 + d) w)) (Some (at f (slot + 1) w))) eb
      ∙ one_way (jumps width test a b) (at f (slot + 1 + d) w) (at f (slot + 1) w)

  pub tests : (width : Width) (test : Cond) (dst : Reg) (src : Operand) (a b d : ℕ) → Stands p slot (JumpIf test width dst src (pos d)) → register (at f slot w) dst ≡ Some (Number a) → operand (at f slot w) src ≡ Some (Number b)
      → Moves p (at f slot w) (cond (jumps width test a b) (at f (slot + 1 + d) w) (at f (slot + 1) w))
  tests width test dst src a b d here ea eb =
      let far_jump = far_behind p slot d in
      let next = far_next p slot in
      let most : ℕ = 1 + max (get_or (drop (slot + 1) (longest_ways p.list)) 0 0) (get_or (drop (slot + 1) (longest_ways p.list)) d 0) in
      doing p (at f slot w) (cond (jumps width test a b) (at f (slot + 1 + d) w) (at f (slot + 1) w)) (JumpIf test width dst src (pos d)) here (tested width test dst src a b d ea eb)
      (cond_both (jumps width test a b) (at f (slot + 1 + d) w) (at f (slot + 1) w) (λ t. far p t.top.slot < most) (λ _. omega (arith, clamps, far_jump)) (λ _. omega (arith, clamps, next)))

  -- ---- jumps back

  pub left_is : (n : ℕ) → f.left ≡ Some n → register (at f slot w) R5 ≡ Some (Number n)
  left_is n e = ap (option_map Number) e

  counted : (n : ℕ) → n < 2 ^ 16 → f.left ≡ Some (suc n) → does p.order (Alu Add W64 R5 (Imm (negsuc 0))) (at f slot w) ≡ Some (at (with_left n f) (slot + 1) w)
  unfolding does
  counted n few e =
      let one : (suc n + 0xffffffffffffffff) % 2 ^ 64 ≡ n = omega arith in
      ap (λ o. does p.order (Alu Add W64 R5 (Imm (negsuc 0))) (at (record { room = f.room; context = f.context; left = o; back = f.back; spare = f.spare }) slot w)) e
      ∙ ap (λ n. Some (at (with_left n f) (slot + 1) w)) one

  pub counts : (n : ℕ) → n < 2 ^ 16 → f.left ≡ Some (suc n) → Stands p slot (Alu Add W64 R5 (Imm (negsuc 0))) → Moves p (at f slot w) (at (with_left n f) (slot + 1) w)
  counts n few e here = doing p (at f slot w) (at (with_left n f) (slot + 1) w) (Alu Add W64 R5 (Imm (negsuc 0))) here (counted n few e) (far_next p slot)

  went_back : (d to : ℕ) → to + d ≡ slot → does p.order (Ja (negsuc d)) (at f slot w) ≡ Some (at f to w)
  unfolding does
  went_back d to e =
      let z : pos (slot + 1) +ℤ negsuc d ≡ pos to = omega (arith, ints, e) in
      ap (λ z. option_map (λ slot. at f slot w) (not_negative z)) z

  pub steps_back : (d to : ℕ) → to + d ≡ slot → Stands p slot (Ja (negsuc d)) → Step p (at f slot w) (at f to w)
  steps_back d to e here = stepping p (at f slot w) (at f to w) (Ja (negsuc d)) here (went_back d to e)
