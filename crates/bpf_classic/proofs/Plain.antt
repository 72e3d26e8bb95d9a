-- What the templates do that neither load from the packet nor jump nor compute with a second operand.
use Rattle.std.proofs.Common.{◌≡◌, ℕ, ◌+◌, ◌%◌, ◌<◌, ◌^◌, take, drop, Bool, true, Some, refl, ap, ◌∙◌, subst, arith}
use Rattle.std.specs.Prelude.{ℤ, pos, ◌+ℤ◌, max, option_and_then}
use Rattle.std.specs.Int.{cast_signed, w32}
use Rattle.std.proofs.lemmas.Bool.{eq-eqb, leb-false}
use Rattle.std.proofs.lemmas.Int.{clamps}
use Rattle.bpf_insn.specs.Order.{number_of}
use Rattle.bpf_insn.specs.Arithmetic.{low, extended, alu}
use Rattle.bpf_insn.specs.Instruction.{Instructions}
use Rattle.bpf_insn.specs.declared.instruction.Reg.TheVariants.{R0, R1, R2, R3}
use Rattle.bpf_insn.specs.declared.instruction.Operand.TheVariants.{Imm, Reg as FromReg}
use Rattle.bpf_insn.specs.declared.instruction.Width.TheVariants.{W32}
use Rattle.bpf_insn.specs.declared.instruction.AluOp.TheVariants.{Sub, Mov}
use Rattle.bpf_semantics.specs.State.{number_in}
use Rattle.bpf_semantics.specs.Memory.{with_bytes}
use Rattle.bpf_insn.specs.Order.{bytes_of}
use Rattle.bpf_semantics.specs.declared.value.Value.TheVariants.{Number}
use Rattle.bpf_classic.specs.Machine.{Given, put, held, with_cell, cell_of, next}
use Rattle.bpf_classic.specs.Valid.{cell_count}
use Rattle.bpf_classic.specs.declared.instruction.Register.{Register}
use Rattle.bpf_classic.specs.declared.instruction.Register.TheVariants.{A, X}
use Rattle.bpf_classic.specs.declared.instruction.LoadSize.TheVariants.{Word}
use Rattle.bpf_classic.specs.declared.instruction.Classic.TheVariants.{Constant, Length, Cell, Store, Neg, Return, ReturnA, Tax, Txa}
use Rattle.bpf_classic.specs.Template.{room, length_offset, length_insn, reg_of}
use Rattle.bpf_classic.specs.declared.layout.Form.{Form}
use Rattle.bpf_classic.specs.declared.layout.Form.TheVariants.{Blocks, Plain, Seccomp, Extended}
use Rattle.bpf_classic.specs.declared.layout.Layout.{Layout}
use Rattle.bpf_classic.proofs.Steps.{Stands, Moves, after, ending}
use Rattle.bpf_classic.proofs.Values.{constant_low, low_small, alu_narrow}
use Rattle.bpf_classic.proofs.Machine.{Fixed, Now, at, set_to, with_cells, alu_moves, negates, context_moves}
use Rattle.bpf_classic.proofs.Frame.{first_of, cells_after, cell_moves, store_moves}
use Rattle.bpf_classic.proofs.Known.{word_below, LengthIs, Fits, or_no, or_right, implied, none_below, marked, Behind, Follows, pass, put_knows, held_is, held_small}

module _ (l : Layout) (p : Instructions) (g : Given) (f : Fixed) (wanted : ℕ → Bool) where
  -- A or X is set to what the move gives
  moves_to : (slot : ℕ) (to : Register) (w : Now) (n m : ℕ) → n ≡ m → Moves p (at f slot w) (at f (slot + 1) (set_to to (Number n) w)) → Moves p (at f slot w) (at f (slot + 1) (set_to to (Number m) w))
  moves_to slot to w n m e moves = subst (λ n. Moves p (at f slot w) (at f (slot + 1) (set_to to (Number n) w))) e moves

  pub constant : (to : Register) (k : ℕ) → Follows l p g f wanted (Constant to k)
  unfolding next
  constant to k known sa sx over rest slot fuel v m w good has agree covers knows onward run =
      let z = cast_signed w32 k in
      let more = knows.there in
      pass l p g f wanted (marked (Constant to k) known sa sx over) rest slot fuel v (put to k m) w (set_to to (Number k) w)
      (moves_to slot to w (low W32 (extended z)) k (constant_low k (word_below k good.word)) (alu_moves p f slot w to W32 Mov (Imm z) (Number (extended z)) (Number (low W32 (extended z))) has.0 refl refl))
      has.1 onward (or_right _ _ (none_below (room l)) agree.leads)
      (put_knows l p g f wanted to k known (max known 0) sa sx m w (word_below k good.word) (omega (arith, clamps)) knows) run

  length_moves : (form : Form) (offset : ℤ) (slot : ℕ) (w : Now) (to : Register) → LengthIs form offset p.order f g.wire → Stands p slot (length_insn form offset (reg_of to)) → Moves p (at f slot w) (at f (slot + 1) (set_to to (Number (g.wire % 2 ^ 32)) w))
  length_moves Blocks offset slot w to is here =
      let e : pos 0 +ℤ offset ≡ pos is.0 = ap (λ z. pos 0 +ℤ z) is.1 ∙ (let n : 0 + is.0 ≡ is.0 = omega arith in ap pos n) in
      moves_to slot to w (number_of p.order 4 (take 4 (drop is.0 f.context))) (g.wire % 2 ^ 32) is.3 (context_moves p f slot w to Word R1 offset 0 is.0 here refl e is.2)
  length_moves Plain offset slot w to is here =
      moves_to slot to w (low W32 f.room) (g.wire % 2 ^ 32) is (alu_moves p f slot w to W32 Mov (FromReg R2) (Number f.room) (Number (low W32 f.room)) here refl refl)
  length_moves Seccomp offset slot w to is here =
      moves_to slot to w 64 (g.wire % 2 ^ 32) is (alu_moves p f slot w to W32 Mov (Imm (pos 64)) (Number 64) (Number 64) here refl refl)
  length_moves Extended offset slot w to is here =
      let e : pos 0 +ℤ offset ≡ pos is.0 = ap (λ z. pos 0 +ℤ z) is.1 ∙ (let n : 0 + is.0 ≡ is.0 = omega arith in ap pos n) in
      moves_to slot to w (number_of p.order 4 (take 4 (drop is.0 f.context))) (g.wire % 2 ^ 32) is.3 (context_moves p f slot w to Word R1 offset 0 is.0 here refl e is.2)

  pub length_of : Fits l p g f → (to : Register) → Follows l p g f wanted (Length to)
  unfolding next
  length_of fits to known sa sx over rest slot fuel v m w good has agree covers knows onward run =
      let more = knows.there in
      pass l p g f wanted (marked (Length to) known sa sx over) rest slot fuel v (put to (g.wire % 2 ^ 32) m) w (set_to to (Number (g.wire % 2 ^ 32)) w)
      (length_moves l.form (length_offset l) slot w to fits.wire has.0)
      has.1 onward (or_right _ _ (none_below (room l)) agree.leads)
      (put_knows l p g f wanted to (g.wire % 2 ^ 32) known (max known 0) sa sx m w (omega arith) (omega (arith, clamps)) knows) run

  pub cell : (to : Register) (i : ℕ) → Follows l p g f wanted (Cell to i)
  unfolding next
  cell to i known sa sx over rest slot fuel v m w good has agree covers knows onward run =
      let more = knows.there in
      let low = leb-false cell_count i good.cell in
      let n : ℕ = cell_of m i in
      let small : n < 2 ^ 32 = knows.cells.small i in
      pass l p g f wanted (marked (Cell to i) known sa sx over) rest slot fuel v (put to n m) w (set_to to (Number n) w)
      (cell_moves p f slot w to i n low small (knows.cells.holds i low (covers i (eq-eqb i i refl))) has.0)
      has.1 onward (or_right _ _ (none_below (room l)) agree.leads)
      (put_knows l p g f wanted to n known (max known 0) sa sx m w small (omega (arith, clamps)) knows) run

  pub store : (from : Register) (i : ℕ) → Follows l p g f wanted (Store from i)
  unfolding next
  store from i known sa sx over rest slot fuel v m w good has agree covers knows onward run =
      let more = knows.there in
      let low = leb-false cell_count i good.cell in
      let n : ℕ = held from m in
      let small : n < 2 ^ 32 = held_small l p g f wanted from known sa sx m w knows in
      let is = held_is l p g f wanted from known sa sx m w agree.a_read agree.x_read knows in
      let moves = store_moves p f slot w from i n low is has.0 in
      let cells = cells_after p.order wanted m.cells w.stack i n low small knows.cells in
      let behind : Behind l p g f wanted (marked (Store from i) known sa sx over) (with_cell i n m) (with_cells (with_bytes (bytes_of p.order 8 n) (first_of i) w.stack) w) = record {
        a_is = λ e. knows.a_is (or_no sa e);
        x_is = λ e. knows.x_is (or_no sx e);
        there = omega (arith, clamps);
        a_small = knows.a_small;
        x_small = knows.x_small;
        cells = cells;
      } in
      pass l p g f wanted (marked (Store from i) known sa sx over) rest slot fuel v (with_cell i n m) w (with_cells (with_bytes (bytes_of p.order 8 n) (first_of i) w.stack) w) moves
      has.1 onward (or_right _ _ (none_below (room l)) agree.leads) behind run

  pub tax : Follows l p g f wanted Tax
  unfolding next
  tax known sa sx over rest slot fuel v m w good has agree covers knows onward run =
      let more = knows.there in
      pass l p g f wanted (marked Tax known sa sx over) rest slot fuel v (put X m.a m) w (set_to X (Number m.a) w)
      (moves_to slot X w (low W32 m.a) m.a (low_small m.a knows.a_small) (alu_moves p f slot w X W32 Mov (FromReg R0) (Number m.a) (Number (low W32 m.a)) has.0 (knows.a_is (implied true sa agree.a_read refl)) refl))
      has.1 onward (or_right _ _ (none_below (room l)) agree.leads)
      (put_knows l p g f wanted X m.a known (max known 0) sa sx m w knows.a_small (omega (arith, clamps)) knows) run

  pub txa : Follows l p g f wanted Txa
  unfolding next
  txa known sa sx over rest slot fuel v m w good has agree covers knows onward run =
      let more = knows.there in
      pass l p g f wanted (marked Txa known sa sx over) rest slot fuel v (put A m.x m) w (set_to A (Number m.x) w)
      (moves_to slot A w (low W32 m.x) m.x (low_small m.x knows.x_small) (alu_moves p f slot w A W32 Mov (FromReg R3) (Number m.x) (Number (low W32 m.x)) has.0 (knows.x_is (implied true sx agree.x_read refl)) refl))
      has.1 onward (or_right _ _ (none_below (room l)) agree.leads)
      (put_knows l p g f wanted A m.x known (max known 0) sa sx m w knows.x_small (omega (arith, clamps)) knows) run

  pub neg : Follows l p g f wanted Neg
  unfolding next
  neg known sa sx over rest slot fuel v m w good has agree covers knows onward run =
      let more = knows.there in
      let n : ℕ = alu W32 Sub 0 m.a in
      pass l p g f wanted (marked Neg known sa sx over) rest slot fuel v (put A n m) w (set_to A (Number n) w)
      (negates p f slot w m.a has.0 (knows.a_is (implied true sa agree.a_read refl)))
      has.1 onward (or_right _ _ (none_below (room l)) agree.leads)
      (put_knows l p g f wanted A n known (max known 0) sa sx m w (alu_narrow Sub 0 m.a) (omega (arith, clamps)) knows) run

  pub return_k : (k : ℕ) → Follows l p g f wanted (Return k)
  unfolding next
  return_k k known sa sx over rest slot fuel v m w good has agree covers knows onward run =
      let z = cast_signed w32 k in
      let n : ℕ = low W32 (extended z) in
      after p (at f slot w) (at f (slot + 1) (set_to A (Number n) w)) v (alu_moves p f slot w A W32 Mov (Imm z) (Number (extended z)) (Number n) has.0 refl refl)
      (ending p (at f (slot + 1) (set_to A (Number n) w)) v has.1.0 refl (ap Some (constant_low k (word_below k good.word)) ∙ run))

  pub return_a : Follows l p g f wanted ReturnA
  unfolding next
  return_a known sa sx over rest slot fuel v m w good has agree covers knows onward run =
      ending p (at f slot w) v has.0 refl (ap (option_and_then number_in) (knows.a_is (implied true sa agree.a_read refl)) ∙ run)
