-- An operation of 32 bits, for which the new program has one of 64 bits: where the result has 32 bits at most, it is the same.
use Rattle.std.proofs.Common.{◌≡◌, ℕ, ◌+◌, ◌-◌, ◌*◌, ◌%◌, ◌^◌, ◌<◌, refl, sym, ap, ap₂, ◌∙◌, subst, arith, true, false, Some}
use Rattle.std.specs.Prelude.{ℤ, pos, negsuc, ◌-ℤ◌, ◌&&◌, nat_lt, get_or, bit_and, bit_or, bit_xor}
use Rattle.std.specs.Int.{w32, w64}
use Rattle.std.specs.List.{AllByRecursion, list_all}
use Rattle.std.specs.Option.{option_map_or}
use Rattle.std.proofs.lemmas.Bool.{and_parts, ltb-true, false≢true}
use Rattle.std.proofs.lemmas.Bool.Decides.{Decides-int_eq}
use Rattle.std.proofs.lemmas.Int.{ints}
use Rattle.std.proofs.lemmas.Nat.{and_mod, or_mod, xor_mod}
use Rattle.bpf_insn.specs.Arithmetic.{modulo, alu, compute}
use Rattle.bpf_insn.specs.Effects.{registers_read}
use Rattle.bpf_insn.specs.Instruction.{register_number}
use Rattle.bpf_insn.specs.declared.order.Order.{Order}
use Rattle.bpf_insn.specs.declared.instruction.Reg.{Reg}
use Rattle.bpf_insn.specs.declared.instruction.Operand.{Operand}
use Rattle.bpf_insn.specs.declared.instruction.Operand.TheVariants.{Imm, Reg as FromReg}
use Rattle.bpf_insn.specs.declared.instruction.Width.TheVariants.{W32, W64}
use Rattle.bpf_insn.specs.declared.instruction.AluOp.{AluOp}
use Rattle.bpf_insn.specs.declared.instruction.AluOp.TheVariants.{Add, Sub, Mul, Or, And, Lsh, Xor, Mov}
use Rattle.bpf_insn.specs.declared.instruction.Insn.{Insn}
use Rattle.bpf_insn.specs.declared.instruction.Insn.TheVariants.{Alu}
use Rattle.bpf_semantics.specs.Flat.{FlatState, flat_register, flat_operand}
use Rattle.bpf_num.proofs.NumberLaws.{num_alu_keeps}
use Rattle.bpf_kept.specs.Terms.{Packet, AreLow}
use Rattle.bpf_kept.specs.States.{held_number, operand_number}
use Rattle.bpf_kept.specs.Rules.{Known, same_register, is_low, widened_op, same_operand, shifts_alike, has_few_bits, is_widened}
use Rattle.bpf_kept.proofs.HoldsLaw.{register_is}
use Rattle.bpf_kept.proofs.PutValue.{operand_low}
use Rattle.bpf_kept.proofs.PutLaw.{AtOnce, LoadsSame, reads_all_low, product_low}
use Rattle.bpf_kept.proofs.StatesLaw.{operand_has}

-- ---- which instructions these are

op_is : (op other : AluOp) → widened_op op other ≡ true → other ≡ op
op_is Add Add e = refl
op_is Sub Sub e = refl
op_is Mul Mul e = refl
op_is And And e = refl
op_is Or Or e = refl
op_is Xor Xor e = refl
op_is Lsh Lsh e = refl
op_is Mov Mov e = refl
op_is op other e = absurd (false≢true e)

operand_is : (a b : Operand) → same_operand a b ≡ true → b ≡ a
operand_is (Imm a) (Imm b) e = ap Imm (sym ((Decides-int_eq a b).0 e))
operand_is (FromReg a) (FromReg b) e = ap FromReg (register_is a b e)
operand_is (Imm a) (FromReg b) e = absurd (false≢true e)
operand_is (FromReg a) (Imm b) e = absurd (false≢true e)

-- ---- low halves of results

low_of_low : (a x : ℕ) → AreLow a x → AreLow (a % 2 ^ 32) x
low_of_low a x h = omega arith

-- a difference of 32 bits, and the low half of one of 64
difference_of_32 : (a b : ℕ) → a < 2 ^ 32 → b < 2 ^ 32 → modulo (pos a -ℤ pos b) (2 ^ 32) ≡ (a + (2 ^ 32 - b)) % 2 ^ 32
difference_of_32 a b ha hb = by_sign (pos a -ℤ pos b) refl
  where
    by_sign : (z : ℤ) → pos a -ℤ pos b ≡ z → modulo z (2 ^ 32) ≡ (a + (2 ^ 32 - b)) % 2 ^ 32
    by_sign (pos n) e = omega (arith, ints)
    by_sign (negsuc n) e = omega (arith, ints)

difference_of_64 : (x y : ℕ) → modulo (pos x -ℤ pos y) (2 ^ 64) % 2 ^ 32 ≡ (x % 2 ^ 32 + (2 ^ 32 - y % 2 ^ 32)) % 2 ^ 32
difference_of_64 x y = by_sign (pos x -ℤ pos y) refl
  where
    by_sign : (z : ℤ) → pos x -ℤ pos y ≡ z → modulo z (2 ^ 64) % 2 ^ 32 ≡ (x % 2 ^ 32 + (2 ^ 32 - y % 2 ^ 32)) % 2 ^ 32
    by_sign (pos n) e = omega (arith, ints)
    by_sign (negsuc n) e = omega (arith, ints)

product_of_32 : (a b x y : ℕ) → AreLow a x → AreLow b y → (a % 2 ^ 32 * b) % 2 ^ 32 ≡ ((x * y) % 2 ^ 64) % 2 ^ 32
product_of_32 a b x y h k =
    let low : ((a % 2 ^ 32 * b) % 2 ^ 64) % 2 ^ 32 ≡ (a % 2 ^ 32 * b) % 2 ^ 32 = twice (a % 2 ^ 32 * b) in
    sym low ∙ sym (product_low (a % 2 ^ 32) b x y (low_of_low a x h) k)
  where
    twice : (n : ℕ) → (n % 2 ^ 64) % 2 ^ 32 ≡ n % 2 ^ 32
    twice n = omega arith

-- the result of 32 bits is the low half of the one of 64
narrow : (op : AluOp) (a b x y : ℕ) → widened_op op op ≡ true → AreLow a x → AreLow b y → (op ≡ Lsh → y < 32) → compute w32 op (a % 2 ^ 32) (b % 2 ^ 32) ≡ compute w64 op x y % 2 ^ 32
narrow Add a b x y e h k few = omega arith
narrow Sub a b x y e h k few =
    difference_of_32 (a % 2 ^ 32) (b % 2 ^ 32) (omega arith) (omega arith) ∙ ap₂ (λ u w. (u + (2 ^ 32 - w)) % 2 ^ 32) (sym h) (sym k) ∙ sym (difference_of_64 x y)
narrow Mul a b x y e h k few = product_of_32 a (b % 2 ^ 32) x y h (low_of_low b y k)
narrow And a b x y e h k few = ap₂ (λ u w. bit_and u w) (sym h) (sym k) ∙ sym (and_mod x y 32)
narrow Or a b x y e h k few = ap₂ (λ u w. bit_or u w) (sym h) (sym k) ∙ sym (or_mod x y 32)
narrow Xor a b x y e h k few = ap₂ (λ u w. bit_xor u w) (sym h) (sym k) ∙ sym (xor_mod x y 32)
narrow Lsh a b x y e h k few =
    let small = few refl in
    let left : (b % 2 ^ 32) % 32 ≡ y = omega arith in
    let right : y ≡ y % 64 = omega arith in
    ap (λ n. (a % 2 ^ 32 * 2 ^ n) % 2 ^ 32) left ∙ product_of_32 a (2 ^ y) x (2 ^ y) h refl ∙ ap (λ n. ((x * 2 ^ n) % 2 ^ 64) % 2 ^ 32) right
narrow Mov a b x y e h k few = sym k
narrow op a b x y e h k few = absurd (false≢true e)

-- ---- the rule

module _ (order : Order) (start : ℕ) (packet : Packet) (known : Known) (f g : FlatState) (at : AtOnce order start packet known f g) where
  -- what is read has the same low halves; a move doesn't read what it writes
  low_there : (op : AluOp) (dst : Reg) (src : Operand) → widened_op op op ≡ true → list_all (is_low known.facts) (registers_read (Alu op W64 dst src)) ≡ true → (op ≡ Lsh → flat_operand g src < 32)
      → alu W32 op (flat_register f dst) (flat_operand f src) ≡ alu W64 op (flat_register g dst) (flat_operand g src) % 2 ^ 32
  low_there op dst src e low few = by_op op e few (reads_all_low order start packet known f g (registers_read (Alu op W64 dst src)) at low)
    where
      a : ℕ
      a = flat_register f dst

      x : ℕ
      x = flat_register g dst

      by_op : (op : AluOp) → widened_op op op ≡ true → (op ≡ Lsh → flat_operand g src < 32) → AllByRecursion (λ r. AreLow (flat_register f r) (get_or g.registers (register_number r) 0)) (registers_read (Alu op W64 dst src))
          → alu W32 op a (flat_operand f src) ≡ alu W64 op x (flat_operand g src) % 2 ^ 32
      by_op Mov e few h = narrow Mov x (flat_operand f src) x (flat_operand g src) refl refl (operand_low f g src h) few
      by_op Add e few h = narrow Add a (flat_operand f src) x (flat_operand g src) refl h.0 (operand_low f g src h.1) few
      by_op Sub e few h = narrow Sub a (flat_operand f src) x (flat_operand g src) refl h.0 (operand_low f g src h.1) few
      by_op Mul e few h = narrow Mul a (flat_operand f src) x (flat_operand g src) refl h.0 (operand_low f g src h.1) few
      by_op And e few h = narrow And a (flat_operand f src) x (flat_operand g src) refl h.0 (operand_low f g src h.1) few
      by_op Or e few h = narrow Or a (flat_operand f src) x (flat_operand g src) refl h.0 (operand_low f g src h.1) few
      by_op Xor e few h = narrow Xor a (flat_operand f src) x (flat_operand g src) refl h.0 (operand_low f g src h.1) few
      by_op Lsh e few h = narrow Lsh a (flat_operand f src) x (flat_operand g src) refl h.0 (operand_low f g src h.1) few
      by_op op e few h = absurd (false≢true e)

  -- by less than 32
  shifts_by : (op : AluOp) (src : Operand) → shifts_alike known op src ≡ true → op ≡ Lsh → flat_operand g src < 32
  shifts_by op src e is =
      let b = operand_has known.state g at.numbers src in
      let below = b.1.unsigned.below in
      let test = ltb-true (operand_number known.state src).unsigned.hi 32 (subst (λ op. shifts_alike known op src ≡ true) is e) in
      omega arith

  -- the result has 32 bits at most
  few_bits : (op : AluOp) (dst : Reg) (src : Operand) → has_few_bits known op dst src ≡ true → alu W64 op (flat_register g dst) (flat_operand g src) < 2 ^ 32
  few_bits op dst src e =
      let a = at.numbers dst in
      let b = operand_has known.state g at.numbers src in
      let h = num_alu_keeps W64 op (held_number known.state dst) (operand_number known.state src) (flat_register g dst) (flat_operand g src) a.0 b.0 a.1 b.1 in
      let below = h.has.unsigned.below in
      let test = ltb-true h.set.unsigned.hi (2 ^ 32) (subst (λ o. option_map_or (λ n. nat_lt n.unsigned.hi (2 ^ 32)) o false ≡ true) h.is_there e) in
      omega arith

  results_same : (op : AluOp) (dst : Reg) (src : Operand) → widened_op op op ≡ true → list_all (is_low known.facts) (registers_read (Alu op W64 dst src)) ≡ true → shifts_alike known op src ≡ true → has_few_bits known op dst src ≡ true
      → alu W64 op (flat_register g dst) (flat_operand g src) ≡ alu W32 op (flat_register f dst) (flat_operand f src)
  results_same op dst src e low shifts few =
      let there = low_there op dst src e low (shifts_by op src shifts) in
      let small = few_bits op dst src few in
      omega arith

  pub wide_same_there : (i moved : Insn) → is_widened known i moved ≡ true → LoadsSame order i moved f g
  unfolding is_widened
  wide_same_there (Alu op W32 dst src) (Alu other W64 into from) e =
      let a = and_parts (widened_op op other) (same_register dst into && (same_operand src from && (list_all (is_low known.facts) (registers_read (Alu other W64 into from)) && (shifts_alike known other from && has_few_bits known other into from)))) e in
      let b = and_parts (same_register dst into) (same_operand src from && (list_all (is_low known.facts) (registers_read (Alu other W64 into from)) && (shifts_alike known other from && has_few_bits known other into from))) a.1 in
      let c = and_parts (same_operand src from) (list_all (is_low known.facts) (registers_read (Alu other W64 into from)) && (shifts_alike known other from && has_few_bits known other into from)) b.1 in
      let d = and_parts (list_all (is_low known.facts) (registers_read (Alu other W64 into from))) (shifts_alike known other from && has_few_bits known other into from) c.1 in
      let s = and_parts (shifts_alike known other from) (has_few_bits known other into from) d.1 in
      let same_op = op_is op other a.0 in
      let same_dst : into ≡ dst = register_is dst into b.0 in
      let same_src = operand_is src from c.0 in
      record {
        into = ap Some same_dst;
        value = results_same other into from (subst (λ op. widened_op op other ≡ true) (sym same_op) a.0) d.0 s.0 s.1
            ∙ ap (λ op. alu W32 op (flat_register f into) (flat_operand f from)) same_op ∙ ap₂ (λ r o. alu W32 op (flat_register f r) (flat_operand f o)) same_dst same_src;
      }
  wide_same_there i moved e = absurd (false≢true e)

pub wide_same : (order : Order) (start : ℕ) (packet : Packet) (known : Known) (i moved : Insn) (f g : FlatState) → AtOnce order start packet known f g → is_widened known i moved ≡ true → LoadsSame order i moved f g
wide_same order start packet known i moved f g at e = wide_same_there order start packet known f g at i moved e
