-- Which numbers the old program has by itself, what it makes of them, and what makes 0 with that.
use Rattle.std.proofs.Common.{◌≡◌, ℕ, ◌+◌, ◌%◌, ◌<◌, refl, sym, ap, ap₂, ◌∙◌, subst, arith, Some}
use Rattle.std.specs.Prelude.{pos, ◌+ℤ◌, ◌-ℤ◌, ◌==◌, option_map}
use Rattle.std.proofs.lemmas.Option.{none-some, same_Some, option_and_then_some}
use Rattle.bpf_insn.specs.Arithmetic.{modulo, alu, extended, sign_extend}
use Rattle.bpf_insn.specs.Image.{HasEncoding}
use Rattle.bpf_insn.specs.Instruction.{register_number}
use Rattle.bpf_insn.specs.Options.{◌>>=◌}
use Rattle.bpf_insn.specs.declared.order.Order.{Order}
use Rattle.bpf_insn.specs.declared.instruction.Reg.{Reg}
use Rattle.bpf_insn.specs.declared.instruction.Operand.{Operand}
use Rattle.bpf_insn.specs.declared.instruction.Operand.TheVariants.{Imm, Reg as FromReg}
use Rattle.bpf_insn.specs.declared.instruction.Width.{Width}
use Rattle.bpf_insn.specs.declared.instruction.Width.TheVariants.{W64}
use Rattle.bpf_insn.specs.declared.instruction.AluOp.{AluOp}
use Rattle.bpf_insn.specs.declared.instruction.AluOp.TheVariants.{Add, Sub, Mov}
use Rattle.bpf_insn.specs.declared.instruction.Insn.{Insn}
use Rattle.bpf_insn.specs.declared.instruction.Insn.TheVariants.{Alu, Neg, MovSx, LoadImm64, Load, Store, StoreImm}
use Rattle.bpf_semantics.specs.Flat.{FlatState, IsFlat, addresses, flat_register, flat_operand}
use Rattle.bpf_semantics.proofs.NumberLemmas.{modulo_below}
use Rattle.bpf_semantics.proofs.StateLemmas.{cond_option, option_map_some}
use Rattle.bpf_kept.specs.declared.notes.Holder.TheVariants.{Register, Slot}
use Rattle.bpf_kept.specs.declared.notes.Term.{Term}
use Rattle.bpf_kept.specs.Terms.{Packet, Facts, Differs, AllHold, value_in, plus, minus, opposite, number_pin, pinned_number}
use Rattle.bpf_kept.specs.Slots.{slot_at}
use Rattle.bpf_kept.specs.Rules.{both, pinned, operand_pin, old_number, old_result, pin_of}
use Rattle.bpf_kept.proofs.TermLaw.{sum_differs, difference_differs}
use Rattle.bpf_kept.proofs.HoldsLaw.{plain_shift}
use Rattle.bpf_kept.proofs.FrameLaw.{IsRoomy, IsEnd, slot_access, slot_loaded}
use Rattle.bpf_kept.proofs.PutValue.{put_below}
use Rattle.bpf_kept.proofs.ExtraLaw.{made_value, zero_pin, pinned_is}

-- the number itself, where no frame is taken away
opposite_of : (x m : ℕ) → x < addresses → 0 ≡ (x + m) % addresses → x ≡ opposite m
opposite_of x m small e = omega arith

pinned_is_number : (start x n : ℕ) (t : Term) → x < addresses → Differs start t x 0 → pinned_number t ≡ Some n → x ≡ n
pinned_is_number start x n t small d e =
    let c = cond_option (t.frames == 0) (Some (opposite t.moved)) n e in
    opposite_of x t.moved small (d ∙ ap (λ z. modulo (pos x +ℤ z) addresses) (plain_shift start t c.0)) ∙ same_Some (opposite t.moved) n c.1

module _ (order : Order) (start : ℕ) (packet : Packet) (facts : Facts) (f g : FlatState) (room : IsRoomy start) (flat : IsFlat f) (end : IsEnd start f.registers) (all : AllHold start (value_in order start packet f) (value_in order start packet g) facts) where
  operand_pinned : (src : Operand) (t : Term) → operand_pin facts src ≡ Some t → Differs start t (flat_operand f src) 0
  operand_pinned (Imm imm) t e = subst (λ t. Differs start t (extended imm) 0) (same_Some (number_pin (extended imm)) t e) (zero_pin start (extended imm) (modulo_below imm))
  operand_pinned (FromReg r) t e = pinned_is order start packet facts f g room flat end all (Register r) t e

  operand_small : (src : Operand) → flat_operand f src < addresses
  operand_small (Imm imm) = modulo_below imm
  operand_small (FromReg r) = flat.numbers (register_number r)

  -- which number an operand is
  pub old_number_is : (src : Operand) (n : ℕ) → old_number facts src ≡ Some n → flat_operand f src ≡ n
  old_number_is src n e = option_and_then_some _ (operand_pin facts src) n e (λ t et en. pinned_is_number start (flat_operand f src) n t (operand_small src) (operand_pinned src t et) en)

  -- and which one is made
  record IsResult (i : Insn) (n : ℕ) : Type 0 where
    is : made_value order i f ≡ n
    small : made_value order i f < addresses

  by_both : (op : AluOp) (width : Width) (dst : Reg) (src : Operand) (n : ℕ) → HasEncoding (Alu op width dst src)
      → (old_number facts (FromReg dst) >>= λ a. option_map (alu width op a) (old_number facts src)) ≡ Some n → IsResult (Alu op width dst src) n
  by_both op width dst src n enc e = option_and_then_some _ (old_number facts (FromReg dst)) n e (λ a ea e1.
      let h = option_map_some (alu width op a) (old_number facts src) n e1 in
      record { is = ap₂ (alu width op) (old_number_is (FromReg dst) a ea) (old_number_is src h.0 h.1) ∙ h.2; small = put_below order (Alu op width dst src) dst f refl enc flat })

  by_move : (width : Width) (dst : Reg) (src : Operand) (n : ℕ) → HasEncoding (Alu Mov width dst src)
      → option_map (alu width Mov 0) (old_number facts src) ≡ Some n → IsResult (Alu Mov width dst src) n
  by_move width dst src n enc e =
      let h = option_map_some (alu width Mov 0) (old_number facts src) n e in
      record { is = ap (alu width Mov 0) (old_number_is src h.0 h.1) ∙ h.2; small = put_below order (Alu Mov width dst src) dst f refl enc flat }

  result_is : (i : Insn) (n : ℕ) → HasEncoding i → old_result facts i ≡ Some n → IsResult i n
  result_is (Alu Mov width dst src) n enc e = by_move width dst src n enc e
  result_is (Alu op width dst src) n enc e = by_both op width dst src n enc e
  result_is (Neg width dst) n enc e =
      let h = option_map_some (alu width Sub 0) (old_number facts (FromReg dst)) n e in
      record { is = ap (alu width Sub 0) (old_number_is (FromReg dst) h.0 h.1) ∙ h.2; small = put_below order (Neg width dst) dst f refl enc flat }
  result_is (MovSx width bits dst src) n enc e =
      let h = option_map_some (sign_extend bits width) (old_number facts (FromReg src)) n e in
      record { is = ap (sign_extend bits width) (old_number_is (FromReg src) h.0 h.1) ∙ h.2; small = put_below order (MovSx width bits dst src) dst f refl enc flat }
  result_is (LoadImm64 dst value) n enc e = record { is = same_Some value n e; small = put_below order (LoadImm64 dst value) dst f refl enc flat }
  result_is (StoreImm size dst off imm) n enc e = record { is = same_Some (extended imm) n e; small = modulo_below imm }
  result_is i n enc e = absurd (none-some _ e)

  by_result : (i : Insn) (t : Term) → HasEncoding i → option_map number_pin (old_result facts i) ≡ Some t → Differs start t (made_value order i f) 0
  by_result i t enc e =
      let h = option_map_some number_pin (old_result facts i) t e in
      let r = result_is i h.0 enc h.1 in
      subst (λ t. Differs start t (made_value order i f) 0) (ap number_pin r.is ∙ h.2) (zero_pin start (made_value order i f) r.small)

  -- sums and differences of what makes 0
  by_sum : (dst : Reg) (src : Operand) (t : Term) → both plus (pinned facts (Register dst)) (operand_pin facts src) ≡ Some t
      → Differs start t ((flat_register f dst + flat_operand f src) % addresses) 0
  by_sum dst src t e = option_and_then_some _ (pinned facts (Register dst)) t e (λ a ea e1.
      let h = option_map_some (plus a) (operand_pin facts src) t e1 in
      subst (λ t. Differs start t ((flat_register f dst + flat_operand f src) % addresses) 0) h.2
      (sum_differs start a h.0 (flat_register f dst) (flat_operand f src) 0 0 (pinned_is order start packet facts f g room flat end all (Register dst) a ea) (operand_pinned src h.0 h.1)))

  by_difference : (dst : Reg) (src : Operand) (t : Term) → both minus (pinned facts (Register dst)) (operand_pin facts src) ≡ Some t
      → Differs start t (modulo (pos (flat_register f dst) -ℤ pos (flat_operand f src)) addresses) 0
  by_difference dst src t e = option_and_then_some _ (pinned facts (Register dst)) t e (λ a ea e1.
      let h = option_map_some (minus a) (operand_pin facts src) t e1 in
      subst (λ t. Differs start t (modulo (pos (flat_register f dst) -ℤ pos (flat_operand f src)) addresses) 0) h.2
      (difference_differs start a h.0 (flat_register f dst) (flat_operand f src) 0 0 (pinned_is order start packet facts f g room flat end all (Register dst) a ea) (operand_pinned src h.0 h.1)))

  pub pin_is : (i : Insn) (t : Term) → HasEncoding i → pin_of facts i ≡ Some t → Differs start t (made_value order i f) 0
  pin_is (Alu Mov W64 dst src) t enc e = operand_pinned src t e
  pin_is (Alu Add W64 dst src) t enc e = by_sum dst src t e
  pin_is (Alu Sub W64 dst src) t enc e = by_difference dst src t e
  pin_is (Load size dst src off) t enc e = option_and_then_some _ (slot_at size src off) t e (λ n en et.
      let there = slot_loaded order start n size f src off room end enc (slot_access start n size src off en) in
      subst (λ x. Differs start t x 0) (sym there) (pinned_is order start packet facts f g room flat end all (Slot n) t et))
  pin_is (Store size dst off src) t enc e = pinned_is order start packet facts f g room flat end all (Register src) t e
  pin_is i t enc e = by_result i t enc e
