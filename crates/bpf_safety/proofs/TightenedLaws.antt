-- Each number tightened: what was described stays described.
use Rattle.std.proofs.Common.{ℕ, suc, ◌-◌, ◌<◌, ◌≤◌, refl, ◌∙◌, ap, subst, arith, get_or, Option, None}
use Rattle.std.specs.Prelude.{option_map, option_and_then}
use Rattle.bpf_insn.specs.declared.order.Order.{Order}
use Rattle.bpf_semantics.specs.declared.value.Value.{Value}
use Rattle.bpf_insn.specs.declared.instruction.Reg.{Reg}
use Rattle.bpf_insn.specs.Instruction.{register_number}
use Rattle.bpf_insn.proofs.RegisterLemmas.{reg_below}
use Rattle.bpf_semantics.specs.State as machine
use Rattle.bpf_semantics.specs.State.{Cell}
use Rattle.bpf_num.specs.Laws.{TightenKeeps}
use Rattle.bpf_state.specs.declared.known.RegState.{RegState}
use Rattle.bpf_state.specs.declared.known.RegState.TheVariants.{Any, Num, Ptr}
use Rattle.bpf_state.specs.declared.known.SlotState.{SlotState}
use Rattle.bpf_state.specs.declared.known.SlotState.TheVariants.{Bytes, Word, Spilled}
use Rattle.bpf_state.specs.State.{register, slot, tightened_register, tightened_slot, each_if, IsAbstractRegister, IsAbstractSlot}
use Rattle.bpf_safety.specs.Describes.{DescribesRegister, DescribesSlot, slot_cell}
use Rattle.bpf_safety.specs.Laws.{TightenedDescribes}
use Rattle.bpf_safety.proofs.Lists.{each_register, Given, each_given}

tighten_register : TightenKeeps → (depth : ℕ) (value : RegState) (v : Option Value) → IsAbstractRegister value → DescribesRegister depth value v → Given (tightened_register value) (λ t. IsAbstractRegister t × DescribesRegister depth t v)
tighten_register law depth Any v ok d = record { value = Any; is_there = refl; good = (tt, tt) }
tighten_register law depth (Num n) v ok d =
    let h = law n d.0 (ok, d.2) in
    record { value = Num h.set; is_there = ap (λ o. option_map Num o) h.is_there; good = (h.valid, (d.0, d.1, h.has)) }
tighten_register law depth (Ptr p) v ok d = record { value = Ptr p; is_there = refl; good = (ok, d) }

tighten_slot : TightenKeeps → (order : Order) (depth : ℕ) (held : SlotState) (cell : ℕ → Option Cell) → IsAbstractSlot held → DescribesSlot order depth held cell → Given (tightened_slot held) (λ t. IsAbstractSlot t × DescribesSlot order depth t cell)
tighten_slot law order depth (Bytes mask) cell ok d = record { value = Bytes mask; is_there = refl; good = (ok, d) }
tighten_slot law order depth (Word n) cell ok d =
    let h = law n d.0 (ok, d.2) in
    record { value = Word h.set; is_there = ap (λ o. option_map Word o) h.is_there; good = (h.valid, (d.0, d.1, h.has)) }
tighten_slot law order depth (Spilled p) cell ok d = record { value = Spilled p; is_there = refl; good = (ok, d) }

-- slot k stands at place k - 1
from_slots : (P : ℕ → ℕ → Type 0) → ((k : ℕ) → 1 ≤ k → k ≤ 64 → P (k - 1) k) → (n : ℕ) → n < 64 → P n (suc n)
from_slots P h n lt = subst (λ k. P k (suc n)) (omega arith) (h (suc n) (omega arith) (omega arith))

to_slots : (P : ℕ → ℕ → Type 0) → ((n : ℕ) → n < 64 → P n (suc n)) → (k : ℕ) → 1 ≤ k → k ≤ 64 → P (k - 1) k
to_slots P h k low high = subst (P (k - 1)) (omega arith) (h (k - 1) (omega arith))

pub tightened_describes : TightenKeeps → TightenedDescribes
tightened_describes law p least most x s m ok d =
    let eleven = ok.eleven in
    let all = ok.slots_are in
    let depth : ℕ = machine.depth m in
    let GoodRegister : ℕ → RegState → Type 0 = λ k t. IsAbstractRegister t × DescribesRegister depth t (get_or m.top.registers k None) in
    let GoodSlot : ℕ → SlotState → Type 0 = λ k t. IsAbstractSlot t × DescribesSlot p.order depth t (slot_cell m k) in
    let registers = each_given tightened_register GoodRegister Any s.registers (λ k lt. each_register (λ k. Given (tightened_register (get_or s.registers k Any)) (GoodRegister k)) (λ r. tighten_register law depth (register s r) (machine.register m r) (ok.registers r) (d.registers r)) k (omega arith)) in
    let slots = each_given tightened_slot (λ n. GoodSlot (suc n)) (Bytes 0) s.slots (λ n lt. from_slots (λ n k. Given (tightened_slot (get_or s.slots n (Bytes 0))) (GoodSlot k)) (λ k low high. tighten_slot law p.order depth (slot s k) (slot_cell m k) (ok.slots k low high) (d.slots k low high)) n (omega arith)) in
    let good : (r : Reg) → GoodRegister (register_number r) (get_or registers.list (register_number r) Any) = λ r. let lt = reg_below r in registers.good (register_number r) (omega arith) in
    let good' : (k : ℕ) → 1 ≤ k → k ≤ 64 → GoodSlot k (get_or slots.list (k - 1) (Bytes 0)) = to_slots (λ n k. GoodSlot k (get_or slots.list n (Bytes 0))) (λ n lt. slots.good n (omega arith)) in
    record {
      state = record s { registers = registers.list; slots = slots.list };
      is_there =
          ap (λ o. option_and_then (λ registers. option_map (λ slots. record s { registers = registers; slots = slots }) (each_if tightened_slot s.slots)) o) registers.is_there
          ∙ ap (λ o. option_map (λ slots. record s { registers = registers.list; slots = slots }) o) slots.is_there;
      valid = record {
        eleven = registers.length_is ∙ ok.eleven;
        slots_are = slots.length_is ∙ ok.slots_are;
        eleven_tags = ok.eleven_tags;
        slot_tags_are = ok.slot_tags_are;
        registers = λ r. (good r).0;
        slots = λ k low high. (good' k low high).0;
      };
      describes = record {
        length_within = d.length_within;
        registers = λ r. (good r).1;
        slots = λ k low high. (good' k low high).1;
        register_tags = d.register_tags;
        slot_tags = d.slot_tags;
      };
    }
