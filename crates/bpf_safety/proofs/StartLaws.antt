-- The start.
use Rattle.std.proofs.Common.{ℕ, pos, ◌-◌, ◌≤◌, refl, sym, ◌∙◌, subst, arith, List, length, get_or, None, replicate}
use Rattle.std.proofs.lemmas.Int.{ints}
use Rattle.std.proofs.lemmas.List.{get_or-replicate}
use Rattle.std.proofs.lemmas.Nat.Bits.{bit_at-zero}
use Rattle.bpf_insn.specs.declared.instruction.Reg.{Reg}
use Rattle.bpf_insn.specs.declared.instruction.Reg.TheVariants.{R0, R1, R2, R3, R4, R5, R6, R7, R8, R9, R10}
use Rattle.bpf_semantics.specs.State as machine
use Rattle.std.specs.Option.{option_map_or}
use Rattle.bpf_num.specs.Laws.{Holds, TightenKeeps}
use Rattle.bpf_num.specs.Number.{number, tighten}
use Rattle.bpf_num.specs.Tristate.{bits_top}
use Rattle.bpf_num.specs.Interval.{interval}
use Rattle.bpf_num.specs.SignedInterval.{signed_top}
use Rattle.bpf_state.specs.declared.known.RegState.TheVariants.{Any, Num}
use Rattle.bpf_state.specs.declared.known.SlotState.{SlotState}
use Rattle.bpf_state.specs.declared.known.SlotState.TheVariants.{Bytes}
use Rattle.bpf_state.specs.State.{first_state, register, register_tag, IsAbstractRegister, IsAbstractSlot}
use Rattle.bpf_safety.specs.Describes.{DescribesRegister, DescribesSlot, TaggedRegister, TaggedSlot, LengthWithin, slot_cell}
use Rattle.bpf_safety.specs.Laws.{StartIsAbstract, StartDescribes}
use Rattle.bpf_safety.proofs.NumberStores.{is_number_top}
use Rattle.bpf_safety.proofs.WrittenSlots.{has_top}

-- a slot of which nothing is known, and a place without a tag
blank_slot : (P : SlotState → Type 0) (k : ℕ) → 1 ≤ k → k ≤ 64 → P (Bytes 0) → P (get_or (replicate 64 (Bytes 0)) (k - 1) (Bytes 0))
blank_slot P k low high h = subst P (sym (get_or-replicate 64 (k - 1) (Bytes 0) (Bytes 0) (omega arith))) h

-- a length between the bounds is a member of what is known of it
length_holds : TightenKeeps → (least most n : ℕ) → least ≤ n → n ≤ most → most ≤ 4096 → Holds (tighten (number bits_top (interval least most) signed_top)) n
length_holds law least most n low high fits =
    let t = has_top n (omega arith) in
    law (number bits_top (interval least most) signed_top) n (
      record { bits = is_number_top.bits; unsigned = record { ordered = omega arith; fits = omega arith }; signed = is_number_top.signed },
      record { bits = t.bits; unsigned = record { above = low; below = high }; signed = t.signed },
    )

module _ (law : TightenKeeps) (least most : ℕ) where
  start_register : least ≤ most → most ≤ 4096 → (r : Reg) → IsAbstractRegister (register (first_state least most) r)
  start_register ordered fits R0 = tt
  start_register ordered fits R1 = omega (arith, ints)
  start_register ordered fits R2 = let h = length_holds law least most least (omega arith) ordered fits in subst (λ o. IsAbstractRegister (option_map_or Num o Any)) (sym h.is_there) h.valid
  start_register ordered fits R3 = tt
  start_register ordered fits R4 = tt
  start_register ordered fits R5 = tt
  start_register ordered fits R6 = tt
  start_register ordered fits R7 = tt
  start_register ordered fits R8 = tt
  start_register ordered fits R9 = tt
  start_register ordered fits R10 = omega (arith, ints)

  start_describes_register : (context : List ℕ) → LengthWithin least most context → most ≤ 4096 → (r : Reg) → DescribesRegister 0 (register (first_state least most) r) (machine.register (machine.start context) r)
  start_describes_register context within fits R0 = tt
  start_describes_register context within fits R1 = (pos 0, refl, omega (arith, ints), omega (arith, ints))
  start_describes_register context within fits R2 = let h = length_holds law least most (length context) within.0 within.1 fits in subst (λ o. DescribesRegister 0 (option_map_or Num o Any) (machine.register (machine.start context) R2)) (sym h.is_there) (length context, refl, h.has)
  start_describes_register context within fits R3 = tt
  start_describes_register context within fits R4 = tt
  start_describes_register context within fits R5 = tt
  start_describes_register context within fits R6 = tt
  start_describes_register context within fits R7 = tt
  start_describes_register context within fits R8 = tt
  start_describes_register context within fits R9 = tt
  start_describes_register context within fits R10 = (pos 0, refl, omega (arith, ints), omega (arith, ints))

  start_tag : (x context : List ℕ) (r : Reg) → TaggedRegister x (register_tag (first_state least most) r) (machine.register (machine.start context) r)
  start_tag x context R0 = tt
  start_tag x context R1 = tt
  start_tag x context R2 = tt
  start_tag x context R3 = tt
  start_tag x context R4 = tt
  start_tag x context R5 = tt
  start_tag x context R6 = tt
  start_tag x context R7 = tt
  start_tag x context R8 = tt
  start_tag x context R9 = tt
  start_tag x context R10 = tt

pub start_is_abstract : TightenKeeps → StartIsAbstract
start_is_abstract law least most ordered fits = record {
  eleven = refl;
  slots_are = refl;
  eleven_tags = refl;
  slot_tags_are = refl;
  registers = start_register law least most ordered fits;
  slots = λ k low high. blank_slot IsAbstractSlot k low high (omega arith);
}

pub start_describes : TightenKeeps → StartDescribes
start_describes law order least most context x within fits = record {
  length_within = within;
  registers = start_describes_register law least most context within fits;
  slots = λ k low high. blank_slot (λ held. DescribesSlot order 0 held (slot_cell (machine.start context) k)) k low high (λ i lt set. absurd (omega (arith, sym (bit_at-zero i) ∙ set)));
  register_tags = start_tag law least most x context;
  slot_tags = λ k low high. subst (λ t. TaggedSlot order x t (slot_cell (machine.start context) k)) (sym (get_or-replicate 64 (k - 1) None None (omega arith))) tt;
}
