-- An access of a step inside of a block lies in the packet, or where it lies on the packet.
use Rattle.std.proofs.Common.{◌≡◌, ◌↔◌, ℕ, ◌+◌, ◌≤◌, List, Option, Some, None, length, sym, ap, ◌∙◌, subst, arith}
use Rattle.std.specs.Prelude.{ℤ, option_and_then, option_map, FitsSigned}
use Rattle.std.specs.Int.{w16}
use Rattle.std.proofs.lemmas.Option.{same_Some, none-some, option_and_then_some}
use Rattle.bpf_insn.specs.Effects.{Access, access_of}
use Rattle.bpf_insn.specs.Instruction.{byte_count, word_size}
use Rattle.bpf_insn.specs.declared.order.Order.{Order}
use Rattle.bpf_insn.specs.declared.instruction.Insn.{Insn}
use Rattle.bpf_insn.specs.declared.instruction.Insn.TheVariants.{Load, LoadSx, Store, StoreImm, Atomic}
use Rattle.bpf_semantics.specs.State.{State, register, number_of_register}
use Rattle.bpf_semantics.specs.Memory.{Location, location_of}
use Rattle.bpf_semantics.specs.Memory.Location.{InContext, InFrame}
use Rattle.bpf_semantics.specs.Step.{does, step_of}
use Rattle.bpf_semantics.specs.declared.value.Value.{Value}
use Rattle.bpf_semantics.specs.declared.value.Value.TheVariants.{Number, Pointer}
use Rattle.bpf_semantics.specs.declared.value.Region.TheVariants.{Context, Frame as FrameAt}
use Rattle.bpf_semantics.proofs.StateLemmas.{encoding_at}
use Rattle.bpf_semantics.specs.Blocks.{head_bytes, inside_value, inside}
use Rattle.bpf_semantics.specs.Laws.{AccessesInside}
use Rattle.bpf_semantics.proofs.States.{moved_value, register_inside}
use Rattle.bpf_semantics.proofs.Places.{inside_location, InBytes, Reached, reached, frame_location}
use Rattle.bpf_semantics.proofs.Instruction.{access_near}
use Rattle.bpf_semantics.proofs.Law.{holds_on, few_on}

-- where an access of an instruction that is done lies
record Found (s : State) (a : Access) : Type 0 where
  base : Value
  base_is : register s a.base ≡ Some base
  at : Location
  there : location_of s (byte_count a.size) a.offset base ≡ Some at

found : (order : Order) (i : Insn) (a : Access) (s t : State) → does order i s ≡ Some t → access_of i ≡ Some a → Found s a
unfolding does
found order (Load size dst src off) a s t e ea = option_and_then_some _ (register s src) t e (λ base eb e1. option_and_then_some _ (location_of s (byte_count size) off base) t e1 (λ at el e2. subst (Found s) (same_Some _ _ ea) (record { base = base; base_is = eb; at = at; there = el })))
found order (LoadSx size dst src off) a s t e ea = option_and_then_some _ (register s src) t e (λ base eb e1. option_and_then_some _ (location_of s (byte_count size) off base) t e1 (λ at el e2. subst (Found s) (same_Some _ _ ea) (record { base = base; base_is = eb; at = at; there = el })))
found order (Store size dst off src) a s t e ea = option_and_then_some _ (register s dst) t e (λ base eb e1. option_and_then_some _ (register s src) t e1 (λ v ev e2. option_and_then_some _ (location_of s (byte_count size) off base) t e2 (λ at el e3. subst (Found s) (same_Some _ _ ea) (record { base = base; base_is = eb; at = at; there = el }))))
found order (StoreImm size dst off imm) a s t e ea = option_and_then_some _ (register s dst) t e (λ base eb e1. option_and_then_some _ (location_of s (byte_count size) off base) t e1 (λ at el e2. subst (Found s) (same_Some _ _ ea) (record { base = base; base_is = eb; at = at; there = el })))
found order (Atomic wide op dst off src) a s t e ea = option_and_then_some _ (register s dst) t e (λ base eb e1. option_and_then_some _ (number_of_register s src) t e1 (λ x ex e2. option_and_then_some _ (location_of s (byte_count (word_size wide)) off base) t e2 (λ at el e3. subst (Found s) (same_Some _ _ ea) (record { base = base; base_is = eb; at = at; there = el }))))
found order i a s t e ea = absurd (none-some _ ea)

-- no pointer into the context leads to a frame's cells
abbrev is_frame : Location → Type 0
is_frame (InContext i) = ⊥
is_frame (InFrame n i) = Unit {0}

in_context_only : (o : Option ℕ) (n i : ℕ) → option_map InContext o ≡ Some (InFrame n i) → ⊥
in_context_only None n i e = none-some _ e
in_context_only (Some first) n i e = subst is_frame (sym (same_Some _ _ e)) tt

in_frame_as : (block : List ℕ) (s : State) (k : ℕ) (off : ℤ) (base : Value) (n first : ℕ) → (location_of s k off base ≡ Some (InFrame n first)) ↔ (location_of (inside block s) k off (inside_value base) ≡ Some (InFrame n first))
in_frame_as block s k off (Number x) n first = (λ e. e, λ e. e)
in_frame_as block s k off (Pointer Context at) n first = (λ e. absurd (in_context_only _ n first e), λ e. absurd (in_context_only _ n first e))
in_frame_as block s k off (Pointer (FrameAt m) at) n first = (λ e. frame_location block s k m off at ∙ e, λ e. sym (frame_location block s k m off at) ∙ e)

abbrev InPacket : ℕ → ℕ → Location → Type 0
InPacket bytes k (InContext first) = (head_bytes ≤ first) × (first + k ≤ head_bytes + bytes)
InPacket bytes k (InFrame n first) = Unit {0}

in_packet : (bytes k : ℕ) (at : Location) → InBytes bytes k at → InPacket bytes k (inside_location at)
in_packet bytes k (InContext i) h = (omega arith, omega arith)
in_packet bytes k (InFrame n i) h = tt

pub accesses_inside : AccessesInside
unfolding step_of
accesses_inside p packet block s t i a base on step ei ea eb =
    let done : does p.order i s ≡ Some t = sym (ap (option_and_then (λ i. does p.order i s)) ei) ∙ step in
    let f : Found s a = found p.order i a s t done ea in
    let same : f.base ≡ base = same_Some _ _ (sym f.base_is ∙ eb) in
    let there : location_of s (byte_count a.size) a.offset base ≡ Some f.at = subst (λ base. location_of s (byte_count a.size) a.offset base ≡ Some f.at) same f.there in
    let near : FitsSigned w16 a.offset = access_near i a (encoding_at p.list on.program.encoding s.top.slot i ei) ea in
    let r : Reached block s (byte_count a.size) a.offset base f.at = reached block s (holds_on on) (few_on on) (byte_count a.size) a.offset base f.at near there in (
      register_inside block s a.base ∙ ap moved_value eb,
      record {
        in_packet = λ first e.
            let bytes : InPacket (length s.context) (byte_count a.size) (InContext first) = subst (InPacket (length s.context) (byte_count a.size)) (same_Some _ _ (sym r.there ∙ e)) (in_packet (length s.context) (byte_count a.size) f.at r.bytes) in
            subst (λ context. (head_bytes ≤ first) × (first + byte_count a.size ≤ head_bytes + length context)) on.context_is bytes;
        in_frame = in_frame_as block s (byte_count a.size) a.offset base;
      },
    )
