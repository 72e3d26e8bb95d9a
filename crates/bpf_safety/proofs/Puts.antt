-- An instruction that writes one register.
use Rattle.std.proofs.Common.{◌≡◌, ℕ, ◌+◌, sym, ◌∙◌, ap, List, Option, Some, false}
use Rattle.std.specs.Prelude.{◌==◌}
use Rattle.std.specs.Option.{option_map_or}
use Rattle.std.proofs.lemmas.Option.{same_Some}
use Rattle.bpf_insn.specs.declared.instruction.Reg.{Reg}
use Rattle.bpf_insn.specs.declared.instruction.Insn.{Insn}
use Rattle.bpf_semantics.specs.declared.value.Value.{Value}
use Rattle.bpf_insn.specs.Instruction.{Instructions, register_number, slot_count}
use Rattle.bpf_semantics.specs.State as machine
use Rattle.bpf_semantics.specs.State.{put}
use Rattle.bpf_semantics.specs.Step.{Step, does, next}
use Rattle.bpf_insn.specs.Effects.{register_written, is_frame_pointer}
use Rattle.bpf_state.specs.declared.known.RegState.{RegState}
use Rattle.bpf_state.specs.declared.known.Tag.{Tag}
use Rattle.bpf_state.specs.State.{AbstractState, put_register, IsAbstractRegister}
use Rattle.bpf_safety.specs.Describes.{DescribesRegister, TaggedRegister}
use Rattle.bpf_safety.specs.Laws.{IsJudged, Leads}
use Rattle.bpf_safety.proofs.Judged.{not_protected, step_is, leads_at, top_frame}
use Rattle.bpf_safety.proofs.Registers.{reg_top, put_is, register_put}

pub put_keeps : (p : Instructions) (least most : ℕ) (x : List ℕ) (i : Insn) (s : AbstractState) (m m' : machine.State) (dst : Reg) (v : Value) (value : RegState) (tag : Option Tag) → IsJudged p least most x i s m → Step p m m' → register_written i ≡ Some dst → does p.order i m ≡ put dst v (next i m) → DescribesRegister (machine.depth m) value (Some v) → IsAbstractRegister value → TaggedRegister x tag (Some v) → Leads p least most x (Some (put_register dst value tag s)) m'
put_keeps p least most x i s m m' dst v value tag j step written puts is ok tagged =
    let slot : ℕ = m.top.slot + slot_count i in
    let other : (register_number dst == 10) ≡ false = sym (ap (λ o. option_map_or is_frame_pointer o false) written) ∙ not_protected least s i j.no_fault in
    let there = same_Some (reg_top m slot dst v) m' (sym (puts ∙ put_is dst v slot m other) ∙ step_is p m m' i j.stands step) in
    leads_at p least most x (Some (put_register dst value tag s)) (reg_top m slot dst v) m' there
    (register_put p least most x s m dst v slot value tag j.valid (top_frame m j.state) j.described is tagged ok)
