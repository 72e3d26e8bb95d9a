use Rattle.std.proofs.Common.{◌∙◌, ◌≡◌, ap, ap₂, sym, Some, ℕ, rules}
use Rattle.bpf_insn.specs.Order.{bytes_of}
use Rattle.bpf_insn.specs.Instruction.{byte_count, word_size}
use Rattle.bpf_semantics.specs.State.{State, register, number_of_register}
use Rattle.bpf_semantics.specs.Memory.{with_stack, with_bytes, stack_of, location_of, number_at}
use Rattle.bpf_semantics.specs.Memory.Location.{InFrame}
use Rattle.bpf_semantics.specs.Step.{atomic_result, fetched}
use Rattle.bpf_insn.specs.declared.instruction.Insn.{Insn}
use Rattle.bpf_insn.specs.declared.instruction.Insn.TheVariants.{Atomic}
use Rattle.bpf_insn.specs.declared.order.Order.{Order}
use Rattle.bpf_insn.specs.declared.instruction.Size.{Size}
use Rattle.bpf_insn.specs.declared.instruction.Reg.TheVariants.{R0}
use Rattle.bpf_semantics.specs.declared.value.Value.TheVariants.{Number}
use Rattle.bpf_machine.proofs.StepLemmas.{atomic_done, changed_at, r0_unused, r0_unused_by_xchg, number_in_register}
use Rattle.bpf_machine.proofs.machine.Machine.atomic.Goals as goal
use Rattle.bpf_machine.proofs.machine.Machine.atomic.Goals.{in-CmpXchg+in-Some-register-2, in-Modify, in-Xchg}

pub returns-in-Ok : goal.returns-in-Ok
returns-in-Ok g c =
    let s : State = c.args.self.now.state in
    let order : Order = c.args.self.now.program.order in
    let size : Size = word_size c.args.wide in
    let i : Insn = Atomic c.args.wide c.args.op c.args.dst c.args.off c.args.src in
    let x : ℕ = c.in-Pointer-Number-Number.x in
    let r0 : ℕ = c.in-Pointer-Number-Number.r0 in
    let new : ℕ = c.atomic_result-new.result in
    let n : ℕ = c.in-Some-Frame.depth in
    let at : ℕ = c.in-Some-Frame.first in
    let base_is : register s c.args.dst ≡ Some c.in-Some.base = search rules in
    let x_is : register s c.args.src ≡ Some (Number x) = search rules in
    let location_is : location_of s (byte_count size) c.args.off c.in-Some.base ≡ Some (InFrame n at) = search rules in
    let old_is : number_at order s (byte_count size) (InFrame n at) ≡ Some c.in-Ok.old = search rules in
    let same : atomic_result c.args.op size c.in-Ok.old x (number_of_register s R0) ≡ atomic_result c.args.op size c.in-Ok.old x (Some r0) = elim c.match-op.branch [
      | in-CmpXchg+in-Some-register-2 w ↦ (let r0_is : register s R0 ≡ Some (Number r0) = search rules in ap (atomic_result c.args.op size c.in-Ok.old x) (number_in_register s R0 r0 r0_is))
      | in-Modify w ↦ r0_unused c.args.op _ _ w.in-Modify.is size c.in-Ok.old x _ _
      | in-Xchg w ↦ r0_unused_by_xchg c.args.op w.in-Xchg.is size c.in-Ok.old x _ _
    ] in
    let stored : c.store_number.new.self.state ≡ changed_at order i size n at new s =
    ap (λ m. m.state) c.store_number.ensures
    ∙ ap (λ m. with_stack m.state n (with_bytes (bytes_of m.program.order (byte_count c.of_word-size.result) new) at (stack_of m.state n))) c.advance.ensures
    ∙ ap (λ size. changed_at order i size n at new s) c.of_word-size.ensures in
    let done = atomic_done order s c.args.wide c.args.op c.args.dst c.args.off c.args.src c.in-Some.base x c.in-Ok.old new r0 n at base_is x_is location_is old_is same c.atomic_result-new.ensures in
    let program = ap (λ m. m.program) c.store_number.ensures ∙ ap (λ m. m.program) c.advance.ensures in
    (c.fetch.ensures.program ∙ program, done ∙ ap₂ (λ r t. fetched r c.in-Ok.old t) (sym c.fetch_register.ensures) (sym stored) ∙ c.fetch.ensures.state)
