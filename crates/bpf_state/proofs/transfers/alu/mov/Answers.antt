use Rattle.std.proofs.Common.{sym, ap, ap₂, ◌∙◌}
use Rattle.bpf_insn.specs.declared.instruction.Width.TheVariants.{W64}
use Rattle.bpf_state.specs.State.{put_register}
use Rattle.bpf_state.specs.Fault.{operand}
use Rattle.bpf_state.specs.Transfer.{Live, operand_tag}
use Rattle.bpf_state.proofs.AluLemmas.{move_done, move_protected, move_unset}
use Rattle.bpf_state.proofs.transfers.alu.mov.Goals as goal

pub returns-then-reads_any-clause-outcome : goal.returns-then-reads_any-clause-outcome
returns-then-reads_any-clause-outcome c = λ order least. move_unset order c.args.dst c.args.src least c.args.state.now (sym (c.reads_any.ensures W64) ∙ c.if-reads_any.true)

pub returns-then-is_frame_pointer-clause-outcome : goal.returns-then-is_frame_pointer-clause-outcome
returns-then-is_frame_pointer-clause-outcome c = λ order least. move_protected order c.args.dst c.args.src least c.args.state.now (sym (c.reads_any.ensures W64) ∙ c.if-reads_any.false) (sym c.is_frame_pointer.ensures ∙ c.if-is_frame_pointer.true)

pub returns-in-Reg-clause-outcome : goal.returns-in-Reg-clause-outcome
returns-in-Reg-clause-outcome c = λ order least.
    let x = c.args in
    let s = x.state.now in
    ap Live
    (c.put_register-in-Reg.ensures
    ∙ ap₂ (λ v t. put_register x.dst v t s) (c.reg-value.ensures.value ∙ sym (ap (operand s) c.in-Reg.is)) (c.register_tag-tag.ensures ∙ sym (ap (operand_tag s) c.in-Reg.is)))
    ∙ move_done order x.dst x.src least s (sym (c.reads_any.ensures W64) ∙ c.if-reads_any.false) (sym c.is_frame_pointer.ensures ∙ c.if-is_frame_pointer.false)
