use Rattle.std.proofs.Common.{sym, ap, ap₂, ◌∙◌, Ok, Err, None}
use Rattle.bpf_state.specs.code.Results.{result_of, written}
use Rattle.bpf_state.specs.declared.known.RegState.TheVariants.{Num}
use Rattle.bpf_state.specs.State.{put_register}
use Rattle.bpf_state.specs.Transfer.{Live}
use Rattle.bpf_state.proofs.AluLemmas.{alu_known, exact_done}
use Rattle.bpf_state.proofs.transfers.alu.computed.Goals as goal

pub returns-in-Ok-clause-outcome : goal.returns-in-Ok-clause-outcome
returns-in-Ok-clause-outcome c = λ order least.
    let x = c.args in
    let s = x.state.now in
    c.put_known.ensures.outcome
    ∙ ap (λ tag. written x.dst c.in-Ok.known tag s) c.alu_tag-tag.ensures
    ∙ alu_known order x.op x.width x.dst x.src least s (Ok c.in-Ok.known)
    (sym (c.reads_any.ensures x.width) ∙ c.if-reads_any.false)
    (c.in-Ok.ensures.value ∙ ap₂ (λ a b. result_of x.width x.op a b) c.reg.ensures.value c.operand.ensures.value)

pub returns-in-Err-clause-outcome : goal.returns-in-Err-clause-outcome
returns-in-Err-clause-outcome c = λ order least.
    let x = c.args in
    let s = x.state.now in
    alu_known order x.op x.width x.dst x.src least s (Err c.in-Err.fault)
    (sym (c.reads_any.ensures x.width) ∙ c.if-reads_any.false)
    (c.in-Err.ensures.value ∙ ap₂ (λ a b. result_of x.width x.op a b) c.reg.ensures.value c.operand.ensures.value)

pub returns-in-Some-clause-outcome : goal.returns-in-Some-clause-outcome
returns-in-Some-clause-outcome c = λ order least.
    let x = c.args in
    let s = x.state.now in
    ap Live (c.put_register.ensures ∙ ap (λ n. put_register x.dst (Num n) None s) c.constant.ensures)
    ∙ exact_done order x.op x.width x.dst x.src least s c.in-Some.number
    (sym (c.reads_any.ensures x.width) ∙ c.if-reads_any.false)
    c.in-Some.ensures.place c.in-Some.ensures.tag c.in-Some.ensures.value
