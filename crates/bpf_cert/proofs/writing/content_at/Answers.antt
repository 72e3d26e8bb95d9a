use Rattle.std.proofs.Common.{◌-◌, ◌≤◌, get_or, sym, ap, ◌∙◌, arith}
use Rattle.bpf_state.specs.declared.known.RegState.TheVariants.{Any}
use Rattle.bpf_state.specs.State.{value_slot}
use Rattle.bpf_cert.proofs.BuildingLemmas.{content_register, content_slot}
use Rattle.bpf_cert.proofs.writing.content_at.Goals as goal

pub returns-then-j-lt10 : goal.returns-then-j-lt10
returns-then-j-lt10 c =
    c.value_slot.ensures.value ∙ ap value_slot (c.reg.ensures.value ∙ ap (λ n. get_or c.args.state.now.registers n Any) c.numbered.ensures)
    ∙ sym (content_register c.args.state.now c.args.j c.if-j-lt10.true c.valid.ensures.state)

pub returns-else-j-lt10 : goal.returns-else-j-lt10
returns-else-j-lt10 c =
    let low : 10 ≤ c.args.j = omega (arith, c.if-j-lt10.false) in
    c.slot.ensures.value ∙ sym (content_slot c.args.state.now c.args.j (c.args.j - 9 - 1) (omega arith) c.valid.ensures.state)
