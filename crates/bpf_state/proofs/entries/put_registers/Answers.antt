use Rattle.std.proofs.Common.{◌<◌, get_or, ◌∙◌, ap, arith}
use Rattle.std.specs.Prelude.{set}
use Rattle.bpf_state.specs.declared.known.RegState.TheVariants.{Any}
use Rattle.bpf_state.specs.State.{blank, with_register}
use Rattle.bpf_state.proofs.MixLemmas.{mix, mix_put}
use Rattle.bpf_state.proofs.entries.put_registers.Goals as goal

pub loop-i-preserved : goal.loop-i-preserved
loop-i-preserved c =
    let i = c.loop-i.i in
    let xs = c.args.state.now.registers in
    let long = c.in_order.ensures.register_count in
    let few : i < 10 = c.loop-i-test.true in
    let same = c.numbered-r.ensures in
    c.in_ok-put_reg.ensures
    ∙ ap (λ s. with_register s c.numbered-r.result c.reg.result) c.loop-i.invariant
    ∙ ap (λ l. record blank { registers = l }) (ap (λ n. set (mix i xs blank.registers) n c.reg.result) same
    ∙ mix_put i xs blank.registers Any c.reg.result (omega arith) (omega arith) (c.reg.ensures.value ∙ ap (λ n. get_or xs n Any) same))
