use Rattle.std.proofs.Common.{◌≡◌, rules, sym, ◌∙◌, ap, Some, None}
use Rattle.bpf_insn.specs.Instruction.{word_size}
use Rattle.bpf_insn.specs.Effects.{fetch_register}
use Rattle.bpf_state.specs.State.{register}
use Rattle.bpf_state.specs.Access.{span_at}
use Rattle.bpf_state.specs.Fault.{is_pointer}
use Rattle.bpf_state.specs.code.Parts.{atomic_operands, atomic_outcome}
use Rattle.bpf_state.specs.Answer.{outcome_told}
use Rattle.bpf_state.proofs.MemoryLemmas.{atomic_refused, atomic_is, atomic_base}
use Rattle.bpf_state.proofs.transfers.atomic.atomic.Goals as goal

pub returns-in-Some-clause-outcome : goal.returns-in-Some-clause-outcome
returns-in-Some-clause-outcome c = λ order.
    let faulty : atomic_operands c.args.op c.args.dst c.args.src c.args.state.now ≡ Some _ = sym c.in-Some.ensures in
    sym (atomic_refused order c.args.wide c.args.op c.args.dst c.args.src c.args.off c.args.least _ c.args.state.now faulty)

pub of-requires-clause-pointer : goal.of-requires-clause-pointer
of-requires-clause-pointer c =
    let none : atomic_operands c.args.op c.args.dst c.args.src c.args.state.now ≡ None = search rules in
    ap is_pointer c.reg.ensures.value ∙ atomic_base c.args.op c.args.dst c.args.src c.args.state.now none

pub returns-clause-outcome : goal.returns-clause-outcome
returns-clause-outcome c = λ order.
    let s = c.args.state.now in
    let none : atomic_operands c.args.op c.args.dst c.args.src s ≡ None = search rules in
    let lies : span_at c.args.off (word_size c.args.wide) (register s c.args.dst) ≡ Some c.of.result = search rules in
    let told : outcome_told c.atomic_at.result c.atomic_at.new.state ≡ atomic_outcome (fetch_register c.args.op c.args.src) (word_size c.args.wide) c.args.least c.of.result s = search rules in
    told ∙ sym (atomic_is order c.args.wide c.args.op c.args.dst c.args.src c.args.off c.args.least s c.of.result none lies)
