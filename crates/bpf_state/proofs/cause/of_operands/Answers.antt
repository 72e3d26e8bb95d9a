use Rattle.std.proofs.Common.{rules, sym, ◌∙◌, ap, FitsSigned}
use Rattle.std.specs.Int.{w16}
use Rattle.std.proofs.lemmas.Int.{to_z-of_z}
use Rattle.bpf_insn.specs.declared.instruction.Insn.TheVariants.{Store}
use Rattle.bpf_state.specs.code.Mistakes.{of_operands}
use Rattle.bpf_state.proofs.cause.of_operands.Goals as goal

pub returns-in-Store : goal.returns-in-Store
returns-in-Store c =
    let x = c.in-Store in
    let s = c.args.state.now in
    let fits : FitsSigned w16 x.off = search rules in
    c.of_store.ensures ∙ ap (λ off. of_operands s (Store x.size x.dst off x.src)) (to_z-of_z w16 x.off fits) ∙ sym (ap (λ i. of_operands s i) x.is)
