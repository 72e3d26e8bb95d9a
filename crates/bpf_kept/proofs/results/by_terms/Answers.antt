use Rattle.std.proofs.Common.{sym, ap, ◌∙◌, rules}
use Rattle.std.specs.Int.{w16}
use Rattle.std.proofs.lemmas.Int.{to_z-of_z}
use Rattle.bpf_insn.specs.declared.instruction.Insn.TheVariants.{Load}
use Rattle.bpf_kept.specs.Rules.{by_terms}
use Rattle.bpf_kept.proofs.results.by_terms.Goals as goal

pub returns-in-Load : goal.returns-in-Load
returns-in-Load c =
    let x = c.in-Load in
    c.load_by_terms.ensures x.dst ∙ ap (λ off. by_terms c.args.facts.now (Load x.size x.dst x.src off)) (to_z-of_z w16 x.off (search rules)) ∙ ap (by_terms c.args.facts.now) (sym x.is)
