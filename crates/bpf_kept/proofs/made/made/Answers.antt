use Rattle.std.proofs.Common.{sym, ap, ◌∙◌, rules}
use Rattle.std.specs.Int.{w16}
use Rattle.std.proofs.lemmas.Int.{to_z-of_z}
use Rattle.bpf_insn.specs.declared.instruction.Insn.TheVariants.{Load}
use Rattle.bpf_kept.specs.Behind.{made}
use Rattle.bpf_kept.proofs.made.made.Goals as goal

pub returns-in-LoadImm64 : goal.returns-in-LoadImm64
returns-in-LoadImm64 c = c.made_constant.ensures c.in-LoadImm64.dst ∙ ap (λ i. made c.args.facts.now i c.args.want) (sym c.in-LoadImm64.is)

pub returns-in-Load : goal.returns-in-Load
returns-in-Load c =
    let x = c.in-Load in
    c.made_of_slot.ensures x.dst ∙ ap (λ off. made c.args.facts.now (Load x.size x.dst x.src off) c.args.want) (to_z-of_z w16 x.off (search rules))
    ∙ ap (λ i. made c.args.facts.now i c.args.want) (sym x.is)
