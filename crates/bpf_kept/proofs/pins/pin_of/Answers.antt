use Rattle.std.proofs.Common.{sym, ap, ◌∙◌, rules}
use Rattle.std.specs.Int.{w16}
use Rattle.std.proofs.lemmas.Int.{to_z-of_z}
use Rattle.bpf_insn.specs.declared.instruction.Insn.TheVariants.{Load}
use Rattle.bpf_kept.specs.Rules.{pin_of}
use Rattle.bpf_kept.proofs.pins.pin_of.Goals as goal

pub returns-in-Load : goal.returns-in-Load
returns-in-Load c =
    let x = c.in-Load in
    c.pin_of_slot.ensures x.dst ∙ ap (λ off. pin_of c.args.facts.now (Load x.size x.dst x.src off)) (to_z-of_z w16 x.off (search rules)) ∙ ap (pin_of c.args.facts.now) (sym x.is)
