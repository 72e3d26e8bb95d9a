use Rattle.std.proofs.Common.{sym, ap, ◌∙◌, rules}
use Rattle.std.specs.Int.{w16}
use Rattle.std.proofs.lemmas.Int.{to_z-of_z}
use Rattle.bpf_insn.specs.declared.instruction.Insn.TheVariants.{Alu, Load}
use Rattle.bpf_kept.specs.Counters.{makes_counter}
use Rattle.bpf_kept.proofs.counters.makes_counter.Goals as goal

pub returns-in-Add : goal.returns-in-Add
returns-in-Add c =
    let x = c.in-Alu in
    c.adds_counter.ensures c.args.turns ∙ ap (λ op. makes_counter c.args.turns c.args.counters.now (Alu op x.width x.dst x.src) c.args.want) (sym c.in-Add.is)
    ∙ ap (λ i. makes_counter c.args.turns c.args.counters.now i c.args.want) (sym x.is)

pub returns-in-Load : goal.returns-in-Load
returns-in-Load c =
    let x = c.in-Load in
    c.loads_counter.ensures c.args.turns x.dst ∙ ap (λ off. makes_counter c.args.turns c.args.counters.now (Load x.size x.dst x.src off) c.args.want) (to_z-of_z w16 x.off (search rules))
    ∙ ap (λ i. makes_counter c.args.turns c.args.counters.now i c.args.want) (sym x.is)
