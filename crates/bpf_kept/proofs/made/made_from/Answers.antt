use Rattle.std.proofs.Common.{false, rules, tests}
use Rattle.std.specs.List.{list_any}
use Rattle.std.specs.Option.{option_map_or}
use Rattle.std.proofs.lemmas.Iterator.{YieldsList-from_slice}
use Rattle.std.proofs.lemmas.Iterator.Search.{any_from_yields_List}
use Rattle.bpf_kept.specs.Behind.{made_by, known_operand, by_operand}
use Rattle.bpf_kept.proofs.RuleLemmas.{or_else}
use Rattle.bpf_kept.proofs.made.made_from.Goals as goal

pub returns-else-by_number : goal.returns-else-by_number
returns-else-by_number c =
    or_else c.by_number.result (list_any (by_operand c.args.facts.now c.args.wanted.op c.args.wanted.dst c.args.wanted.src c.args.wanted.want) c.args.facts.now)
    (option_map_or (made_by c.args.facts.now c.args.wanted.op c.args.wanted.dst c.args.wanted.want) (known_operand c.args.wanted.src) false)
    c.any.result c.by_number.ensures c.if-by_number.false
    (any_from_yields_List (by_operand c.args.facts.now c.args.wanted.op c.args.wanted.dst c.args.wanted.src c.args.wanted.want) _ _ c.any.result c.any.ensures.ran (YieldsList-from_slice c.args.facts.now cc) (λ x b q k. search (rules, tests)))
