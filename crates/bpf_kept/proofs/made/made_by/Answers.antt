use Rattle.std.proofs.Common.{sym, ap, ◌∙◌, rules, tests}
use Rattle.std.proofs.lemmas.Iterator.{YieldsList-from_slice}
use Rattle.std.proofs.lemmas.Iterator.Search.{any_from_yields_List}
use Rattle.bpf_kept.specs.Behind.{is_sum, is_difference, made_by}
use Rattle.bpf_kept.proofs.made.made_by.Goals as goal

pub returns-in-Add : goal.returns-in-Add
returns-in-Add c =
    any_from_yields_List (is_sum c.args.dst c.args.b c.args.want) _ _ c.any.result c.any.ensures.ran (YieldsList-from_slice c.args.facts.now cc) (λ x b q k. search (rules, tests))
    ∙ ap (λ op. made_by c.args.facts.now op c.args.dst c.args.want c.args.b) (sym c.in-Add.is)

pub returns-in-Sub : goal.returns-in-Sub
returns-in-Sub c =
    any_from_yields_List (is_difference c.args.dst c.args.b c.args.want) _ _ c.any-in-Sub.result c.any-in-Sub.ensures.ran (YieldsList-from_slice c.args.facts.now cc) (λ x b q k. search (rules, tests))
    ∙ ap (λ op. made_by c.args.facts.now op c.args.dst c.args.want c.args.b) (sym c.in-Sub.is)
