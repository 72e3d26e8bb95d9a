use Rattle.std.proofs.Common.{true, ap, ◌∙◌, rules, tests}
use Rattle.std.specs.List.{list_all}
use Rattle.std.specs.Option.{option_map_or}
use Rattle.std.proofs.lemmas.Iterator.{YieldsList-from_slice}
use Rattle.std.proofs.lemmas.Iterator.Search.{all_from_yields_List}
use Rattle.bpf_kept.specs.Rules.{is_same}
use Rattle.bpf_kept.proofs.ReadLemmas.{all_there}
use Rattle.bpf_kept.proofs.results.all_same.Goals as goal

pub returns : goal.returns
returns c =
    all_from_yields_List (λ o. option_map_or (is_same c.args.facts.now) o true) _ _ c.all.result c.all.ensures.ran (YieldsList-from_slice c.registers_read.result cc) (λ x b q k. search (rules, tests))
    ∙ all_there (is_same c.args.facts.now) c.registers_read.result ∙ ap (list_all (is_same c.args.facts.now)) c.registers_read.ensures
