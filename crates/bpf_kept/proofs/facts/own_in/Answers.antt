use Rattle.std.proofs.Common.{◌≡◌, Option, sym, ap, ◌∙◌, rules, tests}
use Rattle.std.specs.Prelude.{option_map}
use Rattle.std.specs.List.{find}
use Rattle.std.proofs.lemmas.Iterator.{YieldsList-from_slice}
use Rattle.std.proofs.lemmas.Iterator.Search.{find_from_yields_List}
use Rattle.bpf_insn.specs.Options.{◌>>=◌}
use Rattle.bpf_kept.specs.declared.notes.Fact.{Fact}
use Rattle.bpf_kept.specs.Rules.{is_own, own_in}
use Rattle.bpf_kept.proofs.facts.own_in.Goals as goal

pub returns-in-Some : goal.returns-in-Some
unfolding own_in
returns-in-Some c =
    let found : option_map (λ y. y.now) c.find.result ≡ find (is_own c.args.h) c.args.facts.now =
    find_from_yields_List (is_own c.args.h) _ _ c.find.result c.find.ensures.ran (YieldsList-from_slice c.args.facts.now cc) (λ x b q k. search (rules, tests)) in
    ap (λ (o : Option Fact). o >>= λ fact. fact.by) (ap (option_map (λ y. y.now)) (sym c.in-Some.is) ∙ found)

pub returns-in-None : goal.returns-in-None
unfolding own_in
returns-in-None c =
    let found : option_map (λ y. y.now) c.find.result ≡ find (is_own c.args.h) c.args.facts.now =
    find_from_yields_List (is_own c.args.h) _ _ c.find.result c.find.ensures.ran (YieldsList-from_slice c.args.facts.now cc) (λ x b q k. search (rules, tests)) in
    ap (λ (o : Option Fact). o >>= λ fact. fact.by) (ap (option_map (λ y. y.now)) (sym c.in-None.is) ∙ found)
