use Rattle.std.proofs.Common.{rules, tests}
use Rattle.std.specs.Prelude.{not, ◌&&◌}
use Rattle.std.specs.List.{list_any}
use Rattle.std.proofs.lemmas.Iterator.{YieldsList-from_slice}
use Rattle.std.proofs.lemmas.Iterator.Search.{any_from_yields_List}
use Rattle.bpf_kept.specs.Rules.{is_holder, gives}
use Rattle.bpf_kept.specs.Behind.{made}
use Rattle.bpf_kept.proofs.RuleLemmas.{or_else}
use Rattle.bpf_kept.proofs.behind.made_gives.Goals as goal

pub returns-else-is_made_so : goal.returns-else-is_made_so
returns-else-is_made_so c =
    or_else c.is_made_so.result (list_any (λ have. not (is_holder c.args.h have.of) && gives have c.args.want) c.args.facts.now) (is_holder c.args.h c.args.want.of && made c.args.facts.now c.args.insn.now c.args.want) c.any.result c.is_made_so.ensures
    c.if-is_made_so.false (any_from_yields_List (λ have. not (is_holder c.args.h have.of) && gives have c.args.want) _ _ c.any.result c.any.ensures.ran (YieldsList-from_slice c.args.facts.now cc) (λ x b q k. search (rules, tests)))
