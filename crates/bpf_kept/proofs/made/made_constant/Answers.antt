use Rattle.std.proofs.Common.{◌≡◌, false, None, ap, ◌∙◌, rules, tests}
use Rattle.std.specs.List.{list_any}
use Rattle.std.specs.Option.{option_map_or}
use Rattle.std.proofs.lemmas.Iterator.{YieldsList-from_slice}
use Rattle.std.proofs.lemmas.Iterator.Search.{any_from_yields_List}
use Rattle.bpf_kept.specs.Terms.{constant}
use Rattle.bpf_kept.specs.Behind.{is_moved, known_number, of_number, made}
use Rattle.bpf_kept.proofs.RuleLemmas.{or_else}
use Rattle.bpf_kept.proofs.made.made_constant.Goals as goal

pub returns-else-is_moved : goal.returns-else-is_moved
unfolding made
returns-else-is_moved c dst =
    let others : c.any.result ≡ list_any (λ fact. option_map_or (λ b. is_moved b c.args.want) (of_number c.args.value fact) false) c.args.facts.now =
    any_from_yields_List (λ fact. option_map_or (λ b. is_moved b c.args.want) (of_number c.args.value fact) false) _ _ c.any.result c.any.ensures.ran (YieldsList-from_slice c.args.facts.now cc) (λ x b q k. search (rules, tests)) in
    or_else c.is_moved.result (list_any (λ fact. option_map_or (λ b. is_moved b c.args.want) (of_number c.args.value fact) false) c.args.facts.now)
    (is_moved (known_number None (constant c.args.value)) c.args.want) c.any.result
    (c.is_moved.ensures ∙ ap (λ f. is_moved f c.args.want) (c.known_number.ensures ∙ ap (known_number None) c.constant.ensures)) c.if-is_moved.false others
