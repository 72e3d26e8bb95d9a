use Rattle.std.proofs.Common.{◌≡◌, rules, arith, false, true}
use Rattle.bpf_state.specs.Access.{is_inside}
use Rattle.bpf_state.specs.code.Parts.{begins_outside}
use Rattle.std.proofs.lemmas.Int.{ints}
use Rattle.bpf_state.proofs.AccessLemmas.{first_outside, last_outside}
use Rattle.bpf_state.proofs.access.Reach.outside.Goals as goal

pub returns-then-begins_outside-clause-offset : goal.returns-then-begins_outside-clause-offset
returns-then-begins_outside-clause-offset c =
    let past : is_inside c.args.len c.args.self ≡ false = search rules in
    let first : begins_outside c.args.len c.args.self ≡ true = search rules in
    first_outside c.args.len c.args.self _ c.valid.ensures past first (let at = c.first.ensures in let above = c.valid.ensures.above in let ordered = c.valid.ensures.ordered in let below = c.valid.ensures.below in omega (arith, ints))

pub returns-else-begins_outside-clause-offset : goal.returns-else-begins_outside-clause-offset
returns-else-begins_outside-clause-offset c =
    let past : is_inside c.args.len c.args.self ≡ false = search rules in
    let last : begins_outside c.args.len c.args.self ≡ false = search rules in
    last_outside c.args.len c.args.self _ c.valid.ensures past last (let at = c.end.ensures in let above = c.valid.ensures.above in let ordered = c.valid.ensures.ordered in let below = c.valid.ensures.below in let few = c.valid.ensures.few in omega (arith, ints))
