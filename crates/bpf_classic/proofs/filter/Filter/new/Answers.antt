use Rattle.std.proofs.Common.{rules, ◌<◌, ◌≤◌, subst, sym, length}
use Rattle.bpf_classic.specs.Valid.{max_filter, IsFilter}
use Rattle.bpf_classic.proofs.FilterLemmas.{are_faultless}
use Rattle.bpf_classic.proofs.filter.Filter.new.Goals as goal

pub invariant_of-result : goal.invariant_of-result
invariant_of-result c =
    let some : 0 < length c.args.raws.now = search rules in
    let few : length c.args.raws.now ≤ max_filter = search rules in
    subst (IsFilter c.args.kind) (sym c.in-Ok.ensures) (are_faultless c.args.kind c.args.raws.now some few c.in_default.ensures.none)

pub returns-in-Ok-clause-valid : goal.returns-in-Ok-clause-valid
returns-in-Ok-clause-valid c =
    let some : 0 < length c.args.raws.now = search rules in
    let few : length c.args.raws.now ≤ max_filter = search rules in
    subst (IsFilter c.args.kind) (sym c.in-Ok.ensures) (are_faultless c.args.kind c.args.raws.now some few c.in_default.ensures.none)
