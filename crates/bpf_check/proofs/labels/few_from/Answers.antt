use Rattle.std.proofs.Common.{ap, subst, ◌∙◌, ◌≤◌}
use Rattle.bpf_check.proofs.SearchLemmas.{back_rises, found_from}
use Rattle.bpf_check.proofs.labels.few_from.Goals as goal

pub first_few-requires : goal.first_few-requires
first_few-requires g c = back_rises g.T.Begins.slot c.args.items.now _ c.args.place c.requires c.split_at.ensures.back

pub returns-then-first-slot : goal.returns-then-first-slot
returns-then-first-slot g c =
    let low = subst (λ n. n ≤ c.args.slot) (c.begins_at-first.ensures ∙ ap g.T.Begins.slot c.index-from-0.is) c.if-first-slot.true in
    found_from g.T.Begins.slot c.args.slot _ c.args.items.now _ _ c.args.place _ c.requires c.if-items-place.false c.split_at.ensures.back c.index-from-0.is low c.first_few.ensures
