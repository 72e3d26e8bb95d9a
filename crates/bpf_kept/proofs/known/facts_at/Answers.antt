use Rattle.std.proofs.Common.{◌++◌, ap, ◌∙◌, append_assoc}
use Rattle.std.specs.Prelude.{not}
use Rattle.bpf_kept.specs.Terms.{Facts, is_noted, frame_slots}
use Rattle.bpf_kept.specs.Slots.{slot_facts}
use Rattle.bpf_kept.specs.Matching.{same_slot, said, end_facts, facts_at}
use Rattle.bpf_kept.proofs.known.facts_at.Goals as goal

pub returns-clause-facts : goal.returns-clause-facts
unfolding facts_at
returns-clause-facts c =
    let same : Facts = slot_facts same_slot (λ n. not (is_noted c.args.note.now.apart n)) frame_slots in
    c.add_same.ensures.facts ∙ ap (λ xs. xs ++ same) (c.add_end.ensures.facts ∙ ap (λ xs. xs ++ end_facts) c.said-facts.ensures.facts)
    ∙ append_assoc (said c.args.note.now) end_facts same
