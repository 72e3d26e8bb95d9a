use Rattle.std.proofs.Common.{◌++◌, true, ap, ◌∙◌, append_assoc}
use Rattle.bpf_kept.specs.Terms.{Facts, frame_slots}
use Rattle.bpf_kept.specs.Slots.{slot_facts}
use Rattle.bpf_kept.specs.Matching.{is_zero_slot, same_slot, length_facts}
use Rattle.bpf_kept.specs.Knowns.{first_facts}
use Rattle.bpf_kept.proofs.known.start_facts.Goals as goal

pub returns-clause-facts : goal.returns-clause-facts
returns-clause-facts c =
    let zeros : Facts = slot_facts is_zero_slot (λ n. true) frame_slots in
    let same : Facts = slot_facts same_slot (λ n. true) frame_slots in
    let length : Facts = length_facts c.args.padded c.args.length in
    let first : Facts = first_facts c.args.padded in
    c.add_same.ensures.facts ∙ ap (λ xs. xs ++ same) (c.add_zeros.ensures.facts ∙ ap (λ xs. xs ++ zeros) (c.add_length.ensures.facts ∙ ap (λ xs. xs ++ length) (c.facts_of-facts.ensures.facts ∙ c.first_facts.ensures)))
    ∙ append_assoc (first ++ length) zeros same ∙ append_assoc first length (zeros ++ same)
