use Rattle.std.proofs.Common.{◌++◌, true, sym, ap, ap₂, ◌∙◌, append_assoc}
use Rattle.std.specs.Prelude.{filter}
use Rattle.bpf_kept.specs.Terms.{Facts, frame_slots}
use Rattle.bpf_kept.specs.Slots.{slot_facts}
use Rattle.bpf_kept.specs.Behind.{is_zero_slot, same_slot}
use Rattle.bpf_kept.specs.Calls.{is_handed}
use Rattle.bpf_kept.specs.Matching.{facts_at}
use Rattle.bpf_kept.specs.Knowns.{fresh_registers}
use Rattle.bpf_kept.proofs.CallLemmas.{note_handed}
use Rattle.bpf_kept.proofs.calls.entered_facts.Goals as goal

pub returns-clause-facts : goal.returns-clause-facts
returns-clause-facts c =
    let zeros : Facts = slot_facts is_zero_slot (λ n. true) frame_slots in
    let same : Facts = slot_facts same_slot (λ n. true) frame_slots in
    let handed : Facts = filter is_handed (facts_at c.args.note.now) in
    c.add_same.ensures.facts
    ∙ ap (λ xs. xs ++ same) (c.add_zeros.ensures.facts ∙ ap (λ xs. xs ++ zeros) (c.add_all.ensures.facts ∙ ap₂ (λ xs ys. xs ++ ys) (c.handed-facts.ensures.facts ∙ sym (note_handed c.args.note.now)) c.fresh_registers.ensures))
    ∙ append_assoc (handed ++ fresh_registers) zeros same ∙ append_assoc handed fresh_registers (zeros ++ same)
