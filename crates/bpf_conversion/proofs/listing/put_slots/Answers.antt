use Rattle.std.proofs.Common.{rules, ◌≡◌, ◌<◌, ◌++◌}
use Rattle.bpf_conversion.specs.Listed.{slot_text}
use Rattle.bpf_conversion.proofs.ListedLemmas.{slots_more}
use Rattle.bpf_conversion.proofs.listing.put_slots.Goals as goal

pub loop-slot-preserved : goal.loop-slot-preserved
loop-slot-preserved c =
    let text = slot_text c.args.program.now.list in
    let before = c.loop-slot.out.items in
    let after = c.put_slot.new.out.items in
    let low : c.loop-slot.slot < c.args.to = search rules in
    let here : after ≡ before ++ text c.loop-slot.slot = search rules in
    slots_more text before after _ c.args.to c.loop-slot.slot low here c.loop-slot.invariant
