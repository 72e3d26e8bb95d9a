use Rattle.std.proofs.Common.{◌≡◌, ◌∙◌}
use Rattle.std.specs.Prelude.{slice_get, option_copied}
use Rattle.bpf_conversion.proofs.LongestLemmas.{insn_is}
use Rattle.bpf_conversion.proofs.LeaderLemmas.{led_more}
use Rattle.bpf_conversion.proofs.leaders.leaders.Goals as goal

pub loop-slot-preserved : goal.loop-slot-preserved
loop-slot-preserved c =
    let list = c.args.program.now.list in
    let slot = c.loop-slot.slot in
    let is : option_copied c.at.result ≡ slice_get list slot = c.at.ensures ∙ insn_is list slot c.requires in
    led_more list slot c.loop-slot.wanted.items c.mark_from.new.wanted.items (option_copied c.at.result) is c.loop-slot.invariant c.mark_from.ensures.long c.mark_from.ensures.each
