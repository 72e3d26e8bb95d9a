use Rattle.std.proofs.Common.{rules, ◌≡◌, ◌<◌, ◌+◌, length, drop, ap, ◌∙◌, arith}
use Rattle.std.specs.Prelude.{max, slice_get, option_copied}
use Rattle.bpf_classic.specs.Longest.{longest_turn}
use Rattle.bpf_conversion.specs.Outline.{back_if}
use Rattle.bpf_conversion.proofs.LongestLemmas.{insn_is, slots_are, turn_more}
use Rattle.bpf_conversion.proofs.ways.longest_turn.Goals as goal

pub loop-slot-preserved : goal.loop-slot-preserved
loop-slot-preserved c =
    let list = c.args.program.now.list in
    let ways = c.args.ways.now in
    let slot = c.loop-slot.slot in
    let rest = longest_turn ways (slot + 1) (drop (slot + 1) list) in
    let low : slot < length list = omega (arith, slots_are list c.requires) in
    let is : option_copied c.at.result ≡ slice_get list slot = c.at.ensures ∙ insn_is list slot c.requires in
    let most : c.max-most.result ≡ max (back_if ways slot (option_copied c.at.result)) c.loop-slot.most = search rules in
    ap (λ n. max n rest) most ∙ turn_more list ways slot c.loop-slot.most (option_copied c.at.result) low is c.loop-slot.invariant
