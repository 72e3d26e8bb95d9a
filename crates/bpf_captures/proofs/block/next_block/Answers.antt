use Rattle.std.proofs.Common.{◌≡◌, ◌-◌, ◌≤◌, ◌++◌, length, take, drop, Some, subst, ◌∙◌, arith}
use Rattle.std.proofs.lemmas.List.{length-take-le, length-drop}
use Rattle.bpf_captures.specs.Taken.{TakesPacket}
use Rattle.bpf_captures.proofs.CaptureLemmas.{block_made, room_behind, room_sized}
use Rattle.bpf_captures.proofs.block.next_block.Goals as goal

pub returns-in-Ok-Some-clause-ok : goal.returns-in-Ok-Some-clause-ok
returns-in-Ok-Some-clause-ok g c =
    let remaining = g.R.Read.remaining in
    let block = c.args.block.now in
    let room = c.next_packet.new.room in
    let head : 8 ≤ length block = c.requires in
    let behind : length (drop 8 block) ≡ length block - 8 = length-drop 8 block in
    let size : length (take (length block - 8) (drop 8 block)) ≡ length block - 8 = length-take-le (length block - 8) (drop 8 block) (omega (arith, behind)) in
    let long : length room ≡ length block - 8 = c.next_packet.auto.room ∙ size in
    let took : TakesPacket c.args.order (remaining c.args.reader.now) (remaining c.next_packet.new.reader) (length block - 8) room (Some c.in-Ok-Some.count)
    = subst (λ n. TakesPacket c.args.order (remaining c.args.reader.now) (remaining c.next_packet.new.reader) n room (Some c.in-Ok-Some.count)) size
    (subst (λ o. TakesPacket c.args.order (remaining c.args.reader.now) (remaining c.next_packet.new.reader) (length (take (length block - 8) (drop 8 block))) room o) c.in-Ok-Some.field-0-is c.in-Ok-Some.ensures.ok) in
    let old = take 8 block ++ (room ++ drop (length block - 8) (drop 8 block)) in
    (took.0, took.1, took.2, took.3, took.4, block_made c.args.block_order (length block) c.in-Ok-Some.count took.0 room old c.finish.new.block took.4 (room_behind block room head long) (room_sized block room head long) c.finish.ensures took.5)
