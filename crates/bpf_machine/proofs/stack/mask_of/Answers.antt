use Rattle.std.proofs.Common.{◌∙◌, ◌≡◌, ◌*◌, ◌/◌, ◌%◌, ◌-◌, ◌^◌, ◌<◌, ap, arith}
use Rattle.std.specs.Int.{bit_at}
use Rattle.std.proofs.lemmas.Nat.{pow_pos, shl_whole}
use Rattle.std.proofs.lemmas.Nat.Bits.{ones_shr}
use Rattle.bpf_machine.proofs.StackLemmas.{ones_are_mask}
use Rattle.bpf_machine.proofs.stack.mask_of.Goals as goal

pub returns : goal.returns
returns c i =
    let count = c.args.count in
    let place = c.args.place in
    let whole : 8 - (8 - count) ≡ count = omega arith in
    let ones : 255 / 2 ^ (8 - count) ≡ 2 ^ count - 1 = ones_shr 8 (8 - count) (omega arith) ∙ ap (λ n. 2 ^ n - 1) whole in
    let small : 2 ^ count - 1 < 2 ^ count = omega (arith, pow_pos count) in
    let shifted : 255 / 2 ^ (8 - count) * 2 ^ place % 256 ≡ (2 ^ count - 1) * 2 ^ place = ap (λ n. n * 2 ^ place % 256) ones ∙ shl_whole (2 ^ count - 1) count place 8 small (omega arith) in
    ap (λ n. bit_at n i) shifted ∙ ones_are_mask place count c.requires.inside i
