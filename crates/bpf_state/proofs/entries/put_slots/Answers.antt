use Rattle.std.proofs.Common.{◌≡◌, ◌+◌, ◌-◌, ◌<◌, replicate, ◌∙◌, ap, arith}
use Rattle.std.proofs.lemmas.List.{get_or-replicate, length-replicate}
use Rattle.bpf_state.specs.declared.known.SlotState.TheVariants.{Bytes}
use Rattle.bpf_state.specs.State.{slot, with_slot}
use Rattle.bpf_state.proofs.MixLemmas.{mix, mix_here, mix_put}
use Rattle.bpf_state.proofs.entries.put_slots.Goals as goal

pub put_slot-requires-clause-unknown : goal.put_slot-requires-clause-unknown
put_slot-requires-clause-unknown c =
    let k = c.loop-k.k in
    let long = c.in_order.ensures.slot_count in
    let few : k < 65 = c.loop-k-test.true in
    let low = c.loop-k.auto.k in
    let wide = length-replicate 64 (Bytes 0) in
    ap (λ s. slot s k) c.loop-k.invariant
    ∙ mix_here (k - 1) c.args.state.now.slots (replicate 64 (Bytes 0)) (Bytes 0) (omega arith) (omega arith)
    ∙ get_or-replicate 64 (k - 1) (Bytes 0) (Bytes 0) (omega arith)

pub loop-k-preserved : goal.loop-k-preserved
loop-k-preserved c =
    let k = c.loop-k.k in
    let xs = c.args.state.now.slots in
    let long = c.in_order.ensures.slot_count in
    let few : k < 65 = c.loop-k-test.true in
    let low = c.loop-k.auto.k in
    let wide = length-replicate 64 (Bytes 0) in
    let same : k - 1 + 1 ≡ k + 1 - 1 = omega arith in
    c.in_ok-put_slot.ensures
    ∙ ap (λ s. with_slot s k c.slot.result) c.loop-k.invariant
    ∙ ap (λ l. record c.args.entries.now { slots = l }) (mix_put (k - 1) xs (replicate 64 (Bytes 0)) (Bytes 0) c.slot.result (omega arith) (omega arith) c.slot.ensures.value
    ∙ ap (λ n. mix n xs (replicate 64 (Bytes 0))) same)
