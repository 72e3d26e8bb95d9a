use Rattle.std.proofs.Common.{◌<◌, get_or, sym, arith, inl, inr}
use Rattle.bpf_state.specs.declared.known.SlotState.TheVariants.{Bytes}
use Rattle.bpf_state.specs.code.Masked.{mask_of}
use Rattle.bpf_state.proofs.CoverLemmas.{entailed_by_masks}
use Rattle.bpf_state.proofs.entailment.slot_entails.Goals as goal
use Rattle.bpf_state.proofs.entailment.slot_entails.Goals.{then-mask-via-then-mask, then-mask-via-else-mask+then-wanted-eq0}

pub returns-then-mask : goal.returns-then-mask
returns-then-mask c =
    let a = get_or c.args.slots.now c.args.index (Bytes 0) in
    let b = get_or c.args.others.now c.args.index (Bytes 0) in
    let few : mask_of a < 256 = omega (arith, c.mask-mask.ensures) in
    let few' : mask_of b < 256 = omega (arith, c.mask-wanted.ensures) in
    sym (entailed_by_masks a b few few' c.requires.covered (elim c.then-mask.branch [ then-mask-via-then-mask w ↦ inl (λ full. omega (arith, w.if-mask.true, full, c.mask-mask.ensures)) | then-mask-via-else-mask+then-wanted-eq0 w ↦ inr (omega (arith, w.if-wanted-eq0.true, c.mask-wanted.ensures)) ]))
