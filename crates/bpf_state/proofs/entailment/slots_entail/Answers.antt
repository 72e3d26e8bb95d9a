use Rattle.std.proofs.Common.{sym, ◌∙◌, arith}
use Rattle.std.proofs.lemmas.Bool.{false_from_ne_true, false≢true}
use Rattle.bpf_state.proofs.CoverLemmas.{covers_at, entailed_covers}
use Rattle.bpf_state.proofs.entailment.slots_entail.Goals as goal

pub returns-then-not-cover : goal.returns-then-not-cover
returns-then-not-cover c =
    let xs = c.args.slots.now in
    let ys = c.args.others.now in
    sym (false_from_ne_true _ (λ all. false≢true (sym c.if-not-cover.true ∙ c.cover.ensures.1 (λ i lt. entailed_covers xs ys (omega (arith, c.valid.ensures, c.valid-2.ensures)) c.requires.slots c.requires.others all i))))

pub slot_entails-requires-clause-covered : goal.slot_entails-requires-clause-covered
slot_entails-requires-clause-covered c =
    covers_at c.args.slots.now c.args.others.now c.loop-i.i c.valid.ensures c.valid-2.ensures (omega (arith, c.loop-i-test.true)) (c.cover.ensures.0 c.if-not-cover.false)
