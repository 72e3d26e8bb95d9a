use Rattle.std.proofs.Common.{◌≡◌, ◌+◌, ◌-◌, suc, sym, ap, ◌∙◌, arith}
use Rattle.bpf_follows.specs.NotesText.{always, counters_noted}
use Rattle.bpf_follows.specs.code.Reading.{listed_in, counter_at}
use Rattle.bpf_follows.proofs.ListLemmas.{listed_step, listed_full}
use Rattle.bpf_follows.proofs.lists.counters_in.Goals as goal

pub loop-at-preserved : goal.loop-at-preserved
loop-at-preserved c =
    let at = c.loop-at.at in
    let left : counters_noted - at ≡ suc (counters_noted - (at + 1)) = omega (arith, c.loop-at-test.true) in
    sym (ap (λ k. listed_in counter_at always k tt at c.loop-at.counters c.loop-at.rest.now) left
    ∙ listed_step counter_at always (counters_noted - (at + 1)) tt at c.loop-at.counters c.loop-at.rest.now c.counter_at-counter.result.0 c.counter_at-counter.result.1.now (sym c.counter_at-counter.ensures))
    ∙ c.loop-at.invariant

pub returns : goal.returns
returns c =
    let left : counters_noted - c.loop-at.at ≡ 0 = omega (arith, c.loop-at-test.false) in
    sym (ap (λ k. listed_in counter_at always k tt c.loop-at.at c.loop-at.counters c.loop-at.rest.now) left ∙ listed_full counter_at always tt c.loop-at.at c.loop-at.counters c.loop-at.rest.now) ∙ c.loop-at.invariant
