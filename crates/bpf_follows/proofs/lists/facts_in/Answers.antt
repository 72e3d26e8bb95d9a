use Rattle.std.proofs.Common.{◌≡◌, ◌+◌, ◌-◌, suc, set, sym, ap, ◌∙◌, arith}
use Rattle.bpf_follows.specs.NotesText.{says_nothing}
use Rattle.bpf_follows.specs.code.Reading.{listed_in, fact_at}
use Rattle.bpf_follows.proofs.ListLemmas.{listed_step, listed_full}
use Rattle.bpf_follows.proofs.lists.facts_in.Goals as goal

pub loop-at-preserved : goal.loop-at-preserved
loop-at-preserved g c =
    let at = c.loop-at.at in
    let left : g.row.N - at ≡ suc (g.row.N - (at + 1)) = omega (arith, c.loop-at-test.true) in
    let found = c.fact_at.result in
    ap (λ s. listed_in fact_at says_nothing (g.row.N - (at + 1)) s (at + 1) (set c.loop-at.facts at found.0) found.1.now) c.says_nothing-gap.ensures
    ∙ sym (ap (λ k. listed_in fact_at says_nothing k c.loop-at.gap at c.loop-at.facts c.loop-at.rest.now) left
    ∙ listed_step fact_at says_nothing (g.row.N - (at + 1)) c.loop-at.gap at c.loop-at.facts c.loop-at.rest.now found.0 found.1.now (sym c.fact_at.ensures))
    ∙ c.loop-at.invariant

pub returns : goal.returns
returns g c =
    let left : g.row.N - c.loop-at.at ≡ 0 = omega (arith, c.loop-at-test.false) in
    sym (ap (λ k. listed_in fact_at says_nothing k c.loop-at.gap c.loop-at.at c.loop-at.facts c.loop-at.rest.now) left
    ∙ listed_full fact_at says_nothing c.loop-at.gap c.loop-at.at c.loop-at.facts c.loop-at.rest.now) ∙ c.loop-at.invariant
