use Rattle.std.proofs.Common.{rules, ◌≡◌, ◌++◌, ◌+◌, ◌<◌, ◌≤◌, length, drop, get_or, None, ap, ◌∙◌}
use Rattle.bpf_kept.specs.declared.notes.Fact.{Fact}
use Rattle.bpf_follows.specs.NotesText.{listed, says_nothing, fact_spelled}
use Rattle.bpf_follows.proofs.Loops.{listed_put, listed_done}
use Rattle.bpf_follows.proofs.writing.put_facts.Goals as goal

abbrev none : Fact
none = record { of = None; base = None; by = None }

pub loop-at-preserved : goal.loop-at-preserved
unfolding fact_spelled
loop-at-preserved c =
    let at = c.loop-at.at in
    let gap = c.loop-at.gap in
    let fact = get_or c.args.facts.now at none in
    let rest = drop (at + 1) c.args.facts.now in
    let inside : at < length c.args.facts.now = c.loop-at-test.true in
    let put : c.put_fact.new.text.items ≡ c.loop-at.text.items ++ fact_spelled gap at fact = search rules in
    let next : c.says_nothing-gap.result ≡ says_nothing fact = c.says_nothing-gap.ensures in
    ap (λ g. c.put_fact.new.text.items ++ listed fact_spelled says_nothing g (at + 1) rest) next
    ∙ ap (λ t. t ++ listed fact_spelled says_nothing (says_nothing fact) (at + 1) rest) put
    ∙ listed_put fact_spelled says_nothing c.loop-at.text.items _ gap at c.args.facts.now none inside c.loop-at.invariant

pub returns : goal.returns
returns c =
    let all : length c.args.facts.now ≤ c.loop-at.at = c.loop-at-test.false in
    listed_done fact_spelled says_nothing c.loop-at.text.items _ c.loop-at.gap c.loop-at.at c.args.facts.now all c.loop-at.invariant
