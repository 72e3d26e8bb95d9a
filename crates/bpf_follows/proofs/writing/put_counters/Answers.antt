use Rattle.std.proofs.Common.{rules, ◌≡◌, ◌++◌, ◌+◌, ◌<◌, ◌≤◌, length, drop, get_or, None, ap, ◌∙◌, arith}
use Rattle.bpf_follows.specs.NotesText.{listed, always, counter_spelled}
use Rattle.bpf_follows.proofs.Loops.{listed_put, listed_done}
use Rattle.bpf_follows.proofs.writing.put_counters.Goals as goal

pub loop-at-preserved : goal.loop-at-preserved
loop-at-preserved c =
    let at = c.loop-at.at in
    let inside : at < length c.args.counters.now = omega (arith, c.told-counters, c.loop-at-test.true) in
    let put : c.put_counter.new.text.items ≡ c.loop-at.text.items ++ counter_spelled tt at (get_or c.args.counters.now at None) = search rules in
    ap (λ t. t ++ listed counter_spelled always tt (at + 1) (drop (at + 1) c.args.counters.now)) put
    ∙ listed_put counter_spelled always c.loop-at.text.items _ tt at c.args.counters.now None inside c.loop-at.invariant

pub returns : goal.returns
returns c =
    let all : length c.args.counters.now ≤ c.loop-at.at = omega (arith, c.told-counters, c.loop-at-test.false) in
    listed_done counter_spelled always c.loop-at.text.items _ tt c.loop-at.at c.args.counters.now all c.loop-at.invariant
