use Rattle.std.proofs.Common.{rules, ◌≡◌, ◌++◌, ◌+◌, ◌<◌, ◌≤◌, length, drop, get_or, false, ap, ◌∙◌, arith}
use Rattle.bpf_follows.specs.NotesText.{listed, itself, mark_spelled}
use Rattle.bpf_follows.proofs.Loops.{listed_put, listed_done}
use Rattle.bpf_follows.proofs.writing.put_marks.Goals as goal

pub loop-at-preserved : goal.loop-at-preserved
loop-at-preserved c =
    let at = c.loop-at.at in
    let word = c.args.word.now in
    let inside : at < length c.args.marks.now = omega (arith, c.told-marks, c.loop-at-test.true) in
    let put : c.put_mark.new.text.items ≡ c.loop-at.text.items ++ mark_spelled word c.loop-at.marked at (get_or c.args.marks.now at false) = search rules in
    ap (λ t. t ++ listed (mark_spelled word) itself (get_or c.args.marks.now at false) (at + 1) (drop (at + 1) c.args.marks.now)) put
    ∙ listed_put (mark_spelled word) itself c.loop-at.text.items _ c.loop-at.marked at c.args.marks.now false inside c.loop-at.invariant

pub returns : goal.returns
returns c =
    let all : length c.args.marks.now ≤ c.loop-at.at = omega (arith, c.told-marks, c.loop-at-test.false) in
    listed_done (mark_spelled c.args.word.now) itself c.loop-at.text.items _ c.loop-at.marked c.loop-at.at c.args.marks.now all c.loop-at.invariant
