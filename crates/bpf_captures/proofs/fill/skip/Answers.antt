use Rattle.std.proofs.Common.{◌≡◌, ◌-◌, ◌≤◌, length, min, ◌∙◌, arith}
use Rattle.std.proofs.lemmas.Int.{clamps}
use Rattle.std.proofs.lemmas.List.{length-take-le}
use Rattle.bpf_captures.proofs.FillLemmas.{passes_more}
use Rattle.bpf_captures.proofs.fill.skip.Goals as goal

pub returns-then-more-wanted-clause-taken : goal.returns-then-more-wanted-clause-taken
returns-then-more-wanted-clause-taken g c =
    let few : c.in-Ok.more ≤ length c.fill.new.room = grind arith in
    passes_more _ _ _ c.fill.new.room c.pieces.passed c.in-Ok.more c.pieces.invariant.0 few c.in-Ok.ensures.taken

pub pieces-preserved : goal.pieces-preserved
pieces-preserved g c =
    let few : c.in-Ok.more ≤ length c.fill.new.room = grind arith in
    let wanted : c.min-wanted.result ≡ min (c.args.count - c.pieces.passed) 4096 = c.min-wanted.ensures in
    let fits : c.min-wanted.result ≤ length c.pieces.piece = grind (arith, clamps) in
    let sized : length c.fill.new.room ≡ c.min-wanted.result = c.fill.auto.room ∙ length-take-le c.min-wanted.result c.pieces.piece fits in
    let before = c.pieces.invariant.1 in
    (passes_more _ _ _ c.fill.new.room c.pieces.passed c.in-Ok.more c.pieces.invariant.0 few c.in-Ok.ensures.taken, omega (arith, clamps, few, wanted, sized, before))
