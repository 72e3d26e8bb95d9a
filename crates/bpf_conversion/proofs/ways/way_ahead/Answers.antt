use Rattle.std.proofs.Common.{rules, ◌≡◌, get_or, ap, ◌∙◌, arith}
use Rattle.std.specs.Prelude.{unsigned_abs}
use Rattle.std.proofs.lemmas.Int.{ints}
use Rattle.bpf_conversion.proofs.LongestLemmas.{nothing_ahead, ahead_is}
use Rattle.bpf_conversion.proofs.ways.way_ahead.Goals as goal

pub returns-then-off-lt0 : goal.returns-then-off-lt0
returns-then-off-lt0 c = nothing_ahead c.args.behind.now c.args.off (omega (arith, ints))

pub returns : goal.returns
returns c =
    let at : c.from.result ≡ unsigned_abs c.args.off = search rules in
    c.way_at.ensures ∙ ap (λ n. get_or c.args.behind.now n 0) at ∙ ahead_is c.args.behind.now c.args.off (omega (arith, ints))
