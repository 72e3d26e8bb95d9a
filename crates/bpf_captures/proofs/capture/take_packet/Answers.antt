use Rattle.std.proofs.Common.{◌≡◌, ◌-◌, ◌≤◌, ◌++◌, length, min, take, drop, sym, ap, ◌∙◌, subst, arith}
use Rattle.std.proofs.lemmas.Int.{clamps}
use Rattle.std.proofs.lemmas.List.{length-take-le}
use Rattle.std.proofs.Math.Seq.{take-append_seam}
use Rattle.std.specs.Io.KnownBytes.{Consumes}
use Rattle.bpf_captures.specs.Taken.{Passes}
use Rattle.bpf_captures.proofs.CaptureLemmas.{all_of, taken}
use Rattle.bpf_captures.proofs.capture.take_packet.Goals as goal

pub returns-in-Ok-skip-clause-ok : goal.returns-in-Ok-skip-clause-ok
returns-in-Ok-skip-clause-ok g c =
    let remaining = g.R.Read.remaining in
    let room = c.fill.new.room in
    let size = length c.args.room.now in
    let kept : c.min-kept.result ≡ min c.args.count size = c.min-kept.ensures in
    let fits : c.min-kept.result ≤ size = omega (arith, clamps, kept) in
    let sized : length room ≡ c.min-kept.result = c.fill.auto.room ∙ length-take-le c.min-kept.result c.args.room.now fits in
    let long : length room ≡ min c.args.count size = sized ∙ kept in
    let whole : c.in-Ok.taken ≡ length room = grind arith in
    let left : c.in-Ok-skip.passed ≡ c.args.count - min c.args.count size = grind arith in
    let front = subst (λ xs. Consumes (remaining c.args.reader.now) (remaining c.fill.new.reader) xs) (all_of room c.in-Ok.taken whole) c.in-Ok.ensures.taken in
    let rest = subst (λ n. Passes (remaining c.fill.new.reader) (remaining c.skip.new.reader) n) left c.in-Ok-skip.ensures.taken in
    let behind = drop c.min-kept.result c.args.room.now in
    let same : take (min c.args.count size) (room ++ behind) ≡ room = ap (λ n. take n (room ++ behind)) (sym long) ∙ take-append_seam room behind in
    taken (remaining c.args.reader.now) (remaining c.fill.new.reader) (remaining c.skip.new.reader) room (room ++ behind) c.args.count size long front rest same
