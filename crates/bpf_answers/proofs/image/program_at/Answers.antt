use Rattle.std.proofs.Common.{rules, ◌≡◌}
use Rattle.bpf_answers.proofs.LoadedLemmas.{decoded, read_of}
use Rattle.bpf_answers.proofs.image.program_at.Goals as goal

pub returns-in-Ok-clause-ok : goal.returns-in-Ok-clause-ok
returns-in-Ok-clause-ok g c =
    let at = g.P.Places.opens in
    let same : c.in-Ok.bytes.items ≡ c.deref.result.now = search rules in
    let read = read_of at (λ v. v.items) c.args.places.now c.args.name.now c.image_at.new.places c.in_ok-bytes.field-0 c.in-Ok.bytes c.deref.result.now c.in-Ok.is same c.in_ok-bytes.ensures.ok in
    decoded at c.args.order c.args.places.now c.args.name.now c.deref.result.now c.image_at.new.places c.decode.result read c.decode.ensures.ok c.decode.ensures.program c.decode.ensures.err
