use Rattle.std.proofs.Common.{◌≡◌, subst, rules}
use Rattle.bpf_insn.specs.Reading.{ReadsImage}
use Rattle.bpf_insn.proofs.ReadLemmas.{refused_of_reader, image_is_accepted}
use Rattle.bpf_insn.proofs.image.decode_from.Goals as goal

pub returns-in-Ok-clause-err : goal.returns-in-Ok-clause-err
returns-in-Ok-clause-err g c =
    let same : c.in-Ok.bytes.items ≡ c.deref.result.now = search rules in
    let read = subst (ReadsImage (g.R.Read.remaining c.args.reader)) same c.in-Ok.ensures.ok in
    refused_of_reader c.args.order (g.R.Read.remaining c.args.reader) c.deref.result.now c.decode.result read c.decode.ensures.err

pub returns-in-Ok-clause-accepts : goal.returns-in-Ok-clause-accepts
returns-in-Ok-clause-accepts g c is program known =
    let same : c.in-Ok.bytes.items ≡ c.deref.result.now = search rules in
    let read = subst (ReadsImage (g.R.Read.remaining c.args.reader)) same c.in-Ok.ensures.ok in
    image_is_accepted (λ p. p.list ≡ is) c.args.order is (g.R.Read.remaining c.args.reader) c.deref.result.now c.decode.result program known read (c.decode.ensures.accepts is program)
