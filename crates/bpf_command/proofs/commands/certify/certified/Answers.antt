use Rattle.std.proofs.Common.{Err, ℕ}
use Rattle.std.specs.String.{string_bytes}
use Rattle.bpf_answers.specs.Both.{putting}
use Rattle.bpf_command.proofs.CertifiedLemmas.{with_fails, with_left}
use Rattle.bpf_command.proofs.commands.certify.certified.Goals as goal

pub returns-in-Ok-clause-ok : goal.returns-in-Ok-clause-ok
returns-in-Ok-clause-ok g c = (c.lines_at.new.places, c.in_ok-lines.ensures.ok, c.in-Ok.ensures.ok)

pub returns-in-Err-clause-err : goal.returns-in-Err-clause-err
returns-in-Err-clause-err g c =
    let w = putting g.P.Places.creates g.P.Places.ends g.P.Writer.Write.contents in
    with_fails {A = ℕ} (Err c.in-Err.failure) g.P.Places.opens w c.args.places.now c.args.asked c.lines_at.new.places c.assess.new.places (string_bytes c.in_ok-lines.lines) c.in_ok-lines.ensures.ok c.in-Err.ensures.err

pub returns-in-Err-clause-names : goal.returns-in-Err-clause-names
returns-in-Err-clause-names g c =
    let w = putting g.P.Places.creates g.P.Places.ends g.P.Writer.Write.contents in
    with_left {A = ℕ} (Err c.in-Err.failure) g.P.Places.opens w c.args.places.now c.args.asked c.lines_at.new.places c.assess.new.places (string_bytes c.in_ok-lines.lines) c.in_ok-lines.ensures.ok c.in-Err.ensures.names
