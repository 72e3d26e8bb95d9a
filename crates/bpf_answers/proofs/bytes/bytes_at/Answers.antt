use Rattle.std.proofs.Common.{◌≤◌, ◌<◌, length, inr, arith}
use Rattle.std.specs.Io.KnownBytes.{Consumes, IsAtEnd}
use Rattle.bpf_answers.proofs.TextLemmas.{may_fail}
use Rattle.bpf_answers.proofs.ReadingLemmas.{at_end, some_is, too_many}
use Rattle.bpf_answers.proofs.bytes.bytes_at.Goals as goal

pub returns-in_default-clause-err : goal.returns-in_default-clause-err
returns-in_default-clause-err g c =
    let known = g.P.Reader.Read.remaining c.in-Ok.reader in
    inr (known, c.in-Ok.ensures, may_fail known)

pub returns-then-len-most-clause-err : goal.returns-then-len-most-clause-err
returns-then-len-most-clause-err g c =
    let known = g.P.Reader.Read.remaining c.in-Ok.reader in
    let rest = g.P.Reader.Read.remaining c.read_up_to.new.reader in
    let took = some_is c.in_ok-bytes.field-0 c.in-Some.bytes (λ v. Consumes known rest v.items) c.in-Some.is c.in_ok-bytes.ensures.taken in
    let long : c.args.most < length c.in-Some.bytes.items = omega arith in
    (known, c.in-Ok.ensures, too_many known rest c.in-Some.bytes.items c.args.most took long)

pub returns-clause-ok : goal.returns-clause-ok
returns-clause-ok g c =
    let known = g.P.Reader.Read.remaining c.in-Ok.reader in
    let rest = g.P.Reader.Read.remaining c.read_up_to.new.reader in
    let took = some_is c.in_ok-bytes.field-0 c.in-Some.bytes (λ v. Consumes known rest v.items) c.in-Some.is c.in_ok-bytes.ensures.taken in
    let all = some_is c.in_ok-bytes.field-0 c.in-Some.bytes (λ v. length v.items ≤ c.args.most → IsAtEnd rest) c.in-Some.is c.in_ok-bytes.ensures.all in
    let short : length c.in-Some.bytes.items ≤ c.args.most = omega arith in
    ((known, c.in-Ok.ensures, at_end known rest c.in-Some.bytes.items took (all short)), short)
