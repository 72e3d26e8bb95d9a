use Rattle.std.proofs.lemmas.Result.{err_from_is_err_and}
use Rattle.bpf_cert.specs.Spelling.{certificate_text}
use Rattle.bpf_cert.proofs.WritingLemmas.{begins_behind, gathers_behind, left_written}
use Rattle.bpf_cert.proofs.writing.write.Goals as goal

pub returns-in_err-put_certificate : goal.returns-in_err-put_certificate
returns-in_err-put_certificate g c =
    let p = err_from_is_err_and c.from_residual.result c.from_residual.ensures.1 in
    rw p.1 (begins_behind (certificate_text c.args.certificate.now) c.new-pending.ensures c.in_err-put_certificate.ensures)

pub returns : goal.returns
returns g c =
    let all = gathers_behind (certificate_text c.args.certificate.now) c.new-pending.ensures c.in_ok-put_certificate.ensures in
    left_written _ c.flush.result all c.flush.ensures.ok c.flush.ensures.err
