use Rattle.bpf_certify.proofs.CertifiedLemmas.{evidence_fails}
use Rattle.bpf_certify.proofs.certified.judged.Goals as goal

pub returns-in-Some-2-clause-err : goal.returns-in-Some-2-clause-err
returns-in-Some-2-clause-err c =
    let old = c.args.old.now in
    let new = c.args.new.now in
    let found = c.in-Ok.found in
    let evidence = c.in-Ok.ensures in
    let count = c.slots.ensures in
    let told = c.within-mismatch in
    evidence_fails old new.program new.certificate found.notes.items c.args.runs found.untouched c.slots.result found.mismatch c.in-Some-2.mismatch told.result
    count.count count.valid.some_slot c.in-Some-2.is evidence.all evidence.exact told.ensures.told told.ensures.inside
