use Rattle.bpf_explain.proofs.HardenedLemmas.{kept}
use Rattle.bpf_explain.proofs.hardened.left_for.Goals as goal

pub returns-in-None-clause-keeps : goal.returns-in-None-clause-keeps
returns-in-None-clause-keeps c =
    let found = c.in-Ok.found in
    let runs = c.runs_of in
    let new = c.args.hardened.now in
    kept c.args.program.now new.program new.certificate found.notes.items c.args.asked runs.result found.untouched found.mismatch
    runs.ensures c.in-None.is c.in-Ok.ensures.exact
