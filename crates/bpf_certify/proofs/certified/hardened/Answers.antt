use Rattle.bpf_certify.proofs.certified.hardened.Goals as goal

pub returns-in-Err-clause-err : goal.returns-in-Err-clause-err
returns-in-Err-clause-err c = c.refusal_of.ensures c.args.length
