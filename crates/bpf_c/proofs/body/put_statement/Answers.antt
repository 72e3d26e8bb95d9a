use Rattle.bpf_c.proofs.body.put_statement.Goals as goal

pub returns-in-Exit : goal.returns-in-Exit
returns-in-Exit g c = rw c.in-Exit.is c.put.ensures
