use Rattle.std.proofs.Common.{refl}
use Rattle.bpf_answers.proofs.ToldLemmas.{both_pieces, no_end}
use Rattle.bpf_answers.proofs.failure.tell.Goals as goal

pub returns-clause-ok : goal.returns-clause-ok
returns-clause-ok g c = both_pieces c.write_end.result _ _ _ _ _ _ refl c.in_ok-write_words.ensures.ok c.write_end.ensures.ok

pub returns-clause-err : goal.returns-clause-err
returns-clause-err g c = no_end c.write_end.result _ _ _ _ c.in_ok-write_words.ensures.ok c.write_end.ensures.err
