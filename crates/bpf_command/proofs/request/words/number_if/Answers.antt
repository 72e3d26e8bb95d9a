use Rattle.clap.specs.Words.{found_of}
use Rattle.bpf_command.proofs.RowLemmas.{one_is, number_is}
use Rattle.bpf_command.proofs.request.words.number_if.Goals as goal

pub returns : goal.returns
returns c = rw (one_is (found_of c.args.matches.now) c.args.id.now) (number_is _ c.get_one.result c.get_one.ensures.none c.get_one.ensures.value)
