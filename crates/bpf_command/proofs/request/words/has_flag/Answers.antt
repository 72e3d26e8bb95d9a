use Rattle.clap.specs.Words.{found_of}
use Rattle.bpf_command.proofs.RowLemmas.{one_is, flag_is}
use Rattle.bpf_command.proofs.request.words.has_flag.Goals as goal

pub returns : goal.returns
returns c = rw (one_is (found_of c.args.matches.now) c.args.id.now) (flag_is _ c.get_flag.result c.get_flag.ensures.none c.get_flag.ensures.value c.get_flag.ensures.other)
