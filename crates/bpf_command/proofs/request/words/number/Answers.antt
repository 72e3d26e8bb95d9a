use Rattle.clap.specs.Words.{found_of}
use Rattle.bpf_command.proofs.RowLemmas.{one_is, count_is}
use Rattle.bpf_command.proofs.request.words.number.Goals as goal

pub returns : goal.returns
returns c =
    rw (one_is (found_of c.args.matches.now) c.args.id.now)
    (count_is 32 c.args.default _ c.get_one.result c.unwrap_or.result c.get_one.ensures.none c.get_one.ensures.value c.unwrap_or.ensures)
