use Rattle.std.proofs.Common.{sym, ◌∙◌}
use Rattle.clap.specs.Words.{found_of}
use Rattle.bpf_command.proofs.RowLemmas.{first_is}
use Rattle.bpf_command.proofs.request.words.word_if.Goals as goal

pub returns : goal.returns
returns c = c.get_str.ensures ∙ sym (first_is (found_of c.args.matches.now) c.args.id.now)
