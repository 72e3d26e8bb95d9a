use Rattle.std.proofs.lemmas.Slice.Eq.{strip_prefix_is}
use Rattle.std.proofs.lemmas.Bool.Decides.{Decides-eqb}
use Rattle.bpf_streams.proofs.WordLemmas.{behind_stripped}
use Rattle.bpf_streams.proofs.words.behind.Goals as goal

pub returns : goal.returns
returns c = behind_stripped c.args.word.now c.args.text.now c.strip_prefix.result (strip_prefix_is Decides-eqb c.args.text.now c.args.word.now c.strip_prefix.result c.strip_prefix.ensures.cases)
