use Rattle.bpf_text.proofs.LengthLemmas.{lines_short}
use Rattle.bpf_text.proofs.AnnotatedReadLemmas.{lines_length}
use Rattle.bpf_text.proofs.laws.listings_are_short.Goals as goal

pub returns : goal.returns
returns c = λ is. (lines_short is, λ notes order. lines_length notes order 0 is)
