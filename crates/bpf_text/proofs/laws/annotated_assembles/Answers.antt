use Rattle.bpf_text.proofs.AnnotatedReadLemmas.{annotated_back}
use Rattle.bpf_text.proofs.laws.annotated_assembles.Goals as goal

pub returns : goal.returns
returns c = annotated_back
