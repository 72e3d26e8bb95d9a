use Rattle.bpf_text.proofs.TextsRead.{text_read}
use Rattle.bpf_text.proofs.laws.reads_text.Goals as goal

pub returns : goal.returns
returns c = text_read
