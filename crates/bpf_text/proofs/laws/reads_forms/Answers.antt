use Rattle.std.proofs.Common.{Some, ap, ◌∙◌, sym}
use Rattle.bpf_text.proofs.TokenReading.{whole_t, whole_same}
use Rattle.bpf_text.proofs.FormsRead.{whole_gives}
use Rattle.bpf_text.proofs.FormsAreRead.{whole_form}
use Rattle.bpf_text.specs.Grammar.{tokens}
use Rattle.bpf_text.proofs.laws.reads_forms.Goals as goal

pub returns : goal.returns
returns c = λ text s. (
  λ read. (whole_gives (tokens text)).holds s (sym (whole_same text) ∙ read),
  λ found. whole_same text ∙ ap whole_t found.1 ∙ whole_form found.0 ∙ ap Some found.2,
)
