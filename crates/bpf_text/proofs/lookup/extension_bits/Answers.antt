use Rattle.std.proofs.Common.{sym, ◌∙◌}
use Rattle.bpf_text.proofs.LookupLemmas.{extension_found}
use Rattle.bpf_text.proofs.lookup.extension_bits.Goals as goal

pub returns : goal.returns
returns c = c.by_word.ensures ∙ sym (extension_found c.args.text.now)
