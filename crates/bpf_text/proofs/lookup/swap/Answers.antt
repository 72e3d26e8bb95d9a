use Rattle.std.proofs.Common.{sym, ◌∙◌}
use Rattle.bpf_text.proofs.LookupLemmas.{swap_found}
use Rattle.bpf_text.proofs.lookup.swap.Goals as goal

pub returns : goal.returns
returns c = c.by_word.ensures ∙ sym (swap_found c.args.text.now)
