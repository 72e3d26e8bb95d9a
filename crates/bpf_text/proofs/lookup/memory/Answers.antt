use Rattle.std.proofs.Common.{sym, ◌∙◌}
use Rattle.bpf_text.proofs.LookupLemmas.{memory_found}
use Rattle.bpf_text.proofs.lookup.memory.Goals as goal

pub returns : goal.returns
returns c = c.by_word.ensures ∙ sym (memory_found c.args.text.now)
