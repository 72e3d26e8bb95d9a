use Rattle.std.proofs.Common.{sym, ◌∙◌}
use Rattle.bpf_text.proofs.LookupLemmas.{register_found_by_word}
use Rattle.bpf_text.proofs.lookup.any_register.Goals as goal

pub returns : goal.returns
returns c = c.register_by_word.ensures ∙ sym (register_found_by_word c.args.text.now)
