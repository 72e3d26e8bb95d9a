use Rattle.std.proofs.Common.{◌<◌, length, ◌∙◌, arith}
use Rattle.bpf_text.specs.Parts.{conditions}
use Rattle.bpf_text.specs.Spelling.{cond_text}
use Rattle.bpf_text.proofs.LookupLemmas.{by_first_found}
use Rattle.bpf_text.proofs.lookup.condition.Goals as goal

pub returns-in-len1-up : goal.returns-in-len1-up
returns-in-len1-up c =
    let some : 0 < length c.skip_blanks.result.now = let least = c.in-len1-up.len_at_least in omega (arith, least) in
    c.first_spelled-in-len1-up.ensures ∙ by_first_found cond_text c.conditions_by.result.now conditions c.skip_blanks.result.now c.args.text.now c.skip_blanks.ensures some c.conditions_by.ensures
