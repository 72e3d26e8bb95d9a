use Rattle.std.proofs.Common.{◌<◌, length, ◌∙◌, arith}
use Rattle.bpf_text.specs.Parts.{operations}
use Rattle.bpf_text.specs.Spelling.{operation_text}
use Rattle.bpf_text.proofs.LookupLemmas.{by_first_found}
use Rattle.bpf_text.proofs.lookup.operation.Goals as goal

pub returns-in-len1-up : goal.returns-in-len1-up
returns-in-len1-up c =
    let some : 0 < length c.skip_blanks.result.now = let least = c.in-len1-up.len_at_least in omega (arith, least) in
    c.first_spelled-in-len1-up.ensures ∙ by_first_found operation_text c.operations_by.result.now operations c.skip_blanks.result.now c.args.text.now c.skip_blanks.ensures some c.operations_by.ensures
