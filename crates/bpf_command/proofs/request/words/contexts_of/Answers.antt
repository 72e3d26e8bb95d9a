use Rattle.std.proofs.Common.{◌∙◌, sym, codes}
use Rattle.clap.specs.Words.{found_of}
use Rattle.bpf_command.proofs.RowLemmas.{first_is, given_along}
use Rattle.bpf_command.proofs.request.words.contexts_of.Goals as goal

pub returns : goal.returns
returns c =
    let found = found_of c.args.matches.now in
    let word = c.get_str.ensures ∙ sym (first_is found (codes "HEX")) in
    let bytes = c.get_str-2.ensures ∙ sym (first_is found (codes "context")) in
    let lines = c.get_str-3.ensures ∙ sym (first_is found (codes "contexts")) in
    given_along _ _ _ _ _ _ c.chosen.result word bytes lines c.chosen.ensures
