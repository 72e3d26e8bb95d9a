use Rattle.std.proofs.Common.{ap, sym, ◌≡◌, ◌∙◌, [], rules}
use Rattle.std.specs.Prelude.{unwrap_or}
use Rattle.clap.specs.Words.{first_value, found_of}
use Rattle.bpf_command.proofs.RowLemmas.{first_is}
use Rattle.bpf_command.proofs.request.words.word.Goals as goal

pub returns : goal.returns
returns c =
    let plain : c.unwrap_or.result.now ≡ unwrap_or (first_value (found_of c.args.matches.now) c.args.id.now) [] = search rules in
    plain ∙ ap (λ o. unwrap_or o []) (sym (first_is (found_of c.args.matches.now) c.args.id.now))
