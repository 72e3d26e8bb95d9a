use Rattle.std.proofs.Common.{ap, ◌∙◌}
use Rattle.std.specs.Prelude.{true}
use Rattle.clap.specs.Words.{App}
use Rattle.clap.specs.Simple.{app_of_fields}
use Rattle.bpf_command.proofs.CommandLemmas.{globals_of}
use Rattle.bpf_command.proofs.request.commands.top.Goals as goal

pub returns : goal.returns
returns c = (
  ap app_of_fields c.subcommand_required.ensures
      ∙ ap (λ f. app_of_fields (record f { subcommand_required = true })) c.about.ensures
      ∙ ap (λ f. app_of_fields (record f { subcommand_required = true })) c.version.ensures
      ∙ ap (λ (a : App). record a { top = record a.top { has_version = true; subcommand_required = true } }) c.new.ensures.app,
  ap globals_of c.subcommand_required.ensures ∙ ap globals_of c.about.ensures ∙ ap globals_of c.version.ensures ∙ c.new.ensures.local,
)
