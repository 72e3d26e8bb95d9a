use Rattle.std.proofs.Common.{sym, ap, ap₂, ◌∙◌, ◌||◌}
use Rattle.std.specs.List.{fold}
use Rattle.std.proofs.lemmas.List.{take_all}
use Rattle.std.proofs.lemmas.List.Sums.{fold_more}
use Rattle.clap.specs.Words.{new_app, with_rule}
use Rattle.clap.specs.Simple.{app_of_fields}
use Rattle.bpf_command.specs.Entries.{rule}
use Rattle.bpf_command.proofs.CommandLemmas.{globals_of}
use Rattle.bpf_command.proofs.request.commands.command_in.Goals as goal

pub arguments-init : goal.arguments-init
arguments-init c = (ap app_of_fields c.about-command.ensures ∙ c.new.ensures.app, ap globals_of c.about-command.ensures ∙ c.new.ensures.local)

pub arguments-preserved : goal.arguments-preserved
arguments-preserved c =
    let old = c.arguments.invariant in
    let new = c.in_ok-command.ensures in (
      new.shape c.arg_of.ensures.local ∙ ap₂ with_rule old.0 c.arg_of.ensures.rule
          ∙ sym (fold_more (λ a argument. with_rule a (rule argument)) (new_app c.args.entry.now.name.now) c.args.entry.now.arguments.now c.arguments.argument-index _ c.arguments-test.true),
      new.globals ∙ ap₂ ◌||◌ old.1 c.arg_of.ensures.local,
    )

pub returns : goal.returns
returns c =
    let old = c.arguments.invariant in
    (old.0 ∙ ap (fold (λ a argument. with_rule a (rule argument)) (new_app c.args.entry.now.name.now)) (take_all c.arguments.argument-index c.args.entry.now.arguments.now c.arguments-test.false), old.1)
