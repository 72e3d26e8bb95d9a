use Rattle.std.proofs.Common.{sym, ap, ap₂, ◌∙◌, ◌||◌}
use Rattle.std.proofs.lemmas.List.{take_all}
use Rattle.std.proofs.lemmas.List.Sums.{fold_more}
use Rattle.clap.specs.Words.{App, with_subcommand}
use Rattle.bpf_command.specs.Entries.{app_in, with_entries}
use Rattle.bpf_command.proofs.request.commands.over.Goals as goal

pub entries-preserved : goal.entries-preserved
entries-preserved c = λ a grows.
    let old = c.entries.invariant a grows in
    let new = c.in_ok-command-2.ensures in (
      new.shape c.in_ok-lower.ensures.1 ∙ ap₂ with_subcommand old.0 (ap (λ (x : App). x.top) c.in_ok-lower.ensures.0)
          ∙ sym (fold_more (λ b one. with_subcommand b (app_in one).top) a c.args.entries.now c.entries.entry-index _ c.entries-test.true),
      new.globals ∙ ap₂ ◌||◌ old.1 c.in_ok-lower.ensures.1,
    )

pub returns : goal.returns
returns c = λ a grows.
    let old = c.entries.invariant a grows in
    (old.0 ∙ ap (with_entries a) (take_all c.entries.entry-index c.args.entries.now c.entries-test.false), old.1)
