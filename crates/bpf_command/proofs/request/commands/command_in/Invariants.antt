use Rattle.std.proofs.Common.{Ok, take}
use Rattle.std.specs.List.{fold}
use Rattle.clap.specs.Words.{new_app, with_rule}
use Rattle.bpf_command.specs.Commands.{Grows}
use Rattle.bpf_command.specs.Entries.{rule}
use Rattle.bpf_command.proofs.request.commands.command_in.Given as goal

abbrev pub invariant-arguments : goal.invariant-arguments
invariant-arguments l = Grows (Ok l.command) (fold (λ a argument. with_rule a (rule argument)) (new_app l.fn.entry.name.now) (take l.argument-index l.fn.entry.arguments.now))
