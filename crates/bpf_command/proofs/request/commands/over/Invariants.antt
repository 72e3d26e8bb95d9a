use Rattle.std.proofs.Common.{Ok, take}
use Rattle.clap.specs.Words.{App}
use Rattle.bpf_command.specs.Commands.{Grows}
use Rattle.bpf_command.specs.Entries.{with_entries}
use Rattle.bpf_command.proofs.request.commands.over.Given as goal

abbrev pub invariant-entries : goal.invariant-entries
invariant-entries l = (a : App) → Grows l.fn.command a → Grows (Ok l.command) (with_entries a (take l.entry-index l.fn.entries))
