-- What a command's fields tell.
use Rattle.std.proofs.Common.{Bool}
use Rattle.clap.specs.declared.builder.command.Command.{Command}
use Rattle.clap.specs.declared.builder.command.Command.TheOpen.{Command-F}

-- whether it has an argument that its subcommands share
abbrev pub globals_of : Command-F Command → Bool
globals_of f = f.has_globals
