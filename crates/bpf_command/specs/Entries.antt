-- What the entries of the table of commands stand for.
use Rattle.std.specs.Prelude.{List}
use Rattle.std.specs.List.{fold}
use Rattle.clap.specs.Words.{App, Rule, new_app, new_rule, with_rule, with_subcommand}
use Rattle.bpf_command.specs.declared.request.argument.Argument.{Argument}
use Rattle.bpf_command.specs.declared.request.argument.Argument.TheVariants.{Place, Extra, Length, Flag, Named, Word, Number, Steps, Trace, Otherwise}
use Rattle.bpf_command.specs.declared.request.table.Entry.{Entry}
use Rattle.bpf_command.specs.Commands.{context_length, flag, number, option, otherwise, place, steps, trace}

-- the rule of an argument
abbrev pub rule : Argument → Rule
rule (Place id help) = place id.now
rule (Extra id help) = new_rule id.now
rule (Length help) = context_length
rule (Flag id help) = flag id.now
rule (Named id help) = option id.now
rule (Word id name help) = option id.now
rule (Number id name least most help) = number id.now least most
rule (Steps help) = steps
rule (Trace help) = trace
rule (Otherwise help) = otherwise

-- the command of an entry
abbrev pub app_in : Entry → App
app_in e = fold (λ a argument. with_rule a (rule argument)) (new_app e.name.now) e.arguments.now

-- a command with those of these entries below it
abbrev pub with_entries : App → List Entry → App
with_entries a entries = fold (λ b e. with_subcommand b (app_in e).top) a entries
