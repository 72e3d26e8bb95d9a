use Rattle.bpf_answers.specs.Made.{making}
use Rattle.bpf_command.proofs.HardenedLemmas.{none_asked}
use Rattle.bpf_command.proofs.commands.harden.put_found.Goals as goal
