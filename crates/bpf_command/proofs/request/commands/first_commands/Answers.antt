use Rattle.bpf_command.proofs.request.commands.first_commands.Goals as goal

pub returns : goal.returns
returns c = c.over.ensures _ c.top.ensures
