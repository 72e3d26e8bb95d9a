use Rattle.bpf_command.proofs.request.commands.with_proposals.Goals as goal

pub returns : goal.returns
returns c = c.over.ensures _ c.first_commands.ensures
