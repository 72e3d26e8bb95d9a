use Rattle.bpf_command.proofs.request.commands.command.Goals as goal

pub returns : goal.returns
returns c = c.over.ensures _ c.with_proposals.ensures
