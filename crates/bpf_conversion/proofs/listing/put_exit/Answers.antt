use Rattle.bpf_conversion.proofs.ListedLemmas.{exit_put}
use Rattle.bpf_conversion.proofs.listing.put_exit.Goals as goal

pub returns : goal.returns
returns c =
    exit_put c.put_headed.result c.put_headed.new.out.items c.args.out.now.items c.args.converted.now c.program-program.result.now c.templates_end-end.result c.slots.result
    c.program-program.ensures c.templates_end-end.ensures c.slots.ensures c.put_headed.ensures
