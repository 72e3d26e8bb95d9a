use Rattle.bpf_streams.proofs.TakenLemmas.{end_kept}
use Rattle.bpf_streams.proofs.line_reader.LineReader.read_line.Goals as goal

pub returns-in-Ok-None-clause-taken : goal.returns-in-Ok-None-clause-taken
returns-in-Ok-None-clause-taken g c =
    let byte = rw c.in-Ok-None.field-0-is at c.in-Ok-None.ensures in
    (end_kept c.args.self.now c.loop.self c.next_byte.new.self c.loop.line.items c.loop.invariant.taken byte.0, byte.1)
