use Rattle.std.proofs.Common.{rules}
use Rattle.bpf_streams.proofs.line_reader.LineReader.new.Goals as goal

pub returns : goal.returns
returns g c = search rules
