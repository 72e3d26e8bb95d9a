use Rattle.std.proofs.Common.{◌≡◌, ◌≤◌, length}
use Rattle.std.specs.Io.KnownBytes.{Consumes}
use Rattle.bpf_streams.specs.Taken.{IsOneLine}
use Rattle.bpf_streams.proofs.line_reader.LineReader.read_line.Given as goal

abbrev pub invariant-loop : goal.invariant-loop
invariant-loop g l = record {
  taken : Consumes l.fn.self l.self l.line.items;
  one_line : IsOneLine l.line.items;
  count : length l.line.items ≡ l.counter;
  room : length l.line.items ≤ g.row.MOST;
}
