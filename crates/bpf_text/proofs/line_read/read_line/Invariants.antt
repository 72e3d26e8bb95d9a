use Rattle.std.proofs.Common.{◌≡◌, ◌++◌, map, length}
use Rattle.bpf_text.specs.code.LineReading.{behind_it, code_of, last_part, parts_of, labels_at, IsLonger}
use Rattle.bpf_text.specs.code.Seen.{label_seen}
use Rattle.bpf_text.proofs.line_read.read_line.Given as goal

abbrev pub invariant-labels : goal.invariant-labels
invariant-labels l = record {
  said : last_part (parts_of (code_of l.from)) ≡ last_part (parts_of (code_of l.text));
  rest : behind_it 10 l.from ≡ behind_it 10 l.text;
  labels : map label_seen l.labels.items ++ labels_at l.line l.slot (code_of l.from) ≡ map label_seen l.fn.labels.items ++ labels_at l.line l.slot (code_of l.text);
  kept : IsLonger l.fn.labels.items l.labels.items;
}

abbrev pub decreases-labels : goal.decreases-labels
decreases-labels l = length l.from
