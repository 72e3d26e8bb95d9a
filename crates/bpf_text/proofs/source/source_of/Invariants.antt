use Rattle.std.proofs.Common.{◌≡◌, ◌+◌, ◌≤◌, map, length, option_map}
use Rattle.bpf_text.specs.Sources.{in_front}
use Rattle.bpf_text.specs.code.LineReading.{source_of}
use Rattle.bpf_text.specs.code.Seen.{label_seen, size_left}
use Rattle.bpf_text.specs.code.SourceSeen.{said_seen}
use Rattle.bpf_text.proofs.SourceLemmas.{source_left}
use Rattle.bpf_text.proofs.source.source_of.Given as goal

abbrev pub invariant-lines : goal.invariant-lines
invariant-lines l = record {
  line : l.line + size_left (option_map (λ x. x.now) l.rest) ≤ length l.text + 2;
  slot : l.slot + size_left (option_map (λ x. x.now) l.rest) ≤ length l.text + 1;
  source : in_front (map label_seen l.labels.items) (map said_seen l.said.items) (source_left l.line l.slot (option_map (λ x. x.now) l.rest)) ≡ source_of l.text;
}

abbrev pub decreases-lines : goal.decreases-lines
decreases-lines l = size_left (option_map (λ x. x.now) l.rest)
