use Rattle.std.proofs.Common.{◌≡◌, [], map, take, drop}
use Rattle.bpf_text.specs.Assembly.{redefined}
use Rattle.bpf_text.specs.code.Seen.{label_seen}
use Rattle.bpf_text.specs.code.Chains.{entry_label}
use Rattle.bpf_text.proofs.names.chained.Given as goal

abbrev pub invariant-loop-label : goal.invariant-loop-label
invariant-loop-label l = record {
  labels : map entry_label l.chains.entries.items ≡ map label_seen (take l.label-index l.labels);
  unique : redefined (map label_seen (take l.label-index l.labels)) (map label_seen (drop l.label-index l.labels)) ≡ redefined [] (map label_seen l.labels);
}
