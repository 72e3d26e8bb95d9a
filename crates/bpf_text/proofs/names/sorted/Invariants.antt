use Rattle.std.proofs.Common.{◌≡◌, ℕ, List, [], map, take, drop}
use Rattle.bpf_text.specs.Assembly.{slot_of, redefined}
use Rattle.bpf_text.specs.code.Seen.{label_seen}
use Rattle.bpf_text.specs.code.Slots.{slots_sorted}
use Rattle.bpf_text.proofs.names.sorted.Given as goal

abbrev pub invariant-loop-label : goal.invariant-loop-label
invariant-loop-label l = record {
  slots : (name : List ℕ) → slots_sorted l.slots name ≡ slot_of (map label_seen (take l.label-index l.labels)) name;
  unique : redefined (map label_seen (take l.label-index l.labels)) (map label_seen (drop l.label-index l.labels)) ≡ redefined [] (map label_seen l.labels);
}
