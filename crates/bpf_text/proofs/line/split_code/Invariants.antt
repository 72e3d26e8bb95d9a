use Rattle.std.proofs.Common.{◌≡◌, ◌≤◌, ◌++◌, length, take, drop, ◌-◌}
use Rattle.bpf_text.specs.Sources.{before}
use Rattle.bpf_text.specs.code.LineReading.{behind_it}
use Rattle.bpf_text.proofs.line.split_code.Given as goal

abbrev pub invariant-code : goal.invariant-code
invariant-code l = record {
  inside : l.count ≤ length l.text;
  front : take l.count l.text ++ before 59 (before 10 (drop l.count l.text)) ≡ before 59 (before 10 l.text);
  rest : behind_it 10 (drop l.count l.text) ≡ behind_it 10 l.text;
}

abbrev pub decreases-code : goal.decreases-code
decreases-code l = length l.text - l.count
