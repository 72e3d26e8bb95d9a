use Rattle.std.proofs.Common.{◌≡◌, ◌≤◌, ◌++◌, length, take, drop, ◌-◌}
use Rattle.bpf_text.specs.Sources.{before}
use Rattle.bpf_text.specs.code.LineReading.{behind_it}
use Rattle.bpf_text.proofs.line.cut.Given as goal

abbrev pub invariant-front : goal.invariant-front
invariant-front l = record {
  inside : l.count ≤ length l.text;
  front : take l.count l.text ++ before l.mark (drop l.count l.text) ≡ before l.mark l.text;
  rest : behind_it l.mark (drop l.count l.text) ≡ behind_it l.mark l.text;
}

abbrev pub decreases-front : goal.decreases-front
decreases-front l = length l.text - l.count
