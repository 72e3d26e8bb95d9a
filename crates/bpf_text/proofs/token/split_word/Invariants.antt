use Rattle.std.proofs.Common.{◌≡◌, ◌≤◌, ◌++◌, length, take, drop, ◌-◌}
use Rattle.bpf_text.specs.code.WordReading.{word_front, word_rest}
use Rattle.bpf_text.proofs.token.split_word.Given as goal

abbrev pub invariant-parts : goal.invariant-parts
invariant-parts l = record {
  inside : l.count ≤ length l.text;
  front : take l.count l.text ++ word_front (drop l.count l.text) ≡ word_front l.text;
  rest : word_rest (drop l.count l.text) ≡ word_rest l.text;
}

abbrev pub decreases-parts : goal.decreases-parts
decreases-parts l = length l.text - l.count
