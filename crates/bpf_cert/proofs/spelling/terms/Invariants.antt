use Rattle.std.proofs.Common.{◌≡◌, ◌≤◌, ◌+◌, ◌*◌, ◌++◌, length, take}
use Rattle.bpf_cert.specs.code.SpellingParts.{terms_tail}
use Rattle.bpf_cert.proofs.spelling.terms.Given as goal

abbrev pub invariant-loop-item : goal.invariant-loop-item
invariant-loop-item l = record {
  text : l.line.items ≡ l.fn.line.items ++ terms_tail (take l.item-index l.terms);
  room : length l.line.items ≤ length l.fn.line.items + 40 * l.item-index;
}
