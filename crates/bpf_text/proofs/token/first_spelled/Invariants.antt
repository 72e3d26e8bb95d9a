use Rattle.std.proofs.Common.{◌≡◌, drop}
use Rattle.bpf_text.specs.code.WordReading.{first_spelled}
use Rattle.bpf_text.proofs.token.first_spelled.Given as goal

abbrev pub invariant-loop-thing : goal.invariant-loop-thing
invariant-loop-thing g l = first_spelled g.T.Spelled.spelling (drop l.thing-index l.things) l.text ≡ first_spelled g.T.Spelled.spelling l.things l.text
