use Rattle.std.proofs.Common.{◌≡◌, drop}
use Rattle.bpf_text.specs.Lookup.{first_named}
use Rattle.bpf_text.proofs.lookup.first_named.Given as goal

abbrev pub invariant-loop-thing : goal.invariant-loop-thing
invariant-loop-thing g l = first_named g.T.Spelled.spelling (drop l.thing-index l.things) l.word ≡ first_named g.T.Spelled.spelling l.things l.word
