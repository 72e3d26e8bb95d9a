use Rattle.std.proofs.Common.{◌≡◌, true, take}
use Rattle.std.specs.List.{list_all}
use Rattle.bpf_cert.specs.Limits as limits
use Rattle.bpf_cert.proofs.limits.are_limited_terms.Given as goal

abbrev pub invariant-loop-term : goal.invariant-loop-term
invariant-loop-term l = list_all limits.is_limited_term (take l.term-index l.terms) ≡ true
