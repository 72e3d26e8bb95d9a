use Rattle.std.proofs.Common.{◌≡◌, length}
use Rattle.bpf_cert.specs.Limits.{is_rising}
use Rattle.bpf_cert.specs.Limits as limits
use Rattle.bpf_cert.proofs.limits.places_rise.Given as goal

abbrev pub invariant-terms : goal.invariant-terms
invariant-terms l = is_rising limits.term_before l.terms ≡ is_rising limits.term_before l.rest

abbrev pub decreases-terms : goal.decreases-terms
decreases-terms l = length l.rest
