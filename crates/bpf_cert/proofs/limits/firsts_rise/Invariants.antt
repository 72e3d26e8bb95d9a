use Rattle.std.proofs.Common.{◌≡◌, length, map}
use Rattle.bpf_cert.specs.View.{function_view}
use Rattle.bpf_cert.specs.Limits.{is_rising}
use Rattle.bpf_cert.specs.Limits as limits
use Rattle.bpf_cert.proofs.limits.firsts_rise.Given as goal

abbrev pub invariant-functions : goal.invariant-functions
invariant-functions l = is_rising limits.first_before (map function_view l.functions) ≡ is_rising limits.first_before (map function_view l.rest)

abbrev pub decreases-functions : goal.decreases-functions
decreases-functions l = length l.rest
