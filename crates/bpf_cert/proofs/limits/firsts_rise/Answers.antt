use Rattle.std.proofs.Common.{◌∙◌, sym}
use Rattle.bpf_cert.specs.View.{function_view}
use Rattle.bpf_cert.specs.Limits.{first_before}
use Rattle.bpf_cert.proofs.LimitLemmas.{rising_short_map}
use Rattle.bpf_cert.proofs.limits.firsts_rise.Goals as goal

pub returns : goal.returns
returns c = sym (c.functions.invariant ∙ rising_short_map first_before function_view c.functions.rest.now c.functions-test.false)
