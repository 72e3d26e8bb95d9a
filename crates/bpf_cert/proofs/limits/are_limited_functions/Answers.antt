use Rattle.std.proofs.Common.{sym}
use Rattle.bpf_cert.specs.View.{function_view}
use Rattle.bpf_cert.specs.Limits.{is_limited_function}
use Rattle.bpf_cert.proofs.LimitLemmas.{all_taken}
use Rattle.bpf_cert.proofs.limits.are_limited_functions.Goals as goal

pub returns : goal.returns
returns c = sym (all_taken is_limited_function function_view c.args.functions.now c.loop-function.function-index c.loop-function-test.false c.loop-function.invariant)
