use Rattle.std.proofs.Common.{arith}
use Rattle.bpf_machine.proofs.RunLemmas.{StepLaws}
use Rattle.bpf_host_calls.proofs.EndLemmas.{ends, as_verified}
use Rattle.bpf_host_calls.proofs.checked.end_of_image.Goals as goal

pub run_image-requires-clause-short : goal.run_image-requires-clause-short
run_image-requires-clause-short c =
    let high = c.requires.verified.length_within.1 in
    let few = c.requires.verified.verified.short in
    omega (arith, high, few)

pub run_image-requires-clause-ready : goal.run_image-requires-clause-ready
run_image-requires-clause-ready c =
    let verified = c.requires.verified.verified in
    record {
      list = verified.program;
      image_is = verified.is_image;
      opcodes_are = c.requires.opcodes verified.program verified.is_image;
      ends = ends (λ i. omega (arith, c.type_inv.context i)) c.requires.verified;
    }

pub returns : goal.returns
returns c =
    let laws : StepLaws = record { last = c.finish_is_last.ensures; stuck = c.stuck_has_reason.ensures; one = c.runs_are_one.ensures } in
    as_verified laws (λ i. omega (arith, c.type_inv.context i)) c.run_image.result c.run_image.ensures
